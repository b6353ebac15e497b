use Rattle.std.proofs.Common.{eq-eqb, eqb-true, get_or, sym}
use Rattle.std.specs.Prelude.{◌==◌}
use Rattle.fx_types.proofs.Choices.{by_cases}
use Rattle.fx_unify.proofs.BoundLaws.{item_again}
use Rattle.fx_generalize.proofs.NameLaws.{place_hit, place_miss}
use Rattle.fx_generalize.proofs.names.place_of.Goals as goal

pub returns-then-number-other : goal.returns-then-number-other
returns-then-number-other c =
    sym (place_hit (λ n. c.args.number == n) c.args.numbers.now c.loop-i.i (get_or c.args.numbers.now c.loop-i.i 0) c.loop-i-test.true (item_again c.args.numbers.now c.loop-i.i 0 c.loop-i-test.true)
    (eq-eqb c.args.number (get_or c.args.numbers.now c.loop-i.i 0) c.if-number-other.true) c.loop-i.invariant)

pub loop-i-preserved : goal.loop-i-preserved
loop-i-preserved c =
    place_miss (λ n. c.args.number == n) c.args.numbers.now c.loop-i.i (get_or c.args.numbers.now c.loop-i.i 0) c.loop-i-test.true (item_again c.args.numbers.now c.loop-i.i 0 c.loop-i-test.true)
    (by_cases (c.args.number == get_or c.args.numbers.now c.loop-i.i 0) (λ t. absurd (c.if-number-other.false (eqb-true c.args.number (get_or c.args.numbers.now c.loop-i.i 0) t))) (λ f. f)) c.loop-i.invariant

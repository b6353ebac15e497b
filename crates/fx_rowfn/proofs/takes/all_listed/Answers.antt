use Rattle.std.proofs.Common.{false, true, ◌++◌, map, refl, sym, ap, ◌∙◌}
use Rattle.fx_meaning.specs.Native.{all_listed}
use Rattle.fx_types.specs.Ground.{listed}
use Rattle.fx_values.specs.Shape.{slot, slots_of}
use Rattle.fx_rowfn.proofs.TakeLaws.{listed_on, listed_stops}
use Rattle.fx_rowfn.proofs.WalkLaws.{walk_ends, walk_on, walk_stops}
use Rattle.fx_rowfn.proofs.takes.all_listed.Goals as goal

pub loop-first-preserved : goal.loop-first-preserved
loop-first-preserved c =
    let labels = map (λ x. x.now) c.args.due.now ++ map (λ x. x.now) c.args.free.now in
    walk_on (λ ss. all_listed labels (slots_of (map slot ss))) c.args.args.now c.loop-first.first-index c.first-item.result c.loop-first-test.true c.first-item.is c.loop-first.invariant
    (listed_on labels c.first-item.result (ap (λ x. listed x labels) (sym c.as_str.ensures) ∙ sym c.is_known.ensures ∙ c.if-not-is_known.false))

pub returns-then-not-is_known : goal.returns-then-not-is_known
returns-then-not-is_known c =
    let labels = map (λ x. x.now) c.args.due.now ++ map (λ x. x.now) c.args.free.now in
    walk_stops (λ ss. all_listed labels (slots_of (map slot ss))) c.args.args.now c.loop-first.first-index c.first-item.result false c.loop-first-test.true c.first-item.is c.loop-first.invariant
    (listed_stops labels c.first-item.result (ap (λ x. listed x labels) (sym c.as_str.ensures) ∙ sym c.is_known.ensures ∙ c.if-not-is_known.true))

pub returns : goal.returns
returns c =
    walk_ends (λ ss. all_listed (map (λ x. x.now) c.args.due.now ++ map (λ x. x.now) c.args.free.now) (slots_of (map slot ss))) c.args.args.now c.loop-first.first-index true c.loop-first-test.false c.loop-first.invariant refl

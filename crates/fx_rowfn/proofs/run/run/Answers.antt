use Rattle.std.proofs.Common.{◌≡◌, [], subst, sym, rules}
use Rattle.std.specs.Prelude.{Ok, Err}
use Rattle.fx_value.proofs.Calls.{heard_same, same_patterns_on}
use Rattle.fx_value.specs.Ends.{Gives}
use Rattle.fx_values.specs.Known.{hears, numbers_of}
use Rattle.fx_values.specs.Shape.{val}
use Rattle.fx_rowfn.specs.Follows.{Follows, Moves}
use Rattle.fx_rowfn.specs.State.{left, stack_of}
use Rattle.fx_rowfn.proofs.RunLaws.{metered_on, runs_end, runs_on, runs_stop}
use Rattle.fx_rowfn.specs.declared.frame.Moved.TheVariants as moved
use Rattle.fx_rowfn.proofs.run.run.Goals as goal

pub returns-in_err-value-clause-follows : goal.returns-in_err-value-clause-follows
returns-in_err-value-clause-follows g c =
    let test = hears c.args.known.now (g.P.Patterns.test c.args.patterns.now) in
    let inv = c.loop.invariant in
    let same = heard_same (g.P.Patterns.built c.args.patterns.now) (g.P.Patterns.test c.args.patterns.now) (g.P.Patterns.test c.loop.patterns) inv.2.tests (numbers_of c.args.known.now) c.requires.given in
    let is : c.from_residual.result ≡ Err c.in_err-value.field-0.0 = search rules in
    let moves = subst (λ t. Moves t c.loop.control (stack_of c.loop.frames.items) (stack_of c.advance.new.frames.items) c.loop.meter c.advance.new.meter (Err c.in_err-value.field-0.0)) same c.in_err-value.ensures.moves in
    subst (Follows val (λ limit. left test limit [] c.args.start) c.args.meter.now c.advance.new.meter) (sym is)
    (runs_stop test c.args.start c.loop.control (stack_of c.loop.frames.items) c.args.meter.now c.loop.meter inv.0 (stack_of c.advance.new.frames.items) c.advance.new.meter c.in_err-value.field-0.0 inv.1.budget moves)

pub returns-in-Done-clause-follows : goal.returns-in-Done-clause-follows
returns-in-Done-clause-follows g c =
    let test = hears c.args.known.now (g.P.Patterns.test c.args.patterns.now) in
    let inv = c.loop.invariant in
    let same = heard_same (g.P.Patterns.built c.args.patterns.now) (g.P.Patterns.test c.args.patterns.now) (g.P.Patterns.test c.loop.patterns) inv.2.tests (numbers_of c.args.known.now) c.requires.given in
    let moves : Moves test c.loop.control (stack_of c.loop.frames.items) (stack_of c.advance.new.frames.items) c.loop.meter c.advance.new.meter (Ok (moved.Done c.in-Done.value))
    = subst (λ v. Moves test c.loop.control (stack_of c.loop.frames.items) (stack_of c.advance.new.frames.items) c.loop.meter c.advance.new.meter (Ok v)) c.in-Done.is
    (subst (λ t. Moves t c.loop.control (stack_of c.loop.frames.items) (stack_of c.advance.new.frames.items) c.loop.meter c.advance.new.meter (Ok c.in_ok-value.field-0)) same c.in_ok-value.ensures.moves) in
    runs_end test c.args.start c.loop.control (stack_of c.loop.frames.items) c.args.meter.now c.loop.meter inv.0 (Gives (val c.in-Done.value) 0) c.advance.new.meter moves

pub loop-preserved : goal.loop-preserved
loop-preserved g c =
    let test = hears c.args.known.now (g.P.Patterns.test c.args.patterns.now) in
    let inv = c.loop.invariant in
    let same = heard_same (g.P.Patterns.built c.args.patterns.now) (g.P.Patterns.test c.args.patterns.now) (g.P.Patterns.test c.loop.patterns) inv.2.tests (numbers_of c.args.known.now) c.requires.given in
    let moves : Moves test c.loop.control (stack_of c.loop.frames.items) (stack_of c.advance.new.frames.items) c.loop.meter c.advance.new.meter (Ok (moved.Goes c.in-Goes.next))
    = subst (λ v. Moves test c.loop.control (stack_of c.loop.frames.items) (stack_of c.advance.new.frames.items) c.loop.meter c.advance.new.meter (Ok v)) c.in-Goes.is
    (subst (λ t. Moves t c.loop.control (stack_of c.loop.frames.items) (stack_of c.advance.new.frames.items) c.loop.meter c.advance.new.meter (Ok c.in_ok-value.field-0)) same c.in_ok-value.ensures.moves) in
    let metered = c.in_ok-value.ensures.metered in (
      runs_on test c.args.start c.loop.control (stack_of c.loop.frames.items) c.args.meter.now c.loop.meter inv.0 c.in-Goes.next (stack_of c.advance.new.frames.items) c.advance.new.meter moves,
      metered_on c.args.meter.now c.loop.meter c.advance.new.meter inv.1 metered,
      same_patterns_on g.P.Patterns.built g.P.Patterns.refusals g.P.Patterns.test c.args.patterns.now c.loop.patterns c.advance.new.patterns inv.2 c.in_ok-value.ensures.patterns,
    )

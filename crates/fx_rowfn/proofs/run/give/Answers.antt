use Rattle.std.proofs.Common.{◌≡◌, suc, [], ◌∷◌, ◌++◌, sym, ap, arith, ◌∙◌}
use Rattle.std.specs.Prelude.{None, Some}
use Rattle.fx_values.specs.Known.{hears}
use Rattle.fx_values.specs.Shape.{val}
use Rattle.fx_rowfn.specs.Frame.{depth}
use Rattle.fx_rowfn.specs.State.{frame_of, left, resumed_left, stack_of}
use Rattle.fx_rowfn.specs.declared.frame.Control.TheVariants as control
use Rattle.fx_rowfn.proofs.FollowLaws.{one_more, waits}
use Rattle.fx_rowfn.proofs.run.give.Goals as goal

pub returns-in-Some-None-clause-moves : goal.returns-in-Some-None-clause-moves
returns-in-Some-None-clause-moves g c =
    let test = hears c.args.known.now (g.P.Patterns.test c.args.patterns.now) in
    let more = one_more c.pop.new.self.items c.args.frames.now.items None (c.in-Some-None.ensures.items ∙ ap (λ f. c.pop.new.self.items ++ f ∷ []) c.in-Some-None.field-0-is) in
    let deeper : depth (stack_of c.args.frames.now.items) ≡ suc (depth (stack_of c.pop.new.self.items)) = ap depth more in
    record {
      ticks = 0;
      spent = omega arith;
      deep = omega (arith, deeper);
      at = λ limit below. ap (λ s. left test limit s (control.Give c.args.value)) more;
    }

pub returns-in-Some-Some-clause-moves : goal.returns-in-Some-Some-clause-moves
returns-in-Some-Some-clause-moves g c =
    let test = hears c.args.known.now (g.P.Patterns.test c.args.patterns.now) in
    let more = one_more c.pop.new.self.items c.args.frames.now.items (Some c.in-Some-Some.frame)
    (c.in-Some-Some.ensures.items ∙ ap (λ f. c.pop.new.self.items ++ f ∷ []) c.in-Some-Some.field-0-is) in
    c.taken.ensures.moves test (control.Give c.args.value) (stack_of c.args.frames.now.items) (resumed_left test (frame_of c.in-Some-Some.frame) (val c.args.value))
    (sym (ap depth more ∙ waits c.in-Some-Some.frame (depth (stack_of c.pop.new.self.items))))
    (λ limit. ap (λ s. left test limit s (control.Give c.args.value)) more)
    c.resume-next.ensures.leads

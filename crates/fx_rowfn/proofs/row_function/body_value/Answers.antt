use Rattle.std.proofs.Common.{[], subst, ap, ◌∙◌}
use Rattle.fx_values.specs.Known.{hears}
use Rattle.fx_values.specs.Shape.{closed, val}
use Rattle.fx_rowfn.specs.Follows.{Follows}
use Rattle.fx_rowfn.specs.State.{control_left}
use Rattle.fx_rowfn.specs.declared.frame.Control.TheVariants as control
use Rattle.fx_rowfn.proofs.row_function.body_value.Goals as goal

pub returns-clause-follows : goal.returns-clause-follows
returns-clause-follows g c =
    let says = g.P.Patterns.test c.args.patterns.now in
    let known = c.placed_in-known.ensures ∙ ap (λ k. (closed k).setting.patterns) c.as_ref.ensures in
    subst (λ work. Follows val work c.args.meter.now c.run.new.meter c.run.result)
    (λ i limit.
    (ap (λ p. control_left (hears p says) (control.Bind c.in_ok-entry.entry) limit []) known
    ∙ c.in_ok-entry.ensures (hears (closed c.args.closure.now.value).setting.patterns says) limit) i)
    c.run.ensures.follows

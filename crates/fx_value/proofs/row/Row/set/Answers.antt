use Rattle.std.proofs.Common.{ap, subst, ◌∙◌}
use Rattle.fx_value.specs.Own.{source_of}
use Rattle.fx_value.specs.Row.{row_of, IsOnly}
use Rattle.fx_value.specs.declared.source.Source.TheVariants.{Fixed}
use Rattle.fx_value.proofs.Rows.{row_with, first_replaced, second_replaced}
use Rattle.fx_value.proofs.row.Row.set.Goals as goal
use Rattle.fx_value.proofs.row.Row.set.Goals.{in-Some-First, in-Some-Second, in-None+in_ok-labels-in-None}

pub returns-clause-ok : goal.returns-clause-ok
returns-clause-ok c =
    let labels = c.self.inside.labels in
    let first = c.self.inside.first in
    let second = c.self.inside.second in
    elim c.match-own_place.branch [
      | in-Some-First w ↦
          w.self-is ∙ ap (λ v. row_of labels v second) w.put.ensures
          ∙ first_replaced first second c.args.value labels _ c.args.label c.self.view_is (subst (IsOnly labels c.args.label) (ap source_of w.in-Some-First.field-0-is) w.in-Some-First.ensures)
      | in-Some-Second w ↦
          w.self-is ∙ ap (λ v. row_of labels first v) w.put-in-Some-Second.ensures
          ∙ second_replaced first second c.args.value labels _ c.args.label c.self.view_is (subst (IsOnly labels c.args.label) (ap source_of w.in-Some-Second.field-0-is) w.in-Some-Second.ensures)
      | in-None+in_ok-labels-in-None w ↦
          w.self-is
          ∙ row_with first second labels _ _ c.args.label (Fixed c.args.value) c.self.view_is (w.put-in-None.ensures ∙ w.in_ok-labels-in-None.ensures)
    ]

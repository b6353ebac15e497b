use Rattle.std.proofs.Common.{sym, ap, ◌∙◌}
use Rattle.fx_types.specs.Instance.{ground_tail}
use Rattle.fx_types.specs.Shape.{rest_term, field_term}
use Rattle.fx_types.proofs.ShapeLaws.{tail_default, tail_var}
use Rattle.fx_unify.specs.Part.{value}
use Rattle.fx_unify.proofs.RowLaws.{if_ok, value_of}
use Rattle.fx_unify.proofs.pick.pick_rest.Goals as goal

pub returns-in-Default : goal.returns-in-Default
returns-in-Default c =
    if_ok c.of.result
    (λ f e s. ap (value s) e ∙ value_of s (field_term c.in-Default.field)
    ∙ ap (λ r. ground_tail s r c.args.label.now) (sym (ap rest_term c.in-Default.is ∙ tail_default c.in-Default.field)))
    c.of.ensures

pub returns-in_ok-copy-in-Var : goal.returns-in_ok-copy-in-Var
returns-in_ok-copy-in-Var c =
    λ s. ap (s.row_of c.in-Var.row) c.in_ok-copy-in-Var.ensures ∙ ap (λ r. ground_tail s r c.args.label.now) (sym (ap rest_term c.in-Var.is ∙ tail_var c.in-Var.row))

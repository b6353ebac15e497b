use Rattle.std.proofs.Common.{sym, ap, ◌∙◌}
use Rattle.fx_types.specs.Instance.{ground_field, ground_tail}
use Rattle.fx_types.specs.Shape.{field_term, rest_term}
use Rattle.fx_types.proofs.ShapeLaws.{tail_default, tail_var}
use Rattle.fx_unify.proofs.RowLaws.{value_of}
use Rattle.fx_unify.proofs.store.Root.of.Goals as goal

pub returns-in_ok-copy-in-Default : goal.returns-in_ok-copy-in-Default
returns-in_ok-copy-in-Default c =
    λ s l. value_of s (field_term c.in_ok-copy-in-Default.field-0) ∙ ap (λ d. ground_field s (field_term d)) c.in_ok-copy-in-Default.ensures
    ∙ ap (λ r. ground_tail s r l) (sym (ap rest_term c.in-Default.is ∙ tail_default c.in-Default.field))

pub returns-in-Var : goal.returns-in-Var
returns-in-Var c = λ s l. ap (λ r. ground_tail s r l) (sym (ap rest_term c.in-Var.is ∙ tail_var c.in-Var.row))

use Rattle.std.proofs.Common.{◌≡◌, ◌+◌, sym, ap, ◌∙◌, arith}
use Rattle.fx_types.specs.Instance.{ground_field, ground_tail}
use Rattle.fx_types.specs.Shape.{field_term, rest_term}
use Rattle.fx_unify.specs.Least.{steps}
use Rattle.fx_unify.specs.Store.{entry}
use Rattle.fx_types.proofs.ShapeLaws.{tail_default, tail_var}
use Rattle.fx_unify.proofs.RowLaws.{if_ok, value_of}
use Rattle.fx_unify.proofs.store.Store.follow.Goals as goal

pub returns-in_ok-copy-in-Default-clause-same : goal.returns-in_ok-copy-in-Default-clause-same
returns-in_ok-copy-in-Default-clause-same c =
    λ s solved l off. value_of s (field_term c.in_ok-copy-in-Default.field-0) ∙ ap (λ d. ground_field s (field_term d)) c.in_ok-copy-in-Default.ensures
    ∙ ap (λ r. ground_tail s r l) (sym (ap rest_term c.in-Default.is ∙ tail_default c.in-Default.field))

pub returns-in-Var-clause-same : goal.returns-in-Var-clause-same
returns-in-Var-clause-same c =
    if_ok c.follow_row.result
    (λ r h s solved l off. h s solved l off ∙ ap (λ x. ground_tail s x l) (sym (ap rest_term c.in-Var.is ∙ tail_var c.in-Var.row)))
    c.follow_row.ensures.same

pub returns-in_ok-copy-in-Default-clause-leads : goal.returns-in_ok-copy-in-Default-clause-leads
returns-in_ok-copy-in-Default-clause-leads c = (
  0,
  λ plain n l off. (let same : n + 0 ≡ n = omega arith in
      ap (λ i. ground_tail (steps (entry c.args.self.now) plain i) (rest_term c.args.rest.now) l) same
      ∙ ap (λ r. ground_tail (steps (entry c.args.self.now) plain n) r l) (ap rest_term c.in-Default.is ∙ tail_default c.in-Default.field)
      ∙ ap (λ d. ground_field (steps (entry c.args.self.now) plain n) (field_term d)) (sym c.in_ok-copy-in-Default.ensures)
      ∙ sym (value_of (steps (entry c.args.self.now) plain n) (field_term c.in_ok-copy-in-Default.field-0))),
)

pub returns-in-Var-clause-leads : goal.returns-in-Var-clause-leads
returns-in-Var-clause-leads c =
    if_ok c.follow_row.result
    (λ r h. (h.0, λ plain n l off. ap (λ x. ground_tail (steps (entry c.args.self.now) plain (n + h.0)) x l) (ap rest_term c.in-Var.is ∙ tail_var c.in-Var.row) ∙ h.1 plain n l off))
    c.follow_row.ensures.leads

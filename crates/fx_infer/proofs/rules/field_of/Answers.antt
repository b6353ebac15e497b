use Rattle.std.proofs.Common.{◌∙◌, ap, ◌++◌, ◌∷◌, []}
use Rattle.fx_infer.proofs.RuleLaws.{field_made}
use Rattle.fx_infer.proofs.rules.field_of.Goals as goal

pub returns : goal.returns
returns c =
    field_made c.args.bindings c.in_ok-bindings.bindings c.in_ok-number.number c.args.label.now c.args.of.now c.in_ok-row.row _ c.in_ok-entry.field-0 c.in_ok-number.ensures c.requires.below c.requires.typed c.in_ok-entry.ensures
    (c.in_ok-push.ensures.ok ∙ ap (λ xs. xs ++ c.in_ok-entry.field-0 ∷ []) c.empty-fields.ensures) c.in_ok-row.ensures c.in_ok-bindings.ensures.next c.in_ok-bindings.ensures.ok

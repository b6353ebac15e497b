use Rattle.std.proofs.Common.{sym, ap, subst, ◌∙◌, Some}
use Rattle.fx_types.specs.Shape.{field_term}
use Rattle.fx_unify.specs.Light.{IsLightField, AreLight, IsLightRoot}
use Rattle.fx_unify.specs.Part.{part_of}
use Rattle.fx_unify.proofs.PlainRowLaws.{row_light, light_kept, light_known}
use Rattle.fx_unify.proofs.RowLaws.{if_ok}
use Rattle.fx_unify.proofs.store.Store.+light.Goals as goal

pub is_light_rest-returns-in-Some-Default-clause-light : goal.is_light_rest-returns-in-Some-Default-clause-light
is_light_rest-returns-in-Some-Default-clause-light t c =
    if_ok c.is_light_field.result
    (λ b h e. subst (IsLightRoot c.args.self.now c.args.sorts.now) (sym (c.in-Some-Default.ensures ∙ ap Some c.in-Some-Default.field-0-is))
    (subst (IsLightField c.args.self.now c.args.sorts.now) (c.view_of.ensures ∙ ap (λ f. part_of (field_term f)) c.in-Some-Default.field-is) (h e)))
    c.is_light_field.ensures

pub is_light_row-returns-then-is_light-clause-light : goal.is_light_row-returns-then-is_light-clause-light
is_light_row-returns-then-is_light-clause-light t c = λ e. light_known c.args.self.now c.args.sorts.now c.args.counts.now c.args.row c.requires (sym c.is_light.ensures ∙ c.if-is_light.true)

pub is_light_row-returns-then-branch-2-clause-light : goal.is_light_row-returns-then-branch-2-clause-light
is_light_row-returns-then-branch-2-clause-light t c =
    λ e. row_light c.args.self.now c.args.sorts.now c.args.row
    (subst (AreLight c.args.self.now c.args.sorts.now) c.slots_of.ensures (c.in_ok-are_light.ensures c.if-branch.true)) (c.in_ok-is_light_rest.ensures.light c.if-branch-2.true)

pub is_light_row-returns-then-branch-2-clause-counts : goal.is_light_row-returns-then-branch-2-clause-counts
is_light_row-returns-then-branch-2-clause-counts t c =
    light_kept c.args.self.now c.args.sorts.now c.is_light_rest.new.counts c.keep_light.new.self c.args.row c.in_ok-is_light_rest.ensures.counts
    (row_light c.args.self.now c.args.sorts.now c.args.row
    (subst (AreLight c.args.self.now c.args.sorts.now) c.slots_of.ensures (c.in_ok-are_light.ensures c.if-branch.true)) (c.in_ok-is_light_rest.ensures.light c.if-branch-2.true))
    c.keep_light.ensures.rows c.keep_light.ensures.types

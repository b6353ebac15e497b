use Rattle.std.proofs.Common.{refl, sym, ◌∙◌, [], ◌∷◌}
use Rattle.fx_parse.specs.Items.{a_name, a_plain, one_of, sort}
use Rattle.fx_parse.proofs.sorts.Sorts.{label_plain}
use Rattle.fx_parse.proofs.sorts.Toks.{within}
use Rattle.fx_parse.proofs.predicates.is_label.Goals as goal

pub returns-then-is_name : goal.returns-then-is_name
returns-then-is_name c = c.if-is_name.true ∙ sym (within (a_name ∷ []) (a_name ∷ a_plain ∷ []) c.args.item.now refl (sym c.is_name.ensures ∙ c.if-is_name.true))

pub returns-else-is_name : goal.returns-else-is_name
unfolding one_of
returns-else-is_name c = c.is_plain.ensures ∙ label_plain (sort c.args.item.now.lexeme) (sym c.is_name.ensures ∙ c.if-is_name.false)

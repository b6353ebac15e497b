use Rattle.std.proofs.Common.{refl, sym, ap, ◌∙◌}
use Rattle.fx_parse.specs.Items.{among, one_of, sort}
use Rattle.fx_parse.specs.ReadRuns.{suffix_starters}
use Rattle.fx_parse.proofs.sorts.Sorts.{not_sign}
use Rattle.fx_parse.proofs.predicates.begins_suffix.Goals as goal

pub returns-in-Symbol : goal.returns-in-Symbol
unfolding one_of
returns-in-Symbol c = c.suffix_symbol.ensures ∙ ap (λ l. among suffix_starters (sort l)) (sym c.in-Symbol.is)

pub returns-in_default : goal.returns-in_default
unfolding one_of
returns-in_default c = not_sign suffix_starters refl c.args.item.now.lexeme c.in_default.not-Symbol

use Rattle.std.proofs.Common.{sym, ap, ◌∙◌}
use Rattle.fx_parse.specs.Items.{among, one_of, sort}
use Rattle.fx_parse.specs.ReadPrimary.{beginning}
use Rattle.fx_parse.proofs.sorts.Sorts.{begins_else}
use Rattle.fx_parse.proofs.predicates.begins.Goals as goal

pub returns-in-Symbol : goal.returns-in-Symbol
unfolding one_of
returns-in-Symbol c = c.beginning_symbol.ensures ∙ ap (λ l. among beginning (sort l)) (sym c.in-Symbol.is)

pub returns-in-Word : goal.returns-in-Word
unfolding one_of
returns-in-Word c = c.beginning_word.ensures ∙ ap (λ l. among beginning (sort l)) (sym c.in-Word.is)

pub returns-in-Mid : goal.returns-in-Mid
unfolding one_of
returns-in-Mid c = ap (λ l. among beginning (sort l)) (sym c.in-Mid.is)

pub returns-in-Tail : goal.returns-in-Tail
unfolding one_of
returns-in-Tail c = ap (λ l. among beginning (sort l)) (sym c.in-Tail.is)

pub returns-in_default : goal.returns-in_default
unfolding one_of
returns-in_default c = begins_else c.args.item.now.lexeme c.in_default.not-Word c.in_default.not-Mid c.in_default.not-Tail c.in_default.not-Symbol

use Rattle.std.proofs.Common.{◌∙◌}
use Rattle.fx_parse.specs.Items.{one_of}
use Rattle.fx_parse.proofs.sorts.Sorts.{word_same, not_word}
use Rattle.fx_parse.proofs.predicates.is_word.Goals as goal

pub returns-in-Word : goal.returns-in-Word
unfolding one_of
returns-in-Word c = c.eq.ensures ∙ word_same c.args.item.now.lexeme c.in-Word.found c.args.word c.in-Word.is

pub returns-in_default : goal.returns-in_default
unfolding one_of
returns-in_default c = not_word c.args.word c.args.item.now.lexeme c.in_default.not-Word

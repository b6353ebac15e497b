use Rattle.std.proofs.Common.{take}
use Rattle.fx_parse.specs.Lexemes.{AllRead}
use Rattle.fx_parse.proofs.items.items_of.Given as goal

abbrev pub invariant-loop-token : goal.invariant-loop-token
invariant-loop-token l = AllRead l.text (take l.token-index l.tokens) l.items.items

use Rattle.fx_parse.proofs.grammar.Grammar.+line.Given as goal

abbrev pub decreases-line : goal.decreases-line
decreases-line g l = l.line

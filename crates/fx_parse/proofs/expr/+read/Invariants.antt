use Rattle.fx_parse.proofs.expr.+read.Given as goal

abbrev pub decreases-read : goal.decreases-read
decreases-read l = l.levels

use Rattle.std.proofs.Common.{◌∙◌}
use Rattle.fx_schemes.specs.Folds.{fold_of, folds}
use Rattle.fx_schemes.proofs.fold.fold_of.Goals as goal

pub returns : goal.returns
unfolding fold_of folds
returns c = c.copied.ensures ∙ rw c.in-Some.ensures.1 at c.find.ensures

use Rattle.std.proofs.Common.{◌∙◌}
use Rattle.fx_unify.proofs.KnownLaws.{any_listed}
use Rattle.fx_unify.proofs.known.Known.has.Goals as goal

pub returns : goal.returns
returns c = λ ls knows. c.contains.ensures ∙ any_listed c.args.label.now c.args.self.now.labels.keys ∙ knows c.args.label.now

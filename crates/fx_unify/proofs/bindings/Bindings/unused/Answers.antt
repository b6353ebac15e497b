use Rattle.fx_unify.proofs.AskLaws.{unrestricted}
use Rattle.fx_unify.proofs.bindings.Bindings.unused.Goals as goal

pub returns-then-self-count-clause-free : goal.returns-then-self-count-clause-free
returns-then-self-count-clause-free c = unrestricted c.args.self.now

pub returns-clause-free : goal.returns-clause-free
returns-clause-free c = unrestricted c.args.self.now

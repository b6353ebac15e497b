use Rattle.fx_top.proofs.AnswerOnce.{one_answer}
use Rattle.fx_top.proofs.laws.answers_exclude_each_other.Goals as goal

pub returns : goal.returns
returns c = one_answer

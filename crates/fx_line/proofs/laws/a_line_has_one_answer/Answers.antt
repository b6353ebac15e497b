use Rattle.fx_line.proofs.OneAnswer.{same_points, same_skipped, same_error, given_refused}
use Rattle.fx_line.proofs.laws.a_line_has_one_answer.Goals as goal

pub returns-clause-points : goal.returns-clause-points
returns-clause-points c = same_points

pub returns-clause-skipped : goal.returns-clause-skipped
returns-clause-skipped c = same_skipped

pub returns-clause-errors : goal.returns-clause-errors
returns-clause-errors c = same_error

pub returns-clause-apart : goal.returns-clause-apart
returns-clause-apart c = given_refused

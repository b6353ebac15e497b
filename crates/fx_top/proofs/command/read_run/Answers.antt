use Rattle.std.proofs.Common.{sym, ◌∙◌}
use Rattle.fx_top.proofs.CommandLemmas.{run_said}
use Rattle.fx_top.proofs.command.read_run.Goals as goal

pub returns-in-Some : goal.returns-in-Some
returns-in-Some c = run_said c.args.words.now c.in-Some.said c.command_of.result (sym c.in_ok-read_said.ensures ∙ c.in-Some.is) c.command_of.ensures

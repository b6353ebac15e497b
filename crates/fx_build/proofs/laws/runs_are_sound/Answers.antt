use Rattle.fx_build.specs.Rows.{TablesFit}
use Rattle.fx_build.proofs.ListedLaws.{run_safe}
use Rattle.fx_build.proofs.ListedRuns.{listed_run_safe}
use Rattle.fx_build.proofs.RunLaws.{script_safe}
use Rattle.fx_build.proofs.laws.runs_are_sound.Goals as goal

pub returns : goal.returns
returns c = record {
  run = λ test setting tables ss limit h is shows_safely. script_safe TablesFit test setting tables ss limit h is shows_safely;
  listed = λ test setting stored ss limit lawful h is. listed_run_safe test setting stored ss limit lawful h is;
  stored = λ test setting stored ss limit lawful h is. run_safe test setting stored ss limit lawful h is;
}

-- Yields of streams whose operators have a meaning are safe, and so is a run over them.
use Rattle.std.proofs.Common.{◌≡◌, refl, Bool, true, false, ℕ, List, []}
use Rattle.fx_ast.specs.Tree.{StatementTree}
use Rattle.fx_data.specs.declared.table.Table.{Table}
use Rattle.fx_infer.specs.Script.{HasTyping}
use Rattle.fx_meaning.specs.declared.setting.Setting.{Setting}
use Rattle.fx_meaning.specs.Meaning.{Tests}
use Rattle.fx_types.specs.Ground.{GroundRow}
use Rattle.fx_value.specs.Ends.{End}
use Rattle.fx_build.specs.Rows.{TablesFit}
use Rattle.fx_build.specs.Run.{script_run}
use Rattle.fx_build.specs.Safe.{IsSafe}
use Rattle.fx_build.specs.Sound.{IsSettingOf, RunFits, ShowsSafely}
use Rattle.fx_plan.specs.Sources.{AreLawful, Stored}
use Rattle.fx_plan.specs.Streams.{all_listed, listed_yield, shown_if, yield_meaning}
use Rattle.fx_build.proofs.RunLaws.{script_safe}
use Rattle.fx_build.proofs.StreamRuns.{yield_safe}

shown_safe : (r : GroundRow) (b : Bool) (shown : End (List Table)) → (b ≡ true → IsSafe (TablesFit r) shown) → IsSafe (TablesFit r) (shown_if b shown)
shown_safe r true shown safe = safe refl
shown_safe r false shown safe = tt

listed_safe : (test : Tests) (stored : Stored) → AreLawful stored → ShowsSafely TablesFit (listed_yield test stored)
listed_safe test stored lawful call r limit h =
    shown_safe r (all_listed call) (yield_meaning test stored call limit) (λ listed. yield_safe test stored lawful call r limit listed h)

pub listed_run_safe : (test : Tests) (setting : Setting) (stored : Stored) (ss : List StatementTree) (limit : ℕ) → AreLawful stored → HasTyping ss → IsSettingOf setting ss
    → RunFits TablesFit ss [] (script_run test setting (listed_yield test stored) ss limit)
listed_run_safe test setting stored ss limit lawful h is = script_safe TablesFit test setting (listed_yield test stored) ss limit h is (listed_safe test stored lawful)

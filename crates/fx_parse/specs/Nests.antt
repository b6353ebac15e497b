-- A function value that reads a phrase with the levels that are left, and what it gives.
use Rattle.std.specs.Prelude.{◌≤◌, ℕ, Result}
use Rattle.std.specs.declared.alloc.Global.{Global}
use denote.Ref.{MutBor}
use Rattle.fx_ast.specs.Shape.{tree_of}
use Rattle.fx_ast.specs.Tree.{Tree}
use Rattle.fx_parse.specs.declared.measured.Measured.{Measured}
use Rattle.fx_parse.specs.declared.phrase.Phrase.{Phrase}
use Rattle.fx_parse.specs.declared.stop.Stop.{Stop}
use Rattle.fx_parse.specs.Cursor.{Gives}
use Rattle.fx_parse.specs.Items.{Items}
use Rattle.fx_parse.specs.ReadExprs.{read_phrase}

abbrev pub tree_in : Measured → Tree
tree_in m = tree_of m.tree

pub record Nests (depth : ℕ) (pre : Global → MutBor Items → ℕ → Phrase → Type 0)
    (post : Global → MutBor Items → ℕ → Phrase → Result Measured Stop → MutBor Items → Type 0) : Type 0 where
  pub callable : (alloc : Global) (old : MutBor Items) (k : ℕ) (p : Phrase) → k ≤ depth → pre alloc old k p
  pub gives : (alloc : Global) (old new : MutBor Items) (k : ℕ) (p : Phrase) (r : Result Measured Stop) → post alloc old k p r new
      → Gives tree_in (read_phrase k p old.now) r new.now

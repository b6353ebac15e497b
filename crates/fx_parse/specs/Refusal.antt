-- Where a list of items stops being the beginning of a script of so many levels.
use Rattle.std.specs.Prelude.{◌≡◌, ◌≤◌, ◌↔◌, ℕ, Bool, true, [], ◌∷◌, ◌++◌}
use Rattle.fx_ast.specs.Tree.{ScriptTree}
use Rattle.fx_parse.specs.declared.item.Item.{Item}
use Rattle.fx_parse.specs.Items.{Items}
use Rattle.fx_parse.specs.Grammar.{IsScript}
use Rattle.fx_ast.specs.Levels.{levels}

-- a script of at most so many levels begins with these items
abbrev pub Begins : ℕ → Items → Type 0
Begins most u = (c : Items) × (t : ScriptTree) × IsScript t (u ++ c) × (levels t ≤ most)

-- the items of w before `rest` begin such a script, and with the item after them they begin none; deep where they begin
-- one of more levels
pub record IsRefusal (most : ℕ) (w : Items) (deep : Bool) (rest : Items) : Type 0 where
  pub before : Items
  pub split : w ≡ before ++ rest
  pub begins : Begins most before
  pub ends : (x : Item) (z : Items) → rest ≡ x ∷ z → Begins most (before ++ (x ∷ [])) → ⊥
  -- the items end too early
  pub short : rest ≡ [] → (t : ScriptTree) → IsScript t w → levels t ≤ most → ⊥
  pub goes_on : deep ≡ true ↔ ((x : Item) × (z c : Items) × (t : ScriptTree) × (rest ≡ x ∷ z) × IsScript t (before ++ (x ∷ c)))

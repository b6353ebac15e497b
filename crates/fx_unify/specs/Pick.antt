-- Places in lists of labels.
use Rattle.std.specs.Prelude.{◌≡◌, ℕ, zero, suc, true, false, List, [], ◌∷◌}
use Rattle.fx_base.specs.Text.{same_text}
use Rattle.fx_types.specs.Term.{Label}

-- the first place of the label is i
abbrev pub IsFirst : Label → List Label → ℕ → Type 0
IsFirst l [] i = ⊥
IsFirst l (x ∷ xs) zero = same_text l x ≡ true
IsFirst l (x ∷ xs) (suc i) = (same_text l x ≡ false) × IsFirst l xs i

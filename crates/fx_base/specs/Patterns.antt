-- Patterns by number, and patterns that are literal texts.
use Rattle.std.specs.Prelude.{◌≡◌, ℕ, ◌^◌, ◌<◌, ◌≤◌, ◌==◌, ◌||◌, nat_eq, Bool, List, [], ◌∷◌, ◌++◌, length, get_or, Result, Ok, Err}
use Rattle.std.specs.List.{list_any, starts_with}
use Rattle.fx_base.specs.Outside.{Rose}
use Rattle.fx_base.specs.declared.patterns.PatternFault.{PatternFault}
use Rattle.fx_base.specs.declared.patterns.PatternFault.TheVariants as pattern

-- a build gives the count of the built texts as the number of the new one, and puts it behind them; a refusal leaves them
abbrev pub Builds : List (List ℕ) → List ℕ → Result ℕ PatternFault → List (List ℕ) → Type 0
Builds old text (Ok number) new = (number ≡ length old) × (new ≡ old ++ text ∷ [])
Builds old text (Err fault) new = new ≡ old

-- the causes of a build's answers: Refused only where a number was left and the count of refusals rose
abbrev pub BuildCause : List (List ℕ) → ℕ → ℕ → Result ℕ PatternFault → Type 0
BuildCause built before now (Ok number) = now ≡ before
BuildCause built before now (Err pattern.Refused) = (length built < 2 ^ 32) × Rose before now
BuildCause built before now (Err pattern.Memory) = before ≤ now

-- the tests at the numbers that were given are the same
abbrev pub SameTests : List (List ℕ) → (ℕ → List ℕ → Bool) → (ℕ → List ℕ → Bool) → Type 0
SameTests built old new = (number : ℕ) → number < length built → (text : List ℕ) → new number text ≡ old number text

-- the text holds the pattern: it begins with it, or the text behind its first byte holds it
abbrev pub holds : List ℕ → List ℕ → Bool
holds pattern [] = starts_with nat_eq [] pattern
holds pattern (byte ∷ rest) = starts_with nat_eq (byte ∷ rest) pattern || holds pattern rest

-- the test of a literal pattern
abbrev pub literal_test : List (List ℕ) → ℕ → List ℕ → Bool
literal_test built number text = holds (get_or built number []) text

-- \ ^ $ . | ? * + ( ) [ ] { }
abbrev pub specials : List ℕ
specials = 92 ∷ 94 ∷ 36 ∷ 46 ∷ 124 ∷ 63 ∷ 42 ∷ 43 ∷ 40 ∷ 41 ∷ 91 ∷ 93 ∷ 123 ∷ 125 ∷ []

-- the pattern is no literal text
abbrev pub has_special : List ℕ → Bool
has_special pattern = list_any (λ byte. list_any (λ special. special == byte) specials) pattern

-- a build with this number is refused: it is one of those that are to fail, or its pattern is no literal text
abbrev pub is_refused : List ℕ → ℕ → List ℕ → Bool
is_refused failing call pattern = list_any (λ number. number == call) failing || has_special pattern

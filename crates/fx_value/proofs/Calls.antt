-- Patterns that one call after another leaves as they were.
use Rattle.std.proofs.Common.{◌≡◌, ℕ, ◌<◌, Bool, true, false, List, [], ◌∷◌, length, nat_eq, refl, subst, sym, ◌∙◌}
use Rattle.std.specs.Prelude.{◌==◌, ◌&&◌, ◌||◌}
use Rattle.std.specs.List.{list_any, AllByRecursion}
use Rattle.std.proofs.lemmas.Bool.{eqb-true, eq-eqb}
use Rattle.fx_base.specs.Patterns.{SameTests}
use Rattle.fx_value.specs.Calls.{AreGiven, heard, SamePatterns}

given_below : (bound number : ℕ) (numbers : List ℕ) → AllByRecursion (λ n. n < bound) numbers → list_any (λ n. n == number) numbers ≡ true → number < bound
given_below bound number [] given is = cc
given_below bound number (n ∷ ns) given is =
    elim (nat_eq n number) as (λ b. nat_eq n number ≡ b → (b || list_any (λ m. m == number) ns) ≡ true → number < bound) [
      | true ↦ λ same _. subst (λ m. m < bound) (eqb-true n number same) given.0
      | false ↦ λ _ rest. given_below bound number ns given.1 rest
    ] refl is

both_same : (asked a b : Bool) → (asked ≡ true → a ≡ b) → (asked && a) ≡ (asked && b)
both_same true a b h = h refl
both_same false a b h = refl

module _ (built : List (List ℕ)) (before after : ℕ → List ℕ → Bool) (same : SameTests built before after) where
  -- where the tests at the given numbers are the same, the same is heard of given numbers
  pub heard_same : (numbers : List ℕ) → AreGiven numbers built → heard numbers after ≡ heard numbers before
  heard_same numbers given = λ i number text.
      both_same (list_any (λ n. n == number) numbers) (after number text) (before number text)
      (λ asked. same number (given_below (length built) number numbers given asked) text) i

  -- the tests are the same after two calls
  pub tests_stay : (now : List (List ℕ)) (last : ℕ → List ℕ → Bool) → now ≡ built → SameTests now after last → SameTests built before last
  tests_stay now last is next = λ number below text.
      next number (subst (λ texts. number < length texts) (sym is) below) text ∙ same number below text

-- of the one number all is heard
pub heard_alone : (number : ℕ) (test : ℕ → List ℕ → Bool) → heard (number ∷ []) test number ≡ test number
heard_alone number test = λ i text. (eq-eqb number number refl i || false) && test number text

-- patterns that two calls one after the other leave as they were are as they were
pub same_patterns_on : {P : Type 0} (built : P → List (List ℕ)) (refusals : P → ℕ) (test : P → ℕ → List ℕ → Bool) (before now after : P)
    → SamePatterns built refusals test before now → SamePatterns built refusals test now after → SamePatterns built refusals test before after
same_patterns_on built refusals test before now after first then = record {
  built = then.built ∙ first.built;
  refusals = then.refusals ∙ first.refusals;
  tests = tests_stay (built before) (test before) (test now) first.tests (built now) (test after) first.built then.tests;
}

pub same_patterns_none : {P : Type 0} (built : P → List (List ℕ)) (refusals : P → ℕ) (test : P → ℕ → List ℕ → Bool) (patterns : P) → SamePatterns built refusals test patterns patterns
same_patterns_none built refusals test patterns = record { built = refl; refusals = refl; tests = λ number below text. refl }

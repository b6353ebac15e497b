-- Patterns that are known, by their numbers.
use Rattle.std.proofs.Common.{◌≡◌, ℕ, ◌<◌, Bool, true, false, List, [], ◌∷◌, nat_eq, refl, sym, ap, subst, ◌∙◌}
use Rattle.std.specs.Prelude.{◌==◌, ◌&&◌, ◌||◌}
use Rattle.std.specs.List.{list_any, AllByRecursion}
use Rattle.std.proofs.lemmas.Bool.{eqb-true}
use Rattle.fx_meaning.specs.declared.setting.Placed.{Placed}
use Rattle.fx_values.specs.Known.{hears, numbers_of}

any_number : (number : ℕ) (known : List Placed) → list_any (λ n. n == number) (numbers_of known) ≡ list_any (λ p. p.number == number) known
any_number number [] = refl
any_number number (p ∷ ps) = ap (λ b. (p.number == number) || b) (any_number number ps)

-- of a number that is known all is heard, and of no other
pub heard_if : (test : ℕ → List ℕ → Bool) (number : ℕ) (text : List ℕ) (known : List Placed) (b : Bool) → b ≡ list_any (λ p. p.number == number) known
    → hears known test number text ≡ (b && test number text)
heard_if test number text known b is = ap (λ c. c && test number text) (any_number number known ∙ sym is)

pub known_below : (bound number : ℕ) (known : List Placed) → AllByRecursion (λ n. n < bound) (numbers_of known) → list_any (λ p. p.number == number) known ≡ true → number < bound
known_below bound number [] given is = cc
known_below bound number (p ∷ ps) given is =
    elim (nat_eq p.number number) as (λ b. nat_eq p.number number ≡ b → (b || list_any (λ q. q.number == number) ps) ≡ true → number < bound) [
      | true ↦ λ same _. subst (λ m. m < bound) (eqb-true p.number number same) given.0
      | false ↦ λ _ rest. known_below bound number ps given.1 rest
    ] refl is

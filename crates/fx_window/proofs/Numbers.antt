-- Whole numbers one after another.
use Rattle.std.proofs.Common.{◌≡◌, ℕ, zero, suc, List, [], ◌∷◌, ◌++◌, map, length, ℤ, pos, negsuc, ◌+ℤ◌, ◌≤ℤ◌, refl, ap, ◌∙◌, arith}
use Rattle.std.specs.Prelude.{◌<ℤ◌, ◌-ℤ◌, unsigned_abs}
use Rattle.std.specs.Int.{int_gap}
use Rattle.std.specs.List.{flat_map, AllByRecursion}
use Rattle.std.proofs.lemmas.Int.{ints}
use Rattle.fx_window.specs.Numbers.{so_many, numbers}

pub gap_is : (a b : ℤ) → a ≤ℤ b → (a +ℤ pos (int_gap a b)) ≡ b
gap_is (pos a) (pos b) h = omega (arith, ints)
gap_is (pos a) (negsuc b) h = absurd (omega (arith, ints))
gap_is (negsuc a) (pos b) h = omega (arith, ints)
gap_is (negsuc a) (negsuc b) h = omega (arith, ints)

pub gap_abs : (a b : ℤ) → a ≤ℤ b → unsigned_abs (b -ℤ a) ≡ int_gap a b
gap_abs a b h =
    let is = gap_is a b h in
    let same : (b -ℤ a) ≡ pos (int_gap a b) = omega (arith, ints) in
    ap unsigned_abs same

pub gap_none : (a b : ℤ) → b ≤ℤ a → int_gap a b ≡ 0
gap_none a b h = grind (arith, ints)

pub gap_some : (a b : ℤ) → a <ℤ b → int_gap a b ≡ suc (int_gap (a +ℤ pos 1) b)
gap_some a b h = grind (arith, ints)

-- there are none where the next is no greater than the first
pub numbers_none : (first next : ℤ) → next ≤ℤ first → numbers first next ≡ []
numbers_none first next h = ap (so_many first) (gap_none first next h)

-- else the first, and those after it
pub numbers_some : (first next : ℤ) → first <ℤ next → numbers first next ≡ first ∷ numbers (first +ℤ pos 1) next
numbers_some first next h = ap (so_many first) (gap_some first next h)

pub so_many_are : (first : ℤ) (n : ℕ) → length (so_many first n) ≡ n
so_many_are first zero = refl
so_many_are first (suc n) = ap suc (so_many_are (first +ℤ pos 1) n)

pub all_so_many : (P : ℤ → Type 0) (first next : ℤ) (n : ℕ) → int_gap first next ≡ n → ((k : ℤ) → first ≤ℤ k → k <ℤ next → P k) → AllByRecursion P (so_many first n)
all_so_many P first next zero gap h = tt
all_so_many P first next (suc n) gap h = (
  h first (grind (arith, ints)) (grind (arith, ints)),
  all_so_many P (first +ℤ pos 1) next n (grind (arith, ints)) (λ k low high. h k (grind (arith, ints)) high),
)

-- what holds of each number between holds of all of them
pub all_numbers : (P : ℤ → Type 0) (first next : ℤ) → ((k : ℤ) → first ≤ℤ k → k <ℤ next → P k) → AllByRecursion P (numbers first next)
all_numbers P first next h = all_so_many P first next (int_gap first next) refl h

-- each gives one thing, or none
pub flat_map_one : {X Y : Type 0} (f : X → List Y) (g : X → Y) (xs : List X) → AllByRecursion (λ x. f x ≡ g x ∷ []) xs → flat_map f xs ≡ map g xs
flat_map_one f g [] h = refl
flat_map_one f g (x ∷ xs) h = ap (λ ys. ys ++ flat_map f xs) h.0 ∙ ap (λ ys. g x ∷ ys) (flat_map_one f g xs h.1)

pub flat_map_none : {X Y : Type 0} (f : X → List Y) (xs : List X) → AllByRecursion (λ x. f x ≡ []) xs → flat_map f xs ≡ []
flat_map_none f [] h = refl
flat_map_none f (x ∷ xs) h = ap (λ ys. ys ++ flat_map f xs) h.0 ∙ flat_map_none f xs h.1

-- A read that starts at the block where its first time belongs.
use Rattle.std.proofs.Common.{◌≡◌, ℕ, suc, zero, ℤ, ◌+◌, ◌<◌, ◌≤◌, List, [], ◌∷◌, ◌++◌, length, take, drop, get_or, refl, sym, ap, ◌∙◌, subst, arith, add-one, true, false, ◌&&◌, cond, int_le, Result, Ok, Err, IfOk, OnErr}
use Rattle.std.proofs.Math.Seq.{drop-cons}
use Rattle.std.specs.List.{AllByRecursion}
use Rattle.fx_value.specs.declared.scalar.Scalar.{Scalar}
use Rattle.fx_series.specs.declared.series.TimeValue.{TimeValue}
use Rattle.fx_series.specs.Read.{pairs, between}
use Rattle.fx_series.specs.Blocks.{entries_in, Before, After, Rises, IsBlock, AreBlocks, Belongs, looked}
use Rattle.fx_series.proofs.Rising.{rises_back}
use Rattle.fx_series.proofs.BlockPlaces.{in_parts}
use Rattle.fx_series.proofs.Looked.{between-append, none_before, between_looked, few}

pub each_drop : (i : ℕ) (bs : List (List TimeValue)) → AllByRecursion IsBlock bs → AllByRecursion IsBlock (drop i bs)
each_drop zero bs h = h
each_drop (suc i) [] h = h
each_drop (suc i) (b ∷ bs) h = each_drop i bs h.1

rises_drop : (i : ℕ) (bs : List (List TimeValue)) → Rises (entries_in bs) → Rises (entries_in (drop i bs))
rises_drop i bs h = rises_back (entries_in (take i bs)) (entries_in (drop i bs)) (subst Rises (in_parts i bs) h)

-- what the blocks from there on have in the range is what all have
from_place : (bs : List (List TimeValue)) (i : ℕ) (first last : ℤ) → Before first (entries_in (take i bs)) → between first last (entries_in (drop i bs)) ≡ between first last (entries_in bs)
from_place bs i first last below =
    ap (λ l. l ++ between first last (entries_in (drop i bs))) (sym (none_before first last (entries_in (take i bs)) below))
    ∙ sym (between-append first last (entries_in (take i bs)) (entries_in (drop i bs)))
    ∙ ap (between first last) (sym (in_parts i bs))

pub read_values : (bs : List (List TimeValue)) (i : ℕ) (first last : ℤ) → AreBlocks bs → Belongs bs first i → between first last (entries_in (looked last (drop i bs))) ≡ between first last (entries_in bs)
read_values bs i first last are belongs =
    between_looked first last (drop i bs) (each_drop i bs are.each) (rises_drop i bs are.rising) ∙ from_place bs i first last belongs.below

pub read_few : (bs : List (List TimeValue)) (i : ℕ) (first last : ℤ) → AreBlocks bs → Belongs bs first i → length (entries_in (looked last (drop i bs))) ≤ length (between first last (entries_in bs)) + 2048
read_few bs i first last are belongs =
    let b : List TimeValue = get_or bs i [] in
    let rest : List (List TimeValue) = drop (suc i) bs in
    let cut : drop i bs ≡ b ∷ rest = drop-cons bs i [] belongs.within in
    let most = few first last b rest (subst (AllByRecursion IsBlock) cut (each_drop i bs are.each)) (subst (λ (l : List (List TimeValue)). Rises (entries_in l)) cut (rises_drop i bs are.rising))
    (subst (λ n. After first (entries_in (drop n bs))) (add-one i) belongs.above) in
    omega (arith, ap (λ (l : List (List TimeValue)). length (entries_in (looked last l))) cut, most, ap length (ap (λ (l : List (List TimeValue)). between first last (entries_in l)) (sym cut)), ap length (from_place bs i first last belongs.below))

between_short : (first last : ℤ) (es : List (ℤ × Scalar)) → length (between first last es) ≤ length es
between_short first last [] = omega arith
between_short first last (e ∷ es) =
    let rest = between_short first last es in
    elim (int_le first e.0 && int_le e.0 last) as (λ t. length (cond t (e ∷ between first last es) (between first last es)) ≤ length (e ∷ es)) [
      | true ↦ omega (arith, rest)
      | false ↦ omega (arith, rest)
    ]

long_pairs : (ps : List TimeValue) → length (pairs ps) ≡ length ps
long_pairs [] = refl
long_pairs (p ∷ ps) = ap suc (long_pairs ps)

-- the steps of a read by the values that it looked at
module _ {E : Type 0} (first last : ℤ) (es : List (ℤ × Scalar)) (old new : ℕ) where
  pub steps_enough : (r : Result (List TimeValue) E) → IfOk r (λ x. pairs x ≡ between first last es) → IfOk r (λ _. new ≡ old + length es) → IfOk r (λ x. old + length x ≤ new)
  steps_enough (Ok x) v s = omega (arith, s, ap length v, long_pairs x, between_short first last es)
  steps_enough (Err e) v s = tt

  pub steps_few : (r : Result (List TimeValue) E) → length es ≤ length (between first last es) + 2048 → IfOk r (λ x. pairs x ≡ between first last es) → IfOk r (λ _. new ≡ old + length es) → IfOk r (λ x. new ≤ old + length x + 2048)
  steps_few (Ok x) most v s = omega (arith, s, ap length v, long_pairs x, most)
  steps_few (Err e) most v s = tt

  pub steps_most : (r : Result (List TimeValue) E) (m : ℕ) → length es ≤ m + 2048 → OnErr r ((old ≤ new) × (new ≤ old + length es)) → OnErr r ((old ≤ new) × (new ≤ old + m + 2048))
  steps_most (Ok x) m most s = tt
  steps_most (Err e) m most s = (s.0, omega (arith, s.1, most))

pub few_here : (bs rest : List (List TimeValue)) (i : ℕ) (first last f l : ℤ) → AreBlocks bs → Belongs bs first i → f ≡ first → l ≡ last → rest ≡ drop i bs → length (entries_in (looked l rest)) ≤ length (between f l (entries_in (looked l rest))) + 2048
few_here bs rest i first last f l are belongs ef el er =
    let P : ℤ → ℤ → List (List TimeValue) → Type 0 = λ a b r. length (entries_in (looked b r)) ≤ length (between a b (entries_in (looked b r))) + 2048 in
    let here : P first last (drop i bs) = omega (arith, read_few bs i first last are belongs, ap length (read_values bs i first last are belongs)) in
    subst (λ (a : ℤ). P a l rest) (sym ef) (subst (λ (b : ℤ). P first b rest) (sym el) (subst (P first last) (sym er) here))

pub few_in_all : (bs rest : List (List TimeValue)) (i : ℕ) (first last l : ℤ) (all : List (ℤ × Scalar)) → AreBlocks bs → Belongs bs first i → l ≡ last → rest ≡ drop i bs → entries_in bs ≡ all → length (entries_in (looked l rest)) ≤ length (between first last all) + 2048
few_in_all bs rest i first last l all are belongs el er ea =
    subst (λ (b : ℤ). length (entries_in (looked b rest)) ≤ length (between first last all) + 2048) (sym el)
    (subst (λ (r : List (List TimeValue)). length (entries_in (looked last r)) ≤ length (between first last all) + 2048) (sym er)
    (subst (λ (e : List (ℤ × Scalar)). length (entries_in (looked last (drop i bs))) ≤ length (between first last e) + 2048) ea (read_few bs i first last are belongs)))

-- Digits and what they say.
use Rattle.std.proofs.Common.{◌≡◌, ℕ, zero, suc, ◌-◌, ◌*◌, ◌^◌, ◌<◌, ◌≤◌, min, Bool, true, false, ◌&&◌, ◌||◌, cond, List, Option, Some, None, IfSome, is_some, ℤ, pos, negsuc, neg_ℤ, leb, eqb, refl, sym, ap, ◌∙◌, arith, ⊎_elim}
use Rattle.std.proofs.Math.Nat.{le-mul_of_pos_right, mul-le-mul_right, min-eq_left, min-eq_right}
use Rattle.std.proofs.lemmas.Bool.{and_parts, leb-true, le-leb, eqb-true, or_cases, false≢true}
use Rattle.fx_line.specs.Word.{begins}
use Rattle.fx_line.specs.Value.{natural, signed, without_minus}
use Rattle.fx_line.specs.Line.{is_time, is_factor, scale_of}

-- the number is what the digits said so far, and the rest is left
pub record IsSoFar (bytes : List ℕ) (number : ℕ) (rest : List ℕ) : Type 0 where
  pub exact : ℕ
  pub number_is : number ≡ min exact (2 ^ 64 - 1)
  pub whole : natural exact rest ≡ natural 0 bytes

same_bool : (a b : Bool) → (a ≡ true → b ≡ true) → (b ≡ true → a ≡ true) → a ≡ b
same_bool true b f g = sym (f refl)
same_bool false true f g = g refl
same_bool false false f g = refl

-- a time is in range by what its digits count
below : (m : ℕ) → (leb m (2 ^ 63 - 3) && true) ≡ leb (suc m) (2 ^ 63 - 2)
below m = same_bool _ _ (λ h. le-leb (suc m) (2 ^ 63 - 2) (omega (arith, leb-true m (2 ^ 63 - 3) (and_parts (leb m (2 ^ 63 - 3)) true h).0)))
    (λ h. ap (λ b. b && true) (le-leb m (2 ^ 63 - 3) (omega (arith, leb-true (suc m) (2 ^ 63 - 2) h))))

negative_time : (n : ℕ) → is_time (neg_ℤ (pos n)) ≡ leb n (2 ^ 63 - 2)
negative_time zero = refl
negative_time (suc m) = below m

time_test : (s : List ℕ) (n : ℕ) → is_time (signed s n) ≡ leb n (2 ^ 63 - 2)
time_test s n =
    elim (begins (λ b. eqb b 45) s) as (λ t. is_time (cond t (neg_ℤ (pos n)) (pos n)) ≡ leb n (2 ^ 63 - 2)) [
      | true ↦ negative_time n
      | false ↦ refl
    ]

-- digits that say too much for 64 bits count no time
held : (n f : ℕ) → 1 ≤ f → min n (2 ^ 64 - 1) * f ≤ 2 ^ 63 - 2 → min n (2 ^ 64 - 1) ≡ n
held n f some h =
    let grows : min n (2 ^ 64 - 1) ≤ min n (2 ^ 64 - 1) * f = le-mul_of_pos_right (min n (2 ^ 64 - 1)) some in omega arith

held_too : (n f : ℕ) → 1 ≤ f → n * f ≤ 2 ^ 63 - 2 → min n (2 ^ 64 - 1) ≡ n
held_too n f some h = let grows : n ≤ n * f = le-mul_of_pos_right n some in omega arith

same_test : (s : List ℕ) (n f : ℕ) → 1 ≤ f → is_time (signed s (min n (2 ^ 64 - 1) * f)) ≡ is_time (signed s (n * f))
same_test s n f some =
    time_test s (min n (2 ^ 64 - 1) * f)
    ∙ same_bool _ _
    (λ h. ap (λ x. leb (x * f) (2 ^ 63 - 2)) (sym (held n f some (leb-true _ _ h))) ∙ h)
    (λ h. ap (λ x. leb (x * f) (2 ^ 63 - 2)) (held_too n f some (leb-true _ _ h)) ∙ h)
    ∙ sym (time_test s (n * f))

some_scale : (factor : ℤ) → is_factor factor ≡ true → 1 ≤ scale_of factor
some_scale (pos n) h =
    ⊎_elim (λ (e : eqb n 1 ≡ true). omega (arith, eqb-true n 1 e))
    (λ rest. ⊎_elim (λ (e : eqb n 1000 ≡ true). omega (arith, eqb-true n 1000 e))
    (λ last. ⊎_elim (λ (e : eqb n 1000000 ≡ true). omega (arith, eqb-true n 1000000 e)) (λ (e : eqb n 1000000000 ≡ true). omega (arith, eqb-true n 1000000000 e)) (or_cases _ _ last))
    (or_cases (eqb n 1000) _ rest))
    (or_cases (eqb n 1) _ h)
some_scale (negsuc n) h = absurd (false≢true h)

pub stamp_fits : (s : List ℕ) (factor t : ℤ) (o : Option ℤ) → is_factor factor ≡ true → t ≡ signed s (min (natural 0 (without_minus s)) (2 ^ 64 - 1) * scale_of factor) → is_some o ≡ is_time t
    → is_some o ≡ is_time (signed s (natural 0 (without_minus s) * scale_of factor))
stamp_fits s factor t o is e fits = fits ∙ ap is_time e ∙ same_test s (natural 0 (without_minus s)) (scale_of factor) (some_scale factor is)

pub stamp_exact : (s : List ℕ) (factor t : ℤ) (o : Option ℤ) → is_factor factor ≡ true → t ≡ signed s (min (natural 0 (without_minus s)) (2 ^ 64 - 1) * scale_of factor) → is_some o ≡ is_time t
    → IfSome o (λ x. x ≡ t) → IfSome o (λ x. x ≡ signed s (natural 0 (without_minus s) * scale_of factor))
stamp_exact s factor t None is e fits h = tt
stamp_exact s factor t (Some x) is e fits h =
    let n = natural 0 (without_minus s) in
    let f = scale_of factor in
    let small : leb (min n (2 ^ 64 - 1) * f) (2 ^ 63 - 2) ≡ true = sym (time_test s (min n (2 ^ 64 - 1) * f)) ∙ ap is_time (sym e) ∙ sym fits in
    h ∙ e ∙ ap (λ m. signed s (m * f)) (held n f (some_scale factor is) (leb-true _ _ small))

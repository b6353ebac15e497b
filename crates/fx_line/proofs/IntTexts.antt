-- Integers as they are written: where they stand in some bytes, and what they are not.
use Rattle.std.proofs.Common.{◌≡◌, ℕ, zero, suc, ℤ, ◌<◌, ◌≤◌, Bool, true, false, not, ◌&&◌, ◌||◌, cond, List, [], ◌∷◌, ◌++◌, get_or, refl, sym, ap, ◌∙◌, subst, append_assoc, arith, eqb, leb, lit<}
use Rattle.std.specs.List.{list_all}
use Rattle.std.specs.Str.{IsUtf8, IsAscii}
use Rattle.std.specs.Cmp.Lexicographic.{bytes_decides}
use Rattle.std.proofs.lemmas.Bool.{and_parts, and_from, and_left, and_right, or_from, or_right, ne_eqb, eqb-true, leb-true, false≢true, cond-true, cond-false}
use Rattle.std.proofs.lemmas.Str.{IsUtf8-append, IsUtf8-from_ascii}
use Rattle.fx_base.specs.Text.{same_text}
use Rattle.fx_value.specs.declared.scalar.Scalar.TheVariants as scalar
use Rattle.fx_line.specs.Word.{begins}
use Rattle.fx_line.specs.Value.{is_digit, is_digits, without_minus, without_sign, behind_digits, behind_point, is_exponent, is_count, is_integer, is_unsigned, is_float, is_text, is_bare, is_value, is_int, is_stamp, integer_of, text_of, is_true, is_false, scalar_of}
use Rattle.fx_line.specs.Line.{Pair, is_wide}
use Rattle.fx_line.specs.Pieces.{IsIntText}

-- bytes are digits, a byte and what stands behind it
pub record IsCut (bytes : List ℕ) (b : ℕ) (rest : List ℕ) : Type 0 where
  pub digits : List ℕ
  pub are : list_all is_digit digits ≡ true
  pub joined : bytes ≡ digits ++ b ∷ rest

digits_cut : (bytes : List ℕ) (b : ℕ) (rest : List ℕ) → behind_digits bytes ≡ b ∷ rest → IsCut bytes b rest
digits_cut [] b rest e = absurd (cc e)
digits_cut (d ∷ ds) b rest e =
    elim (is_digit d) as (λ t. is_digit d ≡ t → cond t (behind_digits ds) (d ∷ ds) ≡ b ∷ rest → IsCut (d ∷ ds) b rest) [
      | true ↦ λ h same. let c = digits_cut ds b rest same in record { digits = d ∷ c.digits; are = and_from _ _ h c.are; joined = ap (λ x. d ∷ x) c.joined }
      | false ↦ λ h same. record { digits = []; are = refl; joined = same }
    ] refl e

behind_all : (ds rest : List ℕ) → list_all is_digit ds ≡ true → behind_digits (ds ++ 105 ∷ rest) ≡ 105 ∷ rest
behind_all [] rest h = refl
behind_all (d ∷ ds) rest h =
    let parts = and_parts _ _ h in
    ap (λ t. cond t (behind_digits (ds ++ 105 ∷ rest)) (d ∷ (ds ++ 105 ∷ rest))) parts.0 ∙ behind_all ds rest parts.1

-- a digit is none of the other bytes
digit_not : (d b : ℕ) → is_digit b ≡ false → is_digit d ≡ true → eqb d b ≡ false
digit_not d b other h = ne_eqb d b (λ e. false≢true (sym other ∙ sym (ap is_digit e) ∙ h))

digit_bare : (d : ℕ) → is_digit d ≡ true → is_bare d ≡ true
digit_bare d h = ap not (or_from _ _ (digit_not d 44 refl h) (or_from _ _ (digit_not d 32 refl h) (digit_not d 34 refl h)))

digits_bare : (ds : List ℕ) → list_all is_digit ds ≡ true → list_all is_bare (ds ++ 105 ∷ []) ≡ true
digits_bare [] h = refl
digits_bare (d ∷ ds) h = let parts = and_parts _ _ h in and_from _ _ (digit_bare d parts.0) (digits_bare ds parts.1)

begins_before : (ds x y : List ℕ) → begins is_digit (ds ++ 105 ∷ x) ≡ true → begins is_digit (ds ++ 105 ∷ y) ≡ true
begins_before [] x y h = absurd (false≢true h)
begins_before (d ∷ ds) x y h = h

-- digits and an `i` are an integer, with a minus before them too
count_of : (ds rest : List ℕ) → list_all is_digit ds ≡ true → begins is_digit (ds ++ 105 ∷ rest) ≡ true → is_count 105 (ds ++ 105 ∷ []) ≡ true
count_of ds rest are h = and_from _ _ (begins_before ds rest [] h) (ap (λ x. same_text x (105 ∷ [])) (behind_all ds [] are))

without_none : (v : List ℕ) → begins is_digit v ≡ true → without_minus v ≡ v
without_none [] h = absurd (false≢true h)
without_none (b ∷ r) h = cond-false (eqb b 45) r (b ∷ r) (digit_not b 45 refl h)

-- an integer that some bytes begin with
pub record IsFound (bytes behind : List ℕ) : Type 0 where
  pub value : List ℕ
  pub joined : bytes ≡ value ++ behind
  pub spelled : is_integer value ≡ true
  pub bare : list_all is_bare value ≡ true

plain_found : (v behind : List ℕ) → begins is_digit v ≡ true → behind_digits v ≡ 105 ∷ behind → IsFound v behind
plain_found v behind h e =
    let c = digits_cut v 105 behind e in
    let whole : List ℕ = c.digits ++ 105 ∷ [] in
    let first : begins is_digit (c.digits ++ 105 ∷ behind) ≡ true = ap (begins is_digit) (sym c.joined) ∙ h in
    record {
      value = whole;
      joined = c.joined ∙ sym (append_assoc c.digits (105 ∷ []) behind);
      spelled = ap (is_count 105) (without_none whole (begins_before c.digits behind [] first)) ∙ count_of c.digits behind c.are first;
      bare = digits_bare c.digits c.are;
    }

minus_found : (b : ℕ) (r behind : List ℕ) → eqb b 45 ≡ true → begins is_digit r ≡ true → behind_digits r ≡ 105 ∷ behind → IsFound (b ∷ r) behind
minus_found b r behind m h e =
    let c = digits_cut r 105 behind e in
    let rest : List ℕ = c.digits ++ 105 ∷ [] in
    let first : begins is_digit (c.digits ++ 105 ∷ behind) ≡ true = ap (begins is_digit) (sym c.joined) ∙ h in
    record {
      value = b ∷ rest;
      joined = ap (λ x. b ∷ x) (c.joined ∙ sym (append_assoc c.digits (105 ∷ []) behind));
      spelled = ap (is_count 105) (cond-true (eqb b 45) rest (b ∷ rest) m) ∙ count_of c.digits behind c.are first;
      bare = and_from _ _ (ap is_bare (eqb-true b 45 m)) (digits_bare c.digits c.are);
    }

pub int_found : (bytes behind : List ℕ) → begins is_digit (without_minus bytes) ≡ true → behind_digits (without_minus bytes) ≡ 105 ∷ behind → IsFound bytes behind
int_found [] behind h e = absurd (false≢true h)
int_found (b ∷ r) behind h e =
    elim (eqb b 45) as (λ t. eqb b 45 ≡ t → begins is_digit (cond t r (b ∷ r)) ≡ true → behind_digits (cond t r (b ∷ r)) ≡ 105 ∷ behind → IsFound (b ∷ r) behind) [
      | true ↦ λ m k same. minus_found b r behind m k same
      | false ↦ λ m k same. plain_found (b ∷ r) behind k same
    ] refl h e

-- ---- what an integer is not
module _ (v : List ℕ) (h : is_integer v ≡ true) where
  pub first_digit : begins is_digit (without_minus v) ≡ true
  first_digit = (and_parts _ _ h).0

  pub end_is : behind_digits (without_minus v) ≡ 105 ∷ []
  end_is = (bytes_decides (behind_digits (without_minus v)) (105 ∷ [])).0 (and_parts (begins is_digit (without_minus v)) _ h).1

signs_off : (v : List ℕ) → begins is_digit (without_minus v) ≡ true → without_sign v ≡ without_minus v
signs_off [] h = refl
signs_off (b ∷ r) h =
    elim (eqb b 45) as (λ t. begins is_digit (cond t r (b ∷ r)) ≡ true → cond (t || eqb b 43) r (b ∷ r) ≡ cond t r (b ∷ r)) [
      | true ↦ λ k. refl
      | false ↦ λ k. cond-false (eqb b 43) r (b ∷ r) (digit_not b 43 refl k)
    ] h

pub not_float : (v : List ℕ) → is_integer v ≡ true → is_float v ≡ false
not_float v h =
    and_right (begins is_digit (without_sign v)) _ (ap (λ r. is_exponent (behind_point r)) (ap behind_digits (signs_off v (first_digit v h)) ∙ end_is v h))

unsigned_by : (v : List ℕ) → begins is_digit (without_minus v) ≡ true → behind_digits (without_minus v) ≡ 105 ∷ [] → is_unsigned v ≡ false
unsigned_by [] h e = refl
unsigned_by (b ∷ r) h e =
    elim (eqb b 45) as (λ t. eqb b 45 ≡ t → behind_digits (cond t r (b ∷ r)) ≡ 105 ∷ [] → is_unsigned (b ∷ r) ≡ false) [
      | true ↦ λ m same. and_left _ _ (ap is_digit (eqb-true b 45 m))
      | false ↦ λ m same. and_right (is_digit b) _ (ap (λ x. same_text x (117 ∷ [])) same)
    ] refl e

pub not_unsigned : (v : List ℕ) → is_integer v ≡ true → is_unsigned v ≡ false
not_unsigned v h = unsigned_by v (first_digit v h) (end_is v h)

text_by : (v : List ℕ) → begins is_digit (without_minus v) ≡ true → is_text v ≡ false
text_by [] h = refl
text_by (b ∷ r) h =
    elim (eqb b 45) as (λ t. eqb b 45 ≡ t → begins is_digit (cond t r (b ∷ r)) ≡ true → is_text (b ∷ r) ≡ false) [
      | true ↦ λ m k. and_left _ _ (ap (λ x. eqb x 34) (eqb-true b 45 m))
      | false ↦ λ m k. and_left _ _ (digit_not b 34 refl k)
    ] refl h

-- ---- what is known of a value that says an integer
module _ (v : List ℕ) (n : ℤ) (h : IsIntText v n) where
  pub int_value : is_value v ≡ true
  int_value = or_right (is_text v) _ (and_from _ _ h.bare (ap (λ t. t || (is_unsigned v || (is_float v || (is_true v || is_false v)))) h.spelled))

  pub int_scalar : scalar_of v ≡ scalar.Int n
  int_scalar =
      cond-false (is_text v) (scalar.Text (text_of v)) _ (text_by v (first_digit v h.spelled))
      ∙ cond-true (is_integer v) (scalar.Int (integer_of v)) (scalar.Bool (is_true v)) h.spelled
      ∙ ap scalar.Int h.exact

  pub int_narrow : (key : List ℕ) → is_wide (record { key = key; value = v }) ≡ false
  int_narrow key = and_right (is_integer v) _ (ap not (ap is_int h.exact ∙ h.fits))

-- ---- digits are a text
digit_small : (d : ℕ) → is_digit d ≡ true → d < 128
digit_small d h = omega (arith, leb-true d 57 (and_parts (leb 48 d) _ h).1)

digits_small : (ds : List ℕ) → list_all is_digit ds ≡ true → IsAscii ds
digits_small [] h i = lit< tt
digits_small (d ∷ ds) h zero = digit_small d (and_parts _ _ h).0
digits_small (d ∷ ds) h (suc i) = digits_small ds (and_parts _ _ h).1 i

count_small : (ds : List ℕ) → list_all is_digit ds ≡ true → IsAscii (ds ++ 105 ∷ [])
count_small [] h zero = lit< tt
count_small [] h (suc i) = lit< tt
count_small (d ∷ ds) h zero = digit_small d (and_parts _ _ h).0
count_small (d ∷ ds) h (suc i) = count_small ds (and_parts _ _ h).1 i

behind_byte : (b : ℕ) (r : List ℕ) → b < 128 → IsAscii r → IsAscii (b ∷ r)
behind_byte b r small h zero = small
behind_byte b r small h (suc i) = h i

pub put_byte : (b : ℕ) (r : List ℕ) → b < 128 → IsUtf8 r → IsUtf8 (b ∷ r)
put_byte b r small u = IsUtf8-append (b ∷ []) r (IsUtf8-from_ascii (b ∷ []) (behind_byte b [] small (digits_small [] refl))) u

minus_back : (v : List ℕ) → IsAscii (without_minus v) → IsAscii v
minus_back [] h = h
minus_back (b ∷ r) h =
    elim (eqb b 45) as (λ t. eqb b 45 ≡ t → IsAscii (cond t r (b ∷ r)) → IsAscii (b ∷ r)) [
      | true ↦ λ m k. behind_byte b r (omega (arith, eqb-true b 45 m)) k
      | false ↦ λ m k. k
    ] refl h

pub int_text : (v : List ℕ) → is_integer v ≡ true → IsUtf8 v
int_text v h =
    let c = digits_cut (without_minus v) 105 [] (end_is v h) in
    IsUtf8-from_ascii v (minus_back v (subst IsAscii (sym c.joined) (count_small c.digits c.are)))

all_digits : (t : List ℕ) → is_digits t ≡ true → list_all is_digit t ≡ true
all_digits [] h = refl
all_digits (d ∷ ds) h = h

pub stamp_text : (t : List ℕ) → is_stamp t ≡ true → IsUtf8 t
stamp_text t h = IsUtf8-from_ascii t (minus_back t (digits_small (without_minus t) (all_digits (without_minus t) h)))

-- ---- the last byte of a timestamp is a digit
end_of : List ℕ → ℕ
end_of [] = 0
end_of (b ∷ []) = b
end_of (b ∷ c ∷ r) = end_of (c ∷ r)

end_push : (xs : List ℕ) (b : ℕ) → end_of (xs ++ b ∷ []) ≡ b
unfolding end_of
end_push [] b = refl
end_push (x ∷ []) b = refl
end_push (x ∷ y ∷ xs) b = end_push (y ∷ xs) b

end_behind : (xs : List ℕ) (b : ℕ) (r : List ℕ) → end_of (xs ++ b ∷ r) ≡ end_of (b ∷ r)
unfolding end_of
end_behind [] b r = refl
end_behind (x ∷ []) b r = refl
end_behind (x ∷ y ∷ xs) b r = end_behind (y ∷ xs) b r

end_digit : (t : List ℕ) → is_digits t ≡ true → is_digit (end_of t) ≡ true
unfolding end_of
end_digit [] h = absurd (false≢true h)
end_digit (d ∷ []) h = (and_parts _ _ h).0
end_digit (d ∷ c ∷ ds) h = end_digit (c ∷ ds) (and_parts (is_digit d) _ h).1

end_signed : (b : ℕ) (r : List ℕ) → is_digits r ≡ true → is_digit (end_of (b ∷ r)) ≡ true
unfolding end_of
end_signed b [] h = absurd (false≢true h)
end_signed b (c ∷ r) h = end_digit (c ∷ r) h

end_stamp : (t : List ℕ) → is_stamp t ≡ true → is_digit (end_of t) ≡ true
end_stamp [] h = absurd (false≢true h)
end_stamp (b ∷ r) h =
    elim (eqb b 45) as (λ t. is_digits (cond t r (b ∷ r)) ≡ true → is_digit (end_of (b ∷ r)) ≡ true) [
      | true ↦ λ k. end_signed b r k
      | false ↦ λ k. end_digit (b ∷ r) k
    ] h

stamp_last : (xs t s : List ℕ) → is_stamp t ≡ true → xs ++ t ≡ s ++ 32 ∷ [] → ⊥
stamp_last xs [] s h e = false≢true h
stamp_last xs (b ∷ r) s h e =
    false≢true (ap is_digit (sym (end_push s 32) ∙ ap end_of (sym e) ∙ end_behind xs b r) ∙ end_stamp (b ∷ r) h)

pub no_space_behind : (xs t : List ℕ) → is_stamp t ≡ true → (s : List ℕ) → xs ++ t ≡ s ++ 32 ∷ [] → ⊥
no_space_behind xs t h s e = stamp_last xs t s h e

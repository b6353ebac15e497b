-- The points that a line gives are lawful.
use Rattle.std.proofs.Common.{◌≡◌, ℕ, ℤ, pos, negsuc, ◌-◌, ◌≤◌, ◌^◌, Bool, true, false, not, ◌&&◌, ◌||◌, cond, List, [], ◌∷◌, map, length, refl, sym, ap, ◌∙◌, subst, arith, Option, Some, None, is_lt, leb, eqb, ⊎_elim}
use Rattle.std.specs.Prelude.{FitsSigned, All, nat_eq, filter}
use Rattle.std.specs.Int.{w64}
use Rattle.std.specs.List.{list_any, IsDistinct, starts_with}
use Rattle.std.proofs.lemmas.Bool.{and_parts, or_parts, or_cases, leb-true, ne_eqb, eqb-true, false≢true}
use Rattle.std.proofs.lemmas.List.Elements.{All-nil, All-cons}
use Rattle.fx_base.specs.Text.{text_cmp, same_text}
use Rattle.fx_line.specs.declared.line.LineError.TheVariants.{TooManyTags, NameReserved, FloatField, UintField, IntRange, TimeRange}
use Rattle.fx_line.specs.declared.line.LineMode.{LineMode}
use Rattle.fx_line.specs.declared.point.Tag.{Tag}
use Rattle.fx_line.specs.declared.word.Word.TheVariants as word
use Rattle.fx_line.specs.Word.{begins, yields, said}
use Rattle.fx_value.specs.declared.scalar.Scalar.TheVariants as scalar
use Rattle.fx_line.specs.Value.{is_text, text_of, is_integer, is_float, is_true, is_int, integer_of}
use Rattle.fx_line.specs.Line.{Pair, Written, tag_said, name_said, is_time, time_of, is_reserved, has_reserved, is_wide, error_of, last_ones, place_tag, sort_tags, point_of, points_of}
use Rattle.fx_line.specs.Order.{key_of}
use Rattle.fx_line.specs.Stored.{IsStorable, IsLawful}
use Rattle.fx_line.proofs.Sorting.{sort_rises}

-- numbers in their ranges
pub fits_int : (n : ℤ) → is_int n ≡ true → FitsSigned w64 n
fits_int (pos k) h = record { sfits = omega (arith, leb-true k (2 ^ 63 - 1) h) }
fits_int (negsuc k) h = record { sfits = omega (arith, leb-true k (2 ^ 63 - 1) (and_parts (leb k (2 ^ 63 - 1)) true h).0) }

pub fits_time : (n : ℤ) → is_time n ≡ true → FitsSigned w64 n
fits_time (pos k) h = record { sfits = omega (arith, leb-true k (2 ^ 63 - 2) h) }
fits_time (negsuc k) h = record { sfits = omega (arith, leb-true k (2 ^ 63 - 3) (and_parts (leb k (2 ^ 63 - 3)) true h).0) }

not_wide : (i w : Bool) → (i && not w) ≡ false → i ≡ true → w ≡ true
not_wide true true h e = refl
not_wide true false h e = absurd (false≢true (sym h))
not_wide false w h e = absurd (false≢true e)

storable : (v : List ℕ) (t i : Bool) → is_integer v ≡ i → (is_integer v && not (is_int (integer_of v))) ≡ false → IsStorable (cond t (scalar.Text (text_of v)) (cond i (scalar.Int (integer_of v)) (scalar.Bool (is_true v))))
storable v true i e h = tt
storable v false true e h = fits_int (integer_of v) (not_wide (is_integer v) (is_int (integer_of v)) h e)
storable v false false e h = tt

-- a name that is said begins as it is written
no_lowline : (b : ℕ) → yields word.Name b ≡ true → eqb b 95 ≡ false
no_lowline b h = ne_eqb b 95 (λ e. false≢true (sym (ap (yields word.Name) e) ∙ h))

said_escaped : (r : List ℕ) → begins (yields word.Name) r ≡ true → begins (λ b. eqb b 95) (said word.Name true r) ≡ false
said_escaped [] h = absurd (false≢true h)
said_escaped (b ∷ r) h = no_lowline b h

no_escape : (b : ℕ) → eqb b 92 ≡ true → eqb b 95 ≡ false
no_escape b h = ne_eqb b 95 (λ e. false≢true (sym (ap (λ x. eqb x 92) e) ∙ h))

said_begins : (k : List ℕ) → begins (λ b. eqb b 95) (said word.Name false k) ≡ begins (λ b. eqb b 95) k
said_begins [] = refl
said_begins (b ∷ r) =
    elim (eqb b 92 && begins (yields word.Name) r) as (λ t. (eqb b 92 && begins (yields word.Name) r) ≡ t → begins (λ c. eqb c 95) (cond t (said word.Name true r) (b ∷ said word.Name false r)) ≡ eqb b 95) [
      | true ↦ λ e. let parts = and_parts _ _ e in said_escaped r parts.1 ∙ sym (no_escape b parts.0)
      | false ↦ λ e. refl
    ] refl

not_reserved : (k : List ℕ) → begins (λ b. eqb b 95) k ≡ false → starts_with nat_eq k (95 ∷ []) ≡ false
not_reserved [] h = refl
not_reserved (b ∷ r) h = ap (λ t. t && true) (ne_eqb 95 b (λ same. false≢true (sym h ∙ ap (λ x. eqb x 95) (sym same))))

-- a test of tags is that of the sorted ones
swap_tests : (a b c : Bool) → (a || (b || c)) ≡ (b || (a || c))
swap_tests true true c = refl
swap_tests true false c = refl
swap_tests false b c = refl

any_placed : (p : Tag → Bool) (t : Tag) (ts : List Tag) → list_any p (place_tag t ts) ≡ (p t || list_any p ts)
any_placed p t [] = refl
any_placed p t (u ∷ ts) =
    elim (is_lt (text_cmp t.key u.key)) as (λ b. list_any p (cond b (t ∷ u ∷ ts) (u ∷ place_tag t ts)) ≡ (p t || (p u || list_any p ts))) [
      | true ↦ refl
      | false ↦ ap (λ r. p u || r) (any_placed p t ts) ∙ swap_tests (p u) (p t) (list_any p ts)
    ]

any_sorted : (p : Tag → Bool) (ts : List Tag) → list_any p (sort_tags ts) ≡ list_any p ts
any_sorted p [] = refl
any_sorted p (t ∷ ts) = any_placed p t (sort_tags ts) ∙ ap (λ r. p t || r) (any_sorted p ts)

any_said : (ts : List Pair) → list_any (λ t. begins (λ b. eqb b 95) t.key) (map tag_said ts) ≡ list_any (λ t. is_reserved t.key) ts
any_said [] = refl
any_said (t ∷ ts) = ap (λ x. x || list_any (λ u. begins (λ b. eqb b 95) u.key) (map tag_said ts)) (said_begins t.key) ∙ ap (λ x. is_reserved t.key || x) (any_said ts)

abbrev IsFree : Tag → Type 0
IsFree t = starts_with nat_eq t.key (95 ∷ []) ≡ false

all_free : (ts : List Tag) → list_any (λ t. begins (λ b. eqb b 95) t.key) ts ≡ false → All IsFree ts
all_free [] h = All-nil IsFree
all_free (t ∷ ts) h = let parts = or_parts _ _ h in All-cons IsFree t ts (not_reserved t.key parts.0) (all_free ts parts.1)

pub keys_said : (ts : List Pair) → map key_of (map tag_said ts) ≡ map name_said ts
keys_said [] = refl
keys_said (t ∷ ts) = ap (λ l. name_said t ∷ l) (keys_said ts)

-- what holds where a line has no error
record IsRight (mode : LineMode) (w : Written) : Type 0 where
  names : has_reserved w ≡ false
  narrow : list_any is_wide w.fields ≡ false
  time : is_time (time_of mode w.time) ≡ true

no_error : (a b c d e f : Bool) → cond a (Some TooManyTags) (cond b (Some NameReserved) (cond c (Some FloatField) (cond d (Some UintField) (cond e (Some IntRange) (cond (not f) (Some TimeRange) None))))) ≡ None
    → (b ≡ false) × (e ≡ false) × (f ≡ true)
no_error true b c d e f h = absurd (cc h)
no_error false true c d e f h = absurd (cc h)
no_error false false true d e f h = absurd (cc h)
no_error false false false true e f h = absurd (cc h)
no_error false false false false true f h = absurd (cc h)
no_error false false false false false false h = absurd (cc h)
no_error false false false false false true h = (refl, refl, refl)

right : (mode : LineMode) (w : Written) → error_of mode w ≡ None → IsRight mode w
right mode w h = let r = no_error _ _ _ _ _ _ h in record { names = r.0; narrow = r.1; time = r.2 }

pub narrow_fields : (mode : LineMode) (w : Written) → error_of mode w ≡ None → list_any is_wide w.fields ≡ false
narrow_fields mode w h = (right mode w h).narrow

narrow_ones : (fs : List Pair) → list_any is_wide fs ≡ false → list_any is_wide (last_ones fs) ≡ false
narrow_ones [] h = refl
narrow_ones (f ∷ fs) h =
    let parts = or_parts _ _ h in
    elim (list_any (λ g. same_text (name_said f) (name_said g)) fs) as (λ t. list_any is_wide (cond t (last_ones fs) (f ∷ last_ones fs)) ≡ false) [
      | true ↦ narrow_ones fs parts.1
      | false ↦ ap (λ x. x || list_any is_wide (last_ones fs)) parts.0 ∙ narrow_ones fs parts.1
    ]

lawful_points : (measurement : List ℕ) (tags : List Tag) (time : ℤ) (q : Pair → Bool) (fs : List Pair) → ((f : Pair) → is_wide f ≡ false → IsLawful (point_of measurement tags time f)) → list_any is_wide fs ≡ false
    → All IsLawful (map (point_of measurement tags time) (filter q fs))
lawful_points measurement tags time q [] one h = All-nil IsLawful
lawful_points measurement tags time q (f ∷ fs) one h =
    let parts = or_parts _ _ h in
    let rest = lawful_points measurement tags time q fs one parts.1 in
    elim (q f) as (λ t. All IsLawful (map (point_of measurement tags time) (cond t (f ∷ filter q fs) (filter q fs)))) [
      | true ↦ All-cons IsLawful (point_of measurement tags time f) (map (point_of measurement tags time) (filter q fs)) (one f parts.0) rest
      | false ↦ rest
    ]

pub all_lawful : (mode : LineMode) (w : Written) → IsDistinct same_text (map name_said w.tags) → error_of mode w ≡ None → All IsLawful (points_of mode w)
all_lawful mode w keys none =
    let r = right mode w none in
    let names = or_parts _ _ (or_parts _ _ r.names).1 in
    let differ : IsDistinct same_text (map key_of (map tag_said w.tags)) = subst (IsDistinct same_text) (sym (keys_said w.tags)) keys in
    let free : list_any (λ t. begins (λ b. eqb b 95) t.key) (sort_tags (map tag_said w.tags)) ≡ false = any_sorted _ (map tag_said w.tags) ∙ any_said w.tags ∙ names.0 in
    lawful_points _ _ _ (λ f. not (is_float f.value)) (last_ones w.fields)
    (λ f narrow. record {
      tags = sort_rises (map tag_said w.tags) differ;
      keys = all_free (sort_tags (map tag_said w.tags)) free;
      time = fits_time (time_of mode w.time) r.time;
      value = storable f.value (is_text f.value) (is_integer f.value) refl narrow;
    })
    (narrow_ones w.fields r.narrow)

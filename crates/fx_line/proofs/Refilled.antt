-- Fields whose values are replaced by integers.
use Rattle.std.proofs.Common.{◌≡◌, ℕ, ℤ, ◌≤◌, Bool, true, false, not, ◌&&◌, ◌||◌, cond, List, [], ◌∷◌, ◌++◌, map, length, refl, sym, ap, ◌∙◌, subst, append_assoc, arith, eqb}
use Rattle.std.specs.Prelude.{filter}
use Rattle.std.specs.List.{list_all, list_any, flat_map}
use Rattle.std.proofs.lemmas.Bool.{and_parts, and_from, or_from, false≢true, cond-true, cond-false}
use Rattle.fx_base.specs.Text.{same_text}
use Rattle.fx_value.specs.declared.scalar.Scalar.TheVariants as scalar
use Rattle.fx_line.specs.declared.point.Tag.{Tag}
use Rattle.fx_line.specs.declared.point.SeriesKey.{SeriesKey}
use Rattle.fx_line.specs.declared.word.Word.TheVariants as word
use Rattle.fx_line.specs.Word.{said, is_word}
use Rattle.fx_line.specs.Value.{is_float, is_value}
use Rattle.fx_line.specs.Line.{Pair, name_said, pair_text, more_text, fields_text, is_field, are_fields, last_ones, point_of}
use Rattle.fx_line.specs.Pieces.{IsIntText, AreFilled, int_points, pieces_from}
use Rattle.fx_line.proofs.IntTexts.{int_value, int_scalar, not_float}

-- fields of the same keys
abbrev pub SameKeys : List Pair → List Pair → Type 0
SameKeys [] [] = Unit {0}
SameKeys [] (g ∷ gs) = ⊥
SameKeys (f ∷ fs) [] = ⊥
SameKeys (f ∷ fs) (g ∷ gs) = (f.key ≡ g.key) × SameKeys fs gs

-- fields whose values say these integers
abbrev pub SayInts : List Pair → List ℤ → Type 0
SayInts [] [] = Unit {0}
SayInts [] (n ∷ ns) = ⊥
SayInts (g ∷ gs) [] = ⊥
SayInts (g ∷ gs) (n ∷ ns) = IsIntText g.value n × SayInts gs ns

pub record IsRefilled (fs : List Pair) (ns : List ℤ) (gs : List Pair) : Type 0 where
  pub keys : SameKeys fs gs
  pub ints : SayInts gs ns

-- ---- the bytes of pieces that are filled
record Behind (fs : List Pair) (line : List ℕ) (ns : List ℤ) (rest : List ℕ) : Type 0 where
  fields : List Pair
  refilled : IsRefilled fs ns fields
  joined : line ≡ flat_map more_text fields ++ rest

next_text : (front key value tail rest : List ℕ) → (front ++ (key ++ 61 ∷ [])) ++ (value ++ (tail ++ rest)) ≡ front ++ (((key ++ 61 ∷ value) ++ tail) ++ rest)
next_text front key value tail rest = simp append_assoc

filled_behind : (fs : List Pair) (line : List ℕ) (ns : List ℤ) (rest : List ℕ) → AreFilled (pieces_from (44 ∷ []) fs) line ns rest → Behind fs line ns rest
filled_behind [] line [] rest h = record { fields = []; refilled = record { keys = tt; ints = tt }; joined = h }
filled_behind [] line (n ∷ ns) rest h = absurd h
filled_behind (f ∷ fs) line [] rest h = absurd h
filled_behind (f ∷ fs) line (n ∷ ns) rest h =
    let r = filled_behind fs h.1 ns rest h.4 in
    let tail : List ℕ = flat_map more_text r.fields in
    let field : Pair = record { key = f.key; value = h.3.value } in
    record {
      fields = field ∷ r.fields;
      refilled = record { keys = (refl, r.refilled.keys); ints = (h.3.is, r.refilled.ints) };
      joined = h.2 ∙ ap (λ x. ((44 ∷ []) ++ (f.key ++ 61 ∷ [])) ++ x) (h.3.joined ∙ ap (λ x. h.3.value ++ x) r.joined) ∙ next_text (44 ∷ []) f.key h.3.value tail rest;
    }

pub record Filled (front : List ℕ) (fs : List Pair) (line : List ℕ) (ns : List ℤ) (rest : List ℕ) : Type 0 where
  pub fields : List Pair
  pub refilled : IsRefilled fs ns fields
  pub joined : line ≡ front ++ (fields_text fields ++ rest)

pub filled_fields : (front : List ℕ) (f : Pair) (fs : List Pair) (line : List ℕ) (ns : List ℤ) (rest : List ℕ) → AreFilled (pieces_from front (f ∷ fs)) line ns rest → Filled front (f ∷ fs) line ns rest
filled_fields front f fs line [] rest h = absurd h
filled_fields front f fs line (n ∷ ns) rest h =
    let r = filled_behind fs h.1 ns rest h.4 in
    let tail : List ℕ = flat_map more_text r.fields in
    let field : Pair = record { key = f.key; value = h.3.value } in
    record {
      fields = field ∷ r.fields;
      refilled = record { keys = (refl, r.refilled.keys); ints = (h.3.is, r.refilled.ints) };
      joined = h.2 ∙ ap (λ x. (front ++ (f.key ++ 61 ∷ [])) ++ x) (h.3.joined ∙ ap (λ x. h.3.value ++ x) r.joined) ∙ next_text front f.key h.3.value tail rest;
    }

-- ---- tests of keys and of values
pub any_keys : (test : List ℕ → Bool) (fs gs : List Pair) → SameKeys fs gs → list_any (λ f. test f.key) fs ≡ list_any (λ g. test g.key) gs
any_keys test [] [] h = refl
any_keys test [] (g ∷ gs) h = absurd h
any_keys test (f ∷ fs) [] h = absurd h
any_keys test (f ∷ fs) (g ∷ gs) h = λ i. test (h.0 i) || any_keys test fs gs h.1 i

pub no_ints : (test : Pair → Bool) → ((g : Pair) (n : ℤ) → IsIntText g.value n → test g ≡ false) → (gs : List Pair) (ns : List ℤ) → SayInts gs ns → list_any test gs ≡ false
no_ints test none [] [] h = refl
no_ints test none [] (n ∷ ns) h = absurd h
no_ints test none (g ∷ gs) [] h = absurd h
no_ints test none (g ∷ gs) (n ∷ ns) h = or_from _ _ (none g n h.0) (no_ints test none gs ns h.1)

field_kept : (f g : Pair) (n : ℤ) → f.key ≡ g.key → IsIntText g.value n → is_field f ≡ true → is_field g ≡ true
field_kept f g n key int h = and_from _ _ (ap (is_word word.Name) (sym key) ∙ (and_parts _ _ h).0) (int_value g.value n int)

fields_kept : (fs gs : List Pair) (ns : List ℤ) → SameKeys fs gs → SayInts gs ns → list_all is_field fs ≡ true → list_all is_field gs ≡ true
fields_kept [] [] ns k i h = refl
fields_kept [] (g ∷ gs) ns k i h = absurd k
fields_kept (f ∷ fs) [] ns k i h = absurd k
fields_kept (f ∷ fs) (g ∷ gs) [] k i h = absurd i
fields_kept (f ∷ fs) (g ∷ gs) (n ∷ ns) k i h = let parts = and_parts _ _ h in and_from _ _ (field_kept f g n k.0 i.0 parts.0) (fields_kept fs gs ns k.1 i.1 parts.1)

pub are_kept : (fs gs : List Pair) (ns : List ℤ) → SameKeys fs gs → SayInts gs ns → are_fields fs ≡ true → are_fields gs ≡ true
are_kept [] gs ns k i h = absurd (false≢true h)
are_kept (f ∷ fs) [] ns k i h = absurd k
are_kept (f ∷ fs) (g ∷ gs) ns k i h = fields_kept (f ∷ fs) (g ∷ gs) ns k i h

-- ---- fields of which each gives a point
abbrev named_like : Pair → Pair → Bool
named_like f g = same_text (name_said f) (name_said g)

abbrev is_shown : Pair → Bool
is_shown f = not (is_float f.value)

-- no two fields have the same name
abbrev AreOnce : List Pair → Type 0
AreOnce [] = Unit {0}
AreOnce (f ∷ fs) = (list_any (named_like f) fs ≡ false) × AreOnce fs

few_shown : (fs : List Pair) → length (filter is_shown (last_ones fs)) ≤ length fs
few_shown [] = omega arith
few_shown (f ∷ fs) =
    let few = few_shown fs in
    let shown : List Pair = filter is_shown (last_ones fs) in
    elim (list_any (named_like f) fs) as (λ t. length (filter is_shown (cond t (last_ones fs) (f ∷ last_ones fs))) ≤ length (f ∷ fs)) [
      | true ↦ omega (arith, few)
      | false ↦ elim (is_shown f) as (λ u. length (cond u (f ∷ shown) shown) ≤ length (f ∷ fs)) [
        | true ↦ omega (arith, few)
        | false ↦ omega (arith, few)
      ]
    ]

-- where there are as many points as fields, no field was left out
record AllShown (fs : List Pair) : Type 0 where
  once : AreOnce fs
  all : filter is_shown (last_ones fs) ≡ fs

all_shown_by : (f : Pair) (fs : List Pair) (t u : Bool) → list_any (named_like f) fs ≡ t → is_shown f ≡ u → (length fs ≤ length (filter is_shown (last_ones fs)) → AllShown fs)
    → length (f ∷ fs) ≤ length (filter is_shown (last_ones (f ∷ fs))) → AllShown (f ∷ fs)
all_shown_by f fs true u e s later h =
    let fewer = ap (λ l. length (filter is_shown l)) (cond-true (list_any (named_like f) fs) (last_ones fs) (f ∷ last_ones fs) e) in
    absurd (omega (arith, few_shown fs, fewer, h))
all_shown_by f fs false true e s later h =
    let shown : List Pair = filter is_shown (last_ones fs) in
    let is : filter is_shown (last_ones (f ∷ fs)) ≡ f ∷ shown = ap (filter is_shown) (cond-false (list_any (named_like f) fs) (last_ones fs) (f ∷ last_ones fs) e) ∙ cond-true (is_shown f) (f ∷ shown) shown s in
    let rest = later (omega (arith, ap length is, h)) in
    record { once = (e, rest.once); all = is ∙ ap (λ l. f ∷ l) rest.all }
all_shown_by f fs false false e s later h =
    let shown : List Pair = filter is_shown (last_ones fs) in
    let is : filter is_shown (last_ones (f ∷ fs)) ≡ shown = ap (filter is_shown) (cond-false (list_any (named_like f) fs) (last_ones fs) (f ∷ last_ones fs) e) ∙ cond-false (is_shown f) (f ∷ shown) shown s in
    absurd (omega (arith, few_shown fs, ap length is, h))

all_shown : (fs : List Pair) → length fs ≤ length (filter is_shown (last_ones fs)) → AllShown fs
all_shown [] h = record { once = tt; all = refl }
all_shown (f ∷ fs) h = all_shown_by f fs (list_any (named_like f) fs) (is_shown f) refl refl (all_shown fs) h

once_kept : (fs gs : List Pair) → SameKeys fs gs → AreOnce fs → AreOnce gs
once_kept [] [] h o = tt
once_kept [] (g ∷ gs) h o = absurd h
once_kept (f ∷ fs) [] h o = absurd h
once_kept (f ∷ fs) (g ∷ gs) h o =
    let mine : list_any (named_like f) gs ≡ false = sym (any_keys (λ k. same_text (name_said f) (said word.Name false k)) fs gs h.1) ∙ o.0 in
    (ap (λ k. list_any (λ x. same_text (said word.Name false k) (name_said x)) gs) (sym h.0) ∙ mine, once_kept fs gs h.1 o.1)

last_once : (gs : List Pair) → AreOnce gs → last_ones gs ≡ gs
last_once [] o = refl
last_once (g ∷ gs) o = cond-false (list_any (named_like g) gs) (last_ones gs) (g ∷ last_ones gs) o.0 ∙ ap (λ l. g ∷ l) (last_once gs o.1)

ints_shown : (gs : List Pair) (ns : List ℤ) → SayInts gs ns → filter is_shown gs ≡ gs
ints_shown [] ns h = refl
ints_shown (g ∷ gs) [] h = absurd h
ints_shown (g ∷ gs) (n ∷ ns) h =
    cond-true (is_shown g) (g ∷ filter is_shown gs) (filter is_shown gs) (ap not (not_float g.value h.0.spelled)) ∙ ap (λ l. g ∷ l) (ints_shown gs ns h.1)

-- ---- the points
module _ (measurement : List ℕ) (tags : List Tag) where
  abbrev key_at : Pair → SeriesKey
  key_at f = record { measurement = measurement; tags = tags; field = name_said f }

  keys_of : (time : ℤ) (fs : List Pair) → map (λ p. p.series) (map (point_of measurement tags time) fs) ≡ map key_at fs
  keys_of time [] = refl
  keys_of time (f ∷ fs) = ap (λ l. key_at f ∷ l) (keys_of time fs)

  points_of : (time : ℤ) (fs gs : List Pair) (ns : List ℤ) → SameKeys fs gs → SayInts gs ns → map (point_of measurement tags time) gs ≡ int_points (map key_at fs) ns time
  points_of time [] [] [] k h = refl
  points_of time [] [] (n ∷ ns) k h = absurd h
  points_of time [] (g ∷ gs) ns k h = absurd k
  points_of time (f ∷ fs) [] ns k h = absurd k
  points_of time (f ∷ fs) (g ∷ gs) [] k h = absurd h
  points_of time (f ∷ fs) (g ∷ gs) (n ∷ ns) k h =
      λ i. record {
        series = record { measurement = measurement; tags = tags; field = said word.Name false (sym k.0 i) };
        time = time;
        value = int_scalar g.value n h.0 i;
      } ∷ points_of time fs gs ns k.1 h.1 i

  -- where each field of a line gave a point, so does each of the other line's, of the same series
  pub same_series : (old new : ℤ) (fs gs : List Pair) (ns : List ℤ) → SameKeys fs gs → SayInts gs ns → length fs ≤ length (filter is_shown (last_ones fs))
      → map (point_of measurement tags new) (filter is_shown (last_ones gs)) ≡ int_points (map (λ p. p.series) (map (point_of measurement tags old) (filter is_shown (last_ones fs)))) ns new
  same_series old new fs gs ns k h long =
      let a = all_shown fs long in
      let its : filter is_shown (last_ones gs) ≡ gs = ap (filter is_shown) (last_once gs (once_kept fs gs k a.once)) ∙ ints_shown gs ns h in
      ap (map (point_of measurement tags new)) its
      ∙ points_of new fs gs ns k h
      ∙ ap (λ l. int_points l ns new) (sym (ap (λ l. map (λ p. p.series) (map (point_of measurement tags old) l)) a.all ∙ keys_of old fs))

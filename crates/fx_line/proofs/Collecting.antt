-- Fields are collected from the last one on.
use Rattle.std.proofs.Common.{◌≡◌, ℕ, zero, suc, ℤ, ◌+◌, ◌-◌, ◌<◌, ◌≤◌, Bool, true, false, not, ◌||◌, cond, List, [], ◌∷◌, ◌++◌, map, length, drop, get_or, refl, sym, ap, ◌∙◌, subst, arith}
use Rattle.std.specs.Prelude.{filter, count_by, reverse}
use Rattle.std.specs.List.{list_any, fold}
use Rattle.std.proofs.Math.Seq.{drop-cons}
use Rattle.std.proofs.lemmas.Bool.{or_parts}
use Rattle.std.proofs.lemmas.List.{reverse-append}
use Rattle.std.proofs.lemmas.List.Folds.{list_any-append}
use Rattle.fx_base.specs.Text.{same_text}
use Rattle.fx_line.specs.declared.points.Collected.{Collected}
use Rattle.fx_line.specs.declared.point.Tag.{Tag}
use Rattle.fx_line.specs.declared.point.Point.{Point}
use Rattle.fx_line.specs.Value.{is_float}
use Rattle.fx_line.specs.Line.{Pair, name_said, last_ones, point_of, is_wide}
use Rattle.fx_line.specs.Collected.{points_among, floats_among, IsCollected}

-- the fields from a place on were seen
pub record HasSeen (measurement : List ℕ) (tags : List Tag) (time : ℤ) (fields : List Pair) (left : ℕ) (c : Collected) : Type 0 where
  pub within : left ≤ length fields
  pub seen : IsCollected measurement tags time (drop left fields) c

-- a field whose key a later one has makes no difference, and any other is put before those that stand
stands : (f : Pair) (later : List Pair) → list_any (λ g. same_text (name_said f) (name_said g)) later ≡ false → last_ones (f ∷ later) ≡ f ∷ last_ones later
stands f later e = ap (λ t. cond t (last_ones later) (f ∷ last_ones later)) e

one_more : (points : List Point) (p : Point) → reverse (p ∷ points) ≡ reverse points ++ p ∷ []
one_more points p = reverse-append (p ∷ []) points

pub record IsPut (measurement : List ℕ) (tags : List Tag) (time : ℤ) (f : Pair) (old new : Collected) (name : List ℕ) : Type 0 where
  pub name_is : name ≡ name_said f
  pub fresh : list_any (same_text name) old.names.keys ≡ false
  pub names : new.names.keys ≡ old.names.keys ++ name ∷ []
  pub whole : is_float f.value ≡ false
  pub points : new.points.items ≡ old.points.items ++ point_of measurement tags time f ∷ []
  pub skipped : new.skipped ≡ old.skipped

swap_or : (a b : Bool) → (a || (b || false)) ≡ (b || a)
swap_or true true = refl
swap_or true false = refl
swap_or false true = refl
swap_or false false = refl

not_counted : (f : Pair) (fs : List Pair) → is_float f.value ≡ false → count_by (λ g. is_float g.value) fs ≡ count_by (λ g. is_float g.value) (f ∷ fs)
not_counted f fs e = ap (λ (t : Bool). fold (λ (n : ℕ) (g : Pair). n + cond (is_float g.value) 1 0) (0 + cond t 1 0) fs) (sym e)

pub with_point : (measurement : List ℕ) (tags : List Tag) (time : ℤ) (f : Pair) (later : List Pair) (old new : Collected) (name : List ℕ)
    → IsCollected measurement tags time later old → IsPut measurement tags time f old new name → IsCollected measurement tags time (f ∷ later) new
with_point measurement tags time f later old new name h put =
    let alone : list_any (λ g. same_text (name_said f) (name_said g)) later ≡ false = ap (λ n. list_any (λ g. same_text n (name_said g)) later) (sym put.name_is) ∙ sym (h.names name) ∙ put.fresh in
    let ones : last_ones (f ∷ later) ≡ f ∷ last_ones later = stands f later alone in
    let point : Pair → Point = point_of measurement tags time in
    let kept : Bool → List Pair = λ t. cond (not t) (f ∷ filter (λ g. not (is_float g.value)) (last_ones later)) (filter (λ g. not (is_float g.value)) (last_ones later)) in
    record {
      names = λ n.
          ap (list_any (same_text n)) put.names
          ∙ list_any-append (same_text n) old.names.keys (name ∷ [])
          ∙ swap_or (list_any (same_text n) old.names.keys) (same_text n name)
          ∙ ap (λ x. same_text n x || list_any (same_text n) old.names.keys) put.name_is
          ∙ ap (λ t. same_text n (name_said f) || t) (h.names n);
      points = put.points
          ∙ ap (λ ps. ps ++ point f ∷ []) h.points
          ∙ sym (one_more (points_among measurement tags time later) (point f))
          ∙ ap (λ t. reverse (map point (kept t))) (sym put.whole)
          ∙ ap (λ l. reverse (map point (filter (λ g. not (is_float g.value)) l))) (sym ones);
      skipped = put.skipped ∙ h.skipped
          ∙ not_counted f (last_ones later) put.whole
          ∙ ap (count_by (λ g. is_float g.value)) (sym ones);
      few = omega (arith, put.skipped, h.few);
    }

-- one field more is seen
pub seen_more : (measurement : List ℕ) (tags : List Tag) (time : ℤ) (fields : List Pair) (left : ℕ) (f : Pair) (old new : Collected) → HasSeen measurement tags time fields left old → 0 < left → f ≡ get_or fields (left - 1) f
    → (IsCollected measurement tags time (drop left fields) old → IsCollected measurement tags time (f ∷ drop left fields) new) → HasSeen measurement tags time fields (left - 1) new
seen_more measurement tags time fields left f old new h some is more =
    let within : left - 1 < length fields = omega (arith, h.within) in
    let step : suc (left - 1) ≡ left = omega arith in
    let cut : f ∷ drop left fields ≡ drop (left - 1) fields = ap (λ g. g ∷ drop left fields) is ∙ ap (λ n. get_or fields (left - 1) f ∷ drop n fields) (sym step) ∙ sym (drop-cons fields (left - 1) f within) in
    record { within = omega (arith, h.within); seen = subst (λ (l : List Pair). IsCollected measurement tags time l new) cut (more h.seen) }

-- what holds of the field that is next
pub next_narrow : (fields : List Pair) (i : ℕ) (d : Pair) → i < length fields → list_any is_wide fields ≡ false → is_wide (get_or fields i d) ≡ false
next_narrow [] i d within none = absurd (omega arith)
next_narrow (f ∷ fields) zero d within none = (or_parts _ _ none).0
next_narrow (f ∷ fields) (suc i) d within none = next_narrow fields i d (omega arith) (or_parts _ _ none).1

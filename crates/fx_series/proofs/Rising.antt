-- Values whose times rise, and a put among them.
use Rattle.std.proofs.Common.{◌≡◌, ℕ, suc, zero, ℤ, ◌+◌, ◌<◌, ◌≤◌, Bool, true, false, List, [], ◌∷◌, ◌++◌, length, refl, sym, ap, ◌∙◌, subst, arith, append-nil, append_assoc, length-append}
use Rattle.std.specs.declared.cmp.Ordering.{Ordering}
use Rattle.std.specs.declared.cmp.Ordering.TheVariants.{Less, Equal, Greater}
use Rattle.std.specs.Ordering.{int_cmp, is_lt, match_ordering, ordering_reverse}
use Rattle.std.specs.Cmp.{int_cmp_total}
use Rattle.std.specs.List.{AllByRecursion}
use Rattle.std.specs.BTreeMap.{insert_entry}
use Rattle.std.proofs.lemmas.Bool.{false≢true}
use Rattle.fx_value.specs.declared.scalar.Scalar.{Scalar}
use Rattle.fx_series.specs.Blocks.{Before, After, Rises}

pub turned : (a b : ℤ) → int_cmp a b ≡ Less → int_cmp b a ≡ Greater
turned a b h = int_cmp_total.antisymm b a ∙ ap ordering_reverse h

pub turned_back : (a b : ℤ) → int_cmp a b ≡ Greater → int_cmp b a ≡ Less
turned_back a b h = int_cmp_total.antisymm b a ∙ ap ordering_reverse h

-- a time that is not before t, and one behind it
pub reach : (a t f : ℤ) → is_lt (int_cmp a t) ≡ false → int_cmp a f ≡ Less → int_cmp t f ≡ Less
reach a t f h less =
    elim (int_cmp a t) as (λ o. int_cmp a t ≡ o → is_lt o ≡ false → int_cmp t f ≡ Less) [
      | Less ↦ λ e k. absurd (false≢true (sym k))
      | Equal ↦ λ e k. sym (int_cmp_total.congr a t f e) ∙ less
      | Greater ↦ λ e k. int_cmp_total.trans t a f (turned_back a t e) less
    ] refl h

-- ---- a put
pub insert_past : (t : ℤ) (v : Scalar) (es fs : List (ℤ × Scalar)) → Before t es → insert_entry int_cmp (es ++ fs) t v ≡ es ++ insert_entry int_cmp fs t v
insert_past t v [] fs h = refl
insert_past t v (e ∷ es) fs h =
    ap (λ o. match_ordering o ((t, v) ∷ e ∷ (es ++ fs)) ((e.0, v) ∷ (es ++ fs)) (e ∷ insert_entry int_cmp (es ++ fs) t v)) (turned e.0 t h.0)
    ∙ ap (λ l. e ∷ l) (insert_past t v es fs h.1)

pub insert_before : (t : ℤ) (v : Scalar) (es fs : List (ℤ × Scalar)) → After t fs → insert_entry int_cmp (es ++ fs) t v ≡ insert_entry int_cmp es t v ++ fs
insert_before t v [] [] h = refl
insert_before t v [] (f ∷ fs) h = ap (λ o. match_ordering o ((t, v) ∷ f ∷ fs) ((f.0, v) ∷ fs) (f ∷ insert_entry int_cmp fs t v)) h.0
insert_before t v (e ∷ es) fs h =
    elim (int_cmp t e.0) as (λ o. match_ordering o ((t, v) ∷ e ∷ (es ++ fs)) ((e.0, v) ∷ (es ++ fs)) (e ∷ insert_entry int_cmp (es ++ fs) t v)
    ≡ match_ordering o ((t, v) ∷ e ∷ es) ((e.0, v) ∷ es) (e ∷ insert_entry int_cmp es t v) ++ fs) [
      | Less ↦ refl
      | Equal ↦ refl
      | Greater ↦ ap (λ l. e ∷ l) (insert_before t v es fs h)
    ]

pub insert_end : (t : ℤ) (v : Scalar) (es : List (ℤ × Scalar)) → Before t es → insert_entry int_cmp es t v ≡ es ++ (t, v) ∷ []
insert_end t v es h = ap (λ l. insert_entry int_cmp l t v) (sym (append-nil es)) ∙ insert_past t v es [] h

after-insert : (k t : ℤ) (v : Scalar) (es : List (ℤ × Scalar)) → int_cmp k t ≡ Less → After k es → After k (insert_entry int_cmp es t v)
after-insert k t v [] less h = (less, tt)
after-insert k t v (e ∷ es) less h =
    elim (int_cmp t e.0) as (λ o. After k (match_ordering o ((t, v) ∷ e ∷ es) ((e.0, v) ∷ es) (e ∷ insert_entry int_cmp es t v))) [
      | Less ↦ (less, h)
      | Equal ↦ (h.0, h.1)
      | Greater ↦ (h.0, after-insert k t v es less h.1)
    ]

pub after_later : (a b : ℤ) (es : List (ℤ × Scalar)) → int_cmp a b ≡ Less → After b es → After a es
after_later a b [] less h = tt
after_later a b (e ∷ es) less h = (int_cmp_total.trans a b e.0 less h.0, after_later a b es less h.1)

pub rises-insert : (t : ℤ) (v : Scalar) (es : List (ℤ × Scalar)) → Rises es → Rises (insert_entry int_cmp es t v)
rises-insert t v [] h = (tt, tt)
rises-insert t v (e ∷ es) h =
    let rest = rises-insert t v es h.1 in
    elim (int_cmp t e.0) as (λ o. int_cmp t e.0 ≡ o → Rises (match_ordering o ((t, v) ∷ e ∷ es) ((e.0, v) ∷ es) (e ∷ insert_entry int_cmp es t v))) [
      | Less ↦ λ less. ((less, after_later t e.0 es less h.0), h)
      | Equal ↦ λ same. h
      | Greater ↦ λ more. (after-insert e.0 t v es (turned_back t e.0 more) h.0, rest)
    ] refl

pub length-insert : (t : ℤ) (v : Scalar) (es : List (ℤ × Scalar)) → (length (insert_entry int_cmp es t v) ≤ length es + 1) × (0 < length (insert_entry int_cmp es t v))
length-insert t v [] = (omega arith, omega arith)
length-insert t v (e ∷ es) =
    let rest = length-insert t v es in
    elim (int_cmp t e.0) as (λ o. (length (match_ordering o ((t, v) ∷ e ∷ es) ((e.0, v) ∷ es) (e ∷ insert_entry int_cmp es t v)) ≤ length (e ∷ es) + 1) × (0 < length (match_ordering o ((t, v) ∷ e ∷ es) ((e.0, v) ∷ es) (e ∷ insert_entry int_cmp es t v)))) [
      | Less ↦ (omega arith, omega arith)
      | Equal ↦ (omega arith, omega arith)
      | Greater ↦ (omega (arith, rest.0), omega arith)
    ]

-- ---- parts of rising values
pub after_front : (k : ℤ) (es fs : List (ℤ × Scalar)) → After k (es ++ fs) → After k es
after_front k [] fs a = tt
after_front k (f ∷ es) fs a = (a.0, after_front k es fs a.1)

pub rises_front : (es fs : List (ℤ × Scalar)) → Rises (es ++ fs) → Rises es
rises_front [] fs h = tt
rises_front (e ∷ es) fs h = (after_front e.0 es fs h.0, rises_front es fs h.1)

pub rises_back : (es fs : List (ℤ × Scalar)) → Rises (es ++ fs) → Rises fs
rises_back [] fs h = h
rises_back (e ∷ es) fs h = rises_back es fs h.1

-- a time before values that are before t is before t
pub first_less : (k t : ℤ) (es : List (ℤ × Scalar)) → After k es → Before t es → 0 < length es → int_cmp k t ≡ Less
first_less k t [] a b some = absurd (omega arith)
first_less k t (e ∷ es) a b some = int_cmp_total.trans k e.0 t a.0 b.0

pub before_front : (t : ℤ) (es fs : List (ℤ × Scalar)) → Rises (es ++ fs) → Before t fs → 0 < length fs → Before t (es ++ fs)
before_front t [] fs h b some = b
before_front t (e ∷ es) fs h b some =
    let rest = before_front t es fs h.1 b some in
    (first_less e.0 t (es ++ fs) h.0 rest (omega (arith, length-append es fs)), rest)

-- A put into one block.
use Rattle.std.proofs.Common.{◌≡◌, ℕ, suc, zero, ℤ, ◌+◌, ◌-◌, ◌<◌, ◌≤◌, Bool, true, false, List, [], ◌∷◌, ◌++◌, length, take, drop, get_or, map, refl, sym, ap, ◌∙◌, subst, arith, append-nil, append_assoc, length-append, take-append-drop, int_lt, cond}
use Rattle.std.proofs.Math.ListN.{set}
use Rattle.std.specs.List.{AllByRecursion, insert}
use Rattle.std.specs.declared.cmp.Ordering.TheVariants.{Less, Equal, Greater}
use Rattle.std.specs.Ordering.{int_cmp, is_lt, match_ordering, ordering_reverse}
use Rattle.std.specs.Cmp.{int_cmp_total, tied_itself}
use Rattle.std.specs.FinMap.{int_cmp-IsAntisymmetric}
use Rattle.std.specs.BTreeMap.{insert_entry}
use Rattle.std.proofs.lemmas.Bool.{false≢true}
use Rattle.fx_value.specs.declared.scalar.Scalar.{Scalar}
use Rattle.fx_series.specs.declared.series.TimeValue.{TimeValue}
use Rattle.fx_series.specs.Read.{pairs}
use Rattle.fx_series.specs.Blocks.{Before, After, Rises, IsPlace, last_time}
use Rattle.fx_series.proofs.Rising.{turned, reach, insert_past, first_less}

-- what stands before a value that is before a time is before it
after_at : (k : ℤ) (ps : List TimeValue) (i : ℕ) (d : TimeValue) → i < length ps → After k (pairs ps) → int_cmp k (get_or ps i d).time ≡ Less
after_at k [] i d within a = absurd (omega arith)
after_at k (p ∷ ps) zero d within a = a.0
after_at k (p ∷ ps) (suc i) d within a = after_at k ps i d (omega arith) a.1

pub below_at : (t : ℤ) (ps : List TimeValue) (i : ℕ) (d : TimeValue) → i < length ps → Rises (pairs ps) → int_cmp (get_or ps i d).time t ≡ Less → Before t (pairs (take (suc i) ps))
below_at t [] i d within h less = absurd (omega arith)
below_at t (p ∷ ps) zero d within h less = (less, tt)
below_at t (p ∷ ps) (suc i) d within h less =
    (int_cmp_total.trans p.time (get_or ps i d).time t (after_at p.time ps i d (omega arith) h.0) less, below_at t ps i d (omega arith) h.1 less)

-- where a search from the end has come
pub record IsFrom (ps : List TimeValue) (time : ℤ) (place : ℕ) : Type 0 where
  pub within : place ≤ length ps
  pub above : (d : TimeValue) → place < length ps → is_lt (int_cmp (get_or ps place d).time time) ≡ false

pub less_is : (a b : ℤ) → is_lt (int_cmp a b) ≡ true → int_cmp a b ≡ Less
less_is a b h =
    elim (int_cmp a b) as (λ o. is_lt o ≡ true → o ≡ Less) [
      | Less ↦ λ k. refl
      | Equal ↦ λ k. absurd (false≢true k)
      | Greater ↦ λ k. absurd (false≢true k)
    ] h

pub found_below : (ps : List TimeValue) (time : ℤ) (place : ℕ) (d : TimeValue) → Rises (pairs ps) → IsFrom ps time place → 0 < place → is_lt (int_cmp (get_or ps (place - 1) d).time time) ≡ true → IsPlace ps time place
found_below ps time place d h from some less =
    let step : suc (place - 1) ≡ place = omega arith in
    record {
      within = from.within;
      below = subst (λ n. Before time (pairs (take n ps))) step (below_at time ps (place - 1) d (omega (arith, from.within)) h (less_is (get_or ps (place - 1) d).time time less));
      above = from.above;
    }

pub found_none : (ps : List TimeValue) (time : ℤ) (place : ℕ) → IsFrom ps time place → place ≡ 0 → IsPlace ps time place
found_none ps time place from none = record {
  within = from.within;
  below = subst (λ n. Before time (pairs (take n ps))) (sym none) tt;
  above = from.above;
}

-- the two ways to put
pairs-append : (ps qs : List TimeValue) → pairs (ps ++ qs) ≡ pairs ps ++ pairs qs
pairs-append [] qs = refl
pairs-append (p ∷ ps) qs = ap (λ l. (p.time, p.value) ∷ l) (pairs-append ps qs)

parted : (i : ℕ) (ps : List TimeValue) → pairs ps ≡ pairs (take i ps) ++ pairs (drop i ps)
parted i ps = ap pairs (sym (take-append-drop i ps)) ∙ pairs-append (take i ps) (drop i ps)

first_of : (i : ℕ) (ps : List TimeValue) (time : ℤ) (value : Scalar) → ((d : TimeValue) → i < length ps → int_cmp time (get_or ps i d).time ≡ Less) → insert_entry int_cmp (pairs (drop i ps)) time value ≡ (time, value) ∷ pairs (drop i ps)
first_of zero [] time value h = refl
first_of zero (p ∷ ps) time value h =
    ap (λ o. match_ordering o ((time, value) ∷ (p.time, p.value) ∷ pairs ps) ((p.time, value) ∷ pairs ps) ((p.time, p.value) ∷ insert_entry int_cmp (pairs ps) time value)) (h p (omega arith))
first_of (suc i) [] time value h = refl
first_of (suc i) (p ∷ ps) time value h = first_of i ps time value (λ d within. h d (omega arith))

pub insert_there : (ps : List TimeValue) (i : ℕ) (time : ℤ) (value : Scalar) → Before time (pairs (take i ps)) → ((d : TimeValue) → i < length ps → int_cmp time (get_or ps i d).time ≡ Less)
    → pairs (insert ps i (record { time = time; value = value })) ≡ insert_entry int_cmp (pairs ps) time value
insert_there ps i time value below above =
    pairs-append (take i ps) (record { time = time; value = value } ∷ drop i ps)
    ∙ ap (λ l. pairs (take i ps) ++ l) (sym (first_of i ps time value above))
    ∙ sym (insert_past time value (pairs (take i ps)) (pairs (drop i ps)) below)
    ∙ ap (λ l. insert_entry int_cmp l time value) (sym (parted i ps))

pub set_there : (ps : List TimeValue) (i : ℕ) (d : TimeValue) (time : ℤ) (value : Scalar) → Before time (pairs (take i ps)) → i < length ps → (get_or ps i d).time ≡ time
    → pairs (set ps i (record { time = (get_or ps i d).time; value = value })) ≡ insert_entry int_cmp (pairs ps) time value
set_there [] i d time value below within same = absurd (omega arith)
set_there (p ∷ ps) zero d time value below within same =
    let tied : int_cmp time p.time ≡ Equal = ap (int_cmp time) same ∙ tied_itself int_cmp_total time in
    ap (λ o. match_ordering o ((time, value) ∷ (p.time, p.value) ∷ pairs ps) ((p.time, value) ∷ pairs ps) ((p.time, p.value) ∷ insert_entry int_cmp (pairs ps) time value)) (sym tied)
set_there (p ∷ ps) (suc i) d time value below within same =
    ap (λ l. (p.time, p.value) ∷ l) (set_there ps i d time value below.1 (omega arith) same)
    ∙ ap (λ o. match_ordering o ((time, value) ∷ (p.time, p.value) ∷ pairs ps) ((p.time, value) ∷ pairs ps) ((p.time, p.value) ∷ insert_entry int_cmp (pairs ps) time value)) (sym (turned p.time time below.0))

-- a time that is not before another and differs is behind it
pub behind : (a t : ℤ) → is_lt (int_cmp a t) ≡ false → (a ≡ t → ⊥) → int_cmp t a ≡ Less
behind a t h other =
    elim (int_cmp a t) as (λ o. int_cmp a t ≡ o → is_lt o ≡ false → int_cmp t a ≡ Less) [
      | Less ↦ λ e k. absurd (false≢true (sym k))
      | Equal ↦ λ e k. absurd (other (int_cmp-IsAntisymmetric a t e))
      | Greater ↦ λ e k. int_cmp_total.antisymm t a ∙ ap ordering_reverse e
    ] refl h

pub lt_test : (a b : ℤ) → int_lt a b ≡ is_lt (int_cmp a b)
lt_test a b =
    elim (int_lt a b) as (λ t. t ≡ is_lt (cond t Less (cond (int_lt b a) Greater Equal))) [
      | true ↦ refl
      | false ↦ elim (int_lt b a) as (λ u. false ≡ is_lt (cond u Greater Equal)) [
        | true ↦ refl
        | false ↦ refl
      ]
    ]

pub last_is : (vs : List TimeValue) (d : TimeValue) → 0 < length vs → (get_or vs (length vs - 1) d).time ≡ last_time vs
last_is [] d some = absurd (omega arith)
last_is (v ∷ []) d some = refl
last_is (v ∷ w ∷ vs) d some =
    let step : length (v ∷ w ∷ vs) - 1 ≡ suc (length (w ∷ vs) - 1) = omega arith in
    ap (λ n. (get_or (v ∷ w ∷ vs) n d).time) step ∙ last_is (w ∷ vs) d (omega arith)

pub get_or_any : (ps : List TimeValue) (i : ℕ) (a b : TimeValue) → i < length ps → get_or ps i a ≡ get_or ps i b
get_or_any [] i a b within = absurd (omega arith)
get_or_any (p ∷ ps) zero a b within = refl
get_or_any (p ∷ ps) (suc i) a b within = get_or_any ps i a b (omega arith)

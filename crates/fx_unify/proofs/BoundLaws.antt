-- What bounds leave to free variables.
use Rattle.std.proofs.Common.{◌≡◌, ◌≢◌, inl, inr, refl, sym, ap, subst, ◌∙◌, ℕ, zero, suc, ◌+◌, ◌<◌, ◌≤◌, ◌==◌, ◌&&◌, eqb-true, eq-eqb, Bool, true, false, List, [], ◌∷◌, ◌++◌, take, get_or, length, None, Result, Ok, Err, arith}
use Rattle.std.specs.Prelude.{if◌then◌else◌}
use Rattle.std.proofs.lemmas.List.{take_more}
use Rattle.std.proofs.lemmas.Bool.{and_from, and_parts}
use mathlib.Core.Bool.{true≢false}
use Rattle.fx_types.proofs.ShapeLaws.{term_variable, term_bool, term_int, term_text, term_time, term_span, term_pattern, term_done, term_array, term_fun, term_rec, term_stream}
use Rattle.fx_types.specs.declared.term.Ty.{Ty}
use Rattle.fx_types.specs.declared.term.Ty.TheVariants as ty
use Rattle.fx_types.specs.Ground.{Ground, g_bool, g_int, g_text, g_time, g_span, g_pattern, g_done, g_array, g_fun, g_rec, g_stream, g_is}
use Rattle.fx_types.specs.Term.{Term, type_variable}
use Rattle.fx_types.specs.Instance.{Solution, ground}
use Rattle.fx_types.specs.Shape.{term}
use Rattle.fx_unify.specs.declared.bound.Bound as bounds
use Rattle.fx_unify.specs.declared.fault.UnifyFault.{UnifyFault}
use Rattle.fx_unify.specs.declared.fault.UnifyFault.TheVariants as fault
use Rattle.fx_unify.specs.declared.sorts.Sorts as sorts
use Rattle.fx_unify.specs.declared.store.Store as stores
use Rattle.fx_unify.specs.Bounds.{Keeps, Inside, AreSome, AreScalar, Met, AllMet, Narrowed, NarrowingBy, NarrowingAt}
use Rattle.fx_unify.specs.Measure.{least}
use Rattle.fx_unify.specs.Part.{p_is, value, Solved, type_node}
use Rattle.fx_unify.specs.Sorts.{allows, plainest_of, plain_values, set_at, Allowed, every}
use Rattle.fx_unify.specs.Store.{entry, bound_to}
use Rattle.fx_unify.specs.Tag.{tag_of}
use Rattle.fx_unify.specs.Work.{Told}
use Rattle.fx_unify.proofs.Cases.{Form, is_bool, is_int, is_text, is_time, is_span, is_pattern, is_done, is_variable, is_array, is_fun, is_rec, is_stream, form_of}
use Rattle.fx_unify.proofs.DecideLaws.{no_item}
use Rattle.fx_unify.proofs.LeastLaws.{free_type}
use Rattle.fx_types.proofs.Lists.{take_all}
use Rattle.fx_unify.proofs.SolvingLaws.{type_is}
use Rattle.fx_types.proofs.Choices.{by_cases}

-- sets

every_allows : (g : Ground) → allows every g ≡ true
every_allows g_bool = refl
every_allows g_int = refl
every_allows g_text = refl
every_allows g_time = refl
every_allows g_span = refl
every_allows g_pattern = refl
every_allows g_done = refl
every_allows (g_array t) = refl
every_allows (g_fun r p t) = refl
every_allows (g_rec r) = refl
every_allows (g_stream r) = refl

nothing_set : (n : ℕ) → set_at [] n ≡ every
nothing_set n = no_item [] n every (omega arith)

pub allowed_start : (s : Solution) → Allowed s []
allowed_start s n = subst (λ k. allows k (s.type_of n) ≡ true) (sym (nothing_set n)) (every_allows (s.type_of n))

pub some_start : AreSome []
some_start n = subst (λ k. allows k (plainest_of k) ≡ true) (sym (nothing_set n)) refl

scalar_start : AreScalar []
scalar_start n = subst (λ k. allows k g_pattern ≡ true → allows k g_int ≡ true) (sym (nothing_set n)) (λ h. refl)

abbrev pub Prefix : stores.Store → List sorts.Sorts → List bounds.Bound → Type 0
Prefix st ks bs = ((s : Solution) → Solved s (entry st) → Keeps s bs → Allowed s ks) × AllMet st ks bs × AreSome ks × AreScalar ks

pub start_at : (st : stores.Store) (ks : List sorts.Sorts) → ks ≡ [] → Prefix st ks []
start_at st ks e = (λ s solved keeps. subst (Allowed s) (sym e) (allowed_start s), tt, subst AreSome (sym e) some_start, subst AreScalar (sym e) scalar_start)

pub default_added : {A : Type 0} (xs : List A) (n : ℕ) (d : A) → get_or (xs ++ d ∷ []) n d ≡ get_or xs n d
default_added [] zero d = refl
default_added [] (suc n) d = refl
default_added (x ∷ xs) zero d = refl
default_added (x ∷ xs) (suc n) d = default_added xs n d

-- heads

scalar : (k : sorts.Sorts) (t : Ty) (x : Term) (b : Bool) → term t ≡ x → ((s : Solution) → allows k (ground s x) ≡ b) → (s : Solution) → allows k (ground s (term t)) ≡ b
scalar k t x b e h s = ap (λ y. allows k (ground s y)) e ∙ h s

pub holds_bool : (k : sorts.Sorts) (t : Ty) → t ≡ ty.Bool → (s : Solution) → allows k (ground s (term t)) ≡ k.boolean
holds_bool k t e = scalar k t _ k.boolean (ap term e ∙ term_bool) (λ s. refl)

pub holds_int : (k : sorts.Sorts) (t : Ty) → t ≡ ty.Int → (s : Solution) → allows k (ground s (term t)) ≡ k.integer
holds_int k t e = scalar k t _ k.integer (ap term e ∙ term_int) (λ s. refl)

pub holds_text : (k : sorts.Sorts) (t : Ty) → t ≡ ty.Text → (s : Solution) → allows k (ground s (term t)) ≡ k.text
holds_text k t e = scalar k t _ k.text (ap term e ∙ term_text) (λ s. refl)

pub holds_time : (k : sorts.Sorts) (t : Ty) → t ≡ ty.Time → (s : Solution) → allows k (ground s (term t)) ≡ k.time
holds_time k t e = scalar k t _ k.time (ap term e ∙ term_time) (λ s. refl)

pub holds_span : (k : sorts.Sorts) (t : Ty) → t ≡ ty.Span → (s : Solution) → allows k (ground s (term t)) ≡ k.span
holds_span k t e = scalar k t _ k.span (ap term e ∙ term_span) (λ s. refl)

other_form : (k : sorts.Sorts) (t : Ty) → Form t → tag_of (term t) ≤ 11 → t ≢ ty.Bool → t ≢ ty.Int → t ≢ ty.Text → t ≢ ty.Time → t ≢ ty.Span → (s : Solution) → allows k (ground s (term t)) ≡ k.other
other_form k t (is_bool q) le a b c d e = absurd (a q)
other_form k t (is_int q) le a b c d e = absurd (b q)
other_form k t (is_text q) le a b c d e = absurd (c q)
other_form k t (is_time q) le a b c d e = absurd (d q)
other_form k t (is_span q) le a b c d e = absurd (e q)
other_form k t (is_pattern q) le a b c d e = scalar k t _ k.other (ap term q ∙ term_pattern) (λ s. refl)
other_form k t (is_done q) le a b c d e = scalar k t _ k.other (ap term q ∙ term_done) (λ s. refl)
other_form k t (is_array x q) le a b c d e = scalar k t _ k.other (ap term q ∙ term_array x) (λ s. refl)
other_form k t (is_fun x q) le a b c d e = scalar k t _ k.other (ap term q ∙ term_fun x) (λ s. refl)
other_form k t (is_rec x q) le a b c d e = scalar k t _ k.other (ap term q ∙ term_rec x) (λ s. refl)
other_form k t (is_stream x q) le a b c d e = scalar k t _ k.other (ap term q ∙ term_stream x) (λ s. refl)
other_form k t (is_variable n q) le a b c d e = let tag : tag_of (term t) ≡ 12 = ap tag_of (ap term q ∙ term_variable n) in absurd (omega arith)

pub holds_other : (k : sorts.Sorts) (t : Ty) → tag_of (term t) ≤ 11 → t ≢ ty.Bool → t ≢ ty.Int → t ≢ ty.Text → t ≢ ty.Time → t ≢ ty.Span → (s : Solution) → allows k (ground s (term t)) ≡ k.other
holds_other k t le a b c d e = other_form k t (form_of t) le a b c d e

-- one bound

module _ (st : stores.Store) (b : bounds.Bound) (head : Ty) (same : (s : Solution) → Solved s (entry st) → value s (p_is (term head)) ≡ value s (p_is (term (ty.Var b.var)))) where
  stands : (s : Solution) → Solved s (entry st) → s.type_of b.var ≡ ground s (term head)
  stands s solved = sym ((type_is (ground s (term head)) (s.type_of b.var)).0 (same s solved ∙ ap (λ t. g_is (ground s t)) (term_variable b.var)))

  pub by_head : (ks : List sorts.Sorts) (r : Bool) → ((s : Solution) → allows b.sorts (ground s (term head)) ≡ r) → r ≡ true → NarrowingBy {A = Unit {0}} (Ok tt) st ks ks b
  by_head ks r holds e = (λ s solved a h. h, inl (λ s solved. ap (allows b.sorts) (stands s solved) ∙ holds s ∙ e), λ n g h. h, λ h. h, λ h. h)

  pub no_head : (old new : List sorts.Sorts) (r : Bool) → ((s : Solution) → allows b.sorts (ground s (term head)) ≡ r) → r ≡ false → NarrowingBy {A = Unit {0}} (Err fault.Clash) st old new b
  no_head old new r holds e = λ s solved a h. absurd (true≢false (sym a ∙ ap (allows b.sorts) (stands s solved) ∙ holds s ∙ e))

  pub by_variable : (m : ℕ) → head ≡ ty.Var m → bound_to (entry st) (p_is (term head)) ≡ None → (old new : List sorts.Sorts) (r : Result (Unit {0}) UnifyFault)
      → NarrowingAt r old new m b.sorts → NarrowingBy r st old new b
  by_variable m e free old new (Ok a) h = (allowed, inr (m, none, λ s solved. as_var s solved, λ g k. (and_parts (allows (set_at old m) g) (allows b.sorts g) (sym (h.1 g) ∙ k)).1), inside, some, scalar_left)
    where
      is : term head ≡ type_variable m
      is = ap term e ∙ term_variable m

      none : entry st (type_node m) ≡ None
      none = ap (λ t. bound_to (entry st) (p_is t)) (sym is) ∙ free

      as_var : (s : Solution) → Solved s (entry st) → s.type_of b.var ≡ s.type_of m
      as_var s solved = stands s solved ∙ ap (ground s) is

      allowed : (s : Solution) → Solved s (entry st) → allows b.sorts (s.type_of b.var) ≡ true → Allowed s old → Allowed s new
      allowed s solved a k n =
          by_cases (n == m)
          (λ t. let same_n : n ≡ m = eqb-true n m t in
          subst (λ i. allows (set_at new i) (s.type_of i) ≡ true) (sym same_n)
          (h.1 (s.type_of m) ∙ and_from (allows (set_at old m) (s.type_of m)) (allows b.sorts (s.type_of m)) (k m) (ap (allows b.sorts) (sym (as_var s solved)) ∙ a)))
          (λ t. ap (λ j. allows j (s.type_of n)) (h.0 n (λ f. absurd (true≢false (sym (eq-eqb n m f) ∙ t)))) ∙ k n)

      inside : (n : ℕ) → Inside (set_at new n) (set_at old n)
      inside n g k =
          by_cases (n == m)
          (λ t. let same_n : n ≡ m = eqb-true n m t in
          subst (λ i. allows (set_at old i) g ≡ true) (sym same_n)
          (and_parts (allows (set_at old m) g) (allows b.sorts g) (sym (h.1 g) ∙ subst (λ i. allows (set_at new i) g ≡ true) same_n k)).0)
          (λ t. ap (λ j. allows j g) (sym (h.0 n (λ f. absurd (true≢false (sym (eq-eqb n m f) ∙ t))))) ∙ k)

      some : AreSome old → AreSome new
      some k n =
          by_cases (n == m) (λ t. subst (λ i. allows (set_at new i) (plainest_of (set_at new i)) ≡ true) (sym (eqb-true n m t)) h.2)
          (λ t. subst (λ j. allows j (plainest_of j) ≡ true) (sym (h.0 n (λ f. absurd (true≢false (sym (eq-eqb n m f) ∙ t))))) (k n))

      scalar_left : AreScalar old → AreScalar new
      scalar_left k n =
          by_cases (n == m)
          (λ t a. (let there : allows (set_at new m) g_pattern ≡ true = subst (λ i. allows (set_at new i) g_pattern ≡ true) (eqb-true n m t) a in
          absurd (true≢false (sym (and_parts (allows (set_at old m) g_pattern) (allows b.sorts g_pattern) (sym (h.1 g_pattern) ∙ there)).1 ∙ b.scalar))))
          (λ t. subst (λ j. allows j g_pattern ≡ true → allows j g_int ≡ true) (sym (h.0 n (λ f. absurd (true≢false (sym (eq-eqb n m f) ∙ t))))) (k n))
  by_variable m e free old new (Err fault.Clash) h =
      λ s solved a k. (let as_var : s.type_of b.var ≡ s.type_of m = stands s solved ∙ ap (ground s) (ap term e ∙ term_variable m) in
      absurd (true≢false (sym (and_from (allows (set_at old m) (s.type_of m)) (allows b.sorts (s.type_of m)) (k m) (ap (allows b.sorts) (sym as_var) ∙ a)) ∙ h (s.type_of m))))
  by_variable m e free old new (Err fault.Memory) h = tt

-- a free variable

pub put_at : (old new : List sorts.Sorts) (n : ℕ) (k was left : sorts.Sorts) → was ≡ set_at old n → ((g : Ground) → allows left g ≡ (allows was g && allows k g)) → allows left (plainest_of left) ≡ true
    → ((m : ℕ) → set_at new m ≡ (if m == n then left else set_at old m)) → NarrowingAt {A = Unit {0}} (Ok tt) old new n k
put_at old new n k was left is meet some put = (
  λ m apart. put m ∙ by_cases (m == n) (λ t. absurd (apart (eqb-true m n t))) (λ t. ap (λ b. if b then left else set_at old m) t),
  λ g. ap (λ j. allows j g) there ∙ meet g ∙ ap (λ j. allows j g && allows k g) is,
  subst (λ j. allows j (plainest_of j) ≡ true) (sym there) some,
)
  where
    there : set_at new n ≡ left
    there = put n ∙ ap (λ b. if b then left else set_at old n) (eq-eqb n n refl)

pub left_none : (old new : List sorts.Sorts) (n : ℕ) (k was left : sorts.Sorts) → was ≡ set_at old n → ((g : Ground) → allows left g ≡ (allows was g && allows k g))
    → ((g : Ground) → allows left g ≡ false) → NarrowingAt {A = Unit {0}} (Err fault.Clash) old new n k
left_none old new n k was left is meet none = λ g. sym (ap (λ j. allows j g && allows k g) is) ∙ sym (meet g) ∙ none g

-- all bounds

pub item_again : {A : Type 0} (xs : List A) (i : ℕ) (d : A) → i < length xs → get_or xs i d ≡ get_or xs i (get_or xs i d)
item_again [] i d lt = absurd (omega arith)
item_again (x ∷ xs) zero d lt = refl
item_again (x ∷ xs) (suc i) d lt = item_again xs i d (omega arith)

keeps_take : (s : Solution) (bs : List bounds.Bound) (i : ℕ) → Keeps s bs → Keeps s (take i bs)
keeps_take s [] zero h = tt
keeps_take s [] (suc i) h = tt
keeps_take s (b ∷ bs) zero h = tt
keeps_take s (b ∷ bs) (suc i) h = (h.0, keeps_take s bs i h.1)

keeps_at : (s : Solution) (bs : List bounds.Bound) (i : ℕ) (b : bounds.Bound) → Keeps s bs → i < length bs → b ≡ get_or bs i b → allows b.sorts (s.type_of b.var) ≡ true
keeps_at s [] i b h lt e = absurd (omega arith)
keeps_at s (c ∷ bs) zero b h lt e = subst (λ x. allows x.sorts (s.type_of x.var) ≡ true) (sym e) h.0
keeps_at s (c ∷ bs) (suc i) b h lt e = keeps_at s bs i b h.1 (omega arith) e

keeps_last : (s : Solution) (bs : List bounds.Bound) (b : bounds.Bound) → Keeps s (bs ++ b ∷ []) → Keeps s bs × (allows b.sorts (s.type_of b.var) ≡ true)
keeps_last s [] b h = (tt, h.0)
keeps_last s (c ∷ bs) b h = let more : Keeps s bs × (allows b.sorts (s.type_of b.var) ≡ true) = keeps_last s bs b h.1 in ((h.0, more.0), more.1)

met_inside : (st : stores.Store) (old new : List sorts.Sorts) (b : bounds.Bound) → ((n : ℕ) → Inside (set_at new n) (set_at old n)) → Met st old b → Met st new b
met_inside st old new b inside (inl h) = inl h
met_inside st old new b inside (inr h) = inr (h.0, h.1, h.2, λ g k. h.3 g (inside h.0 g k))

all_met_more : (st : stores.Store) (old new : List sorts.Sorts) (bs : List bounds.Bound) (b : bounds.Bound) → ((n : ℕ) → Inside (set_at new n) (set_at old n)) → AllMet st old bs → Met st new b
    → AllMet st new (bs ++ b ∷ [])
all_met_more st old new [] b inside h m = (m, tt)
all_met_more st old new (c ∷ bs) b inside h m = (met_inside st old new c inside h.0, all_met_more st old new bs b inside h.1 m)

pub one_narrowed : (st : stores.Store) (old new : List sorts.Sorts) (bs : List bounds.Bound) (i : ℕ) (b : bounds.Bound) → i < length bs → b ≡ get_or bs i b → Prefix st old (take i bs)
    → NarrowingBy {A = Unit {0}} (Ok tt) st old new b → Prefix st new (take (i + 1) bs)
one_narrowed st old new bs i b lt at h n =
    let next : take (i + 1) bs ≡ take i bs ++ b ∷ [] = take_more bs i b lt ∙ ap (λ d. take i bs ++ d ∷ []) (sym at) in (
      λ s solved keeps. (let split : Keeps s (take i bs) × (allows b.sorts (s.type_of b.var) ≡ true) = keeps_last s (take i bs) b (subst (Keeps s) next keeps) in
          n.0 s solved split.1 (h.0 s solved split.0)),
      subst (AllMet st new) (sym next) (all_met_more st old new (take i bs) b n.2 h.1 n.1),
      n.3 h.2,
      n.4 h.3,
    )

pub one_refused : (st : stores.Store) (old new : List sorts.Sorts) (bs : List bounds.Bound) (i : ℕ) (b : bounds.Bound) (f : UnifyFault) → i < length bs → b ≡ get_or bs i b
    → Prefix st old (take i bs) → NarrowingBy {A = Unit {0}} (Err f) st old new b → Told f ((s : Solution) → Solved s (entry st) → Keeps s bs → ⊥)
one_refused st old new bs i b fault.Clash lt at h n = λ s solved keeps. n s solved (keeps_at s bs i b keeps lt at) (h.0 s solved (keeps_take s bs i keeps))
one_refused st old new bs i b fault.Memory lt at h n = tt

least_keeps : (st : stores.Store) (ks : List sorts.Sorts) (bs : List bounds.Bound) (k : ℕ) → AreSome ks → Solved (least st ks k) (entry st) → AllMet st ks bs → Keeps (least st ks k) bs
least_keeps st ks [] k some solved h = tt
least_keeps st ks (b ∷ bs) k some solved h = (one h.0, least_keeps st ks bs k some solved h.1)
  where
    one : Met st ks b → allows b.sorts ((least st ks k).type_of b.var) ≡ true
    one (inl m) = m (least st ks k) solved
    one (inr m) =
        ap (allows b.sorts) (m.2 (least st ks k) solved ∙ free_type (entry st) (plain_values ks) m.0 k m.1) ∙ m.3 (plainest_of (set_at ks m.0)) (some m.0)

pub all_narrowed : (st : stores.Store) (ks : List sorts.Sorts) (bs : List bounds.Bound) (i : ℕ) → length bs ≤ i → Prefix st ks (take i bs) → Narrowed st ks bs
all_narrowed st ks bs i le h =
    let all : Prefix st ks bs = subst (Prefix st ks) (take_all bs i le) h in
    (all.0, λ k solved. least_keeps st ks bs k all.2 solved all.1, all.2, all.3)

pub all_bounds_met : (st : stores.Store) (ks : List sorts.Sorts) (bs : List bounds.Bound) (i : ℕ) → length bs ≤ i → Prefix st ks (take i bs) → AllMet st ks bs
all_bounds_met st ks bs i le h = let all : Prefix st ks bs = subst (Prefix st ks) (take_all bs i le) h in all.1

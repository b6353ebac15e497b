-- What a read of blocks looks at, and what it leaves out.
use Rattle.std.proofs.Common.{◌≡◌, ℕ, suc, zero, ℤ, pos, negsuc, ◌+◌, ◌<◌, ◌≤◌, Bool, true, false, not, ◌&&◌, cond, List, [], ◌∷◌, ◌++◌, length, take, drop, map, refl, sym, ap, ◌∙◌, subst, arith, append-nil, append_assoc, length-append, int_le}
use Rattle.std.specs.Prelude.{filter}
use Rattle.std.specs.List.{AllByRecursion}
use Rattle.std.specs.declared.cmp.Ordering.TheVariants.{Less, Equal, Greater}
use Rattle.std.specs.Ordering.{int_cmp, is_lt}
use Rattle.std.specs.Cmp.{int_cmp_total}
use Rattle.std.proofs.lemmas.Bool.{false≢true, cond-false, cond-true}
use Rattle.std.proofs.lemmas.Int.{ints}
use Rattle.fx_value.specs.declared.scalar.Scalar.{Scalar}
use Rattle.fx_series.specs.declared.series.TimeValue.{TimeValue}
use Rattle.fx_series.specs.Read.{pairs, between}
use Rattle.fx_series.specs.Blocks.{entries_in, Before, After, Rises, IsBlock, first_time, looked}
use Rattle.fx_series.proofs.Rising.{rises_back, after_later}
use Rattle.fx_series.proofs.InBlock.{less_is}

pub between-append : (first last : ℤ) (es fs : List (ℤ × Scalar)) → between first last (es ++ fs) ≡ between first last es ++ between first last fs
between-append first last [] fs = refl
between-append first last (e ∷ es) fs =
    elim (int_le first e.0 && int_le e.0 last) as (λ t. cond t (e ∷ between first last (es ++ fs)) (between first last (es ++ fs)) ≡ cond t (e ∷ between first last es) (between first last es) ++ between first last fs) [
      | true ↦ ap (λ l. e ∷ l) (between-append first last es fs)
      | false ↦ between-append first last es fs
    ]

late : (first last t : ℤ) → int_cmp last t ≡ Less → (int_le first t && int_le t last) ≡ false
late first last t h = grind (arith, ints)

early : (first last t : ℤ) → int_cmp t first ≡ Less → (int_le first t && int_le t last) ≡ false
early first last t h = grind (arith, ints)

pub none_after : (first last : ℤ) (es : List (ℤ × Scalar)) → After last es → between first last es ≡ []
none_after first last [] h = refl
none_after first last (e ∷ es) h = cond-false _ _ _ (late first last e.0 h.0) ∙ none_after first last es h.1

pub none_before : (first last : ℤ) (es : List (ℤ × Scalar)) → Before first es → between first last es ≡ []
none_before first last [] h = refl
none_before first last (e ∷ es) h = cond-false _ _ _ (early first last e.0 h.0) ∙ none_before first last es h.1

-- where a block begins after a time, all that follows does
all_after : (last : ℤ) (b : List TimeValue) (bs : List (List TimeValue)) → 0 < length b → Rises (entries_in (b ∷ bs)) → int_cmp last (first_time b) ≡ Less → After last (entries_in (b ∷ bs))
all_after last [] bs some h less = absurd (omega arith)
all_after last (v ∷ vs) bs some h less = (less, after_later last v.time (pairs vs ++ entries_in bs) less h.0)

pub between_looked : (first last : ℤ) (bs : List (List TimeValue)) → AllByRecursion IsBlock bs → Rises (entries_in bs) → between first last (entries_in (looked last bs)) ≡ between first last (entries_in bs)
between_looked first last [] each h = refl
between_looked first last (b ∷ bs) each h =
    elim (is_lt (int_cmp last (first_time b))) as (λ t. is_lt (int_cmp last (first_time b)) ≡ t → between first last (entries_in (cond t [] (b ∷ looked last bs))) ≡ between first last (entries_in (b ∷ bs))) [
      | true ↦ λ e. sym (none_after first last (entries_in (b ∷ bs)) (all_after last b bs each.0.0 h (less_is last (first_time b) e)))
      | false ↦ λ e.
          between-append first last (pairs b) (entries_in (looked last bs))
          ∙ ap (λ l. between first last (pairs b) ++ l) (between_looked first last bs each.1 (rises_back (pairs b) (entries_in bs) h))
          ∙ sym (between-append first last (pairs b) (entries_in bs))
    ] refl

-- ---- how much is looked at
length-pairs : (ps : List TimeValue) → length (pairs ps) ≡ length ps
length-pairs [] = refl
length-pairs (p ∷ ps) = ap suc (length-pairs ps)

inside : (first last t u : ℤ) → int_cmp first t ≡ Less → int_cmp t u ≡ Less → is_lt (int_cmp last u) ≡ false → (int_le first t && int_le t last) ≡ true
inside first last t u a b c = grind (arith, ints)

after_back : (k : ℤ) (es fs : List (ℤ × Scalar)) → After k (es ++ fs) → After k fs
after_back k [] fs a = a
after_back k (e ∷ es) fs a = after_back k es fs a.1

-- values between a time and a value that is looked at are in the range
whole : (first last u : ℤ) (es fs : List (ℤ × Scalar)) → After first es → Rises (es ++ fs) → ((k : ℤ) → After k fs → int_cmp k u ≡ Less) → is_lt (int_cmp last u) ≡ false → between first last es ≡ es
whole first last u [] fs a h head near = refl
whole first last u (e ∷ es) fs a h head near =
    cond-true _ _ _ (inside first last e.0 u a.0 (head e.0 (after_back e.0 es fs h.0)) near) ∙ ap (λ l. e ∷ l) (whole first last u es fs a.1 h.1 head near)

after_first : (k : ℤ) (es fs : List (ℤ × Scalar)) → After k (es ++ fs) → After k es
after_first k [] fs a = tt
after_first k (e ∷ es) fs a = (a.0, after_first k es fs a.1)

head_of : (c : List TimeValue) (cs : List (List TimeValue)) → 0 < length c → (k : ℤ) → After k (entries_in (c ∷ cs)) → int_cmp k (first_time c) ≡ Less
head_of [] cs some k a = absurd (omega arith)
head_of (v ∷ vs) cs some k a = a.0

counted : (first last : ℤ) (es fs : List (ℤ × Scalar)) → length (between first last (es ++ fs)) ≡ length (between first last es) + length (between first last fs)
counted first last es fs = ap length (between-append first last es fs) ∙ length-append (between first last es) (between first last fs)

pub few_after : (first last : ℤ) (bs : List (List TimeValue)) → AllByRecursion IsBlock bs → Rises (entries_in bs) → After first (entries_in bs) → length (entries_in (looked last bs)) ≤ length (between first last (entries_in bs)) + 1024
few_after first last [] each h a = omega arith
few_after first last (b ∷ []) each h a =
    elim (is_lt (int_cmp last (first_time b))) as (λ t. length (entries_in (cond t [] (b ∷ []))) ≤ length (between first last (entries_in (b ∷ []))) + 1024) [
      | true ↦ omega arith
      | false ↦ omega (arith, length-append (pairs b) [], length-pairs b, each.0.1)
    ]
few_after first last (b ∷ c ∷ cs) each h a =
    let later = few_after first last (c ∷ cs) each.1 (rises_back (pairs b) (entries_in (c ∷ cs)) h) (after_back first (pairs b) (entries_in (c ∷ cs)) a) in
    let more : List (List TimeValue) = looked last cs in
    elim (is_lt (int_cmp last (first_time b))) as (λ t. length (entries_in (cond t [] (b ∷ looked last (c ∷ cs)))) ≤ length (between first last (entries_in (b ∷ c ∷ cs))) + 1024) [
      | true ↦ omega arith
      | false ↦
          elim (is_lt (int_cmp last (first_time c))) as (λ t. is_lt (int_cmp last (first_time c)) ≡ t → length (entries_in (cond t [] (c ∷ more))) ≤ length (between first last (entries_in (c ∷ cs))) + 1024
          → length (pairs b ++ entries_in (cond t [] (c ∷ more))) ≤ length (between first last (entries_in (b ∷ c ∷ cs))) + 1024) [
            | true ↦ λ e k. omega (arith, length-append (pairs b) [], length-pairs b, each.0.1)
            | false ↦ λ e k.
                let all : between first last (pairs b) ≡ pairs b = whole first last (first_time c) (pairs b) (entries_in (c ∷ cs)) (after_first first (pairs b) (entries_in (c ∷ cs)) a) h (head_of c cs each.1.0.0) e in
                omega (arith, length-append (pairs b) (entries_in (c ∷ more)), counted first last (pairs b) (entries_in (c ∷ cs)), ap length all, k)
          ] refl later
    ]

-- the block at which a read starts, and those behind it
pub few : (first last : ℤ) (b : List TimeValue) (bs : List (List TimeValue)) → AllByRecursion IsBlock (b ∷ bs) → Rises (entries_in (b ∷ bs)) → After first (entries_in bs) → length (entries_in (looked last (b ∷ bs))) ≤ length (between first last (entries_in (b ∷ bs))) + 2048
few first last b bs each h a =
    let later = few_after first last bs each.1 (rises_back (pairs b) (entries_in bs) h) a in
    elim (is_lt (int_cmp last (first_time b))) as (λ t. length (entries_in (cond t [] (b ∷ looked last bs))) ≤ length (between first last (entries_in (b ∷ bs))) + 2048) [
      | true ↦ omega arith
      | false ↦ omega (arith, length-append (pairs b) (entries_in (looked last bs)), length-pairs b, each.0.1, counted first last (pairs b) (entries_in bs), later)
    ]

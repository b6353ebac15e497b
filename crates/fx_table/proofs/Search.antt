-- What halving stands on: in rows by rising key, a comparison with a key settles all rows on one side.
use Rattle.std.proofs.Common.{◌≡◌, ℕ, ◌+◌, ◌<◌, ◌≤◌, Bool, true, false, List, [], ◌∷◌, length, get_or, refl, sym, ap, ◌∙◌, arith, suc, zero, ◌&&◌, below_more, subst, inl, inr}
use Rattle.std.specs.Prelude.{None, Some}
use Rattle.std.specs.Cmp.{IsTotalOrder}
use Rattle.std.specs.declared.cmp.Ordering.{Ordering}
use Rattle.std.specs.declared.cmp.Ordering.TheVariants.{Less, Equal, Greater}
use Rattle.std.specs.Ordering.{is_lt, is_eq, ordering_reverse}
use Rattle.std.proofs.lemmas.Cmp.{alike_right}
use Rattle.std.proofs.lemmas.List.{get_or_default}
use Rattle.std.proofs.lemmas.Bool.{cases_lt}
use Rattle.std.proofs.Math.Nat.{eq-or-lt_of_le}
use Rattle.fx_table.specs.CaseTable.{comes_before, rises, value_at}

head_holds : (a b : Bool) → (a && b) ≡ true → a ≡ true
head_holds true b e = refl
head_holds false b e = cc

rest_holds : (a b : Bool) → (a && b) ≡ true → b ≡ true
rest_holds true b e = e
rest_holds false b e = cc

is_less : (o : Ordering) → is_lt o ≡ true → o ≡ Less
is_less Less e = refl
is_less Equal e = cc
is_less Greater e = cc

first_less : {K V : Type 0} {R : K → K → Ordering} (o : IsTotalOrder R) (row : K × V) (rest : List (K × V)) → comes_before R row rest ≡ true → rises R rest ≡ true → (j : ℕ) (d : K × V) → j < length rest → R row.0 (get_or rest j d).0 ≡ Less
first_less o row [] e f j d h = absurd (omega arith)
first_less o row (next ∷ rest) e f zero d h = is_less _ e
first_less {R = R} o row (next ∷ rest) e f (suc j) d h =
    o.trans _ _ _ (is_less _ e) (first_less o next rest (head_holds _ _ f) (rest_holds _ _ f) j d (omega arith))

-- an earlier row's key is less than a later one's
pub earlier_less : {K V : Type 0} {R : K → K → Ordering} (o : IsTotalOrder R) (rows : List (K × V)) → rises R rows ≡ true → (i j : ℕ) (d : K × V) → i < j → j < length rows → R (get_or rows i d).0 (get_or rows j d).0 ≡ Less
earlier_less o [] f i j d h k = absurd (omega arith)
earlier_less o (row ∷ rest) f i zero d h k = absurd (omega arith)
earlier_less o (row ∷ rest) f zero (suc j) d h k = first_less o row rest (head_holds _ _ f) (rest_holds _ _ f) j d (omega arith)
earlier_less o (row ∷ rest) f (suc i) (suc j) d h k = earlier_less o rest (rest_holds _ _ f) i j d (omega arith) (omega arith)

-- no row has a key that none compares equal to
pub none_there : {K V : Type 0} (R : K → K → Ordering) (key : K) (rows : List (K × V)) → ((k : ℕ) (d : K × V) → k < length rows → is_eq (R (get_or rows k d).0 key) ≡ false) → value_at R key rows ≡ None
none_there R key [] none = refl
none_there R key (row ∷ rest) none = rw (none zero row (omega arith)) (none_there R key rest (λ k d h. none (suc k) d (omega arith)))

skipped : {K V : Type 0} (R : K → K → Ordering) (key : K) (row : K × V) (rest : List (K × V)) → R row.0 key ≡ Less → value_at R key (row ∷ rest) ≡ value_at R key rest
skipped R key row rest e = rw e

taken : {K V : Type 0} (R : K → K → Ordering) (key : K) (row : K × V) (rest : List (K × V)) → R row.0 key ≡ Equal → value_at R key (row ∷ rest) ≡ Some row.1
taken R key row rest e = rw e

-- the row whose key compares equal is the one that is found
pub one_there : {K V : Type 0} {R : K → K → Ordering} (o : IsTotalOrder R) (key : K) (rows : List (K × V)) → rises R rows ≡ true → (k : ℕ) (d : K × V) → k < length rows → R (get_or rows k d).0 key ≡ Equal → value_at R key rows ≡ Some (get_or rows k d).1
one_there o key [] f k d h e = absurd (omega arith)
one_there {R = R} o key (row ∷ rest) f zero d h e = taken R key row rest e
one_there {R = R} o key (row ∷ rest) f (suc k) d h e =
    skipped R key row rest (sym (alike_right o _ _ row.0 e) ∙ first_less o row rest (head_holds _ _ f) (rest_holds _ _ f) k d (omega arith)) ∙ one_there o key rest (rest_holds _ _ f) k d (omega arith) e

-- the rows up to one that is less are less
pub less_below : {K V : Type 0} {R : K → K → Ordering} (o : IsTotalOrder R) (key : K) (rows : List (K × V)) → rises R rows ≡ true → (m : ℕ) (e : K × V) → m < length rows → Less ≡ R (get_or rows m e).0 key → (k : ℕ) → k < m + 1 → (d : K × V) → R (get_or rows k d).0 key ≡ Less
less_below {K = K} {V = V} {R = R} o key rows f m e h l =
    let at : (d : K × V) → R (get_or rows m d).0 key ≡ Less = λ d. rw (get_or_default rows m d e h) (sym l) in
    below_more (λ k. (d : K × V) → R (get_or rows k d).0 key ≡ Less) m (λ k b d. o.trans _ _ _ (earlier_less o rows f k m d b h) (at d)) at

greater : {K : Type 0} {R : K → K → Ordering} (o : IsTotalOrder R) (x y key : K) → R x y ≡ Less → R x key ≡ Greater → R y key ≡ Greater
greater {R = R} o x y key b e =
    let back : R key x ≡ Less = o.antisymm key x ∙ ap ordering_reverse e in
    o.antisymm y key ∙ ap ordering_reverse (o.trans key x y back b)

-- the rows from one on that is greater are greater
pub greater_above : {K V : Type 0} {R : K → K → Ordering} (o : IsTotalOrder R) (key : K) (rows : List (K × V)) → rises R rows ≡ true → (m : ℕ) (e : K × V) → m < length rows → Greater ≡ R (get_or rows m e).0 key → (k : ℕ) (d : K × V) → m ≤ k → k < length rows → R (get_or rows k d).0 key ≡ Greater
greater_above {K = K} {V = V} {R = R} o key rows f m e h l k d b within =
    let at : R (get_or rows m d).0 key ≡ Greater = rw (get_or_default rows m d e h) (sym l) in
    elim (eq-or-lt_of_le b) [
      | inl same ↦ subst (λ j. R (get_or rows j d).0 key ≡ Greater) same at
      | inr after ↦ greater o _ _ key (earlier_less o rows f m k d after within) at
    ]

-- where the rows below a place are less and the others greater, none is equal
pub none_between : {K V : Type 0} (R : K → K → Ordering) (key : K) (rows : List (K × V)) (low high : ℕ) → high ≤ low → ((k : ℕ) → k < low → (d : K × V) → R (get_or rows k d).0 key ≡ Less) → ((k : ℕ) (d : K × V) → high ≤ k → k < length rows → R (get_or rows k d).0 key ≡ Greater) → value_at R key rows ≡ None
none_between {K = K} {V = V} R key rows low high met below above =
    none_there R key rows (λ k d within. elim (cases_lt k low) [
      | inl before ↦ ap is_eq (below k before d)
      | inr past ↦ ap is_eq (above k d (omega arith) within)
    ])

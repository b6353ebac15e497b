-- A span's text has one list of pairs, and the reader takes one pair after another off its front.
use Rattle.std.proofs.Common.{◌≡◌, ℕ, zero, suc, ◌+◌, ◌*◌, ◌<◌, ◌≤◌, ◌&&◌, Bool, true, false, List, [], ◌∷◌, ◌++◌, length, take, drop, refl, sym, ap, ap₂, ◌∙◌, inl, inr, Option, is_some, arith}
use Rattle.std.specs.List.{list_all, prefix_len}
use Rattle.std.specs.Ordering.{nat_cmp, is_eq}
use Rattle.std.specs.Cmp.Lexicographic.{slice_cmp}
use Rattle.std.proofs.lemmas.Bool.{cases_Bool, and_parts, not_from_true}
use Rattle.std.proofs.lemmas.List.{take_at, drop_at, length-append, length-drop}
use Rattle.std.proofs.lemmas.Map.Text.{is_eq-slice_cmp}
use Rattle.std.proofs.lemmas.Slice.Eq.{bytes_eq-Decides}
use Rattle.fx_table.specs.CaseTable.{value_at}
use Rattle.fx_scan.specs.declared.units.Unit.{Unit as UnitOf}
use Rattle.fx_scan.specs.Forms.{Bytes, Pair, begins, is_digit, is_digits, is_pair, number_of, greatest, unit_months, unit_nanos, spelled, all_months, all_nanos, IsSpan}
use Rattle.fx_scan.specs.Tables.{units, unit_of}
use Rattle.fx_parse.specs.Spans.{is_no_digit, capped, raised, IsCutOf}

-- ---- a front of bytes that pass a test

front_len : (test : ℕ → Bool) (u z : Bytes) → list_all test u ≡ true → begins test z ≡ false → prefix_len test (u ++ z) ≡ length u
front_len test [] [] h stop = refl
front_len test [] (b ∷ z) h stop = rw stop refl
front_len test (b ∷ u) z h stop =
    let both = and_parts (test b) (list_all test u) h in
    rw (both.0, front_len test u z both.1 stop) (omega arith)

front_taken : (test : ℕ → Bool) (w u z : Bytes) → w ≡ u ++ z → list_all test u ≡ true → begins test z ≡ false → (take (prefix_len test w) w ≡ u) × (drop (prefix_len test w) w ≡ z)
front_taken test w u z e h stop =
    let n = front_len test u z h stop in
    (rw (e, n) (take_at u z (length u) refl), rw (e, n) (drop_at u z (length u) refl))

-- ---- units have no digits

each_row : (Bytes → Bool) → List (Bytes × UnitOf) → Bool
each_row test [] = true
each_row test (row ∷ rows) = test row.0 && each_row test rows

of_table : (test : Bytes → Bool) (rows : List (Bytes × UnitOf)) (u : Bytes) → each_row test rows ≡ true → is_some (value_at (slice_cmp nat_cmp) u rows) ≡ true → test u ≡ true
unfolding each_row
of_table test [] u all found = cc
of_table test (row ∷ rows) u all found =
    let both = and_parts (test row.0) (each_row test rows) all in
    elim (cases_Bool (is_eq (slice_cmp nat_cmp row.0 u))) [
      | inl e ↦ let same : row.0 ≡ u = (bytes_eq-Decides row.0 u).0 (sym (is_eq-slice_cmp row.0 u) ∙ e) in ap test (sym same) ∙ both.0
      | inr e ↦ of_table test rows u both.1 (rw e at found)
    ]

has_no_digit : Bytes → Bool
has_no_digit u = list_all is_no_digit u && begins is_no_digit u

unit_bytes : (u : Bytes) → is_some (unit_of u) ≡ true → (list_all is_no_digit u ≡ true) × (begins is_no_digit u ≡ true)
unfolding unit_of units is_digit each_row has_no_digit
unit_bytes u h = and_parts _ _ (of_table has_no_digit units u refl h)

begins_more : (test : ℕ → Bool) (u z : Bytes) → begins test u ≡ true → begins test (u ++ z) ≡ true
begins_more test [] z h = cc
begins_more test (b ∷ u) z h = h

begins_other : (w : Bytes) → begins is_no_digit w ≡ true → begins is_digit w ≡ false
begins_other [] h = refl
begins_other (b ∷ w) h = elim (cases_Bool (is_digit b)) [
  | inl e ↦ let no = not_from_true _ e in cc
  | inr e ↦ e
]

begins_digits : (u z : Bytes) → is_digits u ≡ true → begins is_no_digit (u ++ z) ≡ false
begins_digits [] z h = cc
begins_digits (b ∷ u) z h = not_from_true _ (and_parts _ _ h).0

all_digits : (u : Bytes) → is_digits u ≡ true → list_all is_digit u ≡ true
all_digits [] h = cc
all_digits (b ∷ u) h = h

digits_some : (u : Bytes) → is_digits u ≡ true → 0 < length u
digits_some [] h = cc
digits_some (b ∷ u) h = omega arith

-- ---- the first pair

abbrev after_digits : Bytes → Bytes
after_digits w = drop (prefix_len is_digit w) w

pair_cut : (w : Bytes) (p : Pair) (rest : Bytes) → w ≡ p.0 ++ (p.1 ++ rest) → is_pair p ≡ true → begins is_no_digit rest ≡ false
    → (take (prefix_len is_digit w) w ≡ p.0)
    × (take (prefix_len is_no_digit (after_digits w)) (after_digits w) ≡ p.1)
    × (drop (prefix_len is_no_digit (after_digits w)) (after_digits w) ≡ rest)
pair_cut w p rest e pair stop =
    let both = and_parts (is_digits p.0) (is_some (unit_of p.1)) pair in
    let unit = unit_bytes p.1 both.1 in
    let digits = front_taken is_digit w p.0 (p.1 ++ rest) e (all_digits p.0 both.0) (begins_other (p.1 ++ rest) (begins_more is_no_digit p.1 rest unit.1)) in
    let units = front_taken is_no_digit (after_digits w) p.1 rest digits.1 unit.0 stop in
    (digits.0, units.0, units.1)

-- where there is something, a pair of runs takes something
runs_shorten : (w : Bytes) → 0 < length w → length (drop (prefix_len is_no_digit (after_digits w)) (after_digits w)) < length w
runs_shorten [] some = absurd (omega arith)
runs_shorten (b ∷ w) some =
    let more = length-drop (prefix_len is_no_digit (after_digits (b ∷ w))) (after_digits (b ∷ w)) in
    let most = length-drop (prefix_len is_digit (b ∷ w)) (b ∷ w) in
    elim (cases_Bool (is_digit b)) [
      | inl e ↦ let run : prefix_len is_digit (b ∷ w) ≡ 1 + prefix_len is_digit w = rw e refl in omega arith
      | inr e ↦
          let none : prefix_len is_digit (b ∷ w) ≡ 0 = rw e refl in
          let run : prefix_len is_no_digit (after_digits (b ∷ w)) ≡ 1 + prefix_len is_no_digit w = rw (none, e) refl in
          omega arith
    ]

-- the same, as the reader has the parts
after_is : (w a : Bytes) (n : ℕ) → n ≡ prefix_len is_digit w → a ≡ drop n w → a ≡ after_digits w
after_is w a n en ea = ea ∙ ap (λ k. drop k w) en

pub cut_by : (w d a u z : Bytes) (n m number : ℕ) (unit : Option UnitOf) → n ≡ prefix_len is_digit w → d ≡ take n w → a ≡ drop n w
    → m ≡ prefix_len is_no_digit a → u ≡ take m a → z ≡ drop m a → number ≡ capped (number_of d) → unit ≡ unit_of u → IsCutOf w number unit z
cut_by w d a u z n m number unit en ed ea em eu ez enumber eunit = λ p rest e pair stop.
    let cut = pair_cut w p rest e pair stop in
    let digits : d ≡ p.0 = ed ∙ ap (λ k. take k w) en ∙ cut.0 in
    let same = after_is w a n en ea in
    let units : u ≡ p.1 = eu ∙ ap (λ k. take k a) em ∙ ap (λ x. take (prefix_len is_no_digit x) x) same ∙ cut.1 in
    let left : z ≡ rest = ez ∙ ap (λ k. drop k a) em ∙ ap (λ x. drop (prefix_len is_no_digit x) x) same ∙ cut.2 in
    (enumber ∙ ap (λ x. capped (number_of x)) digits, eunit ∙ ap unit_of units, left)

pub shorter_by : (w a z : Bytes) (n m : ℕ) → n ≡ prefix_len is_digit w → a ≡ drop n w → m ≡ prefix_len is_no_digit a → z ≡ drop m a → 0 < length w → length z < length w
shorter_by w a z n m en ea em ez some =
    let same = after_is w a n en ea in
    let left : z ≡ drop (prefix_len is_no_digit (after_digits w)) (after_digits w) = ez ∙ ap (λ k. drop k a) em ∙ ap (λ x. drop (prefix_len is_no_digit x) x) same in
    let less = runs_shorten w some in
    omega (arith, ap length left)

-- ---- the whole span

-- so many months and nanoseconds are read, and w has the pairs that are left of a span of M and N
pub record IsAhead (M N m n : ℕ) (w : Bytes) : Type 0 where
  pub pairs : List Pair
  pub formed : list_all is_pair pairs ≡ true
  pub text : w ≡ spelled pairs
  pub months_are : m + all_months pairs ≡ M
  pub nanos_are : n + all_nanos pairs ≡ N
  pub months_bound : M ≤ greatest
  pub nanos_bound : N ≤ greatest

spelled_stops : (pairs : List Pair) → list_all is_pair pairs ≡ true → begins is_no_digit (spelled pairs) ≡ false
spelled_stops [] h = refl
spelled_stops (p ∷ ps) h = begins_digits p.0 (p.1 ++ spelled ps) (and_parts _ _ (and_parts _ _ h).0).0

raised_exact : (total x size bound : ℕ) → total + x * size ≤ bound → bound ≤ greatest → raised total (capped x) size ≡ total + x * size
raised_exact total x zero bound h small = omega arith
raised_exact total x (suc k) bound h small =
    let large : x ≤ x * suc k = omega arith in
    let same : capped x ≡ x = omega arith in
    rw same (omega arith)

step_with : (M N m n : ℕ) (w rest : Bytes) (number : ℕ) (unit : Option UnitOf) (pairs : List Pair) → list_all is_pair pairs ≡ true → w ≡ spelled pairs
    → m + all_months pairs ≡ M → n + all_nanos pairs ≡ N → M ≤ greatest → N ≤ greatest → 0 < length w → IsCutOf w number unit rest
    → IsAhead M N (raised m number (unit_months unit)) (raised n number (unit_nanos unit)) rest
step_with M N m n w rest number unit [] formed text ms ns mb nb some cut = absurd (let none = ap length text in omega arith)
step_with M N m n w rest number unit (p ∷ ps) formed text ms ns mb nb some cut =
    let both = and_parts (is_pair p) (list_all is_pair ps) formed in
    let is = cut p (spelled ps) text both.0 (spelled_stops ps both.1) in
    let months = raised_exact m (number_of p.0) (unit_months (unit_of p.1)) M (omega arith) mb in
    let nanos = raised_exact n (number_of p.0) (unit_nanos (unit_of p.1)) N (omega arith) nb in
    rw (is.0, is.1) (record {
      pairs = ps;
      formed = both.1;
      text = is.2;
      months_bound = mb;
      nanos_bound = nb;
      months_are = rw months (omega arith);
      nanos_are = rw nanos (omega arith);
    })

pub ahead_step : (M N m n : ℕ) (w rest : Bytes) (number : ℕ) (unit : Option UnitOf) → IsAhead M N m n w → 0 < length w → IsCutOf w number unit rest
    → IsAhead M N (raised m number (unit_months unit)) (raised n number (unit_nanos unit)) rest
ahead_step M N m n w rest number unit h some cut = step_with M N m n w rest number unit h.pairs h.formed h.text h.months_are h.nanos_are h.months_bound h.nanos_bound some cut

pub ahead_start : (M N : ℕ) (w : Bytes) → IsSpan w M N → IsAhead M N 0 0 w
ahead_start M N w h = record {
  pairs = h.pairs;
  formed = h.formed;
  text = h.text;
  months_are = omega (arith, h.months_are);
  nanos_are = omega (arith, h.nanos_are);
  months_bound = h.months_bound;
  nanos_bound = h.nanos_bound;
}

end_with : (M N m n : ℕ) (w : Bytes) (pairs : List Pair) → list_all is_pair pairs ≡ true → w ≡ spelled pairs → m + all_months pairs ≡ M → n + all_nanos pairs ≡ N → length w ≡ 0
    → (m ≡ M) × (n ≡ N)
end_with M N m n w [] formed text ms ns none = (omega arith, omega arith)
end_with M N m n w (p ∷ ps) formed text ms ns none =
    let some = digits_some p.0 (and_parts _ _ (and_parts _ _ formed).0).0 in
    absurd (omega (arith, ap length text, length-append p.0 (p.1 ++ spelled ps)))

pub ahead_end : (M N m n : ℕ) (w : Bytes) → IsAhead M N m n w → length w ≡ 0 → (m ≡ M) × (n ≡ N) × (M ≤ greatest) × (N ≤ greatest)
ahead_end M N m n w h none =
    let same = end_with M N m n w h.pairs h.formed h.text h.months_are h.nanos_are none in
    (same.0, same.1, h.months_bound, h.nanos_bound)

-- ---- one list of pairs

pub spelled_pairs : (ps qs : List Pair) → list_all is_pair ps ≡ true → list_all is_pair qs ≡ true → spelled ps ≡ spelled qs → ps ≡ qs
spelled_pairs [] [] a b e = refl
spelled_pairs [] (q ∷ qs) a b e = absurd (let some = digits_some q.0 (and_parts _ _ (and_parts _ _ b).0).0 in omega (arith, ap length e, length-append q.0 (q.1 ++ spelled qs)))
spelled_pairs (p ∷ ps) [] a b e = absurd (let some = digits_some p.0 (and_parts _ _ (and_parts _ _ a).0).0 in omega (arith, ap length e, length-append p.0 (p.1 ++ spelled ps)))
spelled_pairs (p ∷ ps) (q ∷ qs) a b e =
    let first = and_parts (is_pair p) (list_all is_pair ps) a in
    let second = and_parts (is_pair q) (list_all is_pair qs) b in
    let left = pair_cut (spelled (p ∷ ps)) p (spelled ps) refl first.0 (spelled_stops ps first.1) in
    let right = pair_cut (spelled (p ∷ ps)) q (spelled qs) e second.0 (spelled_stops qs second.1) in
    let digits : p.0 ≡ q.0 = sym left.0 ∙ right.0 in
    let unit : p.1 ≡ q.1 = sym left.1 ∙ right.1 in
    let rest : ps ≡ qs = spelled_pairs ps qs first.1 second.1 (sym left.2 ∙ right.2) in
    ap₂ (λ (x : Pair) (xs : List Pair). x ∷ xs) (ap₂ (λ (x : Bytes) (y : Bytes). (x, y)) digits unit) rest

-- Spans: pairs of digits and a unit, as many as there are within the limits.
use Rattle.std.proofs.Common.{◌≡◌, ℕ, zero, suc, ◌+◌, ◌-◌, ◌*◌, ◌<◌, ◌≤◌, ◌==◌, ◌⊎◌, inl, inr, true, false, List, [], ◌∷◌, ◌++◌, length, take, drop, Option, None, Some, refl, sym, ap, subst, ◌∙◌, arith, append_assoc, append-nil, length-append}
use Rattle.std.specs.Prelude.{◌||◌, nat_lt, is_some}
use Rattle.std.specs.List.{list_all}
use Rattle.std.proofs.lemmas.Bool.{and_parts, or_parts, leb-true, ltb-false, le-ltb}
use Rattle.std.proofs.lemmas.Bool.Decides.{nat_tests}
use Rattle.std.proofs.Math.Nat.{mul-le-mul_left}
use Rattle.fx_scan.specs.declared.spans.Amount.{Amount}
use Rattle.fx_scan.specs.declared.units.Unit.{Unit as SpanUnit}
use Rattle.fx_scan.specs.declared.units.Unit.TheVariants.{Months, Nanos}
use Rattle.fx_scan.specs.Forms.{Bytes, begins, is_letter, is_digit, is_digits, number_of, greatest, Pair, is_pair, unit_months, unit_nanos, spelled, all_months, all_nanos, IsSpan}
use Rattle.fx_scan.specs.Tables.{unit_of}
use Rattle.fx_scan.specs.Tokens.{begins_letter}
use Rattle.fx_scan.specs.Readers.{amount_of, amount_at, none, sum_within, longer, turned, longest, span_len}
use Rattle.fx_scan.proofs.Runs.{by_bool, taken, dropped}
use Rattle.fx_scan.proofs.TableLemmas.{unit_begins, unit_other, unit_worth, is_other, size_of}
use Rattle.fx_scan.proofs.NumberLemmas.{all_digits, some_digits}
use Rattle.fx_scan.proofs.UnitLemmas.{bind_back, letter_append, other_append}
use Rattle.fx_scan.proofs.PairLemmas.{IsPairAt, worth_of, amount_is, amount_back}

worth_months : (n : ℕ) (v : SpanUnit) (len : ℕ) → (amount_of n v len).months ≡ n * unit_months (Some v)
worth_months n (Months size) len = refl
worth_months n (Nanos size) len = omega arith

worth_nanos : (n : ℕ) (v : SpanUnit) (len : ℕ) → (amount_of n v len).nanos ≡ n * unit_nanos (Some v)
worth_nanos n (Months size) len = omega arith
worth_nanos n (Nanos size) len = refl

worth_len : (n : ℕ) (v : SpanUnit) (len : ℕ) → (amount_of n v len).len ≡ len
worth_len n (Months size) len = refl
worth_len n (Nanos size) len = refl

spelled_push : (ps : List Pair) (q : Pair) → spelled (ps ++ (q ∷ [])) ≡ spelled ps ++ (q.0 ++ q.1)
spelled_push [] q = ap (λ x. q.0 ++ x) (append-nil q.1)
spelled_push (p ∷ ps) q =
    ap (λ x. p.0 ++ (p.1 ++ x)) (spelled_push ps q) ∙ ap (λ x. p.0 ++ x) (sym (append_assoc p.1 (spelled ps) (q.0 ++ q.1)))
    ∙ sym (append_assoc p.0 (p.1 ++ spelled ps) (q.0 ++ q.1))

months_push : (ps : List Pair) (q : Pair) → all_months (ps ++ (q ∷ [])) ≡ all_months ps + number_of q.0 * unit_months (unit_of q.1)
months_push [] q = omega arith
months_push (p ∷ ps) q = omega (arith, months_push ps q)

nanos_push : (ps : List Pair) (q : Pair) → all_nanos (ps ++ (q ∷ [])) ≡ all_nanos ps + number_of q.0 * unit_nanos (unit_of q.1)
nanos_push [] q = omega arith
nanos_push (p ∷ ps) q = omega (arith, nanos_push ps q)

formed_push : (ps : List Pair) (q : Pair) → list_all is_pair ps ≡ true → is_pair q ≡ true → list_all is_pair (ps ++ (q ∷ [])) ≡ true
formed_push [] q h k = rw k refl
formed_push (p ∷ ps) q h k = let parts = and_parts (is_pair p) (list_all is_pair ps) h in rw parts.0 (formed_push ps q parts.1 k)

-- the pairs at the front that make the amount
pub record IsPart (w : Bytes) (a : Amount) : Type 0 where
  pub pairs : List Pair
  pub left : Bytes
  pub formed : list_all is_pair pairs ≡ true
  pub split : w ≡ spelled pairs ++ left
  pub len : a.len ≡ length (spelled pairs)
  pub months : a.months ≡ all_months pairs
  pub nanos : a.nanos ≡ all_nanos pairs
  pub months_bound : a.months ≤ greatest
  pub nanos_bound : a.nanos ≤ greatest
  pub stops : begins_letter left ≡ false

abbrev sum_of : Amount → Amount → Amount
sum_of a b = record { months = a.months + b.months; nanos = a.nanos + b.nanos; len = a.len + b.len }

sum_back : (a b c : Amount) → sum_within a b ≡ Some c → (a.months + b.months ≤ greatest) × (a.nanos + b.nanos ≤ greatest) × (c ≡ sum_of a b)
sum_back a b c h = by_bool (nat_lt greatest (a.months + b.months) || nat_lt greatest (a.nanos + b.nanos))
    (λ over. let e = rw over at h in absurd cc)
    (λ fits.
    let parts = or_parts (nat_lt greatest (a.months + b.months)) (nat_lt greatest (a.nanos + b.nanos)) fits in
    let e = rw fits at h in
    (ltb-false greatest (a.months + b.months) parts.0, ltb-false greatest (a.nanos + b.nanos) parts.1, cc))

sum_fits : (a b : Amount) → a.months + b.months ≤ greatest → a.nanos + b.nanos ≤ greatest → sum_within a b ≡ Some (sum_of a b)
sum_fits a b h k =
    let months = le-ltb greatest (a.months + b.months) h in
    let nanos = le-ltb greatest (a.nanos + b.nanos) k in
    rw (months, nanos) refl

pair_formed : (w : Bytes) (q : Pair) (r : Bytes) (v : SpanUnit) → IsPairAt w q r v → is_pair q ≡ true
pair_formed w q r v h = rw (h.digits, h.unit) refl

part_more : (w : Bytes) (a b : Amount) → IsPart w a → longer a (drop a.len w) ≡ Some b → IsPart w b
unfolding longer
part_more w a b part h =
    let found = bind_back (amount_at (drop a.len w)) (λ c. sum_within a c) b h in
    let pair = amount_back (drop a.len w) found.0 found.1 in
    let sum = sum_back a found.0 b found.2 in
    let q = pair.0 in
    let v = pair.2 in
    let at = pair.3 in
    let left : drop a.len w ≡ part.left = ap (λ n. drop n w) part.len ∙ dropped w (spelled part.pairs) part.left part.split in
    let worth : found.0 ≡ worth_of q v = pair.4 in
    let months : found.0.months ≡ number_of q.0 * unit_months (unit_of q.1) =
    ap (λ x. x.months) worth ∙ worth_months (number_of q.0) v (length q.0 + length q.1) ∙ ap (λ o. number_of q.0 * unit_months o) (sym at.unit) in
    let nanos : found.0.nanos ≡ number_of q.0 * unit_nanos (unit_of q.1) =
    ap (λ x. x.nanos) worth ∙ worth_nanos (number_of q.0) v (length q.0 + length q.1) ∙ ap (λ o. number_of q.0 * unit_nanos o) (sym at.unit) in
    let len : found.0.len ≡ length q.0 + length q.1 = ap (λ x. x.len) worth ∙ worth_len (number_of q.0) v (length q.0 + length q.1) in
    let was_len = part.len in
    let was_months = part.months in
    let was_nanos = part.nanos in
    subst (IsPart w) (sym sum.2) (record {
      pairs = part.pairs ++ (q ∷ []);
      left = pair.1;
      formed = formed_push part.pairs q part.formed (pair_formed (drop a.len w) q pair.1 v at);
      split = part.split ∙ ap (λ x. spelled part.pairs ++ x) (sym left ∙ at.split ∙ sym (append_assoc q.0 q.1 pair.1))
          ∙ sym (append_assoc (spelled part.pairs) (q.0 ++ q.1) pair.1) ∙ ap (λ x. x ++ pair.1) (sym (spelled_push part.pairs q));
      len = omega (arith, ap length (spelled_push part.pairs q), length-append (spelled part.pairs) (q.0 ++ q.1), length-append q.0 q.1);
      months = omega (arith, months_push part.pairs q);
      nanos = omega (arith, nanos_push part.pairs q);
      months_bound = sum.0;
      nanos_bound = sum.1;
      stops = at.stops;
    })

option_cases : {A : Type 0} (o : Option A) → (o ≡ None) ⊎ ((a : A) × (o ≡ Some a))
option_cases None = inl refl
option_cases (Some a) = inr (a, refl)

longest_none : (turns : ℕ) (a : Amount) (w : Bytes) → longer a (drop a.len w) ≡ None → longest (suc turns) a w ≡ a.len
unfolding longest
longest_none turns a w h = ap (λ o. turned o a.len (λ more. longest turns more w)) h

longest_some : (turns : ℕ) (a b : Amount) (w : Bytes) → longer a (drop a.len w) ≡ Some b → longest (suc turns) a w ≡ longest turns b w
unfolding longest
longest_some turns a b w h = ap (λ o. turned o a.len (λ more. longest turns more w)) h

longest_zero : (a : Amount) (w : Bytes) → longest zero a w ≡ a.len
unfolding longest
longest_zero a w = refl

longest_part : (turns : ℕ) (a : Amount) (w : Bytes) → IsPart w a → (b : Amount) × (longest turns a w ≡ b.len) × IsPart w b
longest_part zero a w h = (a, longest_zero a w, h)
longest_part (suc turns) a w h = elim (option_cases (longer a (drop a.len w))) [
  | inl ends ↦ (a, longest_none turns a w ends, h)
  | inr goes ↦
      let rest = longest_part turns goes.0 w (part_more w a goes.0 h goes.1) in
      (rest.0, longest_some turns a goes.0 w goes.1 ∙ rest.1, rest.2)
]

some_pairs : (ps : List Pair) → 0 < length (spelled ps) → 0 < length ps
some_pairs [] h = absurd (omega arith)
some_pairs (p ∷ ps) h = omega arith

nothing_yet : (w : Bytes) → begins_letter w ≡ false → IsPart w none
nothing_yet w h = record {
  pairs = [];
  left = w;
  formed = refl;
  split = refl;
  len = refl;
  months = refl;
  nanos = refl;
  months_bound = omega arith;
  nanos_bound = omega arith;
  stops = h;
}

-- the first bytes are a span, where there is one
pub span_found : (w : Bytes) → begins_letter w ≡ false → 0 < span_len w
    → (span_len w ≤ length w) × ((months nanos : ℕ) × IsSpan (take (span_len w) w) months nanos) × (begins_letter (drop (span_len w) w) ≡ false)
span_found w h some =
    let all = longest_part (length w) none w (nothing_yet w h) in
    let part = all.2 in
    let b = all.0 in
    let len : span_len w ≡ length (spelled part.pairs) = all.1 ∙ part.len in
    let front : take (span_len w) w ≡ spelled part.pairs = ap (λ n. take n w) len ∙ taken w (spelled part.pairs) part.left part.split in
    let back : drop (span_len w) w ≡ part.left = ap (λ n. drop n w) len ∙ dropped w (spelled part.pairs) part.left part.split in (
      omega (arith, len, ap length part.split, length-append (spelled part.pairs) part.left),
      (
        b.months,
        b.nanos,
        record {
          pairs = part.pairs;
          some = some_pairs part.pairs (omega (arith, len));
          formed = part.formed;
          text = front;
          months_are = part.months;
          nanos_are = part.nanos;
          months_bound = part.months_bound;
          nanos_bound = part.nanos_bound;
        },
      ),
      ap begins_letter back ∙ part.stops,
    )

-- ---- and no span is longer

longest_more : (turns : ℕ) (a : Amount) (w : Bytes) → a.len ≤ longest turns a w
unfolding longer
longest_more zero a w = omega (arith, longest_zero a w)
longest_more (suc turns) a w = elim (option_cases (longer a (drop a.len w))) [
  | inl ends ↦ omega (arith, longest_none turns a w ends)
  | inr goes ↦
      let found = bind_back (amount_at (drop a.len w)) (λ c. sum_within a c) goes.0 goes.1 in
      let sum = sum_back a found.0 goes.0 found.2 in
      omega (arith, longest_some turns a goes.0 w goes.1, longest_more turns goes.0 w, ap (λ x. x.len) sum.2)
]

digit_no_letter : (b : ℕ) → is_digit b ≡ true → (is_letter b ≡ false) × ((b == 194) ≡ false)
unfolding is_letter is_digit
digit_no_letter b h = (grind (arith, nat_tests, h), grind (arith, nat_tests, h))

pub digits_no_letter : (u r : Bytes) → begins is_digit u ≡ true → begins_letter (u ++ r) ≡ false
digits_no_letter [] r h = absurd cc
digits_no_letter (b ∷ u) r h = let other = digit_no_letter b h in rw (other.0, other.1) refl

first_digit : (u : Bytes) → is_digits u ≡ true → begins is_digit u ≡ true
first_digit [] h = absurd cc
first_digit (b ∷ u) h = (and_parts (is_digit b) (list_all is_digit u) h).0

pairs_stop : (ps : List Pair) (y : Bytes) → list_all is_pair ps ≡ true → begins_letter y ≡ false → begins_letter (spelled ps ++ y) ≡ false
pairs_stop [] y h stops = stops
pairs_stop (p ∷ ps) y h stops =
    let pair = (and_parts (is_pair p) (list_all is_pair ps) h).0 in
    let digits = (and_parts (is_digits p.0) (is_some (unit_of p.1)) pair).0 in
    ap begins_letter (append_assoc p.0 (p.1 ++ spelled ps) y) ∙ digits_no_letter p.0 ((p.1 ++ spelled ps) ++ y) (first_digit p.0 digits)

pub some_is : {A : Type 0} (o : Option A) → is_some o ≡ true → (a : A) × (o ≡ Some a)
some_is None h = absurd cc
some_is (Some a) h = (a, refl)

-- a number is no greater than its worth
number_small : (n : ℕ) (v : SpanUnit) → 1 ≤ size_of v → n * unit_months (Some v) ≤ greatest → n * unit_nanos (Some v) ≤ greatest → n ≤ greatest
number_small n (Months size) one h k = omega (arith, mul-le-mul_left n one)
number_small n (Nanos size) one h k = omega (arith, mul-le-mul_left n one)

pairs_many : (ps : List Pair) → list_all is_pair ps ≡ true → length ps ≤ length (spelled ps)
pairs_many [] h = omega arith
pairs_many (p ∷ ps) h =
    let parts = and_parts (is_pair p) (list_all is_pair ps) h in
    let some = some_digits p.0 (and_parts (is_digits p.0) (is_some (unit_of p.1)) parts.0).0 in
    omega (arith, pairs_many ps parts.1, length-append p.0 (p.1 ++ spelled ps), length-append p.1 (spelled ps))

longest_takes : (qs : List Pair) (turns : ℕ) (a : Amount) (w front y : Bytes) → list_all is_pair qs ≡ true → w ≡ front ++ (spelled qs ++ y) → length front ≡ a.len
    → begins_letter y ≡ false → a.months + all_months qs ≤ greatest → a.nanos + all_nanos qs ≤ greatest → length qs ≤ turns
    → a.len + length (spelled qs) ≤ longest turns a w
unfolding longer
longest_takes [] turns a w front y formed split len stops months nanos many = omega (arith, longest_more turns a w)
longest_takes (q ∷ qs) zero a w front y formed split len stops months nanos many = absurd (omega arith)
longest_takes (q ∷ qs) (suc turns) a w front y formed split len stops months nanos many =
    let parts = and_parts (is_pair q) (list_all is_pair qs) formed in
    let pair = and_parts (is_digits q.0) (is_some (unit_of q.1)) parts.0 in
    let unit = some_is (unit_of q.1) pair.1 in
    let v = unit.0 in
    let n = number_of q.0 in
    let rest : spelled (q ∷ qs) ++ y ≡ q.0 ++ (q.1 ++ (spelled qs ++ y)) =
    append_assoc q.0 (q.1 ++ spelled qs) y ∙ ap (λ x. q.0 ++ x) (append_assoc q.1 (spelled qs) y) in
    let left : drop a.len w ≡ q.0 ++ (q.1 ++ (spelled qs ++ y)) = ap (λ k. drop k w) (sym len) ∙ dropped w front (spelled (q ∷ qs) ++ y) split ∙ rest in
    let as_months : n * unit_months (unit_of q.1) ≡ n * unit_months (Some v) = ap (λ o. n * unit_months o) unit.1 in
    let as_nanos : n * unit_nanos (unit_of q.1) ≡ n * unit_nanos (Some v) = ap (λ o. n * unit_nanos o) unit.1 in
    let small = number_small n v (leb-true 1 (size_of v) (unit_worth q.1 v unit.1)) (omega arith) (omega arith) in
    let read = amount_is (drop a.len w) q (spelled qs ++ y) v (record { split = left; digits = pair.0; unit = unit.1; stops = pairs_stop qs y parts.1 stops; small = small }) in
    let c = worth_of q v in
    let c_months = worth_months n v (length q.0 + length q.1) in
    let c_nanos = worth_nanos n v (length q.0 + length q.1) in
    let c_len = worth_len n v (length q.0 + length q.1) in
    let more : longer a (drop a.len w) ≡ Some (sum_of a c) = rw read (sum_fits a c (omega arith) (omega arith)) in
    let onward : w ≡ (front ++ (q.0 ++ q.1)) ++ (spelled qs ++ y) =
    split ∙ ap (λ x. front ++ x) (rest ∙ sym (append_assoc q.0 q.1 (spelled qs ++ y))) ∙ sym (append_assoc front (q.0 ++ q.1) (spelled qs ++ y)) in
    let step = longest_takes qs turns (sum_of a c) w (front ++ (q.0 ++ q.1)) y parts.1 onward (omega (arith, length-append front (q.0 ++ q.1), length-append q.0 q.1)) stops (omega arith) (omega arith) (omega arith) in
    omega (arith, longest_some turns a (sum_of a c) w more, length-append q.0 (q.1 ++ spelled qs), length-append q.1 (spelled qs))

pub span_is : (w u z : Bytes) (months nanos : ℕ) → w ≡ u ++ z → IsSpan u months nanos → begins_letter z ≡ false → (length u ≤ span_len w) × (0 < length u)
span_is w u z months nanos e h stops =
    let text = h.text in
    let many = pairs_many h.pairs h.formed in
    let some = h.some in
    let split : w ≡ spelled h.pairs ++ z = e ∙ ap (λ x. x ++ z) text in
    let long : length u ≡ length (spelled h.pairs) = ap length text in
    let turns : length h.pairs ≤ length w = omega (arith, ap length split, length-append (spelled h.pairs) z) in
    let a = h.months_are in
    let b = h.nanos_are in
    let c = h.months_bound in
    let d = h.nanos_bound in
    (omega (arith, longest_takes h.pairs (length w) none w [] z h.formed split refl stops (omega arith) (omega arith) turns), omega arith)

-- the digits of a span, and what follows them
pub span_digits : (u : Bytes) (months nanos : ℕ) → IsSpan u months nanos
    → (d r : Bytes) × (list_all is_digit d ≡ true) × (begins is_digit d ≡ true) × (u ≡ d ++ r) × (begins is_other r ≡ true) × (begins_letter r ≡ true)
span_digits u months nanos h = first_pair h.pairs h.some h.formed h.text
  where
    first_pair : (ps : List Pair) → 0 < length ps → list_all is_pair ps ≡ true → u ≡ spelled ps
        → (d r : Bytes) × (list_all is_digit d ≡ true) × (begins is_digit d ≡ true) × (u ≡ d ++ r) × (begins is_other r ≡ true) × (begins_letter r ≡ true)
    first_pair [] some formed text = absurd (omega arith)
    first_pair (p ∷ ps) some formed text =
        let parts = and_parts (is_pair p) (list_all is_pair ps) formed in
        let pair = and_parts (is_digits p.0) (is_some (unit_of p.1)) parts.0 in
        let unit = some_is (unit_of p.1) pair.1 in (
          p.0,
          p.1 ++ spelled ps,
          all_digits p.0 pair.0,
          first_digit p.0 pair.0,
          text,
          other_append p.1 (spelled ps) (unit_other p.1 unit.0 unit.1),
          letter_append p.1 (spelled ps) (unit_begins p.1 unit.0 unit.1),
        )

-- ---- for the loop over turns

pub turn_ends : (end k : ℕ) (a : Amount) (w : Bytes) (x : ℕ) → k < end → longer a (drop a.len w) ≡ None → x ≡ longest (end - k) a w → a.len ≡ x
turn_ends end k a w x h e is =
    let one : end - k ≡ suc (end - (k + 1)) = omega arith in
    sym (is ∙ ap (λ n. longest n a w) one ∙ longest_none (end - (k + 1)) a w e)

pub turn_goes : (end k : ℕ) (a b : Amount) (w : Bytes) (x : ℕ) → k < end → longer a (drop a.len w) ≡ Some b → x ≡ longest (end - k) a w → x ≡ longest (end - (k + 1)) b w
turn_goes end k a b w x h e is =
    let one : end - k ≡ suc (end - (k + 1)) = omega arith in
    is ∙ ap (λ n. longest n a w) one ∙ longest_some (end - (k + 1)) a b w e

pub turns_over : (end k : ℕ) (a : Amount) (w : Bytes) (x : ℕ) → end ≤ k → x ≡ longest (end - k) a w → a.len ≡ x
turns_over end k a w x h is =
    let zero_left : end - k ≡ zero = omega arith in
    sym (is ∙ ap (λ n. longest n a w) zero_left ∙ longest_zero a w)

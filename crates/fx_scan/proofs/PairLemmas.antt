-- A pair of digits and a unit at a place.
use Rattle.std.proofs.Common.{◌≡◌, ℕ, ◌+◌, ◌<◌, ◌≤◌, ◌==◌, inl, inr, true, false, [], ◌∷◌, ◌++◌, length, take, drop, Some, refl, sym, ap, ◌∙◌, arith}
use Rattle.std.specs.Prelude.{◌||◌, nat_le}
use Rattle.std.specs.List.{prefix_len}
use Rattle.std.proofs.lemmas.Bool.{or_parts, leb-true, le-leb, ne_eqb, eq-eqb, not-true}
use Rattle.std.proofs.lemmas.List.{length-take-le, take-append-drop}
use Rattle.fx_scan.specs.declared.spans.Amount.{Amount}
use Rattle.fx_scan.specs.declared.units.Unit.{Unit as SpanUnit}
use Rattle.fx_scan.specs.Forms.{Bytes, begins, is_digit, is_digits, number_of, greatest, Pair}
use Rattle.fx_scan.specs.Tables.{unit_of}
use Rattle.fx_scan.specs.Tokens.{begins_letter}
use Rattle.fx_scan.specs.Readers.{◌>>=◌, number_within, unit_at, amount_of, amount_at}
use Rattle.fx_scan.proofs.Runs.{by_bool, taken, dropped, run_is, run_passes, run_within}
use Rattle.fx_scan.proofs.TableLemmas.{unit_other, is_other}
use Rattle.fx_scan.proofs.NumberLemmas.{all_digits, digits_all, some_digits}
use Rattle.fx_scan.proofs.UnitLemmas.{bind_back, unit_is, unit_back, zero_or_more}

-- the pair q, of a unit v, at the front, all of the digits and letters there
pub record IsPairAt (w : Bytes) (q : Pair) (r : Bytes) (v : SpanUnit) : Type 0 where
  pub split : w ≡ q.0 ++ (q.1 ++ r)
  pub digits : is_digits q.0 ≡ true
  pub unit : unit_of q.1 ≡ Some v
  pub stops : begins_letter r ≡ false
  pub small : number_of q.0 ≤ greatest

other_digit : (u r : Bytes) → begins is_other u ≡ true → begins is_digit (u ++ r) ≡ false
other_digit [] r h = absurd cc
other_digit (b ∷ u) r h = (or_parts (is_digit b) (b == 45) (not-true (is_digit b || (b == 45)) h)).0

abbrev pub worth_of : Pair → SpanUnit → Amount
worth_of q v = amount_of (number_of q.0) v (length q.0 + length q.1)

pub amount_is : (w : Bytes) (q : Pair) (r : Bytes) (v : SpanUnit) → IsPairAt w q r v → amount_at w ≡ Some (worth_of q v)
unfolding amount_at
amount_is w q r v h =
    let some = some_digits q.0 h.digits in
    let len : prefix_len is_digit w ≡ length q.0 = ap (prefix_len is_digit) h.split ∙ run_is is_digit q.0 (q.1 ++ r) (all_digits q.0 h.digits) (other_digit q.1 r (unit_other q.1 v h.unit)) in
    let any : (length q.0 == 0) ≡ false = ne_eqb (length q.0) 0 (λ e. omega arith) in
    let small : nat_le (number_of q.0) greatest ≡ true = le-leb (number_of q.0) greatest h.small in
    let read = unit_is (q.1 ++ r) q.1 r v (record { split = refl; unit = h.unit; stops = h.stops }) in
    rw (len, any, taken w q.0 (q.1 ++ r) h.split, dropped w q.0 (q.1 ++ r) h.split, small, read) refl

within_back : (u : Bytes) (n : ℕ) → number_within u ≡ Some n → (n ≡ number_of u) × (number_of u ≤ greatest)
within_back u n h = by_bool (nat_le (number_of u) greatest)
    (λ yes. let e = rw yes at h in (cc, leb-true (number_of u) greatest yes))
    (λ over. let e = rw over at h in absurd cc)

-- what is read is worth a pair
abbrev pub PairThere : Bytes → Amount → Type 0
PairThere w a = (q : Pair) × (r : Bytes) × (v : SpanUnit) × IsPairAt w q r v × (a ≡ worth_of q v)

pub amount_back : (w : Bytes) (a : Amount) → amount_at w ≡ Some a → PairThere w a
unfolding amount_at
amount_back w a h =
    let n = prefix_len is_digit w in
    by_bool (n == 0)
    (λ empty. let e = rw empty at h in absurd cc)
    (λ some.
    let e = rw some at h in
    let number = bind_back (number_within (take n w)) (λ number. unit_at (drop n w) >>= λ read. Some (amount_of number read.unit (n + read.len))) a e in
    let read = bind_back (unit_at (drop n w)) (λ read. Some (amount_of number.0 read.unit (n + read.len))) a number.2 in
    let value = within_back (take n w) number.0 number.1 in
    let unit = unit_back (drop n w) read.0 read.1 in
    let long = length-take-le n w (run_within is_digit w) in
    let positive : 0 < n = elim (zero_or_more n) [ inl none_there ↦ absurd (let f = eq-eqb n 0 none_there in cc) | inr more ↦ more ] in
    let is = read.2 in
    let same : amount_of number.0 read.0.unit (n + read.0.len) ≡ worth_of (take n w, unit.0) unit.2 =
    ap (λ k. amount_of k read.0.unit (n + read.0.len)) value.0 ∙ ap (λ x. amount_of (number_of (take n w)) x.unit (n + x.len)) unit.4
    ∙ ap (λ k. amount_of (number_of (take n w)) unit.2 (k + length unit.0)) (sym long) in (
      (take n w, unit.0),
      unit.1,
      unit.2,
      record {
        split = sym (take-append-drop n w) ∙ ap (λ x. take n w ++ x) unit.3.split;
        digits = digits_all (take n w) (omega (arith, long)) (run_passes is_digit w);
        unit = unit.3.unit;
        stops = unit.3.stops;
        small = value.1;
      },
      cc,
    ))

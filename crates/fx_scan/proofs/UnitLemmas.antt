-- A unit at a place is the whole run of letters there.
use Rattle.std.proofs.Common.{◌≡◌, ℕ, zero, suc, ◌<◌, ◌≤◌, ◌==◌, ◌⊎◌, inl, inr, true, false, [], ◌∷◌, ◌++◌, length, take, drop, Option, None, Some, refl, sym, ap, ◌∙◌, arith}
use Rattle.std.specs.Prelude.{nat_le, nat_lt}
use Rattle.std.specs.Option.{option_or}
use Rattle.std.proofs.lemmas.Bool.{and_parts, leb-true, lt-leb, ltb-true, ltb-false}
use Rattle.std.proofs.lemmas.List.{take-append-drop}
use Rattle.fx_scan.specs.declared.spans.UnitRead.{UnitRead}
use Rattle.fx_scan.specs.declared.units.Unit.{Unit as SpanUnit}
use Rattle.fx_scan.specs.Forms.{Bytes, begins, is_letter}
use Rattle.fx_scan.specs.Tables.{unit_of}
use Rattle.fx_scan.specs.Tokens.{begins_letter}
use Rattle.fx_scan.specs.Readers.{◌>>=◌, unit_of_len, unit_at}
use Rattle.fx_scan.proofs.Runs.{by_bool, taken, dropped, shorter_front, same_front}
use Rattle.fx_scan.proofs.TableLemmas.{unit_begins, unit_short, unit_goes_on, is_other, goes_on}

-- u, before r, is the unit v, and all of the letters there
pub record IsUnit (w u r : Bytes) (v : SpanUnit) : Type 0 where
  pub split : w ≡ u ++ r
  pub unit : unit_of u ≡ Some v
  pub stops : begins_letter r ≡ false

pub letter_append : (u r : Bytes) → begins_letter u ≡ true → begins_letter (u ++ r) ≡ true
letter_append [] r h = absurd cc
letter_append (b ∷ []) r h = by_bool (is_letter b) (λ yes. rw yes refl) (λ other. by_bool (b == 194) (λ is. let e = rw (other, is) at h in absurd cc) (λ is_not. let e = rw (other, is_not) at h in absurd cc))
letter_append (b ∷ c ∷ u) r h = h

unit_len : (u : Bytes) (v : SpanUnit) → unit_of u ≡ Some v → (1 ≤ length u) × (length u ≤ 3)
unit_len u v h =
    let parts = and_parts (nat_le 1 (length u)) (nat_le (length u) 3) (unit_short u v h) in
    (leb-true 1 (length u) parts.0, leb-true (length u) 3 parts.1)

-- a unit goes on with a letter where its front is a unit too
continued : (k : ℕ) (u : Bytes) (v x : SpanUnit) → 1 ≤ k → k ≤ 2 → k < length u → unit_of u ≡ Some v → unit_of (take k u) ≡ Some x → begins_letter (drop k u) ≡ true
continued k u v x low high less h part =
    let both = and_parts (goes_on 1 u) (goes_on 2 u) (unit_goes_on u v h) in
    let test : goes_on k u ≡ true = first_or_second k low high both.0 both.1 in
    let longer_one : nat_le (length u) k ≡ false = lt-leb (length u) k less in
    rw (longer_one, part) at test
  where
    first_or_second : (k : ℕ) → 1 ≤ k → k ≤ 2 → goes_on 1 u ≡ true → goes_on 2 u ≡ true → goes_on k u ≡ true
    first_or_second zero l h a b = absurd (omega arith)
    first_or_second (suc zero) l h a b = a
    first_or_second (suc (suc zero)) l h a b = b
    first_or_second (suc (suc (suc n))) l h a b = absurd (omega arith)

not_shorter : (w u r v y : Bytes) (a b : SpanUnit) → IsUnit w u r a → IsUnit w v y b → length u < length v → ⊥
not_shorter w u r v y a b h k less =
    let more = shorter_front u r v y (sym h.split ∙ k.split) (omega arith) in
    let long = unit_len v b k.unit in
    let short = unit_len u a h.unit in
    let front : take (length u) v ≡ u = taken v u more.0 more.1 in
    let rest : drop (length u) v ≡ more.0 = dropped v u more.0 more.1 in
    let goes = continued (length u) v b a short.0 (omega arith) less k.unit (ap unit_of front ∙ h.unit) in
    let after : begins_letter (more.0 ++ y) ≡ true = letter_append more.0 y (ap begins_letter (sym rest) ∙ goes) in
    let stop = h.stops in
    let e = ap begins_letter more.2 in
    cc

same_unit : (w u r v y : Bytes) (a b : SpanUnit) → IsUnit w u r a → IsUnit w v y b → u ≡ v
same_unit w u r v y a b h k = by_bool (nat_lt (length u) (length v))
    (λ less. absurd (not_shorter w u r v y a b h k (ltb-true (length u) (length v) less)))
    (λ not_less. by_bool (nat_lt (length v) (length u))
    (λ more. absurd (not_shorter w v y u r b a k h (ltb-true (length v) (length u) more)))
    (λ not_more. (same_front u r v y (sym h.split ∙ k.split) (omega (arith, ltb-false (length u) (length v) not_less, ltb-false (length v) (length u) not_more))).0))

-- the unit that is read, where the unit is u
abbrev pub read_of : SpanUnit → Bytes → UnitRead
read_of v u = record { unit = v; len = length u }

pub bind_back : {A B : Type 0} (o : Option A) (f : A → Option B) (b : B) → (o >>= f) ≡ Some b → (a : A) × (o ≡ Some a) × (f a ≡ Some b)
bind_back None f b h = absurd cc
bind_back (Some a) f b h = (a, refl, h)

found_len : (n : ℕ) (w : Bytes) (x : UnitRead) → unit_of_len n w ≡ Some x → (v : SpanUnit) × IsUnit w (take n w) (drop n w) v × (x ≡ read_of v (take n w))
found_len n w x h = by_bool (begins_letter (drop n w))
    (λ yes. let e = rw yes at h in absurd cc)
    (λ stops.
    let back = bind_back (unit_of (take n w)) (λ u. Some (record { unit = u; len = length (take n w) })) x (rw stops at h) in
    let is = back.2 in
    (back.0, record { split = sym (take-append-drop n w); unit = back.1; stops = stops }, cc))

-- whatever is read is the unit that stands there
each_len : (n : ℕ) (w u r : Bytes) (v : SpanUnit) (x : UnitRead) → IsUnit w u r v → unit_of_len n w ≡ Some x → x ≡ read_of v u
each_len n w u r v x h e =
    let found = found_len n w x e in
    let same = same_unit w (take n w) (drop n w) u r found.0 v found.1 h in
    let value : Some found.0 ≡ Some v = sym found.1.unit ∙ ap unit_of same ∙ h.unit in
    let is : found.0 ≡ v = cc in
    found.2 ∙ ap (λ k. read_of k (take n w)) is ∙ ap (read_of v) same

own_len : (w u r : Bytes) (v : SpanUnit) → IsUnit w u r v → unit_of_len (length u) w ≡ Some (read_of v u)
own_len w u r v h = rw (dropped w u r h.split, h.stops, taken w u r h.split, h.unit) refl

one_of : {A : Type 0} (a b c : Option A) (x : A) → ((y : A) → a ≡ Some y → y ≡ x) → ((y : A) → b ≡ Some y → y ≡ x) → ((y : A) → c ≡ Some y → y ≡ x)
    → (a ≡ Some x) ⊎ ((b ≡ Some x) ⊎ (c ≡ Some x)) → option_or (option_or a b) c ≡ Some x
one_of (Some y) b c x p q r h = ap (λ k. Some k) (p y refl)
one_of None (Some y) c x p q r h = ap (λ k. Some k) (q y refl)
one_of None None (Some y) x p q r h = ap (λ k. Some k) (r y refl)
one_of None None None x p q r (inl h) = absurd cc
one_of None None None x p q r (inr (inl h)) = absurd cc
one_of None None None x p q r (inr (inr h)) = absurd cc

one_to_three : (P : ℕ → Type 0) (n : ℕ) → 1 ≤ n → n ≤ 3 → P n → P 3 ⊎ (P 2 ⊎ P 1)
one_to_three P zero l h p = absurd (omega arith)
one_to_three P (suc zero) l h p = inr (inr p)
one_to_three P (suc (suc zero)) l h p = inr (inl p)
one_to_three P (suc (suc (suc zero))) l h p = inl p
one_to_three P (suc (suc (suc (suc n)))) l h p = absurd (omega arith)

pub unit_is : (w u r : Bytes) (v : SpanUnit) → IsUnit w u r v → unit_at w ≡ Some (read_of v u)
unfolding unit_at
unit_is w u r v h =
    let long = unit_len u v h.unit in
    one_of (unit_of_len 3 w) (unit_of_len 2 w) (unit_of_len 1 w) (read_of v u)
    (λ y e. each_len 3 w u r v y h e) (λ y e. each_len 2 w u r v y h e) (λ y e. each_len 1 w u r v y h e)
    (one_to_three (λ n. unit_of_len n w ≡ Some (read_of v u)) (length u) long.0 long.1 (own_len w u r v h))

or_back : {A : Type 0} (a b : Option A) (x : A) → option_or a b ≡ Some x → (a ≡ Some x) ⊎ (b ≡ Some x)
or_back None b x h = inr h
or_back (Some y) b x h = inl h

-- what is read is a unit
abbrev pub UnitThere : Bytes → UnitRead → Type 0
UnitThere w x = (u r : Bytes) × (v : SpanUnit) × IsUnit w u r v × (x ≡ read_of v u)

there : (n : ℕ) (w : Bytes) (x : UnitRead) → unit_of_len n w ≡ Some x → UnitThere w x
there n w x h = let found = found_len n w x h in (take n w, drop n w, found.0, found.1, found.2)

pub unit_back : (w : Bytes) (x : UnitRead) → unit_at w ≡ Some x → UnitThere w x
unfolding unit_at
unit_back w x h = elim (or_back (option_or (unit_of_len 3 w) (unit_of_len 2 w)) (unit_of_len 1 w) x h) [
  | inl front ↦ elim (or_back (unit_of_len 3 w) (unit_of_len 2 w) x front) [ inl three ↦ there 3 w x three | inr two ↦ there 2 w x two ]
  | inr one ↦ there 1 w x one
]

-- no letter, no unit
pub no_unit : (w : Bytes) → begins_letter w ≡ false → unit_at w ≡ None
no_unit w h = by_option (unit_at w) refl
  where
    by_option : (o : Option UnitRead) → unit_at w ≡ o → unit_at w ≡ None
    by_option None e = e
    by_option (Some x) e =
        let there = unit_back w x e in
        let letter = letter_append there.0 there.1 (unit_begins there.0 there.2 there.3.unit) in
        let same = ap begins_letter there.3.split in
        absurd cc

pub zero_or_more : (n : ℕ) → (n ≡ 0) ⊎ (0 < n)
zero_or_more zero = inl refl
zero_or_more (suc n) = inr (omega arith)

pub other_append : (u r : Bytes) → begins is_other u ≡ true → begins is_other (u ++ r) ≡ true
other_append [] r h = absurd cc
other_append (b ∷ u) r h = h

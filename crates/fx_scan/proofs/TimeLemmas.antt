-- How long a time is, by its form.
use Rattle.std.proofs.Common.{◌≡◌, ℕ, ◌+◌, ◌<◌, ◌≤◌, ◌==◌, ◌⊎◌, inl, inr, true, false, [], ◌∷◌, ◌++◌, length, take, drop, None, ℤ, refl, sym, ap, subst, ◌∙◌, arith, append_assoc, length-append}
use Rattle.std.specs.Char.{is_ascii_digit}
use Rattle.std.specs.List.{prefix_len, list_all}
use Rattle.std.specs.Str.{all_ascii_digits}
use Rattle.std.proofs.lemmas.Bool.{and_parts, eqb-true}
use Rattle.std.proofs.lemmas.Bool.Decides.{nat_tests}
use Rattle.fx_time.specs.Time.{IsTime, Zone, Utc, Ahead, Behind, zone_text, fraction_text, seconds_text, date_text}
use Rattle.fx_time.specs.Calendar.{Clock, Date, clock_on, date_after}
use Rattle.fx_time.specs.Front.{moment_front, date_front}
use Rattle.fx_time.proofs.FrontLemmas.{then_back, date_back, date_of}
use Rattle.fx_time.proofs.ReadLemmas.{time_reads}
use Rattle.fx_scan.specs.Forms.{Bytes, begins, is_letter, is_digit, is_name_byte}
use Rattle.fx_scan.specs.Readers.{fraction_len, zone_len, time_len, IsTimeLen}
use Rattle.fx_scan.proofs.Runs.{by_bool, taken, dropped, run_is}

not_t : (z : Bytes) → begins is_name_byte z ≡ false → begins (λ b. b == 84) z ≡ false
unfolding is_name_byte is_letter is_digit
not_t [] h = refl
not_t (b ∷ z) h = by_bool (b == 84) (λ yes. let is = eqb-true b 84 yes in let e = rw is at h in absurd cc) (λ other. other)

same_digit : (b : ℕ) → is_ascii_digit b ≡ true → is_digit b ≡ true
unfolding is_digit
same_digit b h = grind (arith, nat_tests, h)

same_digits : (u : Bytes) → all_ascii_digits u ≡ true → list_all is_digit u ≡ true
same_digits [] h = refl
same_digits (b ∷ u) h = let parts = and_parts (is_ascii_digit b) (all_ascii_digits u) h in rw (same_digit b parts.0) (same_digits u parts.1)

-- a zone begins with no digit
zone_begins : (zone : Zone) (z : Bytes) → begins is_digit (zone_text zone ++ z) ≡ false
unfolding is_digit
zone_begins Utc z = refl
zone_begins (Ahead hours minutes) z = refl
zone_begins (Behind hours minutes) z = refl

abbrev zone_size : Zone → ℕ
zone_size Utc = 1
zone_size (Ahead hours minutes) = 6
zone_size (Behind hours minutes) = 6

zone_is : (zone : Zone) (z : Bytes) → zone_len (zone_text zone ++ z) ≡ zone_size zone
zone_is Utc z = refl
zone_is (Ahead hours minutes) z = refl
zone_is (Behind hours minutes) z = refl

zone_long : (zone : Zone) → length (zone_text zone) ≡ zone_size zone
zone_long Utc = refl
zone_long (Ahead hours minutes) = refl
zone_long (Behind hours minutes) = refl

fraction_is : (digits : Bytes) (zone : Zone) (z : Bytes) → all_ascii_digits digits ≡ true
    → fraction_len (fraction_text digits ++ (zone_text zone ++ z)) ≡ length (fraction_text digits)
fraction_is [] Utc z h = refl
fraction_is [] (Ahead hours minutes) z h = refl
fraction_is [] (Behind hours minutes) z h = refl
fraction_is (d ∷ ds) zone z h =
    let run : prefix_len is_digit ((d ∷ ds) ++ (zone_text zone ++ z)) ≡ length (d ∷ ds) = run_is is_digit (d ∷ ds) (zone_text zone ++ z) (same_digits (d ∷ ds) h) (zone_begins zone z) in
    omega (arith, run)

-- what stands after a clock's text and its fraction
clock_past : (c : Clock) (f r : Bytes) → drop (19 + length f) (seconds_text c ++ (f ++ r)) ≡ r
clock_past c f r = ap (λ n. drop n (seconds_text c ++ (f ++ r))) (sym (length-append (seconds_text c) f))
    ∙ dropped (seconds_text c ++ (f ++ r)) (seconds_text c ++ f) r (sym (append_assoc (seconds_text c) f r))

moment_len : (c : Clock) (digits : Bytes) (zone : Zone) (z : Bytes) → all_ascii_digits digits ≡ true
    → time_len (seconds_text c ++ (fraction_text digits ++ (zone_text zone ++ z))) ≡ 19 + length (fraction_text digits) + zone_size zone
moment_len c digits zone z h =
    let f = fraction_is digits zone z h in
    let past = clock_past c (fraction_text digits) (zone_text zone ++ z) in
    let zoned = zone_is zone z in
    ap (λ n. 19 + n + zone_len (drop (19 + n) (seconds_text c ++ (fraction_text digits ++ (zone_text zone ++ z))))) f
    ∙ ap (λ r. 19 + length (fraction_text digits) + zone_len r) past
    ∙ ap (λ n. 19 + length (fraction_text digits) + n) zoned

-- a time is as long as its form says
pub time_len_is : (u z : Bytes) (t : ℤ) → IsTime u t → begins is_name_byte z ≡ false → time_len (u ++ z) ≡ length u
time_len_is u z t (fits, inl h) stops =
    let d = date_after h.days in
    let other = not_t z stops in
    rw h.spelled (rw other refl)
time_len_is u z t (fits, inr h) stops =
    let c = clock_on (date_after h.days) h.nanos in
    let split : u ++ z ≡ seconds_text c ++ (fraction_text h.digits ++ (zone_text h.zone ++ z)) =
    ap (λ x. x ++ z) h.spelled ∙ append_assoc (seconds_text c) (fraction_text h.digits ++ zone_text h.zone) z
    ∙ ap (λ x. seconds_text c ++ x) (append_assoc (fraction_text h.digits) (zone_text h.zone) z) in
    let long : length u ≡ 19 + (length (fraction_text h.digits) + zone_size h.zone) =
    ap length h.spelled ∙ length-append (seconds_text c) (fraction_text h.digits ++ zone_text h.zone)
    ∙ ap (λ n. 19 + n) (length-append (fraction_text h.digits) (zone_text h.zone) ∙ ap (λ n. length (fraction_text h.digits) + n) (zone_long h.zone)) in
    ap time_len split ∙ moment_len c h.digits h.zone z h.digits_in.0 ∙ omega (arith, long)

-- four digits and a dash begin it
four_digits : (d : Date) → d.year < 10_000 → list_all is_digit (take 4 (date_text d)) ≡ true
unfolding is_digit
four_digits d h = grind (arith, nat_tests)

pub time_dash : (u : Bytes) (t : ℤ) → IsTime u t → (year r : Bytes) × (list_all is_digit year ≡ true) × (length year ≡ 4) × (u ≡ year ++ (45 ∷ r))
unfolding moment_front
time_dash u t h =
    let read = time_reads u t h.0 h.1 in
    then_back (date_front u) _ read.0 read.2 (λ d found more.
    let date = date_back u d found in
    (take 4 (date_text (date_of d.0)), drop 5 (date_text (date_of d.0)) ++ d.1, four_digits (date_of d.0) date.0, refl, date.3))

pub time_long : (u : Bytes) (t : ℤ) → IsTime u t → 10 ≤ length u
time_long u t (fits, inl h) = omega (arith, ap length h.spelled)
time_long u t (fits, inr h) =
    let c = clock_on (date_after h.days) h.nanos in
    omega (arith, ap length h.spelled ∙ length-append (seconds_text c) (fraction_text h.digits ++ zone_text h.zone))

-- no time where what its form would be isn't there, or is followed by a name's byte
pub no_time : (w : Bytes) (n : ℕ) → n ≡ time_len w → (length w < n) ⊎ (begins is_name_byte (drop n w) ≡ true) → IsTimeLen w None
no_time w n is (inl short) u z t e stops h =
    let len : time_len w ≡ length u = ap time_len e ∙ time_len_is u z t h stops in
    omega (arith, ap length e, length-append u z)
no_time w n is (inr goes) u z t e stops h =
    let len : n ≡ length u = is ∙ ap time_len e ∙ time_len_is u z t h stops in
    let after : drop n w ≡ z = ap (λ k. drop k w) len ∙ dropped w u z e in
    let other = ap (begins is_name_byte) after in
    cc

-- nor where what has its form isn't one
pub unread_time : (w : Bytes) (n : ℕ) → n ≡ time_len w → ((t : ℤ) → IsTime (take n w) t → ⊥) → IsTimeLen w None
unread_time w n is unread u z t e stops h =
    let len : n ≡ length u = is ∙ ap time_len e ∙ time_len_is u z t h stops in
    let front : take n w ≡ u = ap (λ k. take k w) len ∙ taken w u z e in
    unread t (subst (λ x. IsTime x t) (sym front) h)

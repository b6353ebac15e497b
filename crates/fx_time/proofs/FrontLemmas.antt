-- What a front reads is what its text spells.
use Rattle.std.proofs.Common.{◌≡◌, ℕ, suc, ◌+◌, ◌*◌, ◌/◌, ◌%◌, ◌<◌, ◌≤◌, ◌==◌, ◌||◌, nat_lt, if◌then◌else◌, Bool, true, false, List, [], ◌∷◌, ◌++◌, length, take, slice_index, Option, Some, None, option_map, refl, sym, ap, subst, pos, neg_ℤ, ◌∙◌, arith}
use Rattle.std.specs.Option.{option_and_then}
use Rattle.std.specs.Char.{is_ascii_digit}
use Rattle.std.specs.List.{prefix_len}
use Rattle.std.specs.Str.{all_ascii_digits}
use Rattle.std.proofs.lemmas.Bool.Decides.{nat_tests}
use Rattle.std.proofs.lemmas.Grind.{common_steps}
use Rattle.std.proofs.lemmas.List.{take-append-drop}
use Rattle.std.proofs.Math.Seq.{take-append_seam, drop-append_seam}
use Rattle.std.proofs.lemmas.List.Folds.{length-prefix_len}
use Rattle.jiff_core.specs.Sign.{signed}
use Rattle.jiff_fmt.specs.Reader.{two_digits, four_digits}
use Rattle.jiff_fmt.specs.Text.{pad2, pad4}
use Rattle.jiff_fmt.proofs.ReaderLemmas.{fraction_value-nil}
use Rattle.jiff_fmt.proofs.RoundTrip.{two_digits-pad2, four_digits-pad4}
use Rattle.jiff_fmt.proofs.Cases.{by_bool}
use Rattle.fx_time.specs.Front.{◌>>=◌, two_past, date_front, clock_front, billionths, fraction_front, offset_front, behind_front, zone_front}
use Rattle.fx_time.specs.Calendar.{Date}
use Rattle.fx_time.specs.Time.{date_text, fraction_text, IsFraction, Zone, Utc, Ahead, Behind, IsZone, zone_text, zone_nanos}

pub some_back : {A : Type 0} (a b : A) → Some a ≡ Some b → a ≡ b
some_back a b h = cc

-- what a step gave came from a value before it
pub then_back : {A B G : Type 0} (o : Option A) (f : A → Option B) (b : B) → (o >>= f) ≡ Some b → ((a : A) → o ≡ Some a → f a ≡ Some b → G) → G
then_back None f b h k = absurd cc
then_back (Some a) f b h k = k a refl h

and_then_back : {A B G : Type 0} (o : Option A) (f : A → Option B) (b : B) → option_and_then f o ≡ Some b → ((a : A) → o ≡ Some a → f a ≡ Some b → G) → G
and_then_back None f b h k = absurd cc
and_then_back (Some a) f b h k = k a refl h

map_back : {A B G : Type 0} (o : Option A) (f : A → B) (b : B) → option_map f o ≡ Some b → ((a : A) → o ≡ Some a → f a ≡ b → G) → G
map_back None f b h k = absurd cc
map_back (Some a) f b h k = k a refl (some_back (f a) b h)

-- a value behind a refusal
pub unless_back : {A : Type 0} (refused : Bool) (a b : A) → (if refused then None else Some a) ≡ Some b → (refused ≡ false) × (a ≡ b)
unless_back true a b h = absurd cc
unless_back false a b h = (refl, some_back a b h)

-- two digits

two_back : (text : List ℕ) (p : ℕ × List ℕ) → two_digits text ≡ Some p → (p.0 < 100) × (text ≡ pad2 p.0 ++ p.1)
unfolding two_digits
two_back [] p h = absurd cc
two_back (a ∷ []) p h = absurd cc
two_back (a ∷ b ∷ rest) p h = grind (arith, common_steps, nat_tests, h)

past_back : (byte : ℕ) (text : List ℕ) (p : ℕ × List ℕ) → two_past byte text ≡ Some p → (p.0 < 100) × (text ≡ byte ∷ pad2 p.0 ++ p.1)
unfolding two_past
past_back byte [] p h = absurd cc
past_back byte (c ∷ rest) p h = by_bool (c == byte)
    (λ yes. let is = two_back rest p (rw yes at h) in let same : c ≡ byte = grind (arith, nat_tests, yes) in (is.0, rw same (ap (λ r. byte ∷ r) is.1)))
    (λ no. let e = rw no at h in absurd cc)

-- a year

pad4-halves : (a b : ℕ) (rest : List ℕ) → a < 100 → b < 100 → pad2 a ++ pad2 b ++ rest ≡ pad4 (a * 100 + b) ++ rest
pad4-halves a b rest h k =
    let high : (a * 100 + b) / 100 ≡ a = omega arith in
    let low : (a * 100 + b) % 100 ≡ b = omega arith in
    rw (high, low)

four_back : (text : List ℕ) (p : ℕ × List ℕ) → four_digits text ≡ Some p → (p.0 < 10_000) × (text ≡ pad4 p.0 ++ p.1)
unfolding four_digits
four_back text p h =
    and_then_back (two_digits text) _ p h (λ a ea h₁.
    map_back (two_digits a.1) _ p h₁ (λ b eb is.
    let x = two_back text a ea in
    let y = two_back a.1 b eb in
    subst (λ q. (q.0 < 10_000) × (text ≡ pad4 q.0 ++ q.1)) is
    (omega arith, x.1 ∙ ap (λ r. pad2 a.0 ++ r) y.1 ∙ pad4-halves a.0 b.0 b.1 x.0 y.0)))

-- a date

abbrev pub date_of : ℕ × ℕ × ℕ → Date
date_of p = record { year = p.0; month = p.1; day = p.2 }

pub date_back : (text : List ℕ) (p : (ℕ × ℕ × ℕ) × List ℕ) → date_front text ≡ Some p
    → (p.0.0 < 10_000) × (p.0.1 < 100) × (p.0.2 < 100) × (text ≡ date_text (date_of p.0) ++ p.1)
unfolding date_front
date_back text p h =
    then_back (four_digits text) _ p h (λ y ey h₁.
    then_back (two_past 45 y.1) _ p h₁ (λ m em h₂.
    then_back (two_past 45 m.1) _ p h₂ (λ d ed h₃.
    let year = four_back text y ey in
    let month = past_back 45 y.1 m em in
    let day = past_back 45 m.1 d ed in
    subst (λ q. (q.0.0 < 10_000) × (q.0.1 < 100) × (q.0.2 < 100) × (text ≡ date_text (date_of q.0) ++ q.1)) (some_back _ p h₃)
    (year.0, month.0, day.0, year.1 ∙ ap (λ r. pad4 y.0 ++ r) (month.1 ∙ ap (λ r. 45 ∷ pad2 m.0 ++ r) day.1)))))

-- a clock

abbrev pub clock_digits : ℕ → List ℕ
clock_digits seconds = 84 ∷ pad2 (seconds / 3600) ++ 58 ∷ pad2 (seconds / 60 % 60) ++ 58 ∷ pad2 (seconds % 60)

clock-parts : (h m s : ℕ) (rest : List ℕ) → m < 60 → s < 60
    → 84 ∷ pad2 h ++ 58 ∷ pad2 m ++ 58 ∷ pad2 s ++ rest ≡ clock_digits (h * 3600 + m * 60 + s) ++ rest
clock-parts h m s rest a b =
    let hour : (h * 3600 + m * 60 + s) / 3600 ≡ h = omega arith in
    let minute : (h * 3600 + m * 60 + s) / 60 % 60 ≡ m = omega arith in
    let second : (h * 3600 + m * 60 + s) % 60 ≡ s = omega arith in
    rw (hour, minute, second)

pub clock_back : (text : List ℕ) (p : ℕ × List ℕ) → clock_front text ≡ Some p → (p.0 < 86_400) × (text ≡ clock_digits p.0 ++ p.1)
unfolding clock_front
clock_back text p e =
    then_back (two_past 84 text) _ p e (λ h eh e₁.
    then_back (two_past 58 h.1) _ p e₁ (λ m em e₂.
    then_back (two_past 58 m.1) _ p e₂ (λ s es e₃.
    let hour = past_back 84 text h eh in
    let minute = past_back 58 h.1 m em in
    let second = past_back 58 m.1 s es in
    let fits = unless_back _ _ p e₃ in
    let small : (h.0 < 24) × (m.0 < 60) × (s.0 < 60) = grind (arith, nat_tests, fits.0) in
    subst (λ q. (q.0 < 86_400) × (text ≡ clock_digits q.0 ++ q.1)) fits.1
    (omega arith, hour.1 ∙ ap (λ r. 84 ∷ pad2 h.0 ++ r) (minute.1 ∙ ap (λ r. 58 ∷ pad2 m.0 ++ r) second.1) ∙ clock-parts h.0 m.0 s.0 s.1 small.1 small.2))))

-- a fraction

digits_taken : (text : List ℕ) → all_ascii_digits (take (prefix_len is_ascii_digit text) text) ≡ true
digits_taken [] = refl
digits_taken (c ∷ rest) = by_bool (is_ascii_digit c)
    (λ yes. let more : 1 + prefix_len is_ascii_digit rest ≡ suc (prefix_len is_ascii_digit rest) = omega arith in rw (yes, more, yes) (digits_taken rest))
    (λ no. rw no refl)

pub dotted : (digits : List ℕ) → 0 < length digits → fraction_text digits ≡ 46 ∷ digits
dotted [] h = absurd (omega arith)
dotted (d ∷ ds) h = refl

billionths_back : (text : List ℕ) (p : ℕ × List ℕ) → billionths text ≡ Some p
    → (digits : List ℕ) × IsFraction digits p.0 × (0 < length digits) × (text ≡ digits ++ p.1)
unfolding billionths
billionths_back text p h =
    let len = prefix_len is_ascii_digit text in
    let fits = unless_back _ _ p h in
    let few : (0 < len) × (len ≤ 9) = grind (arith, nat_tests, fits.0) in
    let count = length-prefix_len is_ascii_digit text in
    let value = ap (λ q. q.0) fits.1 in
    let rest = ap (λ q. q.1) fits.1 in
    (take len text, (digits_taken text, omega arith, value), omega arith, sym (take-append-drop len text) ∙ ap (λ r. take len text ++ r) rest)

pub fraction_back : (text : List ℕ) (p : ℕ × List ℕ) → fraction_front text ≡ Some p
    → (digits : List ℕ) × IsFraction digits p.0 × (text ≡ fraction_text digits ++ p.1)
unfolding fraction_front
fraction_back [] p h =
    let is = some_back _ p h in
    ([], (refl, omega arith, fraction_value-nil 9 ∙ ap (λ q. q.0) is), ap (λ q. q.1) is)
fraction_back (c ∷ rest) p h = by_bool (c == 46)
    (λ yes.
    let is = billionths_back rest p (rw yes at h) in
    let dot : c ≡ 46 = grind (arith, nat_tests, yes) in
    (is.0, is.1, ap (λ b. b ∷ rest) dot ∙ ap (λ r. 46 ∷ r) is.3 ∙ ap (λ r. r ++ p.1) (sym (dotted is.0 is.2))))
    (λ no.
    let is = some_back _ p (rw no at h) in
    ([], (refl, omega arith, fraction_value-nil 9 ∙ ap (λ q. q.0) is), ap (λ q. q.1) is))

-- a zone

offset_back : (text : List ℕ) (p : ℕ × List ℕ) → offset_front text ≡ Some p
    → (h : ℕ) × (m : ℕ) × (h < 24) × (m < 60) × (p.0 ≡ h * 60 + m) × (text ≡ pad2 h ++ 58 ∷ pad2 m ++ p.1)
unfolding offset_front
offset_back text p e =
    then_back (two_digits text) _ p e (λ h eh e₁.
    then_back (two_past 58 h.1) _ p e₁ (λ m em e₂.
    let hour = two_back text h eh in
    let minute = past_back 58 h.1 m em in
    let fits = unless_back _ _ p e₂ in
    let small : (h.0 < 24) × (m.0 < 60) = grind (arith, nat_tests, fits.0) in
    (h.0, m.0, small.0, small.1, sym (ap (λ q. q.0) fits.1), hour.1 ∙ ap (λ r. pad2 h.0 ++ r) (minute.1 ∙ ap (λ r. 58 ∷ pad2 m.0 ++ r) (ap (λ q. q.1) fits.1)))))

behind_back : (behind : Bool) (rest : List ℕ) (p : (Bool × ℕ) × List ℕ) → behind_front behind rest ≡ Some p
    → (z : Zone) × IsZone z × ((if behind then 45 else 43) ∷ rest ≡ zone_text z ++ p.1) × (signed p.0.0 (p.0.1 * 60_000_000_000) ≡ zone_nanos z)
unfolding behind_front
behind_back true rest p h =
    then_back (offset_front rest) _ p h (λ o eo h₁.
    let is = offset_back rest o eo in
    subst (λ q. (z : Zone) × IsZone z × (45 ∷ rest ≡ zone_text z ++ q.1) × (signed q.0.0 (q.0.1 * 60_000_000_000) ≡ zone_nanos z)) (some_back _ p h₁)
    (Behind is.0 is.1, (is.2, is.3), ap (λ r. 45 ∷ r) is.5, ap (λ n. neg_ℤ (pos (n * 60_000_000_000))) is.4))
behind_back false rest p h =
    then_back (offset_front rest) _ p h (λ o eo h₁.
    let is = offset_back rest o eo in
    subst (λ q. (z : Zone) × IsZone z × (43 ∷ rest ≡ zone_text z ++ q.1) × (signed q.0.0 (q.0.1 * 60_000_000_000) ≡ zone_nanos z)) (some_back _ p h₁)
    (Ahead is.0 is.1, (is.2, is.3), ap (λ r. 43 ∷ r) is.5, ap (λ n. pos (n * 60_000_000_000)) is.4))

pub zone_back : (text : List ℕ) (p : (Bool × ℕ) × List ℕ) → zone_front text ≡ Some p
    → (z : Zone) × IsZone z × (text ≡ zone_text z ++ p.1) × (signed p.0.0 (p.0.1 * 60_000_000_000) ≡ zone_nanos z)
unfolding zone_front
zone_back [] p h = absurd cc
zone_back (c ∷ rest) p h = by_bool (c == 90)
    (λ zulu.
    let byte : c ≡ 90 = grind (arith, nat_tests, zulu) in
    subst (λ q. (z : Zone) × IsZone z × (c ∷ rest ≡ zone_text z ++ q.1) × (signed q.0.0 (q.0.1 * 60_000_000_000) ≡ zone_nanos z)) (some_back _ p (rw zulu at h))
    (Utc, tt, ap (λ b. b ∷ rest) byte, refl))
    (λ no. by_bool (c == 43)
    (λ plus.
    let byte : c ≡ 43 = grind (arith, nat_tests, plus) in
    let other : (c == 45) ≡ false = grind (arith, nat_tests, plus) in
    rw byte (behind_back false rest p (rw (no, plus, other) at h)))
    (λ not_plus. by_bool (c == 45)
    (λ minus.
    let byte : c ≡ 45 = grind (arith, nat_tests, minus) in
    rw byte (behind_back true rest p (rw (no, not_plus, minus) at h)))
    (λ not_minus. let e = rw (no, not_plus, not_minus) at h in absurd cc)))

-- and what is spelled is read

past_is : (byte n : ℕ) (rest : List ℕ) → n < 100 → two_past byte (byte ∷ pad2 n ++ rest) ≡ Some (n, rest)
unfolding two_past
past_is byte n rest h =
    let same : (byte == byte) ≡ true = grind (arith, nat_tests) in
    rw (same, two_digits-pad2 n rest h)

pub date_is : (d : Date) (rest : List ℕ) → d.year < 10_000 → d.month < 100 → d.day < 100
    → date_front (date_text d ++ rest) ≡ Some ((d.year, d.month, d.day), rest)
unfolding date_front
date_is d rest y m e =
    rw (four_digits-pad4 d.year (45 ∷ pad2 d.month ++ 45 ∷ pad2 d.day ++ rest) y, past_is 45 d.month (45 ∷ pad2 d.day ++ rest) m, past_is 45 d.day rest e)

pub clock_is : (seconds : ℕ) (rest : List ℕ) → seconds < 86_400 → clock_front (clock_digits seconds ++ rest) ≡ Some (seconds, rest)
unfolding clock_front
clock_is seconds rest h =
    let hour = seconds / 3600 in
    let minute = seconds / 60 % 60 in
    let second = seconds % 60 in
    let fits : (nat_lt 23 hour || nat_lt 59 minute || nat_lt 59 second) ≡ false = grind (arith, nat_tests) in
    let sum : hour * 3600 + minute * 60 + second ≡ seconds = omega arith in
    rw (past_is 84 hour (58 ∷ pad2 minute ++ 58 ∷ pad2 second ++ rest) (omega arith), past_is 58 minute (58 ∷ pad2 second ++ rest) (omega arith), past_is 58 second rest (omega arith), fits, sum)

-- what follows a fraction is no digit and no dot
abbrev pub Stops : List ℕ → Type 0
Stops rest = (is_ascii_digit (slice_index rest 0) || (slice_index rest 0 == 46)) ≡ false

counted : (digits rest : List ℕ) → all_ascii_digits digits ≡ true → Stops rest → prefix_len is_ascii_digit (digits ++ rest) ≡ length digits
counted [] [] h s = refl
counted [] (c ∷ rest) h s = let other : is_ascii_digit c ≡ false = grind (arith, nat_tests, s) in rw other
counted (d ∷ ds) rest h s = by_bool (is_ascii_digit d)
    (λ yes. rw yes (omega (arith, counted ds rest (rw yes at h) s)))
    (λ no. let e = rw no at h in absurd cc)

billionths_is : (digits rest : List ℕ) (n : ℕ) → IsFraction digits n → 0 < length digits → Stops rest → billionths (digits ++ rest) ≡ Some (n, rest)
unfolding billionths
billionths_is digits rest n h some s =
    let some_digit : (length digits == 0) ≡ false = grind (arith, nat_tests) in
    let few : nat_lt 9 (length digits) ≡ false = grind (arith, nat_tests, h.1) in
    rw (counted digits rest h.0 s, some_digit, few, take-append_seam digits rest, drop-append_seam digits rest, h.2)

pub fraction_is : (digits rest : List ℕ) (n : ℕ) → IsFraction digits n → Stops rest → fraction_front (fraction_text digits ++ rest) ≡ Some (n, rest)
unfolding fraction_front
fraction_is [] [] n h s = ap (λ k. Some (k, [])) (sym (fraction_value-nil 9) ∙ h.2)
fraction_is [] (c ∷ rest) n h s =
    let other : (c == 46) ≡ false = grind (arith, nat_tests, s) in
    rw other (ap (λ k. Some (k, c ∷ rest)) (sym (fraction_value-nil 9) ∙ h.2))
fraction_is (d ∷ ds) rest n h s = billionths_is (d ∷ ds) rest n h (omega arith) s

offset_is : (h m : ℕ) → h < 24 → m < 60 → offset_front (pad2 h ++ 58 ∷ pad2 m) ≡ Some (h * 60 + m, [])
unfolding offset_front
offset_is h m a b =
    let fits : (nat_lt 23 h || nat_lt 59 m) ≡ false = grind (arith, nat_tests) in
    rw (two_digits-pad2 h (58 ∷ pad2 m) (omega arith), past_is 58 m [] (omega arith), fits)

pub zone_is : (z : Zone) → IsZone z → (b : Bool) × (m : ℕ) × (zone_front (zone_text z) ≡ Some ((b, m), [])) × (signed b (m * 60_000_000_000) ≡ zone_nanos z)
unfolding zone_front behind_front
zone_is Utc h = (false, 0, refl, refl)
zone_is (Ahead hours minutes) h = (false, hours * 60 + minutes, rw (offset_is hours minutes h.0 h.1) refl, refl)
zone_is (Behind hours minutes) h = (true, hours * 60 + minutes, rw (offset_is hours minutes h.0 h.1) refl, refl)

pub zone_stops : (z : Zone) → Stops (zone_text z)
zone_stops Utc = refl
zone_stops (Ahead hours minutes) = refl
zone_stops (Behind hours minutes) = refl

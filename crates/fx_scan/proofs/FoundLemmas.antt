-- What each reader finds at the front is the longest token there, and where it finds nothing no token is.
use Rattle.std.proofs.Common.{◌≡◌, ℕ, ℤ, suc, ◌+◌, ◌<◌, ◌≤◌, ◌==◌, true, false, [], ◌∷◌, ◌++◌, length, take, drop, None, Some, refl, sym, ap, subst, ◌∙◌, arith, append-nil, append_assoc}
use Rattle.std.specs.List.{prefix_len, list_all}
use Rattle.std.proofs.lemmas.Bool.{and_parts}
use Rattle.std.proofs.lemmas.List.{take-append-drop, length-take-le}
use Rattle.fx_time.specs.Time.{IsTime}
use Rattle.fx_scan.specs.declared.group.Group.{Group}
use Rattle.fx_scan.specs.declared.group.Group.TheVariants as group
use Rattle.fx_scan.specs.declared.mode.Mode.{Mode}
use Rattle.fx_scan.specs.declared.token.TokenKind.{TokenKind}
use Rattle.fx_scan.specs.declared.token.TokenKind.TheVariants as kind
use Rattle.fx_scan.specs.declared.words.Word.{Word}
use Rattle.fx_scan.specs.Forms.{Bytes, begins, is_letter, is_digit, is_name_start, is_name_byte, is_name, Form, IsInt, IsSpan}
use Rattle.fx_scan.specs.Tables.{word_of}
use Rattle.fx_scan.specs.Tokens.{begins_letter, spoils_int, FormAt}
use Rattle.fx_scan.specs.Readers.{group_by, group_at, time_len, IsTimeLen, int_fits, span_len, IsTaken, IsFound}
use Rattle.fx_scan.proofs.Runs.{by_bool, run_longest, run_passes, run_within, run_some}
use Rattle.fx_scan.proofs.TableLemmas.{word_is_name, is_other}
use Rattle.fx_scan.proofs.NumberLemmas.{begins_not, int_found, int_is, unspoilt, all_digits, no_digit}
use Rattle.fx_scan.proofs.UnitLemmas.{letter_append, other_append}
use Rattle.fx_scan.proofs.SpanLemmas.{span_found, span_is, span_digits, digits_no_letter}
use Rattle.fx_scan.proofs.TimeLemmas.{time_dash, time_long, time_len_is}
use Rattle.fx_scan.proofs.KindLemmas.{by_group, group_of, grouped, after_digits, number_kind, other_kind, other_no_digit, dash_no_digit}

-- a token at the front is of the group there
pub of_group : (m : Mode) (w : Bytes) (g : Group) (k : TokenKind) (u z : Bytes) → group_at m w ≡ g → w ≡ u ++ z → FormAt m k u z → group_of k ≡ g
of_group m w g k u z h e f = sym (grouped m k u z f) ∙ ap (group_at m) (sym e) ∙ h

-- ---- names and words

name_form : (k : TokenKind) (v : Bytes) → group_of k ≡ group.Names → Form k v → is_name v ≡ true
name_form kind.Name v h f = f.0
name_form kind.Word v h f = word_is_name v f.0 f.1
name_form k v h f = absurd cc

start_in_name : (b : ℕ) → is_name_start b ≡ true → is_name_byte b ≡ true
unfolding is_name_start is_name_byte
start_in_name b h = by_bool (is_letter b) (λ yes. rw yes refl) (λ other. let underscore : (b == 95) ≡ true = rw other at h in by_bool (is_digit b) (λ yes. rw (other, yes) refl) (λ no_digit. rw (other, no_digit, underscore) refl))

name_bytes : (v : Bytes) → is_name v ≡ true → list_all is_name_byte v ≡ true
name_bytes [] h = refl
name_bytes (b ∷ v) h = let parts = and_parts (is_name_start b) (list_all is_name_byte v) h in let byte = start_in_name b parts.0 in rw byte parts.1

start_of : (m : Mode) (b : ℕ) → group_by m b ≡ group.Names → is_name_start b ≡ true
start_of m b = by_group (λ g. g ≡ group.Names → is_name_start b ≡ true) m b
    (λ yes e. yes) (λ _ e. absurd cc) (λ _ e. absurd cc) (λ _ e. absurd cc) (λ e. absurd cc) (λ e. absurd cc)

front_name : (b : ℕ) (w : Bytes) → is_name_start b ≡ true → is_name (take (prefix_len is_name_byte (b ∷ w)) (b ∷ w)) ≡ true
front_name b w h =
    let byte = start_in_name b h in
    let more : 1 + prefix_len is_name_byte w ≡ suc (prefix_len is_name_byte w) = omega arith in
    rw (byte, more, h) (run_passes is_name_byte w)

name_there : (m : Mode) (w : Bytes) → group_at m w ≡ group.Names → is_name (take (prefix_len is_name_byte w) w) ≡ true
name_there m [] h = absurd cc
name_there m (b ∷ w) h = front_name b w (start_of m b h)

name_longest : (m : Mode) (w : Bytes) → group_at m w ≡ group.Names → (j : TokenKind) (v y : Bytes) → w ≡ v ++ y → FormAt m j v y → length v ≤ prefix_len is_name_byte w
name_longest m w h j v y e f =
    let name = name_form j v (of_group m w group.Names j v y h e f) f.form in
    omega (arith, run_longest is_name_byte v y (name_bytes v name), ap (prefix_len is_name_byte) e)

name_taken : (m : Mode) (w : Bytes) → group_at m w ≡ group.Names → word_of (take (prefix_len is_name_byte w) w) ≡ None → IsTaken m w kind.Name (prefix_len is_name_byte w)
name_taken m w h free = record {
  within = run_within is_name_byte w;
  form = record { form = (name_there m w h, free); suits = tt };
  longest = name_longest m w h;
}

word_taken : (m : Mode) (w : Bytes) (word : Word) → group_at m w ≡ group.Names → word_of (take (prefix_len is_name_byte w) w) ≡ Some word → IsTaken m w kind.Word (prefix_len is_name_byte w)
word_taken m w word h is = record {
  within = run_within is_name_byte w;
  form = record { form = (word, is); suits = tt };
  longest = name_longest m w h;
}

pub name_at : (m : Mode) (w : Bytes) (n : ℕ) → group_at m w ≡ group.Names → n ≡ prefix_len is_name_byte w → word_of (take n w) ≡ None → IsTaken m w kind.Name n
name_at m w n h is free = subst (IsTaken m w kind.Name) (sym is) (name_taken m w h (ap (λ k. word_of (take k w)) (sym is) ∙ free))

pub word_at : (m : Mode) (w : Bytes) (n : ℕ) (word : Word) → group_at m w ≡ group.Names → n ≡ prefix_len is_name_byte w → word_of (take n w) ≡ Some word → IsTaken m w kind.Word n
word_at m w n word h is found = subst (IsTaken m w kind.Word) (sym is) (word_taken m w word h (ap (λ k. word_of (take k w)) (sym is) ∙ found))

-- ---- integers, spans and times

-- what stands after the digits of each
int_after : (w u z : Bytes) → w ≡ u ++ z → IsInt u → spoils_int z ≡ false → drop (prefix_len is_digit w) w ≡ z
int_after w u z e i sound = (after_digits w u z e (all_digits u i.digits) (no_digit z (unspoilt z sound).0)).1

letter_name : (b : ℕ) → is_letter b ≡ true → is_name_byte b ≡ true
unfolding is_name_byte
letter_name b h = rw h refl

no_letter : (z : Bytes) → spoils_int z ≡ false → begins_letter z ≡ false
no_letter z sound =
    let parts = unspoilt z sound in
    let letter = begins_not is_letter is_name_byte letter_name z parts.0 in
    rw (letter, parts.1) refl

span_after : (w u z : Bytes) (months nanos : ℕ) → w ≡ u ++ z → IsSpan u months nanos
    → (begins_letter (drop (prefix_len is_digit w) w) ≡ true) × (number_kind (drop (prefix_len is_digit w) w) ≡ kind.Span)
span_after w u z months nanos e h =
    let d = span_digits u months nanos h in
    let split : w ≡ d.0 ++ (d.1 ++ z) = e ∙ ap (λ x. x ++ z) d.4 ∙ append_assoc d.0 d.1 z in
    let other : begins is_other (d.1 ++ z) ≡ true = other_append d.1 z d.5 in
    let after = (after_digits w d.0 (d.1 ++ z) split d.2 (other_no_digit (d.1 ++ z) other)).1 in
    (ap begins_letter after ∙ letter_append d.1 z d.6, ap number_kind after ∙ other_kind (d.1 ++ z) other)

time_after : (w u z : Bytes) (t : ℤ) → w ≡ u ++ z → IsTime u t
    → (prefix_len is_digit w ≡ 4) × (number_kind (drop (prefix_len is_digit w) w) ≡ kind.Time)
time_after w u z t e h =
    let d = time_dash u t h in
    let split : w ≡ d.0 ++ (45 ∷ (d.1 ++ z)) = e ∙ ap (λ x. x ++ z) d.4 ∙ append_assoc d.0 (45 ∷ d.1) z in
    let after = after_digits w d.0 (45 ∷ (d.1 ++ z)) split d.2 (dash_no_digit (d.1 ++ z)) in
    (after.0 ∙ d.3, ap number_kind after.1)

time_longest : (m : Mode) (w : Bytes) (n : ℕ) (t : ℤ) → group_at m w ≡ group.Numbers → n ≤ length w → n ≡ time_len w → IsTime (take n w) t
    → (j : TokenKind) (v y : Bytes) → group_of j ≡ group.Numbers → w ≡ v ++ y → FormAt m j v y → length v ≤ n
time_longest m w n t h within is time kind.Int v y g e f =
    let four = (time_after w (take n w) (drop n w) t (sym (take-append-drop n w)) time).0 in
    let all = (int_is w v y e f.form f.suits).0 in
    omega (arith, time_long (take n w) t time, length-take-le n w within)
time_longest m w n t h within is time kind.Span v y g e f =
    let here = (time_after w (take n w) (drop n w) t (sym (take-append-drop n w)) time).1 in
    let there = (span_after w v y f.form.0 f.form.1 e f.form.2).1 in
    absurd cc
time_longest m w n t h within is time kind.Time v y g e f = omega (arith, ap time_len e ∙ time_len_is v y f.form.0 f.form.1 f.suits)
time_longest m w n t h within is time k v y g e f = absurd cc

pub time_taken : (m : Mode) (w : Bytes) (n : ℕ) → group_at m w ≡ group.Numbers → IsTimeLen w (Some n) → IsTaken m w kind.Time n
time_taken m w n h is = record {
  within = is.0;
  form = record { form = is.3; suits = is.2 };
  longest = λ j v y e f. time_longest m w n is.3.0 h is.0 is.1 is.3.1 j v y (of_group m w group.Numbers j v y h e f) e f;
}

digit_of : (m : Mode) (b : ℕ) → group_by m b ≡ group.Numbers → is_digit b ≡ true
digit_of m b = by_group (λ g. g ≡ group.Numbers → is_digit b ≡ true) m b
    (λ _ e. absurd cc) (λ yes e. yes) (λ _ e. absurd cc) (λ _ e. absurd cc) (λ e. absurd cc) (λ e. absurd cc)

digit_there : (m : Mode) (w : Bytes) → group_at m w ≡ group.Numbers → begins is_digit w ≡ true
digit_there m [] h = absurd cc
digit_there m (b ∷ w) h = digit_of m b h

abbrev IsSpanAt : Bytes → Type 0
IsSpanAt w = (months nanos : ℕ) × IsSpan (take (span_len w) w) months nanos

span_longest : (m : Mode) (w : Bytes) → IsTimeLen w None → 0 < span_len w → IsSpanAt w
    → (j : TokenKind) (v y : Bytes) → group_of j ≡ group.Numbers → w ≡ v ++ y → FormAt m j v y → length v ≤ span_len w
span_longest m w none some span kind.Int v y g e f =
    let letter = (span_after w (take (span_len w) w) (drop (span_len w) w) span.0 span.1 (sym (take-append-drop (span_len w) w)) span.2).0 in
    let after = ap begins_letter (int_after w v y e f.form f.suits) in
    let stop = no_letter y f.suits in
    absurd cc
span_longest m w none some span kind.Span v y g e f = (span_is w v y f.form.0 f.form.1 e f.form.2 f.suits).0
span_longest m w none some span kind.Time v y g e f = absurd (none v y f.form.0 e f.suits f.form.1)
span_longest m w none some span k v y g e f = absurd cc

pub span_taken : (m : Mode) (w : Bytes) → group_at m w ≡ group.Numbers → IsTimeLen w None → 0 < span_len w → IsTaken m w kind.Span (span_len w)
span_taken m w h none some =
    let stop : begins_letter w ≡ false = ap begins_letter (sym (append-nil w)) ∙ digits_no_letter w [] (digit_there m w h) in
    let found = span_found w stop some in
    record {
      within = found.0;
      form = record { form = found.1; suits = found.2 };
      longest = λ j v y e f. span_longest m w none some found.1 j v y (of_group m w group.Numbers j v y h e f) e f;
    }

-- without a time and a span
int_only : (m : Mode) (w : Bytes) → IsTimeLen w None → span_len w ≡ 0 → (j : TokenKind) (v y : Bytes) → group_of j ≡ group.Numbers → w ≡ v ++ y → FormAt m j v y
    → (prefix_len is_digit w ≡ length v) × (int_fits (take (prefix_len is_digit w) w) (drop (prefix_len is_digit w) w) ≡ true)
int_only m w none no_span kind.Int v y g e f = int_is w v y e f.form f.suits
int_only m w none no_span kind.Span v y g e f = let is = span_is w v y f.form.0 f.form.1 e f.form.2 f.suits in absurd (omega (arith, is.0, is.1))
int_only m w none no_span kind.Time v y g e f = absurd (none v y f.form.0 e f.suits f.form.1)
int_only m w none no_span k v y g e f = absurd cc

int_taken : (m : Mode) (w : Bytes) → group_at m w ≡ group.Numbers → IsTimeLen w None → span_len w ≡ 0
    → int_fits (take (prefix_len is_digit w) w) (drop (prefix_len is_digit w) w) ≡ true → IsTaken m w kind.Int (prefix_len is_digit w)
int_taken m w h none no_span fits =
    let found = int_found w (run_some is_digit w (digit_there m w h)) fits in
    record {
      within = run_within is_digit w;
      form = record { form = found.0; suits = found.1 };
      longest = λ j v y e f. omega (arith, (int_only m w none no_span j v y (of_group m w group.Numbers j v y h e f) e f).0);
    }

no_int : (m : Mode) (w : Bytes) → group_at m w ≡ group.Numbers → IsTimeLen w None → span_len w ≡ 0
    → int_fits (take (prefix_len is_digit w) w) (drop (prefix_len is_digit w) w) ≡ false → IsFound m w None
no_int m w h none no_span fails j v y e f =
    let fits = (int_only m w none no_span j v y (of_group m w group.Numbers j v y h e f) e f).1 in
    cc

pub int_at : (m : Mode) (w : Bytes) (n : ℕ) → group_at m w ≡ group.Numbers → IsTimeLen w None → span_len w ≡ 0 → n ≡ prefix_len is_digit w
    → int_fits (take n w) (drop n w) ≡ true → IsTaken m w kind.Int n
int_at m w n h none no_span is fits =
    subst (IsTaken m w kind.Int) (sym is) (int_taken m w h none no_span (ap (λ k. int_fits (take k w) (drop k w)) (sym is) ∙ fits))

pub no_int_at : (m : Mode) (w : Bytes) (n : ℕ) → group_at m w ≡ group.Numbers → IsTimeLen w None → span_len w ≡ 0 → n ≡ prefix_len is_digit w
    → int_fits (take n w) (drop n w) ≡ false → IsFound m w None
no_int_at m w n h none no_span is fails = no_int m w h none no_span (ap (λ k. int_fits (take k w) (drop k w)) (sym is) ∙ fails)

-- ---- no token

no_group : (k : TokenKind) → group_of k ≡ group.Nothing → ⊥
no_group kind.Name h = cc
no_group k h = cc

pub nothing_found : (m : Mode) (w : Bytes) → group_at m w ≡ group.Nothing → IsFound m w None
nothing_found m w h k u z e f = no_group k (of_group m w group.Nothing k u z h e f)

-- The symbol that the reader finds at the front, and no longer one.
use Rattle.std.proofs.Common.{◌≡◌, ℕ, zero, suc, ◌<◌, ◌≤◌, ◌==◌, ◌⊎◌, inl, inr, true, false, [], ◌∷◌, ◌++◌, length, take, drop, None, Some, refl, sym, ap, subst, ◌∙◌, arith, length-append}
use Rattle.std.specs.Prelude.{◌&&◌, is_some, nat_lt}
use Rattle.std.proofs.lemmas.Bool.{and_parts, eqb-true, leb-true, ltb-true, lt-ltb}
use Rattle.fx_scan.specs.declared.group.Group.TheVariants as group
use Rattle.fx_scan.specs.declared.mode.Mode.{Mode}
use Rattle.fx_scan.specs.declared.symbols.Symbol.{Symbol}
use Rattle.fx_scan.specs.declared.token.TokenKind.{TokenKind}
use Rattle.fx_scan.specs.declared.token.TokenKind.TheVariants as kind
use Rattle.fx_scan.specs.Forms.{Bytes, begins, is_letter, is_digit, is_name_start, is_slash, Form}
use Rattle.fx_scan.specs.Tables.{symbol_of}
use Rattle.fx_scan.specs.Tokens.{is_brace}
use Rattle.fx_scan.specs.Readers.{group_by, group_at, is_second, begins_double, symbol_len, IsTaken, IsFound}
use Rattle.fx_scan.proofs.Runs.{by_bool, taken}
use Rattle.fx_scan.proofs.TableLemmas.{symbol_begins, symbol_short, symbol_second}
use Rattle.fx_scan.proofs.KindLemmas.{group_of, form_some}
use Rattle.fx_scan.proofs.FoundLemmas.{of_group}
use Rattle.fx_scan.proofs.SpanLemmas.{some_is}

symbol_form : (j : TokenKind) (v : Bytes) → group_of j ≡ group.Symbols → Form j v → (s : Symbol) × (symbol_of v ≡ Some s)
symbol_form kind.Symbol v g f = f
symbol_form j v g f = absurd cc

one_or_two : (P : ℕ → Type 0) (n : ℕ) → 0 < n → n ≤ 2 → P n → P 1 ⊎ P 2
one_or_two P zero l h p = absurd (omega arith)
one_or_two P (suc zero) l h p = inl p
one_or_two P (suc (suc zero)) l h p = inr p
one_or_two P (suc (suc (suc n))) l h p = absurd (omega arith)

-- what is read is as long as any symbol there
at_least : (w v y : Bytes) (s : Symbol) → w ≡ v ++ y → symbol_of v ≡ Some s → (n : ℕ) × (symbol_len w ≡ Some n) × (length v ≤ n)
at_least w v y s e h =
    let short = leb-true (length v) 2 (symbol_short v s h) in
    let found : is_some (symbol_of (take (length v) w)) ≡ true = ap (λ x. is_some (symbol_of x)) (taken w v y e) ∙ ap is_some h in
    let long : length v ≤ length w = omega (arith, ap length e, length-append v y) in
    elim (one_or_two (λ n. (is_some (symbol_of (take n w)) ≡ true) × (n ≤ length w) × (length v ≡ n)) (length v) (form_some kind.Symbol v (s, h)) short (found, long, refl)) [
      | inl one ↦ by_bool (nat_lt 1 (length w) && is_some (symbol_of (take 2 w)))
          (λ yes. (2, rw yes refl, omega (arith, one.2)))
          (λ other. let is = one.0 in (1, rw (other, is) refl, omega (arith, one.2)))
      | inr two ↦
          let more = lt-ltb 1 (length w) (omega (arith, two.1)) in
          let is = two.0 in
          (2, rw (more, is) refl, omega (arith, two.2))
    ]

pub no_symbol : (m : Mode) (w : Bytes) → group_at m w ≡ group.Symbols → symbol_len w ≡ None → IsFound m w None
no_symbol m w h none j v y e f =
    let s = symbol_form j v (of_group m w group.Symbols j v y h e f) f.form in
    let read = (at_least w v y s.0 e s.1).1 in
    cc

some_bytes : (n : ℕ) (w : Bytes) → is_some (symbol_of (take n w)) ≡ true → 0 < length w
some_bytes zero w h = let s = some_is (symbol_of []) h in let e = symbol_begins [] s.0 s.1 in absurd cc
some_bytes (suc n) [] h = let s = some_is (symbol_of []) h in let e = symbol_begins [] s.0 s.1 in absurd cc
some_bytes (suc n) (b ∷ w) h = omega arith

-- what is read is a symbol
symbol_back : (w : Bytes) (n : ℕ) → symbol_len w ≡ Some n → (0 < n) × (n ≤ length w) × (is_some (symbol_of (take n w)) ≡ true)
symbol_back w n h = by_bool (nat_lt 1 (length w) && is_some (symbol_of (take 2 w)))
    (λ yes.
    let e = rw yes at h in
    let is : 2 ≡ n = cc in
    let parts = and_parts (nat_lt 1 (length w)) (is_some (symbol_of (take 2 w))) yes in
    let long = ltb-true 1 (length w) parts.0 in
    (omega arith, omega arith, subst (λ k. is_some (symbol_of (take k w)) ≡ true) is parts.1))
    (λ other. by_bool (is_some (symbol_of (take 1 w)))
    (λ one.
    let e = rw (other, one) at h in
    let is : 1 ≡ n = cc in
    let long = some_bytes 1 w one in
    (omega arith, omega arith, subst (λ k. is_some (symbol_of (take k w)) ≡ true) is one))
    (λ none. let e = rw (other, none) at h in absurd cc))

-- two bytes are looked for only where the second may be one
pub double_by_second : (w : Bytes) → (begins is_second (drop 1 w) && is_some (symbol_of (take 2 w))) ≡ begins_double w
double_by_second [] = refl
double_by_second (a ∷ []) = refl
double_by_second (a ∷ b ∷ w) = by_bool (is_some (symbol_of (a ∷ b ∷ [])))
    (λ yes.
    let s = some_is (symbol_of (a ∷ b ∷ [])) yes in
    let second : is_second b ≡ true = symbol_second (a ∷ b ∷ []) s.0 s.1 in
    let more = lt-ltb 1 (length (a ∷ b ∷ w)) (omega arith) in
    rw (second, more) refl)
    (λ none. let more = lt-ltb 1 (length (a ∷ b ∷ w)) (omega arith) in by_bool (is_second b) (λ yes. rw (yes, more) refl) (λ no. rw (no, more, none) refl))

slash_divides : (m : Mode) → group_by m 47 ≡ group.Symbols → m.divides ≡ true
unfolding group_by is_name_start is_letter is_digit is_slash
slash_divides m h = by_bool m.divides (λ yes. yes) (λ other. let e = rw other at h in absurd cc)

opening_outside : (m : Mode) → group_by m 123 ≡ group.Symbols → m.in_hole ≡ false
unfolding group_by is_name_start is_letter is_digit is_slash
opening_outside m h = by_bool m.in_hole (λ yes. let e = rw yes at h in absurd cc) (λ other. other)

closing_outside : (m : Mode) → group_by m 125 ≡ group.Symbols → m.in_hole ≡ false
unfolding group_by is_name_start is_letter is_digit is_slash
closing_outside m h = by_bool m.in_hole (λ yes. let e = rw yes at h in absurd cc) (λ other. other)

slash_suits : (m : Mode) (b : ℕ) → group_by m b ≡ group.Symbols → is_slash b ≡ true → m.divides ≡ true
unfolding is_slash
slash_suits m b h s = slash_divides m (ap (group_by m) (sym (eqb-true b 47 s)) ∙ h)

brace_suits : (m : Mode) (b : ℕ) → group_by m b ≡ group.Symbols → is_brace b ≡ true → m.in_hole ≡ false
unfolding is_brace
brace_suits m b h s = by_bool (b == 123)
    (λ opens. opening_outside m (ap (group_by m) (sym (eqb-true b 123 opens)) ∙ h))
    (λ other. let closes : (b == 125) ≡ true = rw other at s in closing_outside m (ap (group_by m) (sym (eqb-true b 125 closes)) ∙ h))

suits_there : (m : Mode) (n : ℕ) (w : Bytes) → group_at m w ≡ group.Symbols → 0 < n
    → (begins is_slash (take n w) ≡ true → m.divides ≡ true) × (begins is_brace (take n w) ≡ true → m.in_hole ≡ false)
suits_there m zero w h some = absurd (omega arith)
suits_there m (suc n) [] h some = absurd cc
suits_there m (suc n) (b ∷ w) h some = (slash_suits m b h, brace_suits m b h)

pub symbol_taken : (m : Mode) (w : Bytes) (n : ℕ) → group_at m w ≡ group.Symbols → symbol_len w ≡ Some n → IsTaken m w kind.Symbol n
symbol_taken m w n h is =
    let back = symbol_back w n is in
    record {
      within = back.1;
      form = record { form = some_is (symbol_of (take n w)) back.2; suits = suits_there m n w h back.0 };
      longest = λ j v y e f.
          let s = symbol_form j v (of_group m w group.Symbols j v y h e f) f.form in
          let read = at_least w v y s.0 e s.1 in
          let same : read.0 ≡ n = let both = sym read.1 ∙ is in cc in
          omega (arith, read.2);
    }

-- What each row of a table shows, the text that is found there shows.
use Rattle.std.proofs.Common.{◌≡◌, ℕ, ◌==◌, Bool, true, List, [], ◌∷◌, length, take, drop, Some, refl, subst}
use Rattle.std.specs.Prelude.{nat_le, nat_lt, ◌&&◌, ◌||◌, not, is_some}
use Rattle.std.specs.Ordering.{nat_cmp, is_eq}
use Rattle.std.specs.Cmp.Lexicographic.{slice_cmp}
use Rattle.std.proofs.lemmas.Bool.{and_parts, eqb-true}
use Rattle.fx_table.specs.CaseTable.{value_at}
use Rattle.fx_scan.specs.declared.symbols.Symbol.{Symbol}
use Rattle.fx_scan.specs.declared.units.Unit.{Unit}
use Rattle.fx_scan.specs.declared.units.Unit.TheVariants.{Months, Nanos}
use Rattle.fx_scan.specs.declared.words.Word.{Word}
use Rattle.fx_scan.specs.Forms.{Bytes, begins, is_letter, is_digit, is_name_start, is_name_byte, is_name}
use Rattle.fx_scan.specs.Tokens.{begins_letter, is_blank}
use Rattle.fx_scan.specs.Readers.{is_second}
use Rattle.fx_scan.specs.Tables.{words, symbols, units, word_of, symbol_of, unit_of}
use Rattle.fx_scan.proofs.Runs.{by_bool}

same : (a b : Bytes) → is_eq (slice_cmp nat_cmp a b) ≡ true → a ≡ b
same [] [] h = refl
same [] (y ∷ b) h = absurd cc
same (x ∷ a) [] h = absurd cc
same (x ∷ a) (y ∷ b) h = by_bool (nat_lt x y)
    (λ less. let e = rw less at h in absurd cc)
    (λ no. by_bool (x == y)
    (λ yes. let first = eqb-true x y yes in let rest = same a b (rw (no, yes) at h) in rw (first, rest) refl)
    (λ other. let e = rw (no, other) at h in absurd cc))

-- each row passes
abbrev pub each_row : {V : Type 0} → (Bytes → V → Bool) → List (Bytes × V) → Bool
each_row q [] = true
each_row q (row ∷ rest) = q row.0 row.1 && each_row q rest

pub of_row : {V : Type 0} (q : Bytes → V → Bool) (rows : List (Bytes × V)) (u : Bytes) (v : V)
    → each_row q rows ≡ true → value_at (slice_cmp nat_cmp) u rows ≡ Some v → q u v ≡ true
of_row q [] u v each e = absurd cc
of_row q (row ∷ rest) u v each e =
    let parts = and_parts (q row.0 row.1) (each_row q rest) each in
    by_bool (is_eq (slice_cmp nat_cmp row.0 u))
    (λ yes.
    let found = rw yes at e in
    let value : row.1 ≡ v = cc in
    subst (λ t. q t v ≡ true) (same row.0 u yes) (subst (λ x. q row.0 x ≡ true) value parts.0))
    (λ no. of_row q rest u v parts.1 (rw no at e))

-- a reserved word is spelled as a name
pub word_is_name : (u : Bytes) (v : Word) → word_of u ≡ Some v → is_name u ≡ true
unfolding word_of words is_name_start is_name_byte is_letter is_digit
word_is_name u v e = of_row (λ t _. is_name t) words u v refl e

-- neither a name nor a number, a text, a blank begins so
unfoldable pub is_mark : ℕ → Bool
is_mark b = not (is_name_start b || (is_digit b || ((b == 34) || is_blank b)))

pub symbol_begins : (u : Bytes) (v : Symbol) → symbol_of u ≡ Some v → begins is_mark u ≡ true
unfolding symbol_of symbols is_mark is_name_start is_letter is_digit is_blank
symbol_begins u v e = of_row (λ t _. begins is_mark t) symbols u v refl e

pub symbol_short : (u : Bytes) (v : Symbol) → symbol_of u ≡ Some v → nat_le (length u) 2 ≡ true
unfolding symbol_of symbols
symbol_short u v e = of_row (λ t _. nat_le (length t) 2) symbols u v refl e

pub symbol_second : (u : Bytes) (v : Symbol) → symbol_of u ≡ Some v → (nat_le (length u) 1 || begins is_second (drop 1 u)) ≡ true
unfolding symbol_of symbols is_second
symbol_second u v e = of_row (λ t _. nat_le (length t) 1 || begins is_second (drop 1 t)) symbols u v refl e

-- a unit has one to three bytes
pub unit_short : (u : Bytes) (v : Unit) → unit_of u ≡ Some v → (nat_le 1 (length u) && nat_le (length u) 3) ≡ true
unfolding unit_of units
unit_short u v e = of_row (λ t _. nat_le 1 (length t) && nat_le (length t) 3) units u v refl e

pub unit_begins : (u : Bytes) (v : Unit) → unit_of u ≡ Some v → begins_letter u ≡ true
unfolding unit_of units is_letter
unit_begins u v e = of_row (λ t _. begins_letter t) units u v refl e

-- no digit and no dash begins it
abbrev pub is_other : ℕ → Bool
is_other b = not (is_digit b || (b == 45))

pub unit_other : (u : Bytes) (v : Unit) → unit_of u ≡ Some v → begins is_other u ≡ true
unfolding unit_of units is_digit
unit_other u v e = of_row (λ t _. begins is_other t) units u v refl e

abbrev pub size_of : Unit → ℕ
size_of (Months n) = n
size_of (Nanos n) = n

pub unit_worth : (u : Bytes) (v : Unit) → unit_of u ≡ Some v → nat_le 1 (size_of v) ≡ true
unfolding unit_of units
unit_worth u v e = of_row (λ _ x. nat_le 1 (size_of x)) units u v refl e

-- where the first k bytes are a unit too, a letter follows them
abbrev pub goes_on : ℕ → Bytes → Bool
goes_on k u = nat_le (length u) k || (not (is_some (unit_of (take k u))) || begins_letter (drop k u))

pub unit_goes_on : (u : Bytes) (v : Unit) → unit_of u ≡ Some v → (goes_on 1 u && goes_on 2 u) ≡ true
unfolding unit_of units is_letter
unit_goes_on u v e = of_row (λ t _. goes_on 1 t && goes_on 2 t) units u v refl e

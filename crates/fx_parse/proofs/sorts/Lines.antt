-- The operators of each line of the grammar, by the line that an item's sort has.
use Rattle.std.proofs.Common.{◌≡◌, ℕ, zero, suc, ◌<◌, true, false, List, [], ◌∷◌, map, get_or, refl, sym, ap, ◌∙◌, arith}
use Rattle.std.specs.Prelude.{Bool, nat_eq, nat_lt}
use Rattle.std.proofs.lemmas.Bool.{ne_eqb}
use Rattle.std.proofs.lemmas.Bool.Decides.{nat_tests}
use Rattle.fx_scan.specs.declared.symbols.Symbol.{Symbol}
use Rattle.fx_scan.specs.declared.symbols.Symbol.TheVariants as symbol
use Rattle.fx_scan.specs.declared.words.Word.{Word}
use Rattle.fx_scan.specs.declared.words.Word.TheVariants as word
use Rattle.fx_parse.specs.declared.item.Item.{Item}
use Rattle.fx_parse.specs.Cursor.{operator_line, prefix_line}
use Rattle.fx_parse.specs.Items.{Sort, a_name, an_int, a_span, a_time, a_plain, a_head, a_mid, a_tail, a_pattern, a_word, a_symbol, sort, among, one_of, operators, prefixes}

-- the lines above a postfix, from 0
abbrev lines : List ℕ
lines = 0 ∷ 1 ∷ 2 ∷ 3 ∷ 4 ∷ 5 ∷ 6 ∷ 7 ∷ []

-- the sort's line is one of these or none, and the sort stands in the table's row of its line, and in no other
abbrev Agrees : (Sort → ℕ) → (ℕ → List Sort) → Sort → Type 0
Agrees line table s = nat_lt (line s) 9 ∷ map (λ m. nat_eq (line s) (suc m)) lines ≡ true ∷ map (λ m. among (table (suc m)) s) lines

-- the table has no further rows
abbrev Ends : (ℕ → List Sort) → Type 0
Ends table = (m : ℕ) (s : Sort) → among (table (suc (suc (suc (suc (suc (suc (suc (suc (suc m)))))))))) s ≡ false

module _ (line : Sort → ℕ) (table : ℕ → List Sort) (agrees : (s : Sort) → Agrees line table s) (ends : Ends table) where
  is_low : (s : Sort) → line s < 9
  is_low s = let low : nat_lt (line s) 9 ≡ true = ap (λ l. get_or l 0 false) (agrees s) in grind (arith, nat_tests)

  beyond : (m : ℕ) (s : Sort) → nat_eq (line s) (suc (suc (suc (suc (suc (suc (suc (suc (suc m))))))))) ≡ false
  beyond m s = ne_eqb (line s) (suc (suc (suc (suc (suc (suc (suc (suc (suc m))))))))) (let low = is_low s in omega arith)

  at_line : (m : ℕ) (s : Sort) → nat_eq (line s) (suc m) ≡ among (table (suc m)) s
  at_line zero s = ap (λ l. get_or l 1 false) (agrees s)
  at_line (suc zero) s = ap (λ l. get_or l 2 false) (agrees s)
  at_line (suc (suc zero)) s = ap (λ l. get_or l 3 false) (agrees s)
  at_line (suc (suc (suc zero))) s = ap (λ l. get_or l 4 false) (agrees s)
  at_line (suc (suc (suc (suc zero)))) s = ap (λ l. get_or l 5 false) (agrees s)
  at_line (suc (suc (suc (suc (suc zero))))) s = ap (λ l. get_or l 6 false) (agrees s)
  at_line (suc (suc (suc (suc (suc (suc zero)))))) s = ap (λ l. get_or l 7 false) (agrees s)
  at_line (suc (suc (suc (suc (suc (suc (suc zero))))))) s = ap (λ l. get_or l 8 false) (agrees s)
  at_line (suc (suc (suc (suc (suc (suc (suc (suc m)))))))) s = beyond m s ∙ sym (ends m s)

  item_at : (m : ℕ) (x : Item) → 0 < m → nat_eq (line (sort x.lexeme)) m ≡ one_of (table m) x
  unfolding one_of
  item_at zero x some = absurd (omega arith)
  item_at (suc m) x some = at_line m (sort x.lexeme)

-- ---- between operands

word_between : (x : Word) → Agrees operator_line operators (a_word x)
word_between word.And = refl
word_between x = refl

symbol_between : (x : Symbol) → Agrees operator_line operators (a_symbol x)
symbol_between symbol.Plus = refl
symbol_between x = refl

between : (s : Sort) → Agrees operator_line operators s
between (a_word x) = word_between x
between (a_symbol x) = symbol_between x
between s = refl

pub operator_item : (m : ℕ) (x : Item) → 0 < m → nat_eq (operator_line (sort x.lexeme)) m ≡ one_of (operators m) x
operator_item = item_at operator_line operators between (λ m s. refl)

-- ---- before an operand

word_before : (x : Word) → Agrees prefix_line prefixes (a_word x)
word_before word.And = refl
word_before x = refl

symbol_before : (x : Symbol) → Agrees prefix_line prefixes (a_symbol x)
symbol_before symbol.Plus = refl
symbol_before x = refl

before : (s : Sort) → Agrees prefix_line prefixes s
before (a_word x) = word_before x
before (a_symbol x) = symbol_before x
before s = refl

pub before_item : (m : ℕ) (x : Item) → 0 < m → nat_eq (prefix_line (sort x.lexeme)) m ≡ one_of (prefixes m) x
before_item = item_at prefix_line prefixes before (λ m s. refl)

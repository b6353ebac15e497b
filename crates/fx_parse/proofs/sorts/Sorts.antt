-- Tests of an item by what its lexeme is.
use Rattle.std.proofs.Common.{◌≡◌, ℕ, suc, ◌+◌, ◌≤◌, ◌==◌, ◌&&◌, ◌||◌, Bool, true, false, get_or, List, [], ◌∷◌, sym, refl, ap, ◌∙◌, arith, leb}
use Rattle.std.proofs.lemmas.Bool.{eqb-true, eq-eqb, ne_eqb, or_parts, and_parts, leb-true}
use denote.Enum.Bare.{sameb, same_true, true_same}
use Rattle.fx_scan.specs.declared.symbols.Symbol.{Symbol}
use Rattle.fx_scan.specs.declared.symbols.Symbol.TheVariants as symbol
use Rattle.fx_scan.specs.declared.words.Word.{Word}
use Rattle.fx_scan.specs.declared.words.Word.TheVariants as word
use Rattle.fx_scan.specs.contracts.symbols.Symbol as symbols
use Rattle.fx_scan.specs.contracts.words.Word as words
use Rattle.fx_parse.specs.declared.item.Lexeme.{Lexeme}
use Rattle.fx_parse.specs.declared.item.Lexeme.TheVariants.{Name, Word as WordOf, Int, Span, Time, Plain, Head, Mid, Tail, Pattern, Symbol as SymbolOf}
use Rattle.fx_parse.specs.Items.{Sort, a_name, an_int, a_span, a_time, a_plain, a_head, a_mid, a_tail, a_pattern, a_word, a_symbol, sort, sort_number, symbol_number, word_number, among}
use Rattle.fx_parse.specs.ReadPrimary.{beginning}

all_symbols : List Symbol
all_symbols = symbol.Plus ∷ symbol.Minus ∷ symbol.Star ∷ symbol.Slash ∷ symbol.Percent ∷ symbol.Equal ∷ symbol.NotEqual ∷ symbol.Less ∷ symbol.Greater
    ∷ symbol.AtMost ∷ symbol.AtLeast ∷ symbol.Matches ∷ symbol.MatchesNot ∷ symbol.Assign ∷ symbol.Arrow ∷ symbol.PipeParameter ∷ symbol.OpenParen
    ∷ symbol.CloseParen ∷ symbol.OpenBracket ∷ symbol.CloseBracket ∷ symbol.OpenBrace ∷ symbol.CloseBrace ∷ symbol.Comma ∷ symbol.Colon ∷ symbol.Dot ∷ symbol.Pipe ∷ []

symbol_back : (s : Symbol) → get_or all_symbols (symbol_number s) symbol.Plus ≡ s
unfolding all_symbols
symbol_back symbol.Plus = refl
symbol_back s = refl

all_words : List Word
all_words = word.And ∷ word.Builtin ∷ word.Else ∷ word.Empty ∷ word.Exists ∷ word.If ∷ word.Import ∷ word.In ∷ word.Not ∷ word.Option ∷ word.Or ∷ word.Package
    ∷ word.Return ∷ word.Test ∷ word.Testcase ∷ word.Then ∷ []

word_back : (s : Word) → get_or all_words (word_number s) word.And ≡ s
unfolding all_words
word_back word.And = refl
word_back s = refl

word_small : (s : Word) → word_number s ≤ 15
word_small word.And = omega arith
word_small s = omega arith

one_symbol : (a b : Symbol) → (30 + symbol_number b == 30 + symbol_number a) ≡ true → a ≡ b
one_symbol a b e =
    let h : 30 + symbol_number b ≡ 30 + symbol_number a = eqb-true (30 + symbol_number b) (30 + symbol_number a) e in
    let g : symbol_number a ≡ symbol_number b = omega arith in
    sym (symbol_back a) ∙ (ap (λ n. get_or all_symbols n symbol.Plus) g ∙ symbol_back b)

one_word : (a b : Word) → (10 + word_number b == 10 + word_number a) ≡ true → a ≡ b
one_word a b e =
    let h : 10 + word_number b ≡ 10 + word_number a = eqb-true (10 + word_number b) (10 + word_number a) e in
    let g : word_number a ≡ word_number b = omega arith in
    sym (word_back a) ∙ (ap (λ n. get_or all_words n word.And) g ∙ word_back b)

or_false : (b : Bool) → (b || false) ≡ b
or_false true = refl
or_false false = refl

same_answer : (x y : Bool) → (x ≡ true → y ≡ true) → (y ≡ true → x ≡ true) → x ≡ y
same_answer true y f g = sym (f refl)
same_answer false true f g = g refl
same_answer false false f g = refl

-- what `==` answers of two symbols, and of two words
pub symbol_same : (l : Lexeme) (a b : Symbol) → l ≡ SymbolOf a → sameb symbols.the_type a b ≡ among (a_symbol b ∷ []) (sort l)
symbol_same l a b e = same_answer (sameb symbols.the_type a b) (30 + symbol_number b == 30 + symbol_number a)
    (λ h. let g : a ≡ b = same_true symbols.the_type tt a b h in eq-eqb (30 + symbol_number b) (30 + symbol_number a) (ap (λ s. 30 + symbol_number s) (sym g)))
    (λ h. true_same symbols.the_type a b (one_symbol a b h))
    ∙ (sym (or_false (30 + symbol_number b == 30 + symbol_number a)) ∙ ap (λ z. among (a_symbol b ∷ []) (sort z)) (sym e))

pub word_same : (l : Lexeme) (a b : Word) → l ≡ WordOf a → sameb words.the_type a b ≡ among (a_word b ∷ []) (sort l)
word_same l a b e = same_answer (sameb words.the_type a b) (10 + word_number b == 10 + word_number a)
    (λ h. let g : a ≡ b = same_true words.the_type tt a b h in eq-eqb (10 + word_number b) (10 + word_number a) (ap (λ s. 10 + word_number s) (sym g)))
    (λ h. true_same words.the_type a b (one_word a b h))
    ∙ (sym (or_false (10 + word_number b == 10 + word_number a)) ∙ ap (λ z. among (a_word b ∷ []) (sort z)) (sym e))

-- ---- what isn't there

-- words or symbols alone
abbrev pub marks : List Sort → Bool
marks [] = true
marks (s ∷ ss) = leb 10 (sort_number s) && marks ss

no_mark : (ss : List Sort) (s : Sort) → marks ss ≡ true → suc (sort_number s) ≤ 10 → false ≡ among ss s
no_mark [] s e le = refl
no_mark (x ∷ ss) s e le =
    let p : (leb 10 (sort_number x) ≡ true) × (marks ss ≡ true) = and_parts (leb 10 (sort_number x)) (marks ss) e in
    let h : 10 ≤ sort_number x = leb-true 10 (sort_number x) p.0 in
    let g : (sort_number x == sort_number s) ≡ false = ne_eqb (sort_number x) (sort_number s) (λ q. omega arith) in
    no_mark ss s p.1 le ∙ sym (ap (λ b. b || among ss s) g)

pub not_mark : (ss : List Sort) → marks ss ≡ true → (l : Lexeme) → ((x : Symbol) → l ≡ SymbolOf x → ⊥) → ((x : Word) → l ≡ WordOf x → ⊥) → false ≡ among ss (sort l)
not_mark ss e (SymbolOf x) no_s no_w = absurd (no_s x refl)
not_mark ss e (WordOf x) no_s no_w = absurd (no_w x refl)
not_mark ss e (Name x) no_s no_w = no_mark ss a_name e (omega arith)
not_mark ss e (Int x) no_s no_w = no_mark ss an_int e (omega arith)
not_mark ss e (Span x) no_s no_w = no_mark ss a_span e (omega arith)
not_mark ss e (Time x) no_s no_w = no_mark ss a_time e (omega arith)
not_mark ss e (Plain x) no_s no_w = no_mark ss a_plain e (omega arith)
not_mark ss e (Head x) no_s no_w = no_mark ss a_head e (omega arith)
not_mark ss e (Mid x) no_s no_w = no_mark ss a_mid e (omega arith)
not_mark ss e (Tail x) no_s no_w = no_mark ss a_tail e (omega arith)
not_mark ss e (Pattern x) no_s no_w = no_mark ss a_pattern e (omega arith)

pub not_symbol : (b : Symbol) (l : Lexeme) → ((x : Symbol) → l ≡ SymbolOf x → ⊥) → false ≡ among (a_symbol b ∷ []) (sort l)
not_symbol b l no_s = sym (or_false (30 + symbol_number b == sort_number (sort l)) ∙ ne_eqb (30 + symbol_number b) (sort_number (sort l)) (λ e. small l no_s (let h : 30 ≤ sort_number (sort l) = omega arith in h)))
  where
    small : (l : Lexeme) → ((x : Symbol) → l ≡ SymbolOf x → ⊥) → 30 ≤ sort_number (sort l) → ⊥
    small (SymbolOf x) no_s le = no_s x refl
    small (WordOf x) no_s le = let h : word_number x ≤ 15 = word_small x in omega arith
    small (Name x) no_s le = omega arith
    small l no_s le = omega arith

pub not_word : (b : Word) (l : Lexeme) → ((x : Word) → l ≡ WordOf x → ⊥) → false ≡ among (a_word b ∷ []) (sort l)
not_word b l no_w = sym (or_false (10 + word_number b == sort_number (sort l)) ∙ ne_eqb (10 + word_number b) (sort_number (sort l)) (λ e. apart l no_w (let g : word_number b ≤ 15 = word_small b in let h : (10 ≤ sort_number (sort l)) × (suc (sort_number (sort l)) ≤ 30) = (omega arith, omega arith) in h)))
  where
    apart : (l : Lexeme) → ((x : Word) → l ≡ WordOf x → ⊥) → (10 ≤ sort_number (sort l)) × (suc (sort_number (sort l)) ≤ 30) → ⊥
    apart (WordOf x) no_w le = no_w x refl
    apart (SymbolOf x) no_w le = let h : suc (30 + symbol_number x) ≤ 30 = le.1 in omega arith
    apart (Name x) no_w le = let h : 10 ≤ 0 = le.0 in omega arith
    apart l no_w le = let h : 10 ≤ sort_number (sort l) = le.0 in omega arith

-- ---- sorts that are no words and no symbols, all below 10

-- one of the sorts below 10 by its number, and what isn't
few : (n : ℕ) (s : Sort) → suc n ≤ 10 → (sort_number s ≡ n → ⊥) → false ≡ ((n == sort_number s) || false)
few n s le no_n = sym (or_false (n == sort_number s) ∙ ne_eqb n (sort_number s) (λ e. no_n (sym e)))

pub not_name : (l : Lexeme) → ((x : List ℕ) → l ≡ Name x → ⊥) → false ≡ among (a_name ∷ []) (sort l)
not_name (Name x) none = absurd (none x refl)
not_name (WordOf x) none = few 0 (a_word x) (omega arith) (λ e. let h : 10 + word_number x ≡ 0 = e in omega arith)
not_name (SymbolOf x) none = few 0 (a_symbol x) (omega arith) (λ e. let h : 30 + symbol_number x ≡ 0 = e in omega arith)
not_name (Int x) none = refl
not_name l none = refl

pub not_plain : (l : Lexeme) → ((x : List ℕ) → l ≡ Plain x → ⊥) → false ≡ among (a_plain ∷ []) (sort l)
not_plain (Plain x) none = absurd (none x refl)
not_plain (WordOf x) none = few 4 (a_word x) (omega arith) (λ e. let h : 10 + word_number x ≡ 4 = e in omega arith)
not_plain (SymbolOf x) none = few 4 (a_symbol x) (omega arith) (λ e. let h : 30 + symbol_number x ≡ 4 = e in omega arith)
not_plain (Int x) none = refl
not_plain l none = refl

pub not_head : (l : Lexeme) → ((x : List ℕ) → l ≡ Head x → ⊥) → false ≡ among (a_head ∷ []) (sort l)
not_head (Head x) none = absurd (none x refl)
not_head (WordOf x) none = few 5 (a_word x) (omega arith) (λ e. let h : 10 + word_number x ≡ 5 = e in omega arith)
not_head (SymbolOf x) none = few 5 (a_symbol x) (omega arith) (λ e. let h : 30 + symbol_number x ≡ 5 = e in omega arith)
not_head (Int x) none = refl
not_head l none = refl

pub not_mid : (l : Lexeme) → ((x : List ℕ) → l ≡ Mid x → ⊥) → false ≡ among (a_mid ∷ []) (sort l)
not_mid (Mid x) none = absurd (none x refl)
not_mid (WordOf x) none = few 6 (a_word x) (omega arith) (λ e. let h : 10 + word_number x ≡ 6 = e in omega arith)
not_mid (SymbolOf x) none = few 6 (a_symbol x) (omega arith) (λ e. let h : 30 + symbol_number x ≡ 6 = e in omega arith)
not_mid (Int x) none = refl
not_mid l none = refl

pub not_tail : (l : Lexeme) → ((x : List ℕ) → l ≡ Tail x → ⊥) → false ≡ among (a_tail ∷ []) (sort l)
not_tail (Tail x) none = absurd (none x refl)
not_tail (WordOf x) none = few 7 (a_word x) (omega arith) (λ e. let h : 10 + word_number x ≡ 7 = e in omega arith)
not_tail (SymbolOf x) none = few 7 (a_symbol x) (omega arith) (λ e. let h : 30 + symbol_number x ≡ 7 = e in omega arith)
not_tail (Int x) none = refl
not_tail l none = refl

-- symbols alone
abbrev pub signs : List Sort → Bool
signs [] = true
signs (s ∷ ss) = leb 30 (sort_number s) && signs ss

no_sign : (ss : List Sort) (s : Sort) → signs ss ≡ true → suc (sort_number s) ≤ 30 → false ≡ among ss s
no_sign [] s e le = refl
no_sign (x ∷ ss) s e le =
    let p : (leb 30 (sort_number x) ≡ true) × (signs ss ≡ true) = and_parts (leb 30 (sort_number x)) (signs ss) e in
    let h : 30 ≤ sort_number x = leb-true 30 (sort_number x) p.0 in
    let g : (sort_number x == sort_number s) ≡ false = ne_eqb (sort_number x) (sort_number s) (λ q. omega arith) in
    no_sign ss s p.1 le ∙ sym (ap (λ b. b || among ss s) g)

pub not_sign : (ss : List Sort) → signs ss ≡ true → (l : Lexeme) → ((x : Symbol) → l ≡ SymbolOf x → ⊥) → false ≡ among ss (sort l)
not_sign ss e (SymbolOf x) none = absurd (none x refl)
not_sign ss e (WordOf x) none = no_sign ss (a_word x) e (let h : word_number x ≤ 15 = word_small x in let g : suc (10 + word_number x) ≤ 30 = omega arith in g)
not_sign ss e (Name x) none = no_sign ss a_name e (omega arith)
not_sign ss e (Int x) none = no_sign ss an_int e (omega arith)
not_sign ss e (Span x) none = no_sign ss a_span e (omega arith)
not_sign ss e (Time x) none = no_sign ss a_time e (omega arith)
not_sign ss e (Plain x) none = no_sign ss a_plain e (omega arith)
not_sign ss e (Head x) none = no_sign ss a_head e (omega arith)
not_sign ss e (Mid x) none = no_sign ss a_mid e (omega arith)
not_sign ss e (Tail x) none = no_sign ss a_tail e (omega arith)
not_sign ss e (Pattern x) none = no_sign ss a_pattern e (omega arith)

pub label_plain : (s : Sort) → among (a_name ∷ []) s ≡ false → among (a_plain ∷ []) s ≡ among (a_name ∷ a_plain ∷ []) s
label_plain s e = sym (ap (λ b. b || ((4 == sort_number s) || false)) (or_parts (0 == sort_number s) false e).0)

pub begins_else : (l : Lexeme) → ((x : Word) → l ≡ WordOf x → ⊥) → ((x : List ℕ) → l ≡ Mid x → ⊥) → ((x : List ℕ) → l ≡ Tail x → ⊥) → ((x : Symbol) → l ≡ SymbolOf x → ⊥)
    → true ≡ among beginning (sort l)
begins_else (WordOf x) w m t s = absurd (w x refl)
begins_else (Mid x) w m t s = absurd (m x refl)
begins_else (Tail x) w m t s = absurd (t x refl)
begins_else (SymbolOf x) w m t s = absurd (s x refl)
begins_else (Name x) w m t s = refl
begins_else l w m t s = refl

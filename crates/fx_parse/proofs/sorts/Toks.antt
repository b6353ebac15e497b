-- Which tests of an item exclude each other or imply each other, by the sorts that they list; some items; the levels of what
-- is made of parts.
use Rattle.std.proofs.Common.{◌≡◌, ℕ, Bool, true, false, not, ◌&&◌, ◌||◌, ◌==◌, List, [], ◌∷◌, ◌++◌, Option, None, Some, pos, sym, refl, ap, ◌∙◌, subst, ◌⊎◌, inl, inr, ⊎_elim}
use Rattle.std.proofs.lemmas.Bool.{or_cases, or_left, or_right, and_parts, eqb-true, both_ways}
use Rattle.fx_scan.specs.declared.symbols.Symbol.{Symbol}
use Rattle.fx_scan.specs.declared.words.Word.{Word}
use Rattle.fx_parse.specs.declared.item.Item.{Item}
use Rattle.fx_parse.specs.declared.item.Lexeme.{Lexeme}
use Rattle.fx_parse.specs.declared.item.Lexeme.TheVariants.{Name, Word as WordOf, Int, Symbol as SymbolOf}
use Rattle.fx_parse.specs.Items.{Items, Sort, sort_number, same_sort, among, sort, one_of, first, passes, is_called, is_name}

-- ---- sorts

abbrev pub disjoint : List Sort → List Sort → Bool
disjoint [] ys = true
disjoint (x ∷ xs) ys = not (among ys x) && disjoint xs ys

abbrev pub subset : List Sort → List Sort → Bool
subset [] ys = true
subset (x ∷ xs) ys = among ys x && subset xs ys

among_same : (ys : List Sort) (a b : Sort) → sort_number a ≡ sort_number b → among ys a ≡ among ys b
among_same [] a b e = refl
among_same (y ∷ ys) a b e = ap (λ n. (sort_number y == n) || among ys a) e ∙ ap (λ t. (sort_number y == sort_number b) || t) (among_same ys a b e)

among_apart : (xs ys : List Sort) (s : Sort) → disjoint xs ys ≡ true → among xs s ≡ true → among ys s ≡ true → ⊥
among_apart [] ys s d e f = let h : false ≡ true = e in cc
among_apart (x ∷ xs) ys s d e f =
    let p : (not (among ys x) ≡ true) × (disjoint xs ys ≡ true) = and_parts (not (among ys x)) (disjoint xs ys) d in
    ⊎_elim
    (λ h. let g : among ys x ≡ true = among_same ys x s (eqb-true (sort_number x) (sort_number s) h) ∙ f in
    let k : not true ≡ true = subst (λ t. not t ≡ true) g p.0 in let l : false ≡ true = k in cc)
    (λ h. among_apart xs ys s p.1 h f)
    (or_cases (same_sort x s) (among xs s) e)

among_within : (xs ys : List Sort) (s : Sort) → subset xs ys ≡ true → among xs s ≡ true → among ys s ≡ true
among_within [] ys s d e = absurd (let h : false ≡ true = e in cc)
among_within (x ∷ xs) ys s d e =
    let p : (among ys x ≡ true) × (subset xs ys ≡ true) = and_parts (among ys x) (subset xs ys) d in
    ⊎_elim
    (λ h. sym (among_same ys x s (eqb-true (sort_number x) (sort_number s) h)) ∙ p.0)
    (λ h. among_within xs ys s p.1 h)
    (or_cases (same_sort x s) (among xs s) e)

among_join : (xs ys : List Sort) (s : Sort) → among (xs ++ ys) s ≡ true → (among xs s ≡ true) ⊎ (among ys s ≡ true)
among_join [] ys s e = inr e
among_join (x ∷ xs) ys s e = ⊎_elim (λ h. inl (or_left (same_sort x s) (among xs s) h))
    (λ h. ⊎_elim (λ k. inl (or_right (same_sort x s) (among xs s) k)) (λ k. inr k) (among_join xs ys s h))
    (or_cases (same_sort x s) (among (xs ++ ys) s) e)

among_left : (xs ys : List Sort) (s : Sort) → among xs s ≡ true → among (xs ++ ys) s ≡ true
among_left [] ys s e = absurd (let h : false ≡ true = e in cc)
among_left (x ∷ xs) ys s e = ⊎_elim (λ h. or_left (same_sort x s) (among (xs ++ ys) s) h)
    (λ h. or_right (same_sort x s) (among (xs ++ ys) s) (among_left xs ys s h)) (or_cases (same_sort x s) (among xs s) e)

among_right : (xs ys : List Sort) (s : Sort) → among ys s ≡ true → among (xs ++ ys) s ≡ true
among_right [] ys s e = e
among_right (x ∷ xs) ys s e = or_right (same_sort x s) (among (xs ++ ys) s) (among_right xs ys s e)

-- ---- items

-- no item is of sorts in both lists
pub apart : (xs ys : List Sort) (x : Item) → disjoint xs ys ≡ true → one_of xs x ≡ true → one_of ys x ≡ true → ⊥
unfolding one_of
apart xs ys x d e f = among_apart xs ys (sort x.lexeme) d e f

pub within : (xs ys : List Sort) (x : Item) → subset xs ys ≡ true → one_of xs x ≡ true → one_of ys x ≡ true
unfolding one_of
within xs ys x d e = among_within xs ys (sort x.lexeme) d e

pub in_join : (xs ys : List Sort) (x : Item) → one_of (xs ++ ys) x ≡ true → (one_of xs x ≡ true) ⊎ (one_of ys x ≡ true)
unfolding one_of
in_join xs ys x e = among_join xs ys (sort x.lexeme) e

pub in_left : (xs ys : List Sort) (x : Item) → one_of xs x ≡ true → one_of (xs ++ ys) x ≡ true
unfolding one_of
in_left xs ys x e = among_left xs ys (sort x.lexeme) e

pub in_right : (xs ys : List Sort) (x : Item) → one_of ys x ≡ true → one_of (xs ++ ys) x ≡ true
unfolding one_of
in_right xs ys x e = among_right xs ys (sort x.lexeme) e

pub none_of : (x : Item) → one_of [] x ≡ true → ⊥
unfolding one_of
none_of x e = let h : false ≡ true = e in cc

not_true : (b : Bool) → (b ≡ true → ⊥) → b ≡ false
not_true true f = absurd (f refl)
not_true false f = refl

pub not_of : (xs ys : List Sort) (x : Item) → disjoint xs ys ≡ true → one_of xs x ≡ true → one_of ys x ≡ false
not_of xs ys x d e = not_true (one_of ys x) (apart xs ys x d e)

-- the same of what may be there
pub may_apart : (xs ys : List Sort) (o : Option Item) → disjoint xs ys ≡ true → passes (one_of xs) o ≡ true → passes (one_of ys) o ≡ true → ⊥
may_apart xs ys None d e f = let h : false ≡ true = e in cc
may_apart xs ys (Some x) d e f = apart xs ys x d e f

pub may_within : (xs ys : List Sort) (o : Option Item) → subset xs ys ≡ true → passes (one_of xs) o ≡ true → passes (one_of ys) o ≡ true
may_within xs ys None d e = e
may_within xs ys (Some x) d e = within xs ys x d e

pub may_not : (xs ys : List Sort) (o : Option Item) → disjoint xs ys ≡ true → passes (one_of xs) o ≡ true → passes (one_of ys) o ≡ false
may_not xs ys o d e = not_true (passes (one_of ys) o) (may_apart xs ys o d e)

-- and the other way round
pub not_within : (xs ys : List Sort) (o : Option Item) → subset xs ys ≡ true → passes (one_of ys) o ≡ false → passes (one_of xs) o ≡ false
not_within xs ys o d e = not_true (passes (one_of xs) o) (λ h. both_ways (passes (one_of ys) o) e (may_within xs ys o d h))

pub called_name : (bytes : List ℕ) (x : Item) → is_called bytes x ≡ true → is_name x ≡ true
unfolding is_called
called_name bytes x e = (and_parts (is_name x) _ e).0

-- ---- some items

abbrev pub item : Lexeme → Item
item l = record { place = record { at = 0 }; lexeme = l }

abbrev pub a_zero : Item
a_zero = item (Int (pos 0))

abbrev pub sign : Symbol → Item
sign s = item (SymbolOf s)

abbrev pub a_word_item : Word → Item
a_word_item x = item (WordOf x)

abbrev pub some_name : Item
some_name = item (Name [])

-- ---- one token at the front

pub tok_first : (test : Item → Bool) (x : Item) (i u : Items) → (test x ≡ true) × (i ≡ x ∷ []) → passes test (first (i ++ u)) ≡ true
tok_first test x i u t = subst (λ z. passes test (first (z ++ u)) ≡ true) (sym t.1) t.0

pub tok_is : (test : Item → Bool) (x : Item) (i u : Items) → (test x ≡ true) × (i ≡ x ∷ []) → first (i ++ u) ≡ Some x
tok_is test x i u t = ap (λ z. first (z ++ u)) t.1

-- A list of tokens has one tree at most or one refusal at most, and not both.
use Rattle.std.proofs.Common.{◌≡◌, ◌≤◌, ℕ, Bool, true, false, List, [], ◌∷◌, ◌++◌, sym, refl, ap, ap₂, ◌∙◌, subst, ◌⊎◌, inl, inr, ⊎_elim, append_assoc}
use Rattle.fx_ast.specs.Levels.{levels}
use Rattle.fx_ast.specs.Tree.{ScriptTree}
use Rattle.fx_scan.specs.Forms.{Bytes}
use Rattle.fx_scan.specs.declared.token.Token.{Token}
use Rattle.fx_parse.specs.declared.item.Item.{Item}
use Rattle.fx_parse.specs.Grammar.{IsScript}
use Rattle.fx_parse.specs.Items.{Items}
use Rattle.fx_parse.specs.Parsed.{IsTreeOf, IsParsed, IsUnparsed, place_left}
use Rattle.fx_parse.specs.Refusal.{Begins, IsRefusal}
use Rattle.fx_parse.proofs.outcome.Parsing.{one_tree_of, unparsed_none}
use Rattle.fx_parse.proofs.tokens.ReadLemmas.{read_one}

-- ---- two ways to cut a list

-- the cut before s lies later than the one before r
abbrev Later : Items → Items → Items → Items → Type 0
Later a r b s = (x : Item) × (c : Items) × (b ≡ a ++ (x ∷ c)) × (r ≡ x ∷ (c ++ s))

cuts : (a b r s : Items) → a ++ r ≡ b ++ s → ((a ≡ b) × (r ≡ s)) ⊎ (Later a r b s ⊎ Later b s a r)
cuts [] [] r s e = inl (refl, e)
cuts [] (y ∷ b) r s e = inr (inl (y, b, refl, e))
cuts (x ∷ a) [] r s e = inr (inr (x, a, refl, sym e))
cuts (x ∷ a) (y ∷ b) r s e =
    let all : x ∷ (a ++ r) ≡ y ∷ (b ++ s) = e in
    let head : x ≡ y = cc in
    let rest : a ++ r ≡ b ++ s = cc in
    ⊎_elim
    (λ same. inl (ap₂ (λ u v. u ∷ v) head same.0, same.1))
    (λ other. inr (⊎_elim
    (λ l. inl (l.0, l.1, ap₂ (λ u v. u ∷ v) (sym head) l.2, l.3))
    (λ l. inr (l.0, l.1, ap₂ (λ u v. u ∷ v) head l.2, l.3)) other))
    (cuts a b r s rest)

-- ---- one refusal

begins_less : (most : ℕ) (a c : Items) (x : Item) → Begins most (a ++ (x ∷ c)) → Begins most (a ++ (x ∷ []))
begins_less most a c x b =
    (c ++ b.0, b.1, subst (IsScript b.1) (append_assoc a (x ∷ c) b.0 ∙ sym (append_assoc a (x ∷ []) (c ++ b.0))) b.2, b.3)

not_later : (most : ℕ) (w : Items) (d e : Bool) (r s : Items) (f : IsRefusal most w d r) (g : IsRefusal most w e s) → Later f.before r g.before s → ⊥
not_later most w d e r s f g l = f.ends l.0 (l.1 ++ s) l.3 (begins_less most f.before l.1 l.0 (subst (Begins most) l.2 g.begins))

both_or_none : (a b : Bool) → (a ≡ true → b ≡ true) → (b ≡ true → a ≡ true) → a ≡ b
both_or_none true b to from = sym (to refl)
both_or_none false true to from = from refl
both_or_none false false to from = refl

-- a token goes on a tree of more levels
abbrev GoesOn : Items → Items → Type 0
GoesOn before rest = (x : Item) × (z c : Items) × (t : ScriptTree) × (rest ≡ x ∷ z) × IsScript t (before ++ (x ∷ c))

goes_along : (a b r s : Items) → a ≡ b → r ≡ s → GoesOn a r → GoesOn b s
goes_along a b r s one two g = (g.0, g.1, g.2, g.3, sym two ∙ g.4, subst (λ u. IsScript g.3 (u ++ (g.0 ∷ g.2))) one g.5)

pub refusal_once : (most : ℕ) (w : Items) (d e : Bool) (r s : Items) → IsRefusal most w d r → IsRefusal most w e s → (d ≡ e) × (r ≡ s)
refusal_once most w d e r s f g = ⊎_elim
    (λ same. (
      both_or_none d e
          (λ t. g.goes_on.1 (goes_along f.before g.before r s same.0 same.1 (f.goes_on.0 t)))
          (λ t. f.goes_on.1 (goes_along g.before f.before s r (sym same.0) (sym same.1) (g.goes_on.0 t))),
      same.1,
    ))
    (λ other. ⊎_elim (λ l. absurd (not_later most w d e r s f g l)) (λ l. absurd (not_later most w e d s r g f l)) other)
    (cuts f.before g.before r s (sym f.split ∙ g.split))

-- ---- what the tokens of a text have

pub tree_once : (text : Bytes) (tokens : List Token) (a b : ScriptTree) → IsTreeOf text tokens a → IsTreeOf text tokens b → a ≡ b
tree_once text tokens a b m n = one_tree_of text tokens m.items (λ others read. read_one text tokens others m.items read m.read) a b m n

-- the place and `deep` of a refusal
pub refused_once : (text : Bytes) (tokens : List Token) (p q : ℕ) (d e : Bool) → IsUnparsed text tokens p d → IsUnparsed text tokens q e → (p ≡ q) × (d ≡ e)
refused_once text tokens p q d e u v =
    let items : v.items ≡ u.items = read_one text tokens v.items u.items v.read u.read in
    let once = refusal_once 64 u.items d e u.rest v.rest u.refusal (subst (λ i. IsRefusal 64 i e v.rest) items v.refusal) in
    (u.at ∙ ap (place_left text) once.1 ∙ sym v.at, once.0)

pub parsed_or_refused : (text : Bytes) (tokens : List Token) (place : ℕ) (deep : Bool) (t : ScriptTree) → IsParsed text tokens t → IsUnparsed text tokens place deep → ⊥
parsed_or_refused text tokens place deep t p u =
    unparsed_none text tokens u.items (λ others read. read_one text tokens others u.items read u.read) place deep u t p

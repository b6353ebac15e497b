-- Places of hashed labels.
use Rattle.std.proofs.Common.{◌≡◌, refl, sym, ap, subst, ◌∙◌, ℕ, zero, suc, ◌+◌, ◌<◌, ◌≤◌, Bool, true, false, not, cond, List, [], ◌∷◌, ◌++◌, take, get_or, set, length, Option, None, Some, MatchOption, arith}
use Rattle.std.specs.Prelude.{nat_lt}
use Rattle.std.specs.List.{list_any, position, position_or_len}
use Rattle.std.proofs.lemmas.Bool.{ltb-true, ltb-false}
use Rattle.std.proofs.lemmas.List.{take_more, map-append}
use Rattle.indexmap.specs.IndexSet.{insert_key}
use Rattle.fx_base.specs.Text.{same_text}
use Rattle.fx_types.specs.declared.term.LabelField.{LabelField}
use Rattle.fx_types.specs.Ground.{listed}
use Rattle.fx_types.specs.Term.{Label}
use Rattle.fx_types.proofs.Choices.{by_cases, passed}
use Rattle.fx_unify.specs.Pick.{IsFirst}
use Rattle.fx_unify.specs.Sums.{names}

here : (l x : Label) (ls : List Label) → same_text l x ≡ true → position_or_len (same_text l) (x ∷ ls) ≡ 0
here l x ls e = ap (λ b. cond (not b) (1 + position_or_len (same_text l) ls) 0) e

there : (l x : Label) (ls : List Label) → same_text l x ≡ false → position_or_len (same_text l) (x ∷ ls) ≡ suc (position_or_len (same_text l) ls)
there l x ls e = let n : 1 + position_or_len (same_text l) ls ≡ suc (position_or_len (same_text l) ls) = omega arith in ap (λ b. cond (not b) (1 + position_or_len (same_text l) ls) 0) e ∙ n

at_place : (l : Label) (ls : List Label) → position_or_len (same_text l) ls < length ls → IsFirst l ls (position_or_len (same_text l) ls)
at_place l [] lt = absurd (omega arith)
at_place l (x ∷ ls) lt =
    by_cases (same_text l x) (λ e. subst (IsFirst l (x ∷ ls)) (sym (here l x ls e)) e)
    (λ e. let next : position_or_len (same_text l) (x ∷ ls) ≡ suc (position_or_len (same_text l) ls) = there l x ls e in subst (IsFirst l (x ∷ ls)) (sym next) (e, at_place l ls (omega (arith, next, lt))))

past_all : (l : Label) (ls : List Label) → length ls ≤ position_or_len (same_text l) ls → listed l ls ≡ false
past_all l [] le = refl
past_all l (x ∷ ls) le =
    by_cases (same_text l x) (λ e. let first : position_or_len (same_text l) (x ∷ ls) ≡ 0 = here l x ls e in absurd (omega (arith, first, le)))
    (λ e. let next : position_or_len (same_text l) (x ∷ ls) ≡ suc (position_or_len (same_text l) ls) = there l x ls e in passed (same_text l x) true (listed l ls) e ∙ past_all l ls (omega (arith, next, le)))

abbrev IsPlace : Label → List Label → Option ℕ → Type 0
IsPlace l ls i = MatchOption i (listed l ls ≡ false) (λ k. IsFirst l ls k)

pub first_place : (l : Label) (ls : List Label) → IsPlace l ls (position (same_text l) ls)
first_place l ls =
    by_cases (nat_lt (position_or_len (same_text l) ls) (length ls))
    (λ e. subst (IsPlace l ls) (sym (ap (λ b. cond b (Some (position_or_len (same_text l) ls)) None) e)) (at_place l ls (ltb-true (position_or_len (same_text l) ls) (length ls) e)))
    (λ e. subst (IsPlace l ls) (sym (ap (λ b. cond b (Some (position_or_len (same_text l) ls)) None) e)) (past_all l ls (ltb-false (position_or_len (same_text l) ls) (length ls) e)))

-- the place of a label that was asked for by hashes
pub hashed_place : (l : Label) (keys ls : List Label) (i : Option ℕ) → i ≡ position (same_text l) keys → keys ≡ ls → IsPlace l ls i
hashed_place l keys ls i is same = subst (λ k. IsPlace l k i) same (subst (IsPlace l keys) (sym is) (first_place l keys))

pub listed_place : (l : Label) (es fs : List LabelField) (i : Option ℕ) → es ≡ fs → IsPlace l (names es) i → IsPlace l (names fs) i
listed_place l es fs i same h = subst (λ k. IsPlace l (names k) i) same h

-- an entry whose field was taken has its label still
pub same_names : (es : List LabelField) (i : ℕ) (e f : LabelField) → e ≡ get_or es i e → f.label ≡ e.label → names (set es i f) ≡ names es
same_names [] i e f at label = refl
same_names (d ∷ es) zero e f at label = ap (λ l. l ∷ names es) (label ∙ ap (λ g. g.label) at)
same_names (d ∷ es) (suc i) e f at label = ap (λ ls. d.label ∷ ls) (same_names es i e f at label)

-- one entry more is hashed, whose label wasn't there
pub name_hashed : (es : List LabelField) (i : ℕ) (e : LabelField) (y : Label) (keys more : List Label) (was : Bool) → i < length es → e ≡ get_or es i e → y ≡ e.label → more ≡ insert_key same_text keys y
    → was ≡ not (list_any (same_text y) keys) → was ≡ true → keys ≡ names (take i es) → more ≡ names (take (i + 1) es)
name_hashed es i e y keys more was lt at copied is added new before =
    is ∙ passed (list_any (same_text y) keys) keys (keys ++ y ∷ []) (off (list_any (same_text y) keys) (sym added ∙ new)) ∙ ap (λ x. keys ++ x ∷ []) copied ∙ ap (λ ls. ls ++ e.label ∷ []) before ∙ sym next
  where
    next : names (take (i + 1) es) ≡ names (take i es) ++ e.label ∷ []
    next = ap names (take_more es i e lt ∙ ap (λ d. take i es ++ d ∷ []) (sym at)) ∙ map-append (λ d. d.label) (take i es) (e ∷ [])

    off : (b : Bool) → not b ≡ true → b ≡ false
    off true h = sym h
    off false h = refl

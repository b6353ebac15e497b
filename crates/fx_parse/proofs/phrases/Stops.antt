-- What may follow a phrase, and which phrases have at most so many levels.
use Rattle.std.proofs.Common.{◌≡◌, ℕ, zero, suc, ◌+◌, ◌≤◌, Bool, true, not, List, [], ◌∷◌, ◌++◌, length, Option, Some, sym, refl, ap, ◌∙◌, subst, arith, length-append}
use Rattle.std.proofs.lemmas.Bool.{not_from_false}
use Rattle.fx_ast.specs.Tree.{Tree, Props, Trees, Parts, Params, Default}
use Rattle.fx_scan.specs.declared.symbols.Symbol.TheVariants as symbol
use Rattle.fx_parse.specs.declared.item.Item.{Item}
use Rattle.fx_parse.specs.Items.{Items, Sort, a_symbol, one_of, first, passes, operators}
use Rattle.fx_parse.specs.Grammar.{IsTok}
use Rattle.fx_ast.specs.Levels.{height, in_props, in_trees, in_parts, in_params, in_default}
use Rattle.fx_parse.specs.Readings.{Out, Got, Bad, mapped}
use Rattle.fx_parse.specs.ReadRuns.{suffix_starters}
use Rattle.fx_parse.proofs.phrases.Says.{Says}
use Rattle.fx_parse.proofs.phrases.Far.{says_mapped}
use Rattle.fx_parse.proofs.sorts.Toks.{disjoint, may_not}

abbrev pub Low : ℕ → Tree → Type 0
Low k t = height t ≤ k

abbrev pub LowProps : ℕ → Props → Type 0
LowProps k ps = in_props ps ≤ k

abbrev pub LowTrees : ℕ → Trees → Type 0
LowTrees k es = in_trees es ≤ k

abbrev pub LowParts : ℕ → Parts → Type 0
LowParts k ps = in_parts ps ≤ k

abbrev pub LowParams : ℕ → Params → Type 0
LowParams k ps = in_params ps ≤ k

abbrev pub LowDefault : ℕ → Default → Type 0
LowDefault k d = in_default d ≤ k

-- what can't follow a phrase of the line m
abbrev pub forbidden : ℕ → List Sort
forbidden zero = a_symbol symbol.Arrow ∷ suffix_starters
forbidden (suc m) = operators (suc m) ++ forbidden m

-- none of these follows
abbrev pub without : List Sort → Option Item → Bool
without xs o = not (passes (one_of xs) o)

abbrev pub stops : ℕ → Option Item → Bool
stops m = without (forbidden m)

pub may_follow : (xs ys : List Sort) (o : Option Item) → disjoint xs ys ≡ true → passes (one_of xs) o ≡ true → without ys o ≡ true
may_follow xs ys o d e = not_from_false (passes (one_of ys) o) (may_not xs ys o d e)

-- ---- one token at the front of a phrase

pub front_is : (test : Item → Bool) (x : Item) (i r u v : Items) → IsTok test x i → u ≡ i ++ r → first (u ++ v) ≡ Some x
front_is test x i r u v t e = ap (λ z. first (z ++ v)) (e ∙ ap (λ z. z ++ r) t.1)

pub front_passes : (test : Item → Bool) (x : Item) (i r u v : Items) → IsTok test x i → u ≡ i ++ r → passes test (first (u ++ v)) ≡ true
front_passes test x i r u v t e = ap (passes test) (front_is test x i r u v t e) ∙ t.0

pub tok_shorter : (test : Item → Bool) (x : Item) (u r w : Items) → IsTok test x u → w ≡ u ++ r → length w ≡ suc (length r)
tok_shorter test x u r w t e = ap length (e ∙ ap (λ z. z ++ r) t.1)

pub not_longer : (u r w : Items) → w ≡ u ++ r → length r ≤ length w
not_longer u r w e = let h : length w ≡ length u + length r = ap length e ∙ length-append u r in omega arith

-- ---- the same phrases where the first item tells so

mapped_same : {A : Type 0} (o : Out A) → mapped (λ x. x) o ≡ o
mapped_same (Got a r) = refl
mapped_same (Bad d r) = refl

pub says_within : {A : Type 0} (N N' : A → Items → Type 0) (ok : A → Type 0) (stop : Option Item → Bool) (w : Items)
    → ((t : A) (u : Items) → N t u → N' t u)
    → ((t : A) (u v : Items) → first (u ++ v) ≡ first w → stop (first v) ≡ true → N' t u → N t u)
    → (o : Out A) → Says N ok stop w o → Says N' ok stop w o
says_within N N' ok stop w into back o s = subst (Says N' ok stop w) (mapped_same o)
    (says_mapped N N' ok ok stop (λ x. x) w
    (record { into = into; back = λ t u v e st n. (t, refl, back t u v e st n); fit = λ t u n f. f; unfit = λ t u n f. f }) o s)

-- ---- an optional phrase that isn't there, and one that has to be

pub nothing_first : (c v u : Items) → u ≡ [] → u ++ v ≡ c → first v ≡ first c
nothing_first c v u e f = ap first (sym (ap (λ z. z ++ v) e) ∙ f)

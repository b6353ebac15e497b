-- Whether parameters and the assignments of a block are declared, as code tells it.
use Rattle.std.proofs.Common.{◌≡◌, refl, sym, ap, subst, ◌∙◌, ◌≤◌, Bool, true, false, ◌||◌, ◌&&◌, List, [], ◌∷◌, map, length, arith}
use Rattle.std.specs.Prelude.{if◌then◌else◌, not}
use mathlib.Core.Bool.{true≢false}
use Rattle.fx_ast.specs.Shape.{default_of, param, params_of, prop, props_of}
use Rattle.fx_ast.specs.Tree.{Default, required, by_pipe, by_value, Params, more_params}
use Rattle.fx_ast.specs.declared.expr.Param.{Param}
use Rattle.fx_ast.specs.declared.expr.Prop.{Prop}
use Rattle.fx_ast.proofs.ShapeLaws.{param_is, prop_is}
use Rattle.fx_types.specs.Term.{Label}
use Rattle.fx_types.proofs.Choices.{by_cases}
use Rattle.fx_schemes.specs.Builtins.{differ}
use Rattle.fx_infer.specs.Functions.{any_pipe, are_declared, one_pipe, params_on, takes_pipe}
use Rattle.fx_infer.specs.Parameters.{AreDeclared, param_names, piped, prop_names}
use Rattle.fx_infer.specs.Records.{labels_on}

param_labels : (ps : List Param) → param_names (params_of (map param ps)) ≡ params_on ps
param_labels [] = refl
param_labels (p ∷ ps) = λ i. (param_is p i).label ∷ param_labels ps i

prop_labels : (ls : List Prop) → prop_names (props_of (map prop ls)) ≡ labels_on ls
prop_labels [] = refl
prop_labels (l ∷ ls) = λ i. (prop_is l i).label ∷ prop_labels ls i

-- parameters of the pipe

abbrev labels_piped : List Param → List Label
labels_piped ps = piped (params_of (map param ps))

piped_step : (x : Label) (d : Default) (ps : Params) → piped (more_params x d ps) ≡ (if takes_pipe d then x ∷ piped ps else piped ps)
piped_step x required ps = refl
piped_step x by_pipe ps = refl
piped_step x (by_value e) ps = refl

piped_at : (p : Param) (ps : List Param) → labels_piped (p ∷ ps) ≡ (if takes_pipe (default_of p.default) then p.label ∷ labels_piped ps else labels_piped ps)
piped_at p ps = (λ i. piped (more_params (param_is p i).label (param_is p i).default (params_of (map param ps)))) ∙ piped_step p.label (default_of p.default) (params_of (map param ps))

not_true : (a : Bool) → not a ≡ true → a ≡ false
not_true true e = absurd (true≢false (sym e))
not_true false e = refl

not_false : (a : Bool) → not a ≡ false → a ≡ true
not_false true e = refl
not_false false e = absurd (true≢false e)

none_step : (b a : Bool) (x : Label) (xs : List Label) → (b || a) ≡ false → (a ≡ false → length xs ≡ 0) → length (if b then x ∷ xs else xs) ≡ 0
none_step true a x xs e none = absurd (true≢false e)
none_step false a x xs e none = none e

some_step : (b a : Bool) (x : Label) (xs : List Label) → (b || a) ≡ true → (a ≡ true → 1 ≤ length xs) → 1 ≤ length (if b then x ∷ xs else xs)
some_step true a x xs e some = omega arith
some_step false a x xs e some = some e

one_step : (b a o : Bool) (x : Label) (xs : List Label) → (if b then not a else o) ≡ true → (a ≡ false → length xs ≡ 0) → (o ≡ true → length xs ≤ 1) → length (if b then x ∷ xs else xs) ≤ 1
one_step true a o x xs e none one = let k : length xs ≡ 0 = none (not_true a e) in omega arith
one_step false a o x xs e none one = one e

more_step : (b a o : Bool) (x : Label) (xs : List Label) → (if b then not a else o) ≡ false → (a ≡ true → 1 ≤ length xs) → (o ≡ false → length xs ≤ 1 → ⊥) → length (if b then x ∷ xs else xs) ≤ 1 → ⊥
more_step true a o x xs e some more le = let k : 1 ≤ length xs = some (not_false a e) in absurd (omega arith)
more_step false a o x xs e some more le = more e le

none_piped : (ps : List Param) → any_pipe ps ≡ false → length (labels_piped ps) ≡ 0
none_piped [] e = refl
none_piped (p ∷ ps) e = ap length (piped_at p ps) ∙ none_step (takes_pipe (default_of p.default)) (any_pipe ps) p.label (labels_piped ps) e (none_piped ps)

some_piped : (ps : List Param) → any_pipe ps ≡ true → 1 ≤ length (labels_piped ps)
some_piped [] e = absurd (true≢false (sym e))
some_piped (p ∷ ps) e = subst (λ xs. 1 ≤ length xs) (sym (piped_at p ps)) (some_step (takes_pipe (default_of p.default)) (any_pipe ps) p.label (labels_piped ps) e (some_piped ps))

one_piped : (ps : List Param) → one_pipe ps ≡ true → length (labels_piped ps) ≤ 1
one_piped [] e = let le : 0 ≤ 1 = omega arith in le
one_piped (p ∷ ps) e =
    subst (λ xs. length xs ≤ 1) (sym (piped_at p ps)) (one_step (takes_pipe (default_of p.default)) (any_pipe ps) (one_pipe ps) p.label (labels_piped ps) e (none_piped ps) (one_piped ps))

more_piped : (ps : List Param) → one_pipe ps ≡ false → length (labels_piped ps) ≤ 1 → ⊥
more_piped [] e le = true≢false e
more_piped (p ∷ ps) e le =
    more_step (takes_pipe (default_of p.default)) (any_pipe ps) (one_pipe ps) p.label (labels_piped ps) e (some_piped ps) (more_piped ps) (subst (λ xs. length xs ≤ 1) (piped_at p ps) le)

-- the whole

and_parts : (a b : Bool) → (a && b) ≡ true → (a ≡ true) × (b ≡ true)
and_parts true b e = (refl, e)
and_parts false b e = absurd (true≢false (sym e))

and_both : (a b : Bool) → a ≡ true → b ≡ true → (a && b) ≡ true
and_both true b e f = f
and_both false b e f = absurd (true≢false (sym e))

pub declared : (ps : List Param) (ls : List Prop) (r : Bool) → r ≡ are_declared ps ls → r ≡ true → AreDeclared (params_of (map param ps)) (props_of (map prop ls))
declared ps ls r is e =
    let k : ((differ (params_on ps) && differ (labels_on ls)) ≡ true) × (one_pipe ps ≡ true) = and_parts (differ (params_on ps) && differ (labels_on ls)) (one_pipe ps) (sym is ∙ e) in
    let once : (differ (params_on ps) ≡ true) × (differ (labels_on ls) ≡ true) = and_parts (differ (params_on ps)) (differ (labels_on ls)) k.0 in
    (ap differ (param_labels ps) ∙ once.0, ap differ (prop_labels ls) ∙ once.1, one_piped ps k.1)

pub not_declared : (ps : List Param) (ls : List Prop) (r : Bool) → r ≡ are_declared ps ls → r ≡ false → AreDeclared (params_of (map param ps)) (props_of (map prop ls)) → ⊥
not_declared ps ls r is e d =
    let one : one_pipe ps ≡ true = by_cases (one_pipe ps) (λ t. t) (λ f. absurd (more_piped ps f d.2)) in
    let once : (differ (params_on ps) && differ (labels_on ls)) ≡ true = and_both (differ (params_on ps)) (differ (labels_on ls)) (sym (ap differ (param_labels ps)) ∙ d.0) (sym (ap differ (prop_labels ls)) ∙ d.1) in
    true≢false (sym (and_both (differ (params_on ps) && differ (labels_on ls)) (one_pipe ps) once one) ∙ (sym is ∙ e))

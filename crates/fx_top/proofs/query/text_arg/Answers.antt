use Rattle.std.proofs.Common.{◌≡◌, ℕ, List, length, map, sym, ◌∙◌, ap}
use Rattle.fx_ast.specs.declared.expr.Prop.{Prop}
use Rattle.fx_ast.specs.Tree.{tree, text, piece, no_parts}
use Rattle.fx_ast.specs.Shape.{tree_of, prop, props_of}
use Rattle.fx_ast.specs.Bare.{nowhere, bare, bare_props}
use Rattle.fx_top.specs.Query.{text_arg}
use Rattle.fx_top.proofs.QueryLemmas.{if_none, none_so, some_so, same_one, one_is, one_of}
use Rattle.fx_top.proofs.query.text_arg.Goals as goal

pub returns-in_err-arg-clause-none : goal.returns-in_err-arg-clause-none
returns-in_err-arg-clause-none c =
    if_none c.from_residual.result ((value : List ℕ) → bare_props (props_of (map prop c.args.args.now)) ≡ text_arg c.args.label.now value → ⊥)
    (λ value h. c.in_err-arg.ensures.none (ap length (one_of c.args.args.now c.args.label.now (tree nowhere (text (piece value no_parts))) h).1))

pub returns-then-is_text-clause-some : goal.returns-then-is_text-clause-some
returns-then-is_text-clause-some c =
    some_so c.plain_text.result (λ r. bare (tree_of c.in_ok-arg.arg.now.value) ≡ tree nowhere (text (piece r.now no_parts)))
    (λ r. bare_props (props_of (map prop c.args.args.now)) ≡ text_arg c.args.label.now r.now)
    (λ r h. one_is c.args.args.now c.in_ok-arg.arg.now c.args.label.now (tree nowhere (text (piece r.now no_parts))) c.in_ok-arg.ensures.some (c.is_text.ensures.0 c.if-is_text.true) h)
    c.plain_text.ensures.some

pub returns-then-is_text-clause-none : goal.returns-then-is_text-clause-none
returns-then-is_text-clause-none c =
    none_so c.plain_text.result ((value : List ℕ) → bare (tree_of c.in_ok-arg.arg.now.value) ≡ tree nowhere (text (piece value no_parts)) → ⊥)
    ((value : List ℕ) → bare_props (props_of (map prop c.args.args.now)) ≡ text_arg c.args.label.now value → ⊥)
    (λ none value h.
    let found = one_of c.args.args.now c.args.label.now (tree nowhere (text (piece value no_parts))) h in
    let same = same_one c.in_ok-arg.arg.now found.0 (sym c.in_ok-arg.ensures.some ∙ found.1) in
    none value (ap (λ (p : Prop). bare (tree_of p.value)) same ∙ found.3))
    c.plain_text.ensures.none

pub returns-else-is_text-clause-none : goal.returns-else-is_text-clause-none
returns-else-is_text-clause-none c = λ value h.
    let found = one_of c.args.args.now c.args.label.now (tree nowhere (text (piece value no_parts))) h in
    let same = same_one c.in_ok-arg.arg.now found.0 (sym c.in_ok-arg.ensures.some ∙ found.1) in
    cc (c.is_text.ensures.1 (ap (λ (p : Prop). p.label) same ∙ found.2), c.if-is_text.false)

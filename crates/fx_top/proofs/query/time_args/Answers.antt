use Rattle.std.proofs.Common.{rules, arith, ◌≡◌, ℤ, FitsSigned, length, map, sym, ◌∙◌, ap}
use Rattle.std.specs.Int.{w64}
use Rattle.std.proofs.lemmas.Int.{to_z-of_z, ints}
use Rattle.fx_ast.specs.declared.expr.Prop.{Prop}
use Rattle.fx_ast.specs.Tree.{tree, time}
use Rattle.fx_ast.specs.Shape.{tree_of, prop, props_of}
use Rattle.fx_ast.specs.Bare.{nowhere, bare, bare_props}
use Rattle.fx_top.specs.Query.{time_args}
use Rattle.fx_top.proofs.QueryLemmas.{if_none, same_two, two_is, two_of}
use Rattle.fx_top.proofs.query.time_args.Goals as goal

pub returns-in_err-a-clause-none : goal.returns-in_err-a-clause-none
returns-in_err-a-clause-none c =
    if_none c.from_residual.result ((a b : ℤ) → bare_props (props_of (map prop c.args.args.now)) ≡ time_args c.args.first.now a c.args.second.now b → ⊥)
    (λ a b h. c.in_err-a.ensures.none (ap length (two_of c.args.args.now c.args.first.now c.args.second.now (tree nowhere (time a)) (tree nowhere (time b)) h).2))

pub returns-in_err-time_arg-clause-none : goal.returns-in_err-time_arg-clause-none
returns-in_err-time_arg-clause-none c =
    if_none c.from_residual-in_err-time_arg.result ((a b : ℤ) → bare_props (props_of (map prop c.args.args.now)) ≡ time_args c.args.first.now a c.args.second.now b → ⊥)
    (λ a b h.
    let found = two_of c.args.args.now c.args.first.now c.args.second.now (tree nowhere (time a)) (tree nowhere (time b)) h in
    let same = (same_two c.in_ok-a.a.now c.in_ok-a.b.now found.0 found.1 (sym c.in_ok-a.ensures.some ∙ found.2)).0 in
    c.in_err-time_arg.ensures.none a (ap (λ (p : Prop). p.label) same ∙ found.3.0) (ap (λ (p : Prop). bare (tree_of p.value)) same ∙ found.3.1))

pub returns-in_err-time_arg-2-clause-none : goal.returns-in_err-time_arg-2-clause-none
returns-in_err-time_arg-2-clause-none c =
    if_none c.from_residual-in_err-time_arg-2.result ((a b : ℤ) → bare_props (props_of (map prop c.args.args.now)) ≡ time_args c.args.first.now a c.args.second.now b → ⊥)
    (λ a b h.
    let found = two_of c.args.args.now c.args.first.now c.args.second.now (tree nowhere (time a)) (tree nowhere (time b)) h in
    let same = (same_two c.in_ok-a.a.now c.in_ok-a.b.now found.0 found.1 (sym c.in_ok-a.ensures.some ∙ found.2)).1 in
    c.in_err-time_arg-2.ensures.none b (ap (λ (p : Prop). p.label) same ∙ found.4.0) (ap (λ (p : Prop). bare (tree_of p.value)) same ∙ found.4.1))

pub returns-clause-some : goal.returns-clause-some
returns-clause-some c =
    let first : FitsSigned w64 c.in_ok-time_arg.field-0 = search (rules, arith, ints) in
    let second : FitsSigned w64 c.in_ok-time_arg-2.field-0 = search (rules, arith, ints) in
    simp to_z-of_z
    (two_is c.args.args.now c.in_ok-a.a.now c.in_ok-a.b.now c.args.first.now c.args.second.now (tree nowhere (time c.in_ok-time_arg.field-0)) (tree nowhere (time c.in_ok-time_arg-2.field-0))
    c.in_ok-a.ensures.some c.in_ok-time_arg.ensures.some c.in_ok-time_arg-2.ensures.some)

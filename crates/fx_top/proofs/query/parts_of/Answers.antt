use Rattle.std.proofs.Common.{codes, map}
use Rattle.fx_ast.specs.Shape.{tree_of, prop, props_of, script_tree}
use Rattle.fx_ast.specs.Bare.{bare, bare_props}
use Rattle.fx_top.specs.declared.query.Query.{Query}
use Rattle.fx_top.specs.Query.{IsQuery, piped, called}
use Rattle.fx_top.proofs.QueryLemmas.{if_none, from_args, range_args, sides_of, bucket_of, times_of}
use Rattle.fx_top.proofs.query.parts_of.Goals as goal

pub returns-in_err-place-clause-none : goal.returns-in_err-place-clause-none
returns-in_err-place-clause-none c =
    if_none c.from_residual.result ((q : Query) → IsQuery (script_tree c.args.script.now) q → ⊥)
    (λ q h. c.in_err-place.ensures.none (piped (called (codes "from") (from_args q)) (called (codes "range") (range_args q))) h.same)

pub returns-in_err-called-clause-none : goal.returns-in_err-called-clause-none
returns-in_err-called-clause-none c =
    if_none c.from_residual-in_err-called.result ((q : Query) → IsQuery (script_tree c.args.script.now) q → ⊥)
    (λ q h. c.in_err-called.ensures.none (from_args q)
    (sides_of (script_tree c.args.script.now) q h (bare (tree_of c.in_ok-place.expr.now)) c.in_ok-place.ensures.some (bare (tree_of c.in_ok-first.first.now)) (bare (tree_of c.in_ok-first.last.now)) c.in_ok-first.ensures.some).0)

pub returns-in_err-bucket-clause-none : goal.returns-in_err-bucket-clause-none
returns-in_err-bucket-clause-none c =
    if_none c.from_residual-in_err-bucket.result ((q : Query) → IsQuery (script_tree c.args.script.now) q → ⊥)
    (λ q h. c.in_err-bucket.ensures.none q.bucket
    (bucket_of (script_tree c.args.script.now) q h (bare (tree_of c.in_ok-place.expr.now)) c.in_ok-place.ensures.some (bare (tree_of c.in_ok-first.first.now)) (bare (tree_of c.in_ok-first.last.now))
    (bare_props (props_of (map prop c.in_ok-called.field-0.now))) c.in_ok-first.ensures.some c.in_ok-called.ensures.some))

pub returns-in_err-called-2-clause-none : goal.returns-in_err-called-2-clause-none
returns-in_err-called-2-clause-none c =
    if_none c.from_residual-in_err-called-2.result ((q : Query) → IsQuery (script_tree c.args.script.now) q → ⊥)
    (λ q h. c.in_err-called-2.ensures.none (range_args q)
    (sides_of (script_tree c.args.script.now) q h (bare (tree_of c.in_ok-place.expr.now)) c.in_ok-place.ensures.some (bare (tree_of c.in_ok-first.first.now)) (bare (tree_of c.in_ok-first.last.now)) c.in_ok-first.ensures.some).1)

pub returns-in_err-start-clause-none : goal.returns-in_err-start-clause-none
returns-in_err-start-clause-none c =
    if_none c.from_residual-in_err-start.result ((q : Query) → IsQuery (script_tree c.args.script.now) q → ⊥)
    (λ q h. c.in_err-start.ensures.none q.start q.stop
    (times_of (script_tree c.args.script.now) q h (bare (tree_of c.in_ok-place.expr.now)) c.in_ok-place.ensures.some (bare (tree_of c.in_ok-first.first.now)) (bare (tree_of c.in_ok-first.last.now))
    (bare_props (props_of (map prop c.in_ok-called-2.field-0.now))) c.in_ok-first.ensures.some c.in_ok-called-2.ensures.some))

use Rattle.std.proofs.Common.{false, true, map, refl, sym, ap, ◌∙◌}
use Rattle.fx_ast.proofs.ShapeLaws.{body_is}
use Rattle.fx_ast.specs.Free.{free, free_links, free_params, free_parts, free_props, free_shape, free_trees, name_of}
use Rattle.fx_ast.specs.Shape.{body, link, links_of, param, params_of, part, parts_of, prop, props_of, shape_of, tree_of, trees_of}
use Rattle.fx_rowfn.proofs.FreeLaws.{LetsFree, body_free, links_on, links_stop, lets_bound, lets_found, lets_on, params_on, params_stop, parts_on, parts_stop, props_on, props_stop, tree_at_node, trees_on, trees_stop}
use Rattle.fx_rowfn.proofs.WalkLaws.{walk_ends, walk_on, walk_stops}
use Rattle.fx_rowfn.proofs.free.+free.Goals as goal

pub in_exprs-loop-first-preserved : goal.in_exprs-loop-first-preserved
in_exprs-loop-first-preserved t c =
    walk_on (λ xs. free_trees (trees_of (map tree_of xs)) (name_of c.args.name.now)) c.args.items.now c.loop-first.first-index c.first-item.result c.loop-first-test.true c.first-item.is c.loop-first.invariant
    (trees_on (name_of c.args.name.now) c.first-item.result (sym c.in_expr.ensures ∙ c.if-in_expr.false))

pub in_exprs-returns-then-in_expr : goal.in_exprs-returns-then-in_expr
in_exprs-returns-then-in_expr t c =
    walk_stops (λ xs. free_trees (trees_of (map tree_of xs)) (name_of c.args.name.now)) c.args.items.now c.loop-first.first-index c.first-item.result true c.loop-first-test.true c.first-item.is c.loop-first.invariant
    (trees_stop (name_of c.args.name.now) c.first-item.result (sym c.in_expr.ensures ∙ c.if-in_expr.true))

pub in_exprs-returns : goal.in_exprs-returns
in_exprs-returns t c = walk_ends (λ xs. free_trees (trees_of (map tree_of xs)) (name_of c.args.name.now)) c.args.items.now c.loop-first.first-index false c.loop-first-test.false c.loop-first.invariant refl

pub in_parts-loop-first-preserved : goal.in_parts-loop-first-preserved
in_parts-loop-first-preserved t c =
    walk_on (λ xs. free_parts (parts_of (map part xs)) (name_of c.args.name.now)) c.args.items.now c.loop-first.first-index c.first-item.result c.loop-first-test.true c.first-item.is c.loop-first.invariant
    (parts_on (name_of c.args.name.now) c.first-item.result (sym c.in_part.ensures ∙ c.if-in_part.false))

pub in_parts-returns-then-in_part : goal.in_parts-returns-then-in_part
in_parts-returns-then-in_part t c =
    walk_stops (λ xs. free_parts (parts_of (map part xs)) (name_of c.args.name.now)) c.args.items.now c.loop-first.first-index c.first-item.result true c.loop-first-test.true c.first-item.is c.loop-first.invariant
    (parts_stop (name_of c.args.name.now) c.first-item.result (sym c.in_part.ensures ∙ c.if-in_part.true))

pub in_parts-returns : goal.in_parts-returns
in_parts-returns t c = walk_ends (λ xs. free_parts (parts_of (map part xs)) (name_of c.args.name.now)) c.args.items.now c.loop-first.first-index false c.loop-first-test.false c.loop-first.invariant refl

pub in_props-loop-first-preserved : goal.in_props-loop-first-preserved
in_props-loop-first-preserved t c =
    walk_on (λ xs. free_props (props_of (map prop xs)) (name_of c.args.name.now)) c.args.items.now c.loop-first.first-index c.first-item.result c.loop-first-test.true c.first-item.is c.loop-first.invariant
    (props_on (name_of c.args.name.now) c.first-item.result (sym c.in_expr.ensures ∙ c.if-in_expr.false))

pub in_props-returns-then-in_expr : goal.in_props-returns-then-in_expr
in_props-returns-then-in_expr t c =
    walk_stops (λ xs. free_props (props_of (map prop xs)) (name_of c.args.name.now)) c.args.items.now c.loop-first.first-index c.first-item.result true c.loop-first-test.true c.first-item.is c.loop-first.invariant
    (props_stop (name_of c.args.name.now) c.first-item.result (sym c.in_expr.ensures ∙ c.if-in_expr.true))

pub in_props-returns : goal.in_props-returns
in_props-returns t c = walk_ends (λ xs. free_props (props_of (map prop xs)) (name_of c.args.name.now)) c.args.items.now c.loop-first.first-index false c.loop-first-test.false c.loop-first.invariant refl

pub in_links-loop-first-preserved : goal.in_links-loop-first-preserved
in_links-loop-first-preserved t c =
    walk_on (λ xs. free_links (links_of (map link xs)) (name_of c.args.name.now)) c.args.items.now c.loop-first.first-index c.first-item.result c.loop-first-test.true c.first-item.is c.loop-first.invariant
    (links_on (name_of c.args.name.now) c.first-item.result (sym c.in_expr.ensures ∙ c.if-in_expr.false))

pub in_links-returns-then-in_expr : goal.in_links-returns-then-in_expr
in_links-returns-then-in_expr t c =
    walk_stops (λ xs. free_links (links_of (map link xs)) (name_of c.args.name.now)) c.args.items.now c.loop-first.first-index c.first-item.result true c.loop-first-test.true c.first-item.is c.loop-first.invariant
    (links_stop (name_of c.args.name.now) c.first-item.result (sym c.in_expr.ensures ∙ c.if-in_expr.true))

pub in_links-returns : goal.in_links-returns
in_links-returns t c = walk_ends (λ xs. free_links (links_of (map link xs)) (name_of c.args.name.now)) c.args.items.now c.loop-first.first-index false c.loop-first-test.false c.loop-first.invariant refl

pub in_params-loop-first-preserved : goal.in_params-loop-first-preserved
in_params-loop-first-preserved t c =
    walk_on (λ xs. free_params (params_of (map param xs)) (name_of c.args.name.now)) c.args.items.now c.loop-first.first-index c.first-item.result c.loop-first-test.true c.first-item.is c.loop-first.invariant
    (params_on (name_of c.args.name.now) c.first-item.result (sym c.in_default.ensures ∙ c.if-in_default.false))

pub in_params-returns-then-in_default : goal.in_params-returns-then-in_default
in_params-returns-then-in_default t c =
    walk_stops (λ xs. free_params (params_of (map param xs)) (name_of c.args.name.now)) c.args.items.now c.loop-first.first-index c.first-item.result true c.loop-first-test.true c.first-item.is c.loop-first.invariant
    (params_stop (name_of c.args.name.now) c.first-item.result (sym c.in_default.ensures ∙ c.if-in_default.true))

pub in_params-returns : goal.in_params-returns
in_params-returns t c = walk_ends (λ xs. free_params (params_of (map param xs)) (name_of c.args.name.now)) c.args.items.now c.loop-first.first-index false c.loop-first-test.false c.loop-first.invariant refl

pub in_body-returns-then-in_expr : goal.in_body-returns-then-in_expr
in_body-returns-then-in_expr t c =
    let y = c.args.name.now in
    let b = c.args.of.now in
    let behind = free (body b).result (name_of y) in
    let items = c.as_slice-items.result.now in
    walk_stops (LetsFree y behind) items c.loop-first.first-index c.first-item.result true c.loop-first-test.true c.first-item.is (c.loop-first.invariant behind)
    (lets_found y behind c.first-item.result (sym c.in_expr.ensures ∙ c.if-in_expr.true))
    ∙ sym (body_free y b items c.as_slice-items.ensures)

pub in_body-returns-then-eq : goal.in_body-returns-then-eq
in_body-returns-then-eq t c =
    let y = c.args.name.now in
    let b = c.args.of.now in
    let behind = free (body b).result (name_of y) in
    let items = c.as_slice-items.result.now in
    walk_stops (LetsFree y behind) items c.loop-first.first-index c.first-item.result false c.loop-first-test.true c.first-item.is (c.loop-first.invariant behind)
    (lets_bound y behind c.first-item.result (sym c.in_expr.ensures ∙ c.if-in_expr.false) (sym c.eq.ensures ∙ c.if-eq.true))
    ∙ sym (body_free y b items c.as_slice-items.ensures)

pub in_body-loop-first-preserved : goal.in_body-loop-first-preserved
in_body-loop-first-preserved t c = λ behind.
    let y = c.args.name.now in
    walk_on (LetsFree y behind) c.as_slice-items.result.now c.loop-first.first-index c.first-item.result c.loop-first-test.true c.first-item.is (c.loop-first.invariant behind)
    (lets_on y behind c.first-item.result (sym c.in_expr.ensures ∙ c.if-in_expr.false) (sym c.eq.ensures ∙ c.if-eq.false))

pub in_body-returns : goal.in_body-returns
in_body-returns t c =
    let y = c.args.name.now in
    let b = c.args.of.now in
    let behind = free (body b).result (name_of y) in
    let items = c.as_slice-items.result.now in
    walk_ends (LetsFree y behind) items c.loop-first.first-index c.in_expr-2.result c.loop-first-test.false (c.loop-first.invariant behind)
    (ap (λ o. free o.result (name_of y)) (body_is b) ∙ sym c.in_expr-2.ensures)
    ∙ sym (body_free y b items c.as_slice-items.ensures)

pub in_expr-returns : goal.in_expr-returns
in_expr-returns t c =
    let n = name_of c.args.name.now in
    let e = c.args.of.now in
    c.in_node.ensures e.place ∙ ap (λ m. free_shape e.place (shape_of m) n) c.get.ensures ∙ sym (tree_at_node n e)

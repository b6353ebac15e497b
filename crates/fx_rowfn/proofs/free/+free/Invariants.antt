use Rattle.std.proofs.Common.{◌≡◌, Bool, drop, map}
use Rattle.fx_ast.specs.Free.{free_lets, free_links, free_params, free_parts, free_props, free_trees, name_of}
use Rattle.fx_ast.specs.Shape.{link, links_of, param, params_of, part, parts_of, prop, props_of, tree_of, trees_of}
use Rattle.fx_rowfn.proofs.free.+free.Given as goal

abbrev pub invariant-in_exprs-loop-first : goal.invariant-in_exprs-loop-first
invariant-in_exprs-loop-first l = free_trees (trees_of (map tree_of l.items)) (name_of l.name) ≡ free_trees (trees_of (map tree_of (drop l.first-index l.items))) (name_of l.name)

abbrev pub invariant-in_parts-loop-first : goal.invariant-in_parts-loop-first
invariant-in_parts-loop-first l = free_parts (parts_of (map part l.items)) (name_of l.name) ≡ free_parts (parts_of (map part (drop l.first-index l.items))) (name_of l.name)

abbrev pub invariant-in_props-loop-first : goal.invariant-in_props-loop-first
invariant-in_props-loop-first l = free_props (props_of (map prop l.items)) (name_of l.name) ≡ free_props (props_of (map prop (drop l.first-index l.items))) (name_of l.name)

abbrev pub invariant-in_links-loop-first : goal.invariant-in_links-loop-first
invariant-in_links-loop-first l = free_links (links_of (map link l.items)) (name_of l.name) ≡ free_links (links_of (map link (drop l.first-index l.items))) (name_of l.name)

abbrev pub invariant-in_params-loop-first : goal.invariant-in_params-loop-first
invariant-in_params-loop-first l = free_params (params_of (map param l.items)) (name_of l.name) ≡ free_params (params_of (map param (drop l.first-index l.items))) (name_of l.name)

abbrev pub invariant-in_body-loop-first : goal.invariant-in_body-loop-first
invariant-in_body-loop-first l =
    (behind : Bool) → free_lets (props_of (map prop l.items)) (name_of l.name) behind ≡ free_lets (props_of (map prop (drop l.first-index l.items))) (name_of l.name) behind

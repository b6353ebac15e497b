use Rattle.std.proofs.Common.{◌≡◌, take, map}
use Rattle.fx_ast.specs.Bare.{bare, bare_part, bare_prop, bare_param, bare_link}
use Rattle.fx_ast.specs.Shape.{tree_of, part, link, param, prop}
use Rattle.fx_ast.proofs.same.+same.Given as goal

abbrev pub invariant-same_exprs-loop-i : goal.invariant-same_exprs-loop-i
invariant-same_exprs-loop-i l = map (λ e. bare (tree_of e)) (take l.i l.left) ≡ map (λ e. bare (tree_of e)) (take l.i l.right)

abbrev pub invariant-same_links-loop-i : goal.invariant-same_links-loop-i
invariant-same_links-loop-i l = map (λ k. bare_link (link k)) (take l.i l.left) ≡ map (λ k. bare_link (link k)) (take l.i l.right)

abbrev pub invariant-same_params-loop-i : goal.invariant-same_params-loop-i
invariant-same_params-loop-i l = map (λ p. bare_param (param p)) (take l.i l.left) ≡ map (λ p. bare_param (param p)) (take l.i l.right)

abbrev pub invariant-same_parts-loop-i : goal.invariant-same_parts-loop-i
invariant-same_parts-loop-i l = map (λ p. bare_part (part p)) (take l.i l.left) ≡ map (λ p. bare_part (part p)) (take l.i l.right)

abbrev pub invariant-same_props-loop-i : goal.invariant-same_props-loop-i
invariant-same_props-loop-i l = map (λ p. bare_prop (prop p)) (take l.i l.left) ≡ map (λ p. bare_prop (prop p)) (take l.i l.right)

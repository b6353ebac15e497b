use Rattle.std.proofs.Common.{[], ◌∷◌, map, ap, subst, ◌∙◌}
use Rattle.std.proofs.lemmas.List.{map-append}
use Rattle.fx_ast.specs.Shape.{tree_of}
use Rattle.fx_values.specs.Shape.{val, vals_of}
use Rattle.fx_values.proofs.ListLaws.{vals_pushed}
use Rattle.fx_rowfn.specs.State.{Leads, items_left, scope_of, trees_from}
use Rattle.fx_rowfn.proofs.arrays.item_known.Goals as goal

pub returns : goal.returns
returns c = λ test.
    subst (λ vs. Leads (items_left test (scope_of c.args.scope) (trees_from (tree_of c.args.whole.now) c.args.next) vs) test c.items_from.result)
    (ap (λ vs. vals_of (map val vs)) c.in_ok-push.ensures.ok ∙ ap vals_of (map-append val c.args.done (c.args.item ∷ [])) ∙ vals_pushed (map val c.args.done) (val c.args.item))
    (c.items_from.ensures test)

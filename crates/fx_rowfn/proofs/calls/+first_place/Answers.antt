use Rattle.std.proofs.Common.{sym, ap, ◌∙◌}
use Rattle.fx_ast.proofs.ShapeLaws.{shape_index, tree_is}
use Rattle.fx_ast.specs.Places.{first_place}
use Rattle.fx_ast.specs.Shape.{shape_of}
use Rattle.fx_ast.specs.Tree.{tree}
use Rattle.fx_rowfn.proofs.PlaceLaws.{first_else}
use Rattle.fx_rowfn.proofs.calls.+first_place.Goals as goal

pub returns-in-Index : goal.returns-in-Index
returns-in-Index t c =
    c.first_place.ensures
    ∙ sym (ap first_place (tree_is c.args.of.now ∙ ap (tree c.args.of.now.place) (ap shape_of (sym c.get.ensures ∙ c.in-Index.is) ∙ shape_index c.in-Index.of c.in-Index.at)))

pub returns-in_default : goal.returns-in_default
returns-in_default t c =
    sym (ap first_place (tree_is c.args.of.now) ∙ first_else c.args.of.now.place c.args.of.now.node (λ e at is. c.in_default.not-Index e at (c.get.ensures ∙ is)))

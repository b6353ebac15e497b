use Rattle.std.proofs.Common.{ap, sym, refl, ◌∙◌, map}
use Rattle.fx_ast.proofs.ShapeLaws.{shape_array, shape_pipe, tree_is}
use Rattle.fx_ast.specs.Shape.{tree_of, trees_of, shape_of}
use Rattle.fx_ast.specs.Tree.{array, pipe}
use Rattle.fx_rowfn.specs.State.{trees_from, trees_in, trees_past}
use Rattle.fx_rowfn.proofs.PartLaws.{trees_else, trees_found, trees_none_past}
use Rattle.fx_rowfn.proofs.parts.tree_at.Goals as goal

pub returns-in-Array-clause-at : goal.returns-in-Array-clause-at
returns-in-Array-clause-at c =
    let h = c.get-in-Array.ensures.lookup in
    trees_found c.args.of.now (array (trees_of (map tree_of c.in-Array.items))) c.in-Array.items c.as_slice.result.now c.args.place c.get-in-Array.result
    (ap shape_of (sym c.get.ensures ∙ c.in-Array.is) ∙ shape_array c.in-Array.items) refl c.as_slice.ensures h.1 h.3

pub returns-in-Pipe-clause-at : goal.returns-in-Pipe-clause-at
returns-in-Pipe-clause-at c =
    let h = c.get-in-Pipe.ensures.lookup in
    trees_found c.args.of.now (pipe (tree_of c.in-Pipe.first) (trees_of (map tree_of c.in-Pipe.calls))) c.in-Pipe.calls c.as_slice-in-Pipe.result.now c.args.place c.get-in-Pipe.result
    (ap shape_of (sym c.get.ensures ∙ c.in-Pipe.is) ∙ shape_pipe c.in-Pipe.first c.in-Pipe.calls) refl c.as_slice-in-Pipe.ensures h.1 h.3

pub returns-in_default-clause-at : goal.returns-in_default-clause-at
returns-in_default-clause-at c =
    ap (λ t. trees_from t c.args.place) (tree_is c.args.of.now)
    ∙ ap (trees_past c.args.place) (ap (λ n. trees_in (shape_of n)) (sym c.get.ensures) ∙ trees_else c.get.result.now c.in_default.not-Array c.in_default.not-Pipe)
    ∙ trees_none_past c.args.place

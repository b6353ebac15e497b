use Rattle.std.proofs.Common.{ap, sym, refl, ◌∙◌, map}
use Rattle.fx_ast.proofs.ShapeLaws.{shape_text, tree_is}
use Rattle.fx_ast.specs.Shape.{part, parts_of, shape_of}
use Rattle.fx_ast.specs.Tree.{text}
use Rattle.fx_rowfn.specs.State.{parts_from, parts_in, parts_past}
use Rattle.fx_rowfn.proofs.PartLaws.{parts_else, parts_found, parts_none_past}
use Rattle.fx_rowfn.proofs.parts.part_at.Goals as goal

pub returns-in-Text-clause-at : goal.returns-in-Text-clause-at
returns-in-Text-clause-at c =
    let h = c.get-in-Text.ensures.lookup in
    parts_found c.args.of.now (text (parts_of (map part c.in-Text.parts))) c.in-Text.parts c.as_slice.result.now c.args.place c.get-in-Text.result
    (ap shape_of (sym c.get.ensures ∙ c.in-Text.is) ∙ shape_text c.in-Text.parts) refl c.as_slice.ensures h.1 h.3

pub returns-in_default-clause-at : goal.returns-in_default-clause-at
returns-in_default-clause-at c =
    ap (λ t. parts_from t c.args.place) (tree_is c.args.of.now)
    ∙ ap (parts_past c.args.place) (ap (λ n. parts_in (shape_of n)) (sym c.get.ensures) ∙ parts_else c.get.result.now c.in_default.not-Text)
    ∙ parts_none_past c.args.place

use Rattle.std.proofs.Common.{ap, sym, refl, ◌∙◌, map}
use Rattle.fx_ast.proofs.ShapeLaws.{shape_call, shape_rec, tree_is}
use Rattle.fx_ast.specs.Shape.{prop, props_of, shape_of, tree_of}
use Rattle.fx_ast.specs.Tree.{rec, call}
use Rattle.fx_rowfn.specs.State.{props_from, props_in, props_past}
use Rattle.fx_rowfn.proofs.PartLaws.{props_else, props_found, props_none_past}
use Rattle.fx_rowfn.proofs.parts.prop_at.Goals as goal

pub returns-in-Rec-clause-at : goal.returns-in-Rec-clause-at
returns-in-Rec-clause-at c =
    let h = c.get-in-Rec.ensures.lookup in
    props_found c.args.of.now (rec c.in-Rec.base (props_of (map prop c.in-Rec.props))) c.in-Rec.props c.as_slice.result.now c.args.place c.get-in-Rec.result
    (ap shape_of (sym c.get.ensures ∙ c.in-Rec.is) ∙ shape_rec c.in-Rec.base c.in-Rec.props) refl c.as_slice.ensures h.1 h.3

pub returns-in-Call-clause-at : goal.returns-in-Call-clause-at
returns-in-Call-clause-at c =
    let h = c.get-in-Call.ensures.lookup in
    props_found c.args.of.now (call (tree_of c.in-Call.callee) (props_of (map prop c.in-Call.args))) c.in-Call.args c.as_slice-in-Call.result.now c.args.place c.get-in-Call.result
    (ap shape_of (sym c.get.ensures ∙ c.in-Call.is) ∙ shape_call c.in-Call.callee c.in-Call.args) refl c.as_slice-in-Call.ensures h.1 h.3

pub returns-in_default-clause-at : goal.returns-in_default-clause-at
returns-in_default-clause-at c =
    ap (λ t. props_from t c.args.place) (tree_is c.args.of.now)
    ∙ ap (props_past c.args.place) (ap (λ n. props_in (shape_of n)) (sym c.get.ensures) ∙ props_else c.get.result.now c.in_default.not-Rec c.in_default.not-Call)
    ∙ props_none_past c.args.place

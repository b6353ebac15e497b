use Rattle.std.proofs.Common.{◌≡◌, ◌∙◌, ap, sym, map, subst, IfOk}
use Rattle.fx_ast.proofs.ShapeLaws.{shape_rec}
use Rattle.fx_ast.specs.Shape.{prop, props_of, shape_of}
use Rattle.fx_ast.specs.Tree.{tree, rec}
use Rattle.fx_schemes.specs.declared.form.Form.TheVariants as form
use Rattle.fx_infer.specs.Words.{said}
use Rattle.fx_infer.proofs.WrittenLaws.{at_shape, no_rec}
use Rattle.fx_infer.proofs.words.olds_and_news.Goals as goal

pub returns-in_default : goal.returns-in_default
returns-in_default c = sym (no_rec c.args.label.now c.args.value.now c.get.result.now c.get.ensures c.in_default.not-Rec)

pub returns-in-Rec : goal.returns-in-Rec
returns-in-Rec c =
    subst (λ w. IfOk c.renames.result (λ o. o ≡ w))
    (ap (λ ps. said form.Renames c.args.label.now (tree c.args.value.now.place (rec c.in-Rec.base (props_of (map prop ps))))) c.as_slice.ensures
    ∙ sym (ap (said form.Renames c.args.label.now) (at_shape c.args.value.now c.get.result.now (rec c.in-Rec.base (props_of (map prop c.in-Rec.props))) c.get.ensures (ap shape_of c.in-Rec.is ∙ shape_rec c.in-Rec.base c.in-Rec.props))))
    (c.renames.ensures c.args.value.now.place)

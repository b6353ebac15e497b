use Rattle.std.proofs.Common.{◌∙◌, ap, sym, map}
use Rattle.fx_ast.proofs.ShapeLaws.{shape_text}
use Rattle.fx_ast.specs.Shape.{part, parts_of, shape_of}
use Rattle.fx_ast.specs.Tree.{tree, text}
use Rattle.fx_infer.specs.Words.{plain_text}
use Rattle.fx_infer.proofs.WrittenLaws.{at_shape, no_text}
use Rattle.fx_infer.proofs.words.plain_text.Goals as goal

pub returns-in-Text : goal.returns-in-Text
returns-in-Text c =
    c.only_piece.ensures c.args.value.now.place ∙ ap (λ ps. plain_text (tree c.args.value.now.place (text (parts_of (map part ps))))) c.as_slice.ensures
    ∙ sym (ap plain_text (at_shape c.args.value.now c.get.result.now (text (parts_of (map part c.in-Text.parts))) c.get.ensures (ap shape_of c.in-Text.is ∙ shape_text c.in-Text.parts)))

pub returns-in_default : goal.returns-in_default
returns-in_default c = sym (no_text c.args.value.now c.get.result.now c.get.ensures c.in_default.not-Text)

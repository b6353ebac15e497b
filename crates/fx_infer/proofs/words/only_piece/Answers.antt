use Rattle.std.proofs.Common.{◌∙◌, ap, sym, map, arith}
use Rattle.fx_ast.specs.Shape.{part, parts_of}
use Rattle.fx_ast.specs.Tree.{tree, text}
use Rattle.fx_infer.specs.Words.{plain_text}
use Rattle.fx_infer.proofs.WrittenLaws.{one_item, no_parts_none, more_parts_none}
use Rattle.fx_infer.proofs.words.only_piece.Goals as goal

pub returns-in-len1 : goal.returns-in-len1
returns-in-len1 c place =
    c.piece.ensures place
    ∙ sym (ap (λ ps. plain_text (tree place (text (parts_of (map part ps))))) (one_item c.args.parts.now c.only-item.result (omega arith) (omega arith) c.only-item.is))

pub returns-in-empty : goal.returns-in-empty
returns-in-empty c place = sym (no_parts_none place c.args.parts.now (omega arith))

pub returns-in-len2-up : goal.returns-in-len2-up
returns-in-len2-up c place = sym (more_parts_none place c.args.parts.now (omega arith))

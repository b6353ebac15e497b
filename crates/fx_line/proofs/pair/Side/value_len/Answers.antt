use Rattle.std.proofs.Common.{length, false, ap, arith, length-append}
use Rattle.fx_line.specs.declared.word.Word.TheVariants as word
use Rattle.fx_line.specs.Word.{front, back}
use Rattle.fx_line.proofs.Words.{front-back}
use Rattle.fx_line.proofs.pair.Side.value_len.Goals as goal

pub returns-in-Tag-clause-within : goal.returns-in-Tag-clause-within
returns-in-Tag-clause-within c =
    let bytes = c.args.bytes.now in
    omega (arith, ap length c.cut.ensures.word, ap length (front-back word.Name false bytes), length-append (front word.Name false bytes) (back word.Name false bytes))

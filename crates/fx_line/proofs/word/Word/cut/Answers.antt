use Rattle.std.proofs.Common.{length, take, drop, false, ap, ◌∙◌, ◌-◌, arith}
use Rattle.fx_line.proofs.Words.{back_short, take_front, drop_front}
use Rattle.fx_line.proofs.word.Word.cut.Goals as goal

pub overflow_sub-bytes : goal.overflow_sub-bytes
overflow_sub-bytes c = omega (arith, ap length c.back-rest.ensures, back_short c.args.self false c.args.bytes.now)

pub returns-clause-word : goal.returns-clause-word
returns-clause-word c =
    let bytes = c.args.bytes.now in
    c.split_at.ensures.front ∙ ap (λ r. take (length bytes - length r) bytes) c.back-rest.ensures ∙ take_front c.args.self false bytes

pub returns-clause-rest : goal.returns-clause-rest
returns-clause-rest c =
    let bytes = c.args.bytes.now in
    c.split_at.ensures.back ∙ ap (λ r. drop (length bytes - length r) bytes) c.back-rest.ensures ∙ drop_front c.args.self false bytes

use Rattle.std.proofs.Common.{◌∙◌, ap, Err, length, take, sym, subst, false}
use Rattle.std.proofs.Math.Seq.{take-length}
use Rattle.std.specs.Str.{IsUtf8}
use Rattle.fx_line.proofs.TextParts.{said_text, no_text_stops}
use Rattle.fx_line.proofs.word.Word.text.Goals as goal

pub unreachable-requires : goal.unreachable-requires
unreachable-requires c =
    let at = c.in-Err-NotUtf8.field-0-0 in
    let text : IsUtf8 c.as_slice.result.now = subst IsUtf8 (sym (c.as_slice.ensures.value ∙ c.in_ok-said.ensures)) (said_text c.args.self c.args.bytes.now c.requires) in
    no_text_stops c.as_slice.result.now at text (c.read.ensures.not_utf8 at (c.in-Err-NotUtf8.is ∙ ap (λ e. Err e) c.in-Err-NotUtf8.field-0-is))

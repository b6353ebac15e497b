use Rattle.std.proofs.Common.{◌≡◌, List, ℕ, Option, IfNone, subst}
use Rattle.std.specs.Str.{IsUtf8}
use Rattle.std.proofs.lemmas.Result.{IfOk-weaker}
use Rattle.fx_line.specs.Line.{Written, trimmed, IsSpelled}
use Rattle.fx_line.proofs.OneAnswer.{no_parts}
use Rattle.fx_line.proofs.reader.read_text.Goals as goal

pub returns-then-is_text-clause-none : goal.returns-then-is_text-clause-none
returns-then-is_text-clause-none c =
    IfOk-weaker c.read_parts.result (λ o. IfNone o ((w : Written) → IsSpelled c.trimmed.result.now w → ⊥)) (λ o. IfNone o ((w : Written) → IsUtf8 c.args.line.now → IsSpelled (trimmed c.args.line.now) w → ⊥))
    (λ o h. no_parts c.args.line.now c.trimmed.result.now c.trimmed.ensures o h) c.read_parts.ensures.none

use Rattle.std.proofs.Common.{sym, ap, ◌∙◌}
use Rattle.fx_value.specs.Ends.{Gives}
use Rattle.fx_meaning.specs.Forms.{stream_in}
use Rattle.fx_values.specs.Shape.{call, val}
use Rattle.fx_values.proofs.FormLaws.{not_stream}
use Rattle.fx_values.proofs.ValueLaws.{val_stream}
use Rattle.fx_values.proofs.forms.stream_in.Goals as goal

pub returns-in_ok-clone-in-Stream : goal.returns-in_ok-clone-in-Stream
returns-in_ok-clone-in-Stream c =
    ap stream_in (ap val c.in-Stream.is ∙ val_stream c.in-Stream.call) ∙ ap (λ s. Gives (call s) 0) (sym c.in_ok-clone-in-Stream.ensures.cases)

pub returns-in_default : goal.returns-in_default
returns-in_default c = not_stream c.args.value.now c.in_default.not-Stream

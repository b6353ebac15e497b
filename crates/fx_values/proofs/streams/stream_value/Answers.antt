use Rattle.std.proofs.Common.{sym, ap, map, ◌∙◌}
use Rattle.fx_meaning.specs.Value.{applied, stream}
use Rattle.fx_value.specs.Ends.{Gives}
use Rattle.fx_values.specs.Shape.{call, slot, slots_of}
use Rattle.fx_values.proofs.ListLaws.{streams_same}
use Rattle.fx_values.proofs.ValueLaws.{call_made, val_stream}
use Rattle.fx_values.proofs.streams.stream_value.Goals as goal

pub returns : goal.returns
returns c =
    ap (λ w. Gives w 0)
    (sym (val_stream c.in_ok-shared.shared
    ∙ ap stream (ap call c.in_ok-shared.ensures.ok ∙ call_made c.args.which c.args.place c.args.inputs c.args.args
    ∙ ap (λ cs. applied c.args.which c.args.place cs (slots_of (map slot c.args.args))) (streams_same (map (λ i. call i.value) c.args.inputs)))))

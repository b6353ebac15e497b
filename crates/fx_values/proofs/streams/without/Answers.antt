use Rattle.std.proofs.Common.{map, sym, ap, ◌∙◌}
use Rattle.std.specs.Prelude.{not}
use Rattle.std.specs.List.{filter}
use Rattle.std.proofs.lemmas.List.{take_all}
use Rattle.fx_types.specs.Ground.{listed}
use Rattle.fx_values.specs.Shape.{slot, slots_of}
use Rattle.fx_values.proofs.KeptLaws.{keep_filter}
use Rattle.fx_values.proofs.streams.without.Goals as goal

pub returns : goal.returns
returns c =
    let labels = map (λ label. label.now) c.args.labels.now in
    ap slots_of (c.loop-slot.invariant ∙ ap (λ ss. filter (λ o. not (listed o.label labels)) (map slot ss)) (take_all c.loop-slot.slot-index c.args.slots.now c.loop-slot-test.false))
    ∙ sym (keep_filter (λ x. not (listed x labels)) (map slot c.args.slots.now))

use Rattle.std.proofs.Common.{◌≡◌, ◌+◌, ◌∙◌, true, ap, sym, drop, map, arith}
use Rattle.std.specs.Prelude.{option_map}
use Rattle.fx_base.specs.Text.{same_text}
use Rattle.fx_meaning.specs.Value.{look, or_else}
use Rattle.fx_values.specs.Shape.{slot, slots_of, val}
use Rattle.fx_values.proofs.ListLaws.{hit, look_more}
use Rattle.fx_values.proofs.forms.look.Goals as goal
use Rattle.fx_values.proofs.forms.look.Goals.{then-eq, else-eq}

pub loop-slot-preserved : goal.loop-slot-preserved
loop-slot-preserved c =
    let more
    = c.loop-slot.invariant
    ∙ look_more c.args.label.now c.args.slots.now c.loop-slot.slot-index c.slot-item.result (option_map (λ v. val v.now) c.loop-slot.found)
    c.loop-slot-test.true c.slot-item.is in
    elim c.if-eq.branch [
      | then-eq w ↦
          let same : same_text c.args.label.now c.slot-item.result.label ≡ true
          = sym (ap (same_text c.args.label.now) c.as_str.ensures) ∙ (sym c.eq.ensures ∙ w.if-eq.true) in
          more
          ∙ ap (or_else (look c.args.label.now (slots_of (map slot (drop (c.loop-slot.slot-index + 1) c.args.slots.now)))))
          (hit (same_text c.args.label.now c.slot-item.result.label) (val c.slot-item.result.value) (option_map (λ v. val v.now) c.loop-slot.found) same
          ∙ sym (ap (option_map (λ v. val v.now)) w.found-is))
      | else-eq w ↦ grind (arith, more)
    ]

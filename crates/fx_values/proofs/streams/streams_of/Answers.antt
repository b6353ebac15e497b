use Rattle.std.proofs.Common.{◌≡◌, [], get_or, subst, sym, map, ◌∙◌, rules}
use Rattle.std.specs.Prelude.{Err}
use Rattle.std.specs.declared.alloc.Global.{Global}
use Rattle.std.specs.declared.rc.Rc.{Rc}
use Rattle.fx_meaning.specs.Forms.{each}
use Rattle.fx_meaning.specs.Natives.{stream_of}
use Rattle.fx_values.specs.Shape.{call, slot, slots_of}
use Rattle.fx_values.specs.declared.value.StreamCall.{StreamCall}
use Rattle.fx_values.specs.Told.{Tells}
use Rattle.fx_values.proofs.EachLaws.{all_made, each_map, made_stops, same_item}
use Rattle.fx_values.proofs.streams.streams_of.Goals as goal

pub returns-in_err-call : goal.returns-in_err-call
returns-in_err-call c =
    let same : c.from_residual.result ≡ Err c.in_err-call.field-0.0 = search rules in
    let args = slots_of (map slot c.args.args.now) in
    let x = get_or c.args.labels.now c.loop-label.label-index (record { ref_ptr = (0, 0); now = [] }) in
    subst (λ r. Tells (λ found. map (λ (i : Rc StreamCall Global). call i.value) found) (each (λ x. stream_of x args) (map (λ label. label.now) c.args.labels.now)) r) (sym same)
    (subst (λ e. Tells (λ found. map (λ (i : Rc StreamCall Global). call i.value) found) e (Err c.in_err-call.field-0.0)) (each_map (λ x. stream_of x args) (λ label. label.now) c.args.labels.now)
    (made_stops (λ x. stream_of x.now args) (λ (i : Rc StreamCall Global). call i.value) (λ found. map (λ (i : Rc StreamCall Global). call i.value) found) c.args.labels.now c.loop-label.label-index (map (λ (i : Rc StreamCall Global). call i.value) c.loop-label.found) x
    c.in_err-call.field-0.0 c.loop-label-test.true (same_item c.args.labels.now c.loop-label.label-index (record { ref_ptr = (0, 0); now = [] }) c.loop-label-test.true) c.loop-label.invariant c.in_err-call.ensures))

pub returns : goal.returns
returns c =
    let args = slots_of (map slot c.args.args.now) in
    sym (each_map (λ x. stream_of x args) (λ label. label.now) c.args.labels.now)
    ∙ all_made (λ x. stream_of x.now args) c.args.labels.now c.loop-label.label-index (map (λ (i : Rc StreamCall Global). call i.value) c.loop-label.found) c.loop-label-test.false c.loop-label.invariant

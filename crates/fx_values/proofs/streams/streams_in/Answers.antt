use Rattle.std.proofs.Common.{◌≡◌, subst, sym, map, ◌∙◌, rules}
use Rattle.std.specs.Prelude.{Err}
use Rattle.std.specs.declared.alloc.Global.{Global}
use Rattle.std.specs.declared.rc.Rc.{Rc}
use Rattle.fx_meaning.specs.Forms.{each, stream_in, val_list}
use Rattle.fx_values.specs.Shape.{call, val, vals_of}
use Rattle.fx_values.specs.declared.value.StreamCall.{StreamCall}
use Rattle.fx_values.specs.Told.{Tells}
use Rattle.fx_values.proofs.EachLaws.{all_made, made_stops}
use Rattle.fx_values.proofs.KeptLaws.{streams_each}
use Rattle.fx_values.proofs.streams.streams_in.Goals as goal

pub returns-in_err-call : goal.returns-in_err-call
returns-in_err-call c =
    let same : c.from_residual.result ≡ Err c.in_err-call.field-0.0 = search rules in
    subst (λ r. Tells (λ found. map (λ (i : Rc StreamCall Global). call i.value) found) (each stream_in (val_list (vals_of (map val c.args.items.now)))) r) (sym same)
    (subst (λ e. Tells (λ found. map (λ (i : Rc StreamCall Global). call i.value) found) e (Err c.in_err-call.field-0.0)) (streams_each c.args.items.now)
    (made_stops (λ v. stream_in (val v)) (λ (i : Rc StreamCall Global). call i.value) (λ found. map (λ (i : Rc StreamCall Global). call i.value) found) c.args.items.now c.loop-item.item-index (map (λ (i : Rc StreamCall Global). call i.value) c.loop-item.found) c.item-item.result
    c.in_err-call.field-0.0 c.loop-item-test.true c.item-item.is c.loop-item.invariant c.in_err-call.ensures))

pub returns : goal.returns
returns c =
    sym (streams_each c.args.items.now)
    ∙ all_made (λ v. stream_in (val v)) c.args.items.now c.loop-item.item-index (map (λ (i : Rc StreamCall Global). call i.value) c.loop-item.found) c.loop-item-test.false c.loop-item.invariant

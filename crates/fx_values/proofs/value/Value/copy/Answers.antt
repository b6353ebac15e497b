use Rattle.std.proofs.Common.{sym, ap, ◌∙◌, map}
use Rattle.fx_meaning.specs.Value.{array, rec, stream, shown}
use Rattle.fx_values.specs.Shape.{call, closed, closure_val, show, slot, slots_of, val, vals_of}
use Rattle.fx_values.proofs.ValueLaws.{val_list, val_rec, val_fun, val_stream, val_done}
use Rattle.fx_values.proofs.value.Value.copy.Goals as goal

pub returns-in_ok-clone-in-List : goal.returns-in_ok-clone-in-List
returns-in_ok-clone-in-List c =
    val_list c.in_ok-clone-in-List.field-0 ∙ ap (λ vs. array (vals_of (map val vs))) c.in_ok-clone-in-List.ensures.cases
    ∙ sym (ap val c.in-List.is ∙ val_list c.in-List.items)

pub returns-in_ok-clone-in-Rec : goal.returns-in_ok-clone-in-Rec
returns-in_ok-clone-in-Rec c =
    val_rec c.in_ok-clone-in-Rec.field-0 ∙ ap (λ ss. rec (slots_of (map slot ss))) c.in_ok-clone-in-Rec.ensures.cases
    ∙ sym (ap val c.in-Rec.is ∙ val_rec c.in-Rec.fields)

pub returns-in_ok-clone-in-Fun : goal.returns-in_ok-clone-in-Fun
returns-in_ok-clone-in-Fun c =
    val_fun c.in_ok-clone-in-Fun.field-0 ∙ ap (λ f. closure_val (closed f)) c.in_ok-clone-in-Fun.ensures.cases
    ∙ sym (ap val c.in-Fun.is ∙ val_fun c.in-Fun.closure)

pub returns-in_ok-clone-in-Stream : goal.returns-in_ok-clone-in-Stream
returns-in_ok-clone-in-Stream c =
    val_stream c.in_ok-clone-in-Stream.field-0 ∙ ap (λ s. stream (call s)) c.in_ok-clone-in-Stream.ensures.cases
    ∙ sym (ap val c.in-Stream.is ∙ val_stream c.in-Stream.call)

pub returns-in_ok-clone-in-Done : goal.returns-in_ok-clone-in-Done
returns-in_ok-clone-in-Done c =
    val_done c.in_ok-clone-in-Done.field-0 ∙ ap (λ s. shown (show s).name (show s).place (show s).stream) c.in_ok-clone-in-Done.ensures.cases
    ∙ sym (ap val c.in-Done.is ∙ val_done c.in-Done.shown)

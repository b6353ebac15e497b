-- The equations of plain values, and which value has which plain one.
use Rattle.std.proofs.Common.{◌≡◌, sym, ap, subst, ◌∙◌, map, refl, ℕ, List, [], ◌∷◌}
use Rattle.std.specs.declared.alloc.Global.{Global}
use Rattle.std.specs.declared.rc.Rc.{Rc}
use Rattle.fx_ast.specs.Shape.{body, param, params_of}
use Rattle.fx_base.specs.declared.place.Place.{Place}
use Rattle.fx_meaning.specs.Value.{Label, Val, cell, span, pattern, array, rec, closure, native, in_package, stream, shown, Stream, applied}
use Rattle.fx_meaning.specs.declared.native.Native.{Native}
use Rattle.fx_meaning.specs.declared.package.Package.{Package}
use Rattle.fx_meaning.specs.declared.stream.StreamFn.{StreamFn}
use Rattle.fx_base.specs.declared.place.Place.{Place}
use Rattle.fx_meaning.specs.Value.{Label}
use Rattle.fx_time.specs.declared.span.Span.{Span}
use Rattle.fx_value.specs.declared.scalar.Scalar.{Scalar}
use Rattle.fx_values.specs.Shape.{OfSlot, OfClosure, OfShown, vals_of, slots_of, streams_of, closure_val, value_shape, closure_shape, shown_shape, slot_shape, stream_shape, val, closed, slot, call, show}
use Rattle.fx_values.specs.declared.value.Closure.{Closure}
use Rattle.fx_values.specs.declared.value.Shown.{Shown, roll-Shown}
use Rattle.fx_values.specs.declared.value.Slot.{Slot, roll-Slot}
use Rattle.fx_values.specs.declared.value.StreamCall.{StreamCall, roll-StreamCall}
use Rattle.fx_values.specs.declared.value.Value.{Value}
use Rattle.fx_values.specs.declared.value.Value.TheFolds.{fold_out-Closure, fold_out-Slot, fold-roll-Slot, fold-roll-Value, fold-roll-StreamCall, fold-roll-Shown}
use Rattle.fx_values.specs.declared.value.Value.TheOpen.{Value-F}
use Rattle.fx_values.specs.declared.value.Value.TheVariants as v
use Rattle.fx_values.specs.declared.value.Value.TheViews.{out-Closure, roll-Value, out-Value, roll-out-Value}

pub val_cell : (a : Scalar) → val (v.Cell a) ≡ cell a
unfolding val closed slot call show
val_cell a = ap val (sym (v.rolls-Cell a)) ∙ fold-roll-Value Val OfClosure OfShown OfSlot Stream value_shape closure_shape shown_shape slot_shape stream_shape (Value-F.Cell a)

pub val_span : (d : Span) → val (v.Span d) ≡ span d
unfolding val closed slot call show
val_span d = ap val (sym (v.rolls-Span d)) ∙ fold-roll-Value Val OfClosure OfShown OfSlot Stream value_shape closure_shape shown_shape slot_shape stream_shape (Value-F.Span d)

pub val_pattern : (n : ℕ) → val (v.Pattern n) ≡ pattern n
unfolding val closed slot call show
val_pattern n = ap val (sym (v.rolls-Pattern n)) ∙ fold-roll-Value Val OfClosure OfShown OfSlot Stream value_shape closure_shape shown_shape slot_shape stream_shape (Value-F.Pattern n)

pub val_list : (vs : Rc (List Value) Global) → val (v.List vs) ≡ array (vals_of (map val vs.value))
unfolding val closed slot call show
val_list vs = ap val (sym (v.rolls-List vs)) ∙ fold-roll-Value Val OfClosure OfShown OfSlot Stream value_shape closure_shape shown_shape slot_shape stream_shape (Value-F.List vs)

pub val_rec : (fields : Rc (List Slot) Global) → val (v.Rec fields) ≡ rec (slots_of (map slot fields.value))
unfolding val closed slot call show
val_rec fields = ap val (sym (v.rolls-Rec fields)) ∙ fold-roll-Value Val OfClosure OfShown OfSlot Stream value_shape closure_shape shown_shape slot_shape stream_shape (Value-F.Rec fields)

pub val_fun : (c : Rc Closure Global) → val (v.Fun c) ≡ closure_val (closed c.value)
unfolding val closed slot call show
val_fun c = ap val (sym (v.rolls-Fun c)) ∙ fold-roll-Value Val OfClosure OfShown OfSlot Stream value_shape closure_shape shown_shape slot_shape stream_shape (Value-F.Fun c)

pub val_native : (g : Native) → val (v.Native g) ≡ native g
unfolding val closed slot call show
val_native g = ap val (sym (v.rolls-Native g)) ∙ fold-roll-Value Val OfClosure OfShown OfSlot Stream value_shape closure_shape shown_shape slot_shape stream_shape (Value-F.Native g)

pub val_package : (p : Package) → val (v.Package p) ≡ in_package p
unfolding val closed slot call show
val_package p = ap val (sym (v.rolls-Package p)) ∙ fold-roll-Value Val OfClosure OfShown OfSlot Stream value_shape closure_shape shown_shape slot_shape stream_shape (Value-F.Package p)

pub val_stream : (c : Rc StreamCall Global) → val (v.Stream c) ≡ stream (call c.value)
unfolding val closed slot call show
val_stream c = ap val (sym (v.rolls-Stream c)) ∙ fold-roll-Value Val OfClosure OfShown OfSlot Stream value_shape closure_shape shown_shape slot_shape stream_shape (Value-F.Stream c)

pub val_done : (s : Rc Shown Global) → val (v.Done s) ≡ shown (show s.value).name (show s.value).place (show s.value).stream
unfolding val closed slot call show
val_done s = ap val (sym (v.rolls-Done s)) ∙ fold-roll-Value Val OfClosure OfShown OfSlot Stream value_shape closure_shape shown_shape slot_shape stream_shape (Value-F.Done s)

pub slot_is : (s : Slot) → slot s ≡ record { label = s.label; value = val s.value }
unfolding val slot
slot_is s = fold_out-Slot Val OfClosure OfShown OfSlot Stream value_shape closure_shape shown_shape slot_shape stream_shape s

pub closed_is : (c : Closure)
    → closed c ≡ record { params = params_of (map param (out-Closure c).params); lets = (body (out-Closure c).body).lets; result = (body (out-Closure c).body).result; captured = slots_of (map slot (out-Closure c).captured.value); setting = (out-Closure c).setting.value }
unfolding val slot closed
closed_is c = fold_out-Closure Val OfClosure OfShown OfSlot Stream value_shape closure_shape shown_shape slot_shape stream_shape c

pub slot_made : (x : Label) (w : Value) → slot (roll-Slot (record { label = x; value = w })) ≡ record { label = x; value = val w }
unfolding val slot
slot_made x w = fold-roll-Slot Val OfClosure OfShown OfSlot Stream value_shape closure_shape shown_shape slot_shape stream_shape (record { label = x; value = w })

pub show_made : (a : Scalar) (p : Place) (c : Rc StreamCall Global) → show (roll-Shown (record { name = a; place = p; stream = c })) ≡ record { name = a; place = p; stream = call c.value }
unfolding show call
show_made a p c = fold-roll-Shown Val OfClosure OfShown OfSlot Stream value_shape closure_shape shown_shape slot_shape stream_shape (record { name = a; place = p; stream = c })

values_each : (cs : List (Rc StreamCall Global)) → map (λ (i : Rc Stream Global). i.value) (map (λ (i : Rc StreamCall Global). record { ptr = i.ptr; value = call i.value }) cs) ≡ map (λ (i : Rc StreamCall Global). call i.value) cs
values_each [] = refl
values_each (c ∷ cs) = ap (λ l. call c.value ∷ l) (values_each cs)

pub call_made : (g : StreamFn) (p : Place) (cs : List (Rc StreamCall Global)) (ss : List Slot)
    → call (roll-StreamCall (record { which = g; place = p; inputs = cs; args = ss })) ≡ applied g p (streams_of (map (λ i. call i.value) cs)) (slots_of (map slot ss))
unfolding val slot call
call_made g p cs ss = fold-roll-StreamCall Val OfClosure OfShown OfSlot Stream value_shape closure_shape shown_shape slot_shape stream_shape (record { which = g; place = p; inputs = cs; args = ss }) ∙ ap (λ l. applied g p (streams_of l) (slots_of (map slot ss))) (values_each cs)

pub ruleset val_laws = (val_cell, val_span, val_pattern, val_list, val_rec, val_fun, val_native, val_package, val_stream, val_done)

-- which value the plain one comes from
abbrev pub Opens : Value → Val → Type 0
Opens w (cell a) = w ≡ v.Cell a
Opens w (span d) = w ≡ v.Span d
Opens w (pattern n) = w ≡ v.Pattern n
Opens w (array vs) = (items : Rc (List Value) Global) × (w ≡ v.List items)
Opens w (rec ss) = (fields : Rc (List Slot) Global) × (w ≡ v.Rec fields)
Opens w (closure ps ls e ss setting) = (c : Rc Closure Global) × (w ≡ v.Fun c)
Opens w (native g) = w ≡ v.Native g
Opens w (in_package p) = w ≡ v.Package p
Opens w (stream c) = (c : Rc StreamCall Global) × (w ≡ v.Stream c)
Opens w (shown a place c) = (s : Rc Shown Global) × (w ≡ v.Done s)

opened : (w m : Value) (d : Val) → w ≡ m → val m ≡ d → Opens w d → Opens w (val w)
opened w m d same told opens = subst (Opens w) (sym (ap val same ∙ told)) opens

opens_layer : (w : Value) (l : Value-F Value Closure Shown Slot StreamCall) → w ≡ roll-Value l → Opens w (val w)
opens_layer w (Value-F.Cell a) is = let same = is ∙ v.rolls-Cell a in opened w (v.Cell a) (cell a) same (val_cell a) same
opens_layer w (Value-F.Span d) is = let same = is ∙ v.rolls-Span d in opened w (v.Span d) (span d) same (val_span d) same
opens_layer w (Value-F.Pattern n) is = let same = is ∙ v.rolls-Pattern n in opened w (v.Pattern n) (pattern n) same (val_pattern n) same
opens_layer w (Value-F.List vs) is = let same = is ∙ v.rolls-List vs in opened w (v.List vs) (array (vals_of (map val vs.value))) same (val_list vs) (vs, same)
opens_layer w (Value-F.Rec fields) is = let same = is ∙ v.rolls-Rec fields in opened w (v.Rec fields) (rec (slots_of (map slot fields.value))) same (val_rec fields) (fields, same)
opens_layer w (Value-F.Fun c) is = let same = is ∙ v.rolls-Fun c in opened w (v.Fun c) (closure_val (closed c.value)) same (val_fun c) (c, same)
opens_layer w (Value-F.Native g) is = let same = is ∙ v.rolls-Native g in opened w (v.Native g) (native g) same (val_native g) same
opens_layer w (Value-F.Package p) is = let same = is ∙ v.rolls-Package p in opened w (v.Package p) (in_package p) same (val_package p) same
opens_layer w (Value-F.Stream c) is = let same = is ∙ v.rolls-Stream c in opened w (v.Stream c) (stream (call c.value)) same (val_stream c) (c, same)
opens_layer w (Value-F.Done s) is = let same = is ∙ v.rolls-Done s in opened w (v.Done s) (shown (show s.value).name (show s.value).place (show s.value).stream) same (val_done s) (s, same)

pub opens : (w : Value) → Opens w (val w)
opens w = opens_layer w (out-Value w) (sym (roll-out-Value w))

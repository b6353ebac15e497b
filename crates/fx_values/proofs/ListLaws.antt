-- Lists of slots and values, item by item.
use Rattle.std.proofs.Common.{◌≡◌, ℕ, ◌+◌, ◌<◌, Bool, true, false, List, [], ◌∷◌, ◌++◌, length, drop, get_or, map, sym, ap, refl, ◌∙◌}
use Rattle.std.proofs.lemmas.List.{at_drop_more}
use Rattle.std.specs.Prelude.{None, Some, Option, if◌then◌else◌}
use Rattle.fx_base.specs.Text.{same_text}
use Rattle.fx_meaning.specs.Value.{Label, Val, more_slots, look, or_else, push, more_vals, push_val, Stream, more_streams}
use Rattle.fx_meaning.specs.Forms.{streams_from}
use Rattle.fx_values.specs.Shape.{OfSlot, slot, slots_of, val, vals_of, streams_of}
use Rattle.fx_values.specs.declared.value.Slot.{Slot}
use Rattle.fx_values.specs.declared.value.Value.{Value}
use Rattle.fx_values.proofs.ValueLaws.{slot_is}

-- what is left from a slot on begins with that slot
pub slots_opened : (ss : List Slot) (i : ℕ) (s : Slot) → i < length ss → s ≡ get_or ss i s
    → slots_of (map slot (drop i ss)) ≡ more_slots s.label (val s.value) (slots_of (map slot (drop (i + 1) ss)))
slots_opened ss i s below is =
    at_drop_more (λ rest. slots_of (map slot rest)) ss i s below
    ∙ ap (λ t. slots_of (map slot (t ∷ drop (i + 1) ss))) (sym is)
    ∙ ap (λ o. more_slots o.label o.value (slots_of (map slot (drop (i + 1) ss)))) (slot_is s)

pub vals_opened : (vs : List Value) (i : ℕ) (v : Value) → i < length vs → v ≡ get_or vs i v
    → vals_of (map val (drop i vs)) ≡ more_vals (val v) (vals_of (map val (drop (i + 1) vs)))
vals_opened vs i v below is =
    at_drop_more (λ rest. vals_of (map val rest)) vs i v below ∙ ap (λ w. vals_of (map val (w ∷ drop (i + 1) vs))) (sym is)

or_else_twice : (a b c : Option Val) → or_else (or_else a b) c ≡ or_else a (or_else b c)
or_else_twice None b c = refl
or_else_twice (Some v) b c = refl

-- one slot further, what was found is the slot's value where it has the label
pub look_more : (x : Label) (ss : List Slot) (i : ℕ) (s : Slot) (found : Option Val) → i < length ss → s ≡ get_or ss i s
    → or_else (look x (slots_of (map slot (drop i ss)))) found
    ≡ or_else (look x (slots_of (map slot (drop (i + 1) ss)))) (or_else (if same_text x s.label then Some (val s.value) else None) found)
look_more x ss i s found below is =
    ap (λ l. or_else (look x l) found) (slots_opened ss i s below is)
    ∙ or_else_twice (look x (slots_of (map slot (drop (i + 1) ss)))) (if same_text x s.label then Some (val s.value) else None) found

pub hit : (same : Bool) (v : Val) (found : Option Val) → same ≡ true → or_else (if same then Some v else None) found ≡ Some v
hit true v found h = refl
hit false v found h = absurd cc

-- a slot at the end
pub slots_pushed : (os : List OfSlot) (x : Label) (v : Val) → slots_of (os ++ record { label = x; value = v } ∷ []) ≡ push (slots_of os) x v
slots_pushed [] x v = refl
slots_pushed (o ∷ os) x v = ap (more_slots o.label o.value) (slots_pushed os x v)

pub vals_pushed : (vs : List Val) (v : Val) → vals_of (vs ++ v ∷ []) ≡ push_val (vals_of vs) v
vals_pushed [] v = refl
vals_pushed (w ∷ vs) v = ap (more_vals w) (vals_pushed vs v)

pub streams_same : (cs : List Stream) → streams_of cs ≡ streams_from cs
streams_same [] = refl
streams_same (c ∷ cs) = ap (more_streams c) (streams_same cs)

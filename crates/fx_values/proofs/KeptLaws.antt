-- Slots that are kept, and streams that are the items of an array.
use Rattle.std.proofs.Common.{◌≡◌, Bool, true, false, cond, List, [], ◌∷◌, map, refl, sym, ap, ◌∙◌}
use Rattle.std.specs.Prelude.{if◌then◌else◌}
use Rattle.std.specs.List.{filter}
use Rattle.fx_meaning.specs.Forms.{each, stream_in, val_list}
use Rattle.fx_meaning.specs.Value.{Label, Slots, more_slots, keep}
use Rattle.fx_values.specs.Shape.{OfSlot, slots_of, val, vals_of}
use Rattle.fx_values.specs.declared.value.Value.{Value}
use Rattle.fx_values.proofs.EachLaws.{each_map, val_list_back}

kept_one : (b : Bool) (o : OfSlot) (ss : Slots) (os : List OfSlot) → ss ≡ slots_of os
    → (if b then more_slots o.label o.value ss else ss) ≡ slots_of (cond b (o ∷ os) os)
kept_one true o ss os is = ap (more_slots o.label o.value) is
kept_one false o ss os is = is

-- slots that are kept by their labels, as a list
pub keep_filter : (test : Label → Bool) (os : List OfSlot) → keep test (slots_of os) ≡ slots_of (filter (λ o. test o.label) os)
keep_filter test [] = refl
keep_filter test (o ∷ os) = kept_one (test o.label) o (keep test (slots_of os)) (filter (λ p. test p.label) os) (keep_filter test os)

pub streams_each : (items : List Value) → each (λ v. stream_in (val v)) items ≡ each stream_in (val_list (vals_of (map val items)))
streams_each items = each_map stream_in val items ∙ ap (each stream_in) (sym (val_list_back (map val items)))

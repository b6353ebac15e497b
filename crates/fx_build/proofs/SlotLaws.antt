-- What stands at a label, against what an environment says.
use Rattle.std.proofs.Common.{Bool, true, false, Option, None, Some}
use Rattle.std.specs.Prelude.{if◌then◌else◌}
use Rattle.fx_base.specs.Text.{same_text}
use Rattle.fx_types.specs.Term.{Label}
use Rattle.fx_meaning.specs.Value.{Val, Slots, no_slots, more_slots, look, or_else, is_there}
use Rattle.fx_infer.specs.Ask.{either}
use Rattle.fx_build.specs.Bound.{Bound}
use Rattle.fx_build.specs.Fit.{keeps, keeps_at}

abbrev pub AtSlot : Option Val → Bound → Type 0 → Type 0
AtSlot None b Missing = Missing
AtSlot (Some v) b Missing = keeps v b

out_step : (o : Option Val) (c : Bool) (v : Val) (b : Bound) (Missing Rest : Type 0) → (Rest → AtSlot o b Missing)
    → either (is_there o) Rest (either c (keeps v b) Missing) → AtSlot (or_else o (if c then Some v else None)) b Missing
out_step (Some w) c v b Missing Rest out h = out h
out_step None true v b Missing Rest out h = h
out_step None false v b Missing Rest out h = h

in_step : (o : Option Val) (c : Bool) (v : Val) (b : Bound) (Missing Rest : Type 0) → (AtSlot o b Missing → Rest)
    → AtSlot (or_else o (if c then Some v else None)) b Missing → either (is_there o) Rest (either c (keeps v b) Missing)
in_step (Some w) c v b Missing Rest in_rest h = in_rest h
in_step None true v b Missing Rest in_rest h = h
in_step None false v b Missing Rest in_rest h = h

pub keeps_out : (slots : Slots) (l : Label) (b : Bound) (Missing : Type 0) → keeps_at slots l b Missing → AtSlot (look l slots) b Missing
keeps_out no_slots l b Missing h = h
keeps_out (more_slots x v slots) l b Missing h =
    out_step (look l slots) (same_text l x) v b Missing (keeps_at slots l b Missing) (keeps_out slots l b Missing) h

pub keeps_in : (slots : Slots) (l : Label) (b : Bound) (Missing : Type 0) → AtSlot (look l slots) b Missing → keeps_at slots l b Missing
keeps_in no_slots l b Missing h = h
keeps_in (more_slots x v slots) l b Missing h =
    in_step (look l slots) (same_text l x) v b Missing (keeps_at slots l b Missing) (keeps_in slots l b Missing) h

-- Equations between the rests of two rows.
use Rattle.std.specs.Prelude.{◌≡◌, List, None}
use Rattle.fx_types.specs.Term.{Label}
use Rattle.fx_types.specs.Instance.{Solution, ground_field}
use Rattle.fx_types.specs.Shape.{field_term}
use Rattle.fx_unify.specs.declared.store.Store as stores
use Rattle.fx_unify.specs.declared.tails.Tails as declared
use Rattle.fx_unify.specs.declared.tails.Tails.TheVariants as tails
use Rattle.fx_unify.specs.Part.{value}
use Rattle.fx_unify.specs.Store.{root_at, rest_of, AreKept}

-- what it says at a label
abbrev pub Tells : declared.Tails → Solution → Label → Type 0
Tells tails.Same s l = Unit {0}
Tells (tails.Link r o) s l = s.row_of r l ≡ value s (root_at l o)
Tells (tails.Defaults d e) s l = ground_field s (field_term d) ≡ ground_field s (field_term e)

-- a variable whose rest is to be bound is free, and only kept apart at some of the labels
abbrev pub IsReady : stores.Store → declared.Tails → List Label → Type 0
IsReady st tails.Same ls = Unit {0}
IsReady st (tails.Link r o) ls = (rest_of st r ≡ None) × AreKept st r ls
IsReady st (tails.Defaults d e) ls = Unit {0}

-- Loops whose items give lists, without ticks, that are put to what was gathered.
use Rattle.std.proofs.Common.{◌≡◌, ◌≢◌, List, ◌∷◌, ◌++◌, refl, sym, ap, subst, ◌∙◌}
use Rattle.std.specs.FinMap as fin
use Rattle.std.specs.Prelude.{Err}
use Rattle.fx_base.specs.declared.halt.Halt.{Halt}
use Rattle.fx_data.specs.Regrouped.{regrouped}
use Rattle.fx_data.specs.declared.keyed_row.KeyedRow.{KeyedRow}
use Rattle.fx_group.specs.Turned.{with_rows}
use Rattle.fx_group.proofs.Turned.{listed, listed_rows}
use Rattle.fx_value.specs.Calls.{Told}
use Rattle.fx_value.specs.Ends.{End, Gives, Faults, Stuck, More, and_then}
use Rattle.fx_value.specs.Works.{flat_each, into}
use Rattle.fx_value.proofs.Ends.{later-zero, then-then}
use Rattle.fx_value.proofs.Loops.{told_then, told_stops, told_unstuck}

module _ {X Y G : Type 0} (add : G → List Y → G) (step : X → End (List Y)) (whole : End G) (g : G) (left : List X)
    (ahead : whole ≡ into add g (flat_each step left)) (x : X) (xs : List X) (is : left ≡ x ∷ xs) where
  pub now : whole ≡ into add g (flat_each step (x ∷ xs))
  now = ahead ∙ ap (λ items. into add g (flat_each step items)) is

  -- an item of work that isn't Stuck isn't Stuck
  pub item_unstuck : whole ≢ Stuck → step x ≢ Stuck
  item_unstuck unstuck =
      let rest : List Y → End (List Y) = λ us. and_then (flat_each step xs) (λ zs. Gives (us ++ zs) 0) in
      told_unstuck (step x) rest (told_unstuck (and_then (step x) rest) (λ all. Gives (add g all) 0) (λ stuck. unstuck (now ∙ stuck)))

  module _ (more : (h : G) (ys zs : List Y) → add h (ys ++ zs) ≡ add (add h ys) zs) where
    -- the item is ahead, and what it gives is put to what was gathered
    state : whole ≡ and_then (into add g (step x)) (λ next. into add next (flat_each step xs))
    state =
        let rest : List Y → End (List Y) = λ us. and_then (flat_each step xs) (λ zs. Gives (us ++ zs) 0) in
        now ∙ then-then (step x) rest (λ all. Gives (add g all) 0)
        ∙ (λ i. and_then (step x) (λ ys. then-then (flat_each step xs) (λ zs. Gives (ys ++ zs) 0) (λ all. Gives (add g all) 0) i))
        ∙ (λ i. and_then (step x) (λ ys. and_then (flat_each step xs) (λ zs. Gives (more g ys zs i) 0)))
        ∙ sym (then-then (step x) (λ ys. Gives (add g ys) 0) (λ next. into add next (flat_each step xs))
        ∙ (λ i. and_then (step x) (λ ys. later-zero (into add (add g ys) (flat_each step xs)) i)))

    pub state_gives : (next : G) → into add g (step x) ≡ Gives next 0 → whole ≡ into add next (flat_each step xs)
    state_gives next gives = state ∙ told_then (into add g (step x)) (λ h. into add h (flat_each step xs)) next gives

    pub state_stops : (why : Halt) → Told (into add g (step x)) (Err why) → Told whole (Err why)
    state_stops why told = subst (λ e. Told e (Err why)) (sym state) (told_stops (into add g (step x)) (λ h. into add h (flat_each step xs)) why told)

    -- the item gave a list
    pub item_gives : (ys : List Y) → step x ≡ Gives ys 0 → whole ≡ into add (add g ys) (flat_each step xs)
    item_gives ys gives = state_gives (add g ys) (ap (into add g) gives)

pub into_unstuck : {Y G : Type 0} (add : G → Y → G) (g : G) (e : End Y) → e ≢ Stuck → into add g e ≢ Stuck
into_unstuck add g (Gives y t) unstuck = λ is. cc
into_unstuck add g (Faults f t) unstuck = λ is. cc
into_unstuck add g Stuck unstuck = λ _. unstuck refl
into_unstuck add g More unstuck = λ is. cc

-- to regroup what is made is to put it behind no groups and to list these
pub made_listed : (made : End (List KeyedRow)) → and_then made (λ rows. Gives (regrouped rows) 0) ≡ and_then (into with_rows fin.empty made) (λ groups. Gives (listed groups) 0)
made_listed made =
    sym (then-then made (λ rows. Gives (with_rows fin.empty rows) 0) (λ groups. Gives (listed groups) 0)
    ∙ (λ i. and_then made (λ rows. Gives (listed_rows rows i) 0)))

-- Loops in which each item takes one call, and what the call gives is put to what was gathered.
use Rattle.std.proofs.Common.{◌≡◌, ℕ, List, [], ◌∷◌, ◌++◌, sym, ◌∙◌}
use Rattle.std.specs.Prelude.{Err}
use Rattle.fx_base.specs.declared.halt.Halt.{Halt}
use Rattle.fx_base.specs.declared.meter.Meter.{Meter}
use Rattle.fx_value.specs.Calls.{IsReady, IsMetered, Ended, Answers}
use Rattle.fx_value.specs.Ends.{End, Gives, and_then, NeverStuck}
use Rattle.fx_value.specs.Works.{flat_each, into, IsSteady}
use Rattle.fx_value.proofs.Ends.{then-gives, steady_same, steady_then, steady_each}
use Rattle.fx_value.proofs.Loops.{Goes, goes_begins, goes_along, goes_unstuck, goes_then, goes_stops, goes_into, goes_past, each_ahead, each_ends}

module _ {X V Y G : Type 0} (add : G → List Y → G) (more : (g : G) (ys zs : List Y) → add g (ys ++ zs) ≡ add (add g ys) zs)
    (call : ℕ → X → End V) (made : X → V → List Y) where
  -- an item's call, and what is made of its value
  abbrev pub step_of : ℕ → X → End (List Y)
  step_of n x = and_then (call n x) (λ v. Gives (made x v) 0)

  -- what is gathered, with what the items give
  abbrev pub gathers : G → List X → ℕ → End G
  gathers g xs n = into add g (flat_each (step_of n) xs)

  pub steady_step : ((x : X) → IsSteady (λ n. call n x)) → (x : X) → IsSteady (λ n. step_of n x)
  steady_step steady x = steady_then (λ n. call n x) (λ v n. Gives (made x v) 0) (steady x) (λ v. steady_same {A = List Y} (Gives (made x v) 0))

  pub steady_items : ((x : X) → IsSteady (λ n. call n x)) → (xs : List X) → IsSteady (λ n. flat_each (step_of n) xs)
  steady_items steady xs = steady_each step_of (steady_step steady) xs

  module _ (whole : ℕ → End G) (g : G) (left : List X) (before now : Meter) (goes : Goes whole (gathers g left) before now)
      (x : X) (xs : List X) (is : left ≡ x ∷ xs) where
    -- the item's call is ahead
    abbrev after_item : V → ℕ → End G
    after_item v n = and_then (Gives (made x v) 0) (λ ys. gathers (add g ys) xs n)

    item_ahead : Goes whole (λ n. and_then (call n x) (λ v. after_item v n)) before now
    item_ahead =
        goes_into whole (λ n. call n x) (λ v n. Gives (made x v) 0) (λ ys n. gathers (add g ys) xs n) before now
        (each_ahead add more whole step_of g left before now goes x xs is)

    pub item_unstuck : IsSteady (λ n. call n x) → NeverStuck whole → NeverStuck (λ n. call n x)
    item_unstuck steady unstuck = goes_unstuck whole (λ n. call n x) after_item before now item_ahead steady unstuck

    module _ (after : Meter) (metered : IsMetered now after) where
      -- the item is done
      pub item_done : (v : V) → Ended (λ n. call n x) (Gives v) now after → (next : G) → next ≡ add g (made x v) → Goes whole (gathers next xs) before after
      item_done v ended next same =
          let done = goes_past whole (made x v) (λ ys n. gathers (add g ys) xs n) before after
          (goes_then whole (λ n. call n x) after_item before now item_ahead after metered v ended) in
          goes_along whole (gathers (add g (made x v)) xs) (gathers next xs) before after (λ n i. gathers (sym same i) xs n) done

      -- the item's call ended without a value
      pub item_stops : (why : Halt) → IsSteady whole → Answers (λ n. call n x) now after (Err why) → Answers whole before after (Err why)
      item_stops why steady answer = goes_stops whole (λ n. call n x) after_item before now item_ahead after metered why steady answer

  -- no item is left
  pub items_end : (whole : ℕ → End G) (g : G) (left : List X) (before now : Meter) → Goes whole (gathers g left) before now → left ≡ [] → add g [] ≡ g
      → Ended whole (Gives g) before now
  items_end whole g left before now goes none nothing = each_ends add more whole step_of g left before now goes none nothing

-- all items are ahead, and nothing is gathered
pub items_begin : {X Y : Type 0} (step : ℕ → X → End (List Y)) (items left : List X) (g : List Y) (meter : Meter) → IsReady meter → left ≡ items → g ≡ []
    → Goes (λ n. flat_each (step n) items) (λ n. into ◌++◌ g (flat_each (step n) left)) meter meter
items_begin step items left g meter ready same nothing =
    goes_along (λ n. flat_each (step n) items) (λ n. flat_each (step n) items) (λ n. into ◌++◌ g (flat_each (step n) left)) meter meter
    (λ n. sym (then-gives (flat_each (step n) items)) ∙ (λ i. into ◌++◌ (sym nothing i) (flat_each (step n) (sym same i))))
    (goes_begins (λ n. flat_each (step n) items) meter ready.spent)

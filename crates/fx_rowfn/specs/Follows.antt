-- What evaluation answers: how far work has come, and how it ended.
use Rattle.std.specs.Prelude.{◌≡◌, ℕ, ◌+◌, ◌≤◌, ◌<◌, List, Result, Ok, Err}
use Rattle.fx_base.specs.declared.halt.Halt.{Halt}
use Rattle.fx_base.specs.declared.halt.Halt.TheVariants as halt
use Rattle.fx_base.specs.declared.meter.Meter.{Meter}
use Rattle.fx_meaning.specs.Meaning.{Tests}
use Rattle.fx_meaning.specs.Value.{Val}
use Rattle.fx_value.specs.Calls.{Ended, Exceeded}
use Rattle.fx_value.specs.Ends.{End, Gives, Faults, Stuck, later}
use Rattle.fx_values.specs.Shape.{val}
use Rattle.fx_values.specs.declared.stop.Stop.{Stop}
use Rattle.fx_values.specs.declared.stop.Stop.TheVariants as stop
use Rattle.fx_rowfn.specs.Frame as plain
use Rattle.fx_rowfn.specs.Frame.{depth}
use Rattle.fx_rowfn.specs.State.{left, left_then}
use Rattle.fx_rowfn.specs.declared.frame.Control.{Control}
use Rattle.fx_rowfn.specs.declared.frame.Moved.{Moved}
use Rattle.fx_rowfn.specs.declared.frame.Next.{Next}
use Rattle.fx_rowfn.specs.declared.frame.Moved.TheVariants as moved

-- under each limit that isn't below the ticks that were spent, the work is the one that is left behind these
pub record Goes {A : Type 0} (work rest : ℕ → End A) (before after : Meter) : Type 0 where
  pub ticks : ℕ
  pub spent : after.spent ≡ before.spent + ticks
  pub at : (limit : ℕ) → ticks ≤ limit → work limit ≡ later ticks (rest limit)

-- the budget doesn't allow the ticks that the work takes at least
pub record Passes {A : Type 0} (work : ℕ → End A) (before : Meter) (sum : ℕ) : Type 0 where
  pub ticks : ℕ
  pub sum_is : sum ≡ before.spent + ticks
  pub past : before.budget < sum
  pub at : (limit : ℕ) → ticks ≤ limit → (e : End A) × (work limit ≡ later ticks e)

-- the answer of the work where it is stopped; f is what its value is as plain data
abbrev pub Follows : {A B : Type 0} → (A → B) → (ℕ → End B) → Meter → Meter → Result A Stop → Type 0
Follows f work before after (Ok value) = Goes work (λ _. Gives (f value) 0) before after
Follows f work before after (Err (stop.Fault fault)) = Goes work (λ _. Faults fault 0) before after
Follows f work before after (Err stop.Stuck) = Goes work (λ _. Stuck) before after
Follows f work before after (Err (stop.Budget sum)) = Passes work before sum
Follows f work before after (Err stop.Memory) = Unit {0}

-- the answer of a call that evaluates; f is what its value is as plain data
abbrev pub Evaluates : {A B : Type 0} → (A → B) → (ℕ → End B) → Meter → Meter → Result A Halt → Type 0
Evaluates f work before after (Ok value) = Ended work (Gives (f value)) before after
Evaluates f work before after (Err (halt.Fault fault)) = Ended work (Faults fault) before after
Evaluates f work before after (Err (halt.Budget sum)) = Exceeded work before sum
Evaluates f work before after (Err halt.Memory) = Unit {0}

-- one step over frames: the work that was left is the one that is left now, behind the ticks that were spent. No more
-- calls wait for their end than there were, but for one at each tick
pub record Advances (test : Tests) (control : Control) (frames : List plain.Frame) (now : Control) (on : List plain.Frame) (before after : Meter) : Type 0 where
  pub ticks : ℕ
  pub spent : after.spent ≡ before.spent + ticks
  pub deep : depth on ≤ depth frames + ticks
  pub at : (limit : ℕ) → depth frames + ticks ≤ limit → left test limit frames control ≡ later ticks (left test limit on now)

pub record Stays (test : Tests) (control : Control) (frames : List plain.Frame) (end : End Val) (before after : Meter) : Type 0 where
  pub spent : after.spent ≡ before.spent
  pub at : (limit : ℕ) → left test limit frames control ≡ end

abbrev pub Moves : Tests → Control → List plain.Frame → List plain.Frame → Meter → Meter → Result Moved Stop → Type 0
Moves test control frames on before after (Ok (moved.Done value)) = Stays test control frames (Gives (val value) 0) before after
Moves test control frames on before after (Ok (moved.Goes now)) = Advances test control frames now on before after
Moves test control frames on before after (Err (stop.Fault fault)) = Stays test control frames (Faults fault 0) before after
Moves test control frames on before after (Err stop.Stuck) = Stays test control frames Stuck before after
Moves test control frames on before after (Err (stop.Budget sum)) =
    (sum ≡ before.spent + 1) × (before.budget < sum) × ((limit : ℕ) → depth frames < limit → (e : End Val) × (left test limit frames control ≡ later 1 e))
Moves test control frames on before after (Err stop.Memory) = Unit {0}

-- what is done next is carried out
pub record Carried (next : Next) (frames : List plain.Frame) (now : Control) (on : List plain.Frame) (before after : Meter) : Type 0 where
  pub ticks : ℕ
  pub spent : after.spent ≡ before.spent + ticks
  pub deep : depth on ≤ depth frames + ticks
  pub at : (test : Tests) (limit : ℕ) → depth frames + ticks ≤ limit → left_then test limit frames next ≡ later ticks (left test limit on now)

abbrev pub Carries : Next → List plain.Frame → List plain.Frame → Meter → Meter → Result Moved Stop → Type 0
Carries next frames on before after (Ok (moved.Goes now)) = Carried next frames now on before after
Carries next frames on before after (Err (stop.Budget sum)) =
    (sum ≡ before.spent + 1) × (before.budget < sum) × ((test : Tests) (limit : ℕ) → depth frames < limit → (e : End Val) × (left_then test limit frames next ≡ later 1 e))
Carries next frames on before after (Err stop.Memory) = Unit {0}
Carries next frames on before after _ = ⊥

-- What calls that do work answer, with and without a meter, and how they leave patterns.
use Rattle.std.specs.Prelude.{◌≡◌, ℕ, ◌+◌, ◌-◌, ◌^◌, ◌<◌, ◌≤◌, Bool, ◌==◌, ◌&&◌, List, length, Result, Ok, Err}
use Rattle.std.specs.List.{list_any, AllByRecursion}
use Rattle.fx_base.specs.declared.fault.Fault.{Fault}
use Rattle.fx_base.specs.declared.halt.Halt.{Halt}
use Rattle.fx_base.specs.declared.halt.Halt.TheVariants as halt
use Rattle.fx_base.specs.declared.meter.Meter.{Meter}
use Rattle.fx_base.specs.Patterns.{SameTests}
use Rattle.fx_value.specs.Ends.{End, Gives, Faults}

-- at most the budget is spent, and the budget is below the greatest u64
pub record IsReady (meter : Meter) : Type 0 where
  pub spent : meter.spent ≤ meter.budget
  pub budget : meter.budget < 2 ^ 64 - 1

-- the budget is the same, nothing that was spent is given back, and no more than the budget is spent
pub record IsMetered (before after : Meter) : Type 0 where
  pub budget : after.budget ≡ before.budget
  pub kept : before.spent ≤ after.spent
  pub spent : after.spent ≤ before.budget

-- the work has this end under each limit that is not below its ticks, and these were spent
pub record Ended {A : Type 0} (work : ℕ → End A) (end : ℕ → End A) (before after : Meter) : Type 0 where
  pub ticks : ℕ
  pub spent : after.spent ≡ before.spent + ticks
  pub at : (limit : ℕ) → ticks ≤ limit → work limit ≡ end ticks

-- the sum is greater than the budget, and not greater than what was spent before together with the ticks of the work's
-- end, if it has one
pub record Exceeded {A : Type 0} (work : ℕ → End A) (before : Meter) (sum : ℕ) : Type 0 where
  pub past : before.budget < sum
  pub gives : (limit : ℕ) (value : A) (ticks : ℕ) → work limit ≡ Gives value ticks → sum ≤ before.spent + ticks
  pub faults : (limit : ℕ) (fault : Fault) (ticks : ℕ) → work limit ≡ Faults fault ticks → sum ≤ before.spent + ticks

-- the answer of a call that does the work
abbrev pub Answers : {A : Type 0} → (ℕ → End A) → Meter → Meter → Result A Halt → Type 0
Answers work before after (Ok value) = Ended work (Gives value) before after
Answers work before after (Err (halt.Fault fault)) = Ended work (Faults fault) before after
Answers work before after (Err (halt.Budget sum)) = Exceeded work before sum
Answers work before after (Err halt.Memory) = Unit {0}

-- the answer of a call whose work takes no ticks
abbrev pub Told : {A : Type 0} → End A → Result A Halt → Type 0
Told end (Ok value) = end ≡ Gives value 0
Told end (Err (halt.Fault fault)) = end ≡ Faults fault 0
Told end (Err (halt.Budget sum)) = ⊥
Told end (Err halt.Memory) = Unit {0}

-- what the tests of patterns say at these numbers, and false at any other
abbrev pub heard : List ℕ → (ℕ → List ℕ → Bool) → ℕ → List ℕ → Bool
heard numbers test number text = list_any (λ n. n == number) numbers && test number text

-- the numbers are among those that were given for the built patterns
abbrev pub AreGiven : List ℕ → List (List ℕ) → Type 0
AreGiven numbers built = AllByRecursion (λ number. number < length built) numbers

-- the list of built patterns, the count of refusals and the test at each given number are as they were
pub record SamePatterns {P : Type 0} (built_by : P → List (List ℕ)) (refusals_of : P → ℕ) (test_of : P → ℕ → List ℕ → Bool) (before after : P) : Type 0 where
  pub built : built_by after ≡ built_by before
  pub refusals : refusals_of after ≡ refusals_of before
  pub tests : SameTests (built_by before) (test_of before) (test_of after)

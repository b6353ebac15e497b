-- Ends of work that counts ticks under a limit.
use Rattle.std.specs.Prelude.{◌≡◌, ◌≢◌, ℕ, ◌+◌, ◌≤◌, cond, nat_le}
use Rattle.fx_base.specs.declared.fault.Fault.{Fault}

-- a value or a fault, with its ticks; Stuck, where no rule says what comes next; More, where more ticks than the limit
-- are needed
pub data End (A : Type 0) : Type 0 where
  Gives : (value : A) → (ticks : ℕ) → End A
  Faults : (fault : Fault) → (ticks : ℕ) → End A
  Stuck : End A
  More : End A

-- the end with these ticks before its own
abbrev pub later : {A : Type 0} → ℕ → End A → End A
later before (Gives value ticks) = Gives value (before + ticks)
later before (Faults fault ticks) = Faults fault (before + ticks)
later before Stuck = Stuck
later before More = More

-- one end, and where it is a value what follows from the value
abbrev pub and_then : {A B : Type 0} → End A → (A → End B) → End B
and_then (Gives value ticks) next = later ticks (next value)
and_then (Faults fault ticks) next = Faults fault ticks
and_then Stuck next = Stuck
and_then More next = More

-- what needs more ticks than the limit is cut off
abbrev pub cut : {A : Type 0} → ℕ → End A → End A
cut limit (Gives value ticks) = cond (nat_le ticks limit) (Gives value ticks) More
cut limit (Faults fault ticks) = cond (nat_le ticks limit) (Faults fault ticks) More
cut limit Stuck = Stuck
cut limit More = More

-- the work is Stuck under no limit
abbrev pub NeverStuck : {A : Type 0} → (ℕ → End A) → Type 0
NeverStuck work = (limit : ℕ) → work limit ≢ Stuck

-- the end has no more ticks than the limit
abbrev pub IsWithin : {A : Type 0} → ℕ → End A → Type 0
IsWithin limit (Gives value ticks) = ticks ≤ limit
IsWithin limit (Faults fault ticks) = ticks ≤ limit
IsWithin limit Stuck = Unit {0}
IsWithin limit More = Unit {0}

-- an end under the least limit that is no More, and has no more ticks than the limit, is the end under the limit;
-- Stuck stays Stuck under each greater limit
abbrev pub Stays : {A : Type 0} → ℕ → ℕ → End A → End A → Type 0
Stays least limit (Gives value ticks) second = ticks ≤ limit → second ≡ Gives value ticks
Stays least limit (Faults fault ticks) second = ticks ≤ limit → second ≡ Faults fault ticks
Stays least limit Stuck second = least ≤ limit → second ≡ Stuck
Stays least limit More second = Unit {0}

-- by its limits, a work is More where it needs more ticks than the limit, and else has one end
pub record IsLimited {A : Type 0} (work : ℕ → End A) : Type 0 where
  pub within : (limit : ℕ) → IsWithin limit (work limit)
  pub stays : (least limit : ℕ) → Stays least limit (work least) (work limit)

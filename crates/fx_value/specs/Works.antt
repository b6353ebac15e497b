-- Work over lists, and work that has the same end under each limit that suffices.
use Rattle.std.specs.Prelude.{◌≡◌, ℕ, ◌≤◌, List, [], ◌∷◌, ◌++◌}
use Rattle.fx_value.specs.Ends.{End, Gives, Faults, Stuck, More, and_then}

-- what the step gives of each item, joined in order; the first step that ends without a value ends all
abbrev pub flat_each : {X Y : Type 0} → (X → End (List Y)) → List X → End (List Y)
flat_each step [] = Gives [] 0
flat_each step (x ∷ xs) = and_then (step x) (λ ys. and_then (flat_each step xs) (λ zs. Gives (ys ++ zs) 0))

-- a state through the items, in order
abbrev pub walk : {S X : Type 0} → (S → X → End S) → S → List X → End S
walk step state [] = Gives state 0
walk step state (x ∷ xs) = and_then (step state x) (λ next. walk step next xs)

-- what the end gives, put to what was gathered before
abbrev pub into : {G Y : Type 0} → (G → Y → G) → G → End Y → End G
into add gathered end = and_then end (λ y. Gives (add gathered y) 0)

-- a first end that is no More is the second end
abbrev pub Extends : {A : Type 0} → End A → End A → Type 0
Extends (Gives value ticks) second = second ≡ Gives value ticks
Extends (Faults fault ticks) second = second ≡ Faults fault ticks
Extends Stuck second = second ≡ Stuck
Extends More second = Unit {0}

-- a first end within the limit is the second end
abbrev pub InTime : {A : Type 0} → ℕ → End A → End A → Type 0
InTime limit (Gives value ticks) second = ticks ≤ limit → second ≡ Gives value ticks
InTime limit (Faults fault ticks) second = ticks ≤ limit → second ≡ Faults fault ticks
InTime limit Stuck second = Unit {0}
InTime limit More second = Unit {0}

-- an end stays under each greater limit, and under each limit that is not below its ticks. Unlike a limited work, a
-- steady one may end past its limit, so that steady works one after another are steady
pub record IsSteady {A : Type 0} (work : ℕ → End A) : Type 0 where
  pub extends : (least limit : ℕ) → least ≤ limit → Extends (work least) (work limit)
  pub in_time : (least limit : ℕ) → InTime limit (work least) (work limit)

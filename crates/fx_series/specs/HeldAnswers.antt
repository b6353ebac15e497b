-- How a put into one series answers.
use Rattle.std.specs.Prelude.{◌≡◌, ◌≢◌, ℕ, Result, Ok, Err}
use Rattle.fx_value.specs.declared.scalar.Kind.{Kind}
use Rattle.fx_series.specs.declared.fault.PutFault.{PutFault}
use Rattle.fx_series.specs.declared.fault.PutFault.TheVariants as fault

-- a value is taken where it has the series' kind, and is refused by a conflict where it has another
abbrev pub HeldAnswers : ℕ → Kind → Kind → Result (Unit {0}) PutFault → Type 0
HeldAnswers number had kind (Ok _) = had ≡ kind
HeldAnswers number had kind (Err fault.NoBucket) = ⊥
HeldAnswers number had kind (Err (fault.KindConflict series old new)) = (series ≡ number) × (old ≡ had) × (new ≡ kind) × (had ≢ kind)
HeldAnswers number had kind (Err fault.Memory) = Unit {0}

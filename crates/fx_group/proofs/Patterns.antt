-- Work that hears what patterns say, after calls that left them as they were.
use Rattle.std.proofs.Common.{◌≡◌, ℕ, Bool, List, sym, subst}
use Rattle.std.specs.Prelude.{Result}
use Rattle.fx_base.specs.declared.halt.Halt.{Halt}
use Rattle.fx_base.specs.declared.meter.Meter.{Meter}
use Rattle.fx_value.specs.Calls.{Answers, AreGiven, heard, SamePatterns}
use Rattle.fx_value.specs.Ends.{End, NeverStuck}
use Rattle.fx_value.proofs.Calls.{heard_same}

module _ {P : Type 0} (built_by : P → List (List ℕ)) (refusals_of : P → ℕ) (test_of : P → ℕ → List ℕ → Bool) (numbers : List ℕ)
    (first now : P) (same : SamePatterns built_by refusals_of test_of first now) (given : AreGiven numbers (built_by first)) where
  -- the numbers are given still
  pub given_still : AreGiven numbers (built_by now)
  given_still = subst (AreGiven numbers) (sym same.built) given

  -- the same is heard still
  pub heard_still : heard numbers (test_of now) ≡ heard numbers (test_of first)
  heard_still = heard_same (built_by first) (test_of first) (test_of now) same.tests numbers given

  module _ {A : Type 0} (work : (ℕ → List ℕ → Bool) → ℕ → End A) where
    pub unstuck_still : NeverStuck (work (heard numbers (test_of first))) → NeverStuck (work (heard numbers (test_of now)))
    unstuck_still = subst (λ says. NeverStuck (work says)) (sym heard_still)

    pub answers_still : (before after : Meter) (answer : Result A Halt) → Answers (work (heard numbers (test_of now))) before after answer
        → Answers (work (heard numbers (test_of first))) before after answer
    answers_still before after answer = subst (λ says. Answers (work says) before after answer) heard_still

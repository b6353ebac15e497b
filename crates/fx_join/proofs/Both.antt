-- Work that hears what patterns say at the numbers of two functions, after calls that left them as they were.
use Rattle.std.proofs.Common.{ℕ, Bool, List}
use Rattle.std.specs.Prelude.{Result}
use Rattle.fx_base.specs.declared.halt.Halt.{Halt}
use Rattle.fx_base.specs.declared.meter.Meter.{Meter}
use Rattle.fx_value.specs.Calls.{Answers, AreGiven, heard, SamePatterns}
use Rattle.fx_value.specs.Ends.{End, NeverStuck}
use Rattle.fx_group.proofs.Patterns.{unstuck_still, answers_still}

module _ {P : Type 0} (built_by : P → List (List ℕ)) (refusals_of : P → ℕ) (test_of : P → ℕ → List ℕ → Bool) (ons boths : List ℕ)
    (first now : P) (same : SamePatterns built_by refusals_of test_of first now) (on_given : AreGiven ons (built_by first)) (both_given : AreGiven boths (built_by first)) where
  module _ {A : Type 0} (work : (ℕ → List ℕ → Bool) → (ℕ → List ℕ → Bool) → ℕ → End A) where
    pub unstuck_both : NeverStuck (work (heard ons (test_of first)) (heard boths (test_of first))) → NeverStuck (work (heard ons (test_of now)) (heard boths (test_of now)))
    unstuck_both unstuck =
        unstuck_still built_by refusals_of test_of ons first now same on_given (λ says. work says (heard boths (test_of now)))
        (unstuck_still built_by refusals_of test_of boths first now same both_given (λ says. work (heard ons (test_of first)) says) unstuck)

    pub answers_both : (before after : Meter) (answer : Result A Halt) → Answers (work (heard ons (test_of now)) (heard boths (test_of now))) before after answer
        → Answers (work (heard ons (test_of first)) (heard boths (test_of first))) before after answer
    answers_both before after answer told =
        answers_still built_by refusals_of test_of boths first now same both_given (λ says. work (heard ons (test_of first)) says) before after answer
        (answers_still built_by refusals_of test_of ons first now same on_given (λ says. work says (heard boths (test_of now))) before after answer told)

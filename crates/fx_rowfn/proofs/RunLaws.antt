-- One step after another, and what the last one says of the whole.
use Rattle.std.proofs.Common.{◌≡◌, ℕ, ◌+◌, ◌≤◌, ◌<◌, List, [], ◌∷◌, ◌++◌, Err, refl, sym, ap, arith, ◌∙◌}
use Rattle.std.specs.Prelude.{Option}
use Rattle.fx_base.specs.declared.meter.Meter.{Meter}
use Rattle.fx_meaning.specs.Meaning.{Tests}
use Rattle.fx_meaning.specs.Value.{Val}
use Rattle.fx_value.proofs.Ends.{later-later, later-zero}
use Rattle.fx_value.specs.Calls.{IsMetered}
use Rattle.fx_value.specs.Ends.{End, Faults, Stuck, later}
use Rattle.fx_values.specs.Shape.{val}
use Rattle.fx_values.specs.declared.stop.Stop.{Stop}
use Rattle.fx_values.specs.declared.stop.Stop.TheVariants as stop
use Rattle.fx_rowfn.specs.Follows.{Advances, Follows, Goes, Moves, Passes, Stays}
use Rattle.fx_rowfn.specs.Frame as plain
use Rattle.fx_rowfn.specs.Frame.{depth}
use Rattle.fx_rowfn.specs.State.{left, level_of, stacked}
use Rattle.fx_rowfn.specs.declared.frame.Control.{Control}
use Rattle.fx_rowfn.specs.declared.frame.Frame.{Frame}

pub stack_pushed : (fs : List plain.Frame) (xs : List (Option Frame)) (f : Option Frame) → stacked fs (xs ++ f ∷ []) ≡ level_of f ∷ stacked fs xs
stack_pushed fs [] f = refl
stack_pushed fs (x ∷ xs) f = stack_pushed (level_of x ∷ fs) xs f

pub metered_on : (before now after : Meter) → IsMetered before now → IsMetered now after → IsMetered before after
metered_on before now after first then = record {
  budget = then.budget ∙ first.budget;
  kept = omega (arith, first.kept, then.kept);
  spent = omega (arith, then.spent, first.budget);
}

-- how far a run has come, in frames
pub record Runs (test : Tests) (start : Control) (control : Control) (frames : List plain.Frame) (before now : Meter) : Type 0 where
  pub goes : Goes (λ limit. left test limit [] start) (λ limit. left test limit frames control) before now
  pub deep : depth frames ≤ goes.ticks

pub runs_none : (test : Tests) (start : Control) (meter : Meter) → Runs test start start [] meter meter
runs_none test start meter = record {
  goes = record { ticks = 0; spent = omega arith; at = λ limit below. sym (later-zero (left test limit [] start)) };
  deep = omega arith;
}

module _ (test : Tests) (start control : Control) (frames : List plain.Frame) (before now : Meter) (runs : Runs test start control frames before now) where
  pub runs_on : (next : Control) (on : List plain.Frame) (after : Meter) → Advances test control frames next on now after → Runs test start next on before after
  runs_on next on after a = record {
    goes = record {
      ticks = runs.goes.ticks + a.ticks;
      spent = omega (arith, runs.goes.spent, a.spent);
      at = λ limit below.
          runs.goes.at limit (omega (arith, below)) ∙ ap (later runs.goes.ticks) (a.at limit (omega (arith, below, runs.deep)))
          ∙ later-later runs.goes.ticks a.ticks (left test limit on next);
    };
    deep = omega (arith, a.deep, runs.deep);
  }

  pub runs_end : (end : End Val) (after : Meter) → Stays test control frames end now after → Goes (λ limit. left test limit [] start) (λ _. end) before after
  runs_end end after s = record {
    ticks = runs.goes.ticks;
    spent = s.spent ∙ runs.goes.spent;
    at = λ limit below. runs.goes.at limit below ∙ ap (later runs.goes.ticks) (s.at limit);
  }

  pub runs_past : (sum : ℕ) → now.budget ≡ before.budget → sum ≡ now.spent + 1 → now.budget < sum
      → ((limit : ℕ) → depth frames < limit → (e : End Val) × (left test limit frames control ≡ later 1 e)) → Passes (λ limit. left test limit [] start) before sum
  runs_past sum same is past at = record {
    ticks = runs.goes.ticks + 1;
    sum_is = omega (arith, is, runs.goes.spent);
    past = omega (arith, same, past);
    at = λ limit below.
        let tick = at limit (omega (arith, below, runs.deep)) in
        (tick.0, runs.goes.at limit (omega (arith, below)) ∙ ap (later runs.goes.ticks) tick.1 ∙ later-later runs.goes.ticks 1 tick.0);
  }

  pub runs_stop : (on : List plain.Frame) (after : Meter) (why : Stop) → now.budget ≡ before.budget → Moves test control frames on now after (Err why)
      → Follows val (λ limit. left test limit [] start) before after (Err why)
  runs_stop on after (stop.Fault f) same m = runs_end (Faults f 0) after m
  runs_stop on after stop.Stuck same m = runs_end Stuck after m
  runs_stop on after (stop.Budget sum) same m = runs_past sum same m.0 m.1 m.2
  runs_stop on after stop.Memory same m = tt

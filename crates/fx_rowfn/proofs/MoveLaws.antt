-- One step: what is done next, and what that is over the frames.
use Rattle.std.proofs.Common.{◌≡◌, ℕ, List, Result, Ok, Err, arith, ◌∙◌}
use Rattle.fx_base.specs.declared.meter.Meter.{Meter}
use Rattle.fx_meaning.specs.Meaning.{Tests}
use Rattle.fx_meaning.specs.Value.{Val}
use Rattle.fx_value.specs.Ends.{End}
use Rattle.fx_values.specs.declared.stop.Stop.{Stop}
use Rattle.fx_values.specs.declared.stop.Stop.TheVariants as stop
use Rattle.fx_rowfn.specs.Follows.{Carries, Moves}
use Rattle.fx_rowfn.specs.Frame as plain
use Rattle.fx_rowfn.specs.Frame.{depth}
use Rattle.fx_rowfn.specs.State.{Leads, left}
use Rattle.fx_rowfn.specs.declared.frame.Control.{Control}
use Rattle.fx_rowfn.specs.declared.frame.Moved.{Moved}
use Rattle.fx_rowfn.specs.declared.frame.Moved.TheVariants as moved
use Rattle.fx_rowfn.specs.declared.frame.Next.{Next}

module _ (test : Tests) (control : Control) (start frames on : List plain.Frame) (work : ℕ → List plain.Frame → End Val) (before after : Meter) (same : depth frames ≡ depth start)
    (is : (limit : ℕ) → left test limit start control ≡ work limit frames) where
  pub next_moves : (n : Next) (r : Result Moved Stop) → Leads work test (Ok n) → Carries n frames on before after r → Moves test control start on before after r
  next_moves n (Ok (moved.Goes now)) leads c = record {
    ticks = c.ticks;
    spent = c.spent;
    deep = omega (arith, c.deep, same);
    at = λ limit below. is limit ∙ leads limit frames ∙ c.at test limit (omega (arith, below, same));
  }
  next_moves n (Ok (moved.Done v)) leads c = absurd c
  next_moves n (Err (stop.Budget sum)) leads c =
      (c.0, c.1, λ limit below. let t = c.2 test limit (omega (arith, below, same)) in (t.0, is limit ∙ leads limit frames ∙ t.1))
  next_moves n (Err (stop.Fault f)) leads c = absurd c
  next_moves n (Err stop.Stuck) leads c = absurd c
  next_moves n (Err stop.Memory) leads c = tt

  pub stop_moves : (why : Stop) → after.spent ≡ before.spent → Leads work test (Err why) → Moves test control start on before after (Err why)
  stop_moves (stop.Fault f) spent leads = record { spent = spent; at = λ limit. is limit ∙ leads limit frames }
  stop_moves stop.Stuck spent leads = record { spent = spent; at = λ limit. is limit ∙ leads limit frames }
  stop_moves (stop.Budget sum) spent leads = absurd leads
  stop_moves stop.Memory spent leads = tt

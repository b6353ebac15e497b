-- Steps whose work is told by another, and what a rule that ends without a value leaves.
use Rattle.std.proofs.Common.{◌≡◌, ℕ, List, ap, subst, sym, ◌∙◌}
use Rattle.std.specs.Prelude.{Result, Err}
use Rattle.fx_base.specs.declared.fault.Fault.{Fault}
use Rattle.fx_meaning.specs.Meaning.{Tests}
use Rattle.fx_meaning.specs.Value.{Val}
use Rattle.fx_value.specs.Ends.{End, Faults, Stuck}
use Rattle.fx_values.specs.Told.{Tells}
use Rattle.fx_values.specs.declared.stop.Stop.{Stop}
use Rattle.fx_values.specs.declared.stop.Stop.TheVariants as stop
use Rattle.fx_rowfn.specs.Frame as plain
use Rattle.fx_rowfn.specs.State.{Leads}
use Rattle.fx_rowfn.specs.declared.frame.Next.{Next}

-- a step does the work that is the same
pub leads_along : (work other : ℕ → List plain.Frame → End Val) (test : Tests) (r : Result Next Stop) → ((limit : ℕ) (fs : List plain.Frame) → work limit fs ≡ other limit fs)
    → Leads other test r → Leads work test r
leads_along work other test r same leads = subst (λ w. Leads w test r) (λ i limit fs. sym (same limit fs) i) leads

-- a rule that ends without a value ends all that waits for it
pub stop_ends : {A B : Type 0} (test : Tests) (f : B → A) (end : End A) (work : End A → ℕ → List plain.Frame → End Val) (why : Stop) → Tells f end (Err why)
    → ((fault : Fault) (limit : ℕ) (fs : List plain.Frame) → work (Faults fault 0) limit fs ≡ Faults fault 0)
    → ((limit : ℕ) (fs : List plain.Frame) → work Stuck limit fs ≡ Stuck)
    → Leads (work end) test (Err why)
stop_ends test f end work (stop.Fault fault) told faults stuck = λ limit fs. ap (λ e. work e limit fs) told ∙ faults fault limit fs
stop_ends test f end work stop.Stuck told faults stuck = λ limit fs. ap (λ e. work e limit fs) told ∙ stuck limit fs
stop_ends test f end work (stop.Budget ticks) told faults stuck = absurd told
stop_ends test f end work stop.Memory told faults stuck = tt

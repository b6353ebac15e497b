-- One call after another.
use Rattle.std.proofs.Common.{◌≡◌, ℕ, Bool, true, sym, ap, ◌∙◌}
use Rattle.std.specs.Prelude.{Some}
use Rattle.fx_base.specs.declared.meter.Meter.{Meter}
use Rattle.fx_group.specs.Answer.{Row, Meaning}
use Rattle.fx_join.specs.Join.{made, made_if}
use Rattle.fx_value.specs.Ends.{End, Gives, and_then, NeverStuck}
use Rattle.fx_value.specs.Works.{IsSteady}
use Rattle.fx_value.proofs.Ends.{then-gives}
use Rattle.fx_value.proofs.Loops.{Goes, goes_along, goes_unstuck}

-- where a row is wanted, it is made
pub made_unstuck : (both : Meaning) (l r : Row) (wanted : Bool) → wanted ≡ true → NeverStuck (λ n. made_if both n l r wanted) → NeverStuck (λ n. made both n l r)
made_unstuck both l r wanted is unstuck = λ limit stuck.
    unstuck limit (ap (made_if both limit l r) is ∙ ap (λ e. and_then e (λ row. Gives (Some row) 0)) stuck)

-- the last part of work that is never Stuck is never Stuck
pub last_unstuck : {A : Type 0} (whole part : ℕ → End A) (before now : Meter) → Goes whole part before now → IsSteady part → NeverStuck whole → NeverStuck part
last_unstuck whole part before now goes steady unstuck =
    goes_unstuck whole part (λ v n. Gives v 0) before now
    (goes_along whole part (λ n. and_then (part n) (λ v. Gives v 0)) before now (λ n. sym (then-gives (part n))) goes) steady unstuck

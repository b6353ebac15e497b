use Rattle.std.proofs.Common.{◌≡◌, ◌↔◌, subst, sym}
use Rattle.fx_unify.specs.Part.{part, value}
use Rattle.fx_unify.specs.Work.{Hold}
use Rattle.fx_unify.proofs.SolvingLaws.{hold_more}
use Rattle.fx_unify.proofs.work.put_off.Goals as goal

pub returns : goal.returns
returns c =
    λ s. subst (λ ps. Hold s ps ↔ (Hold s c.args.work.now.items × (value s (part c.args.left) ≡ value s (part c.args.right)))) (sym c.in_ok-push.ensures.items)
    (hold_more s c.args.work.now.items (record { left = c.args.left; right = c.args.right }))

use Rattle.std.proofs.Common.{map, ap, arith, ◌∙◌}
use Rattle.fx_values.specs.Shape.{closed, slot, slots_of}
use Rattle.fx_rowfn.specs.State.{stack_of}
use Rattle.fx_rowfn.proofs.FollowLaws.{enter_carried, enter_ticks}
use Rattle.fx_rowfn.proofs.follow.enter.Goals as goal

pub returns-in_ok-scope-in-Ok-clause-carries : goal.returns-in_ok-scope-in-Ok-clause-carries
returns-in_ok-scope-in-Ok-clause-carries c =
    enter_carried c.args.closure c.args.args c.in_ok-scope-in-Ok.scope c.args.frames.now.items c.push.new.self.items c.args.meter.now c.spend.new.self
    c.in_ok-push-in-Ok.ensures.items c.in-Ok.ensures.ok.0
    (c.in_ok-scope-in-Ok.ensures ∙ ap (λ k. record { env = (closed k).captured; setting = (closed k).setting }) c.deref.ensures)

pub returns-in-Err-clause-carries : goal.returns-in-Err-clause-carries
returns-in-Err-clause-carries c = (
  omega (arith, c.in-Err.ensures.over.1, c.requires.ready.spent, c.requires.ready.budget),
  omega (arith, c.in-Err.ensures.over.0, c.in-Err.ensures.over.1, c.requires.ready.budget, c.requires.ready.spent),
  λ test limit below. enter_ticks test limit (stack_of c.args.frames.now.items) c.args.closure (slots_of (map slot c.args.args.value)) below,
)

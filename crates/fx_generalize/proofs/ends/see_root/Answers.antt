use Rattle.fx_unify.specs.View.{part_seen}
use Rattle.fx_generalize.proofs.EndLaws.{default_seen}
use Rattle.fx_generalize.proofs.ends.see_root.Goals as goal

pub returns-in_ok-seen-in-Default : goal.returns-in_ok-seen-in-Default
returns-in_ok-seen-in-Default c =
    default_seen c.args.bindings.now.store c.args.root.now c.in-Default.field c.view_of.result c.in-Default.is c.view_of.ensures (part_seen c.in_ok-seen-in-Default.field-0)
    (c.in_ok-seen-in-Default.ensures.leads, c.in_ok-seen-in-Default.ensures.free, c.in_ok-seen-in-Default.ensures.same)

use Rattle.std.proofs.Common.{ap, ◌∙◌}
use Rattle.fx_types.specs.Ground.{listed}
use Rattle.fx_unify.proofs.StoreLaws.{on_ok}
use Rattle.fx_generalize.proofs.EndLaws.{row_seen}
use Rattle.fx_generalize.proofs.ends.see_row.Goals as goal

pub returns : goal.returns
returns c =
    on_ok c.see_root.result
    (row_seen c.args.bindings.now.store c.args.row c.follow.new.labels.items c.in_ok-root.root c.in_ok-root.ensures.leads c.in_ok-root.ensures.same c.in_ok-root.ensures.free c.in_ok-root.ensures.kept (λ l h. c.in_ok-see_slots.ensures l (ap (listed l) c.as_slice.ensures.value ∙ h)))
    c.see_root.ensures

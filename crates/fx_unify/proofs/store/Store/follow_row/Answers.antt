use Rattle.std.proofs.Common.{◌≡◌, sym, ap, ◌∙◌, Some}
use Rattle.fx_unify.specs.declared.store.Root.TheVariants as root
use Rattle.fx_unify.specs.Store.{rest_of}
use Rattle.fx_unify.proofs.LeastLaws.{rests_nowhere, rests_at, rests_on}
use Rattle.fx_unify.proofs.store.Store.follow_row.Goals as goal
use Rattle.fx_unify.proofs.LabelLaws.{grows_not, grows_more}

pub loop-step-init : goal.loop-step-init
loop-step-init c = (rests_nowhere c.args.self.now c.args.labels.now.items c.args.row, grows_not c.args.labels.now.items)

pub loop-step-preserved : goal.loop-step-preserved
loop-step-preserved c =
    let at : rest_of c.args.self.now c.loop-step.current ≡ Some (root.Var c.in-Some-Var.next) = c.in-Some-Var.ensures ∙ ap Some (c.in-Some-Var.field-0-is ∙ ap root.Var (sym c.in-Some-Var.next-is)) in (
      rests_on c.args.self.now c.loop-step.labels.items c.add_kept.new.labels.items c.args.row c.loop-step.current (root.Var c.in-Some-Var.next) c.loop-step.invariant.0 c.in_ok-add_kept.ensures.grows.0
          c.in_ok-add_kept.ensures.kept at,
      grows_more c.args.labels.now.items c.loop-step.labels.items c.add_kept.new.labels.items c.loop-step.invariant.1 c.in_ok-add_kept.ensures.grows,
    )

pub returns-in-Some-Default-clause-same : goal.returns-in-Some-Default-clause-same
returns-in-Some-Default-clause-same c =
    let at : rest_of c.args.self.now c.loop-step.current ≡ Some (root.Default c.in_ok-copy-in-Some-Default.field-0) =
    c.in-Some-Default.ensures ∙ ap Some (c.in-Some-Default.field-0-is ∙ ap root.Default (sym c.in_ok-copy-in-Some-Default.ensures)) in
    (rests_on c.args.self.now c.loop-step.labels.items c.add_kept.new.labels.items c.args.row c.loop-step.current (root.Default c.in_ok-copy-in-Some-Default.field-0) c.loop-step.invariant.0
    c.in_ok-add_kept.ensures.grows.0 c.in_ok-add_kept.ensures.kept at).0

pub returns-in-Some-Default-clause-leads : goal.returns-in-Some-Default-clause-leads
returns-in-Some-Default-clause-leads c =
    let at : rest_of c.args.self.now c.loop-step.current ≡ Some (root.Default c.in_ok-copy-in-Some-Default.field-0) =
    c.in-Some-Default.ensures ∙ ap Some (c.in-Some-Default.field-0-is ∙ ap root.Default (sym c.in_ok-copy-in-Some-Default.ensures)) in
    (rests_on c.args.self.now c.loop-step.labels.items c.add_kept.new.labels.items c.args.row c.loop-step.current (root.Default c.in_ok-copy-in-Some-Default.field-0) c.loop-step.invariant.0
    c.in_ok-add_kept.ensures.grows.0 c.in_ok-add_kept.ensures.kept at).1

pub returns-in-Some-Default-clause-grows : goal.returns-in-Some-Default-clause-grows
returns-in-Some-Default-clause-grows c =
    grows_more c.args.labels.now.items c.loop-step.labels.items c.add_kept.new.labels.items c.loop-step.invariant.1 c.in_ok-add_kept.ensures.grows

pub returns-in-None-clause-leads : goal.returns-in-None-clause-leads
returns-in-None-clause-leads c =
    (rests_at c.args.self.now c.loop-step.labels.items c.add_kept.new.labels.items c.args.row c.loop-step.current c.loop-step.invariant.0 c.in_ok-add_kept.ensures.grows.0).1

pub returns-in-None-clause-same : goal.returns-in-None-clause-same
returns-in-None-clause-same c =
    (rests_at c.args.self.now c.loop-step.labels.items c.add_kept.new.labels.items c.args.row c.loop-step.current c.loop-step.invariant.0 c.in_ok-add_kept.ensures.grows.0).0

pub returns-in-None-clause-grows : goal.returns-in-None-clause-grows
returns-in-None-clause-grows c =
    grows_more c.args.labels.now.items c.loop-step.labels.items c.add_kept.new.labels.items c.loop-step.invariant.1 c.in_ok-add_kept.ensures.grows

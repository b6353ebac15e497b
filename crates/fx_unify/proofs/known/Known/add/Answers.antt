use Rattle.std.proofs.Common.{sym, ◌∙◌}
use Rattle.fx_unify.proofs.LabelLaws.{new_label}
use Rattle.fx_unify.proofs.known.Known.add.Goals as goal

pub returns-clause-there : goal.returns-clause-there
returns-clause-there c =
    (new_label c.args.labels.now.items c.push.new.self.items c.args.label.now c.in_ok-copy.field-0 c.in_ok-push.ensures.items c.in_ok-copy.ensures
    (sym c.if-has.false ∙ c.has.ensures c.args.labels.now.items c.requires)).0

pub returns-clause-grows : goal.returns-clause-grows
returns-clause-grows c =
    (new_label c.args.labels.now.items c.push.new.self.items c.args.label.now c.in_ok-copy.field-0 c.in_ok-push.ensures.items c.in_ok-copy.ensures
    (sym c.if-has.false ∙ c.has.ensures c.args.labels.now.items c.requires)).1

pub returns-then-has-clause-there : goal.returns-then-has-clause-there
returns-then-has-clause-there c = sym (c.has.ensures c.args.labels.now.items c.requires) ∙ c.if-has.true

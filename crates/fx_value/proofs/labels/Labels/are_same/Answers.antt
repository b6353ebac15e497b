use Rattle.std.proofs.Common.{Bool, true, subst}
use Rattle.std.specs.Prelude.{◌↔◌, IsTrue}
use Rattle.fx_value.specs.Labels.{HasAll}
use Rattle.fx_value.proofs.LabelLaws.{same_keys_both, other_keys}
use Rattle.fx_value.proofs.labels.Labels.are_same.Goals as goal

pub returns-then-has_all : goal.returns-then-has_all
returns-then-has_all c =
    same_keys_both c.args.self.now c.args.other.now true c.has_all-then-has_all.result
    (subst (λ (t : Bool). IsTrue t ↔ HasAll c.args.self.now c.args.other.now) c.if-has_all.true c.has_all.ensures) c.has_all-then-has_all.ensures

pub returns-else-has_all : goal.returns-else-has_all
returns-else-has_all c = other_keys c.args.self.now c.args.other.now c.has_all.result c.if-has_all.false c.has_all.ensures

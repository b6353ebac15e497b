use Rattle.std.proofs.Common.{Bool, true, subst}
use Rattle.std.specs.Prelude.{◌↔◌, IsTrue}
use Rattle.std.specs.Option.{option_map}
use Rattle.fx_value.specs.Labels.{HasAll, HasOwn}
use Rattle.fx_value.proofs.LabelLaws.{Sources, has_laid, has_none}
use Rattle.fx_value.proofs.labels.Labels.has_all.Goals as goal

pub returns-then-own_is_in : goal.returns-then-own_is_in
returns-then-own_is_in c =
    let own = option_map (λ h. h.value) c.other.inside.own in
    subst (λ (m : Sources). IsTrue c.is_in.result ↔ HasAll c.args.self.now m) c.other.view_is
    (has_laid c.args.self.now own c.other.inside.shared.value true c.is_in.result
    (subst (λ (t : Bool). IsTrue t ↔ HasOwn c.args.self.now own) c.if-own_is_in.true c.own_is_in.ensures)
    (subst (λ (m : Sources). IsTrue c.is_in.result ↔ HasAll c.args.self.now m) c.as_ref.ensures c.is_in.ensures))

pub returns-else-own_is_in : goal.returns-else-own_is_in
returns-else-own_is_in c =
    let own = option_map (λ h. h.value) c.other.inside.own in
    subst (λ (m : Sources). IsTrue c.own_is_in.result ↔ HasAll c.args.self.now m) c.other.view_is
    (has_none c.args.self.now own c.other.inside.shared.value c.own_is_in.result c.if-own_is_in.false c.own_is_in.ensures)

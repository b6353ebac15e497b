use Rattle.std.proofs.Common.{ap, ◌∙◌}
use Rattle.std.specs.Prelude.{Some}
use Rattle.std.specs.Option.{option_map}
use Rattle.std.specs.FinMap as map
use Rattle.fx_value.specs.Labels.{laid}
use Rattle.fx_value.specs.declared.source.Source.TheVariants.{Fixed}
use Rattle.fx_value.proofs.LabelLaws.{Sources, laid-insert}
use Rattle.fx_value.proofs.labels.Labels.with_value.Goals as goal

pub returns : goal.returns
returns c =
    (λ i. laid (Some (c.in_ok-own_with.ensures i)) (c.in_ok-clone.ensures.cases i))
    ∙ laid-insert c.self.inside.shared.value c.args.label.now (option_map (λ h. h.value) c.self.inside.own) (Fixed c.args.value)
    ∙ ap (λ (m : Sources). map.insert m c.args.label.now (Fixed c.args.value)) c.self.view_is

use Rattle.std.proofs.Common.{ap, ◌∙◌}
use Rattle.std.specs.Option.{option_map}
use Rattle.std.specs.FinMap as map
use Rattle.fx_value.proofs.LabelLaws.{found_own, found_shared}
use Rattle.fx_value.proofs.labels.Labels.get_near.Goals as goal

pub returns-in-Some : goal.returns-in-Some
returns-in-Some c = found_own (option_map (λ h. h.value) c.self.inside.own) _ _ _ _ c.self.view_is c.in-Some.ensures

pub returns-in-None : goal.returns-in-None
returns-in-None c =
    found_shared (option_map (λ h. h.value) c.self.inside.own) c.self.inside.shared.value _ _ _ c.self.view_is c.in-None.ensures
    (c.get_near.ensures ∙ ap (λ h. map.get h c.args.label.now) c.as_ref.ensures)

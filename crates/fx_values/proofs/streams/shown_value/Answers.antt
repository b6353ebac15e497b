use Rattle.std.proofs.Common.{sym, ap, ◌∙◌}
use Rattle.fx_meaning.specs.Value.{shown}
use Rattle.fx_value.specs.Ends.{Gives}
use Rattle.fx_values.specs.Shape.{show}
use Rattle.fx_values.proofs.ValueLaws.{show_made, val_done}
use Rattle.fx_values.proofs.streams.shown_value.Goals as goal

pub returns : goal.returns
returns c =
    ap (λ w. Gives w 0)
    (sym (val_done c.in_ok-shared.shared
    ∙ ap (λ s. shown s.name s.place s.stream) (ap show c.in_ok-shared.ensures.ok ∙ show_made c.args.name c.args.place c.args.stream)))

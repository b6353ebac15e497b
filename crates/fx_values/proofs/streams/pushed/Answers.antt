use Rattle.std.proofs.Common.{[], ◌∷◌, ◌++◌, map, sym, ap, ◌∙◌}
use Rattle.std.proofs.lemmas.List.{map-append}
use Rattle.fx_value.specs.Ends.{Gives}
use Rattle.fx_values.specs.Shape.{slot, slots_of, val}
use Rattle.fx_values.proofs.ListLaws.{slots_pushed}
use Rattle.fx_values.proofs.streams.pushed.Goals as goal

pub returns : goal.returns
returns c =
    ap (λ l. Gives l 0)
    (sym (ap (λ ss. slots_of (map slot ss)) c.in_ok-push.ensures.ok
    ∙ ap slots_of (map-append slot c.args.args (c.slot_of.result ∷ []) ∙ ap (λ o. map slot c.args.args ++ o ∷ []) c.slot_of.ensures)
    ∙ slots_pushed (map slot c.args.args) c.args.label (val c.args.value)))

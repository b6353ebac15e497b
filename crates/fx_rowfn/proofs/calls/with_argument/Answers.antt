use Rattle.std.proofs.Common.{[], ◌∷◌, ◌++◌, map, ap, ◌∙◌}
use Rattle.std.proofs.lemmas.List.{map-append}
use Rattle.fx_values.specs.Shape.{slot, slots_of, val}
use Rattle.fx_values.proofs.ListLaws.{slots_pushed}
use Rattle.fx_rowfn.proofs.calls.with_argument.Goals as goal

pub returns : goal.returns
returns c =
    ap (λ ss. slots_of (map slot ss)) c.in_ok-push.ensures.ok
    ∙ ap slots_of (map-append slot c.args.done (c.slot_of.result ∷ []) ∙ ap (λ o. map slot c.args.done ++ o ∷ []) c.slot_of.ensures)
    ∙ slots_pushed (map slot c.args.done) c.args.label (val c.args.value)

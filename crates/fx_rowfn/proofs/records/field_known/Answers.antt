use Rattle.std.proofs.Common.{[], ◌∷◌, ◌++◌, map, ap, subst, ◌∙◌}
use Rattle.std.proofs.lemmas.List.{map-append}
use Rattle.fx_ast.specs.Shape.{tree_of}
use Rattle.fx_values.specs.Shape.{slot, slots_of, val}
use Rattle.fx_values.proofs.ListLaws.{slots_pushed}
use Rattle.fx_rowfn.specs.State.{Leads, fields_left, props_from, scope_of}
use Rattle.fx_rowfn.proofs.records.field_known.Goals as goal

pub returns : goal.returns
returns c = λ test.
    subst (λ ss. Leads (fields_left test (scope_of c.args.scope) (props_from (tree_of c.args.whole.now) c.args.next) ss) test c.fields_from.result)
    (ap (λ ss. slots_of (map slot ss)) c.in_ok-push.ensures.ok
    ∙ ap slots_of (map-append slot c.args.done (c.slot_of.result ∷ []) ∙ ap (λ o. map slot c.args.done ++ o ∷ []) c.slot_of.ensures)
    ∙ slots_pushed (map slot c.args.done) c.args.label (val c.args.field))
    (c.fields_from.ensures test)

use Rattle.std.proofs.Common.{List, map, subst}
use Rattle.fx_ast.specs.Shape.{tree_of}
use Rattle.fx_values.specs.Shape.{slot, slots_of}
use Rattle.fx_values.specs.declared.value.Slot.{Slot}
use Rattle.fx_rowfn.specs.State.{Leads, fields_left, props_from, scope_of}
use Rattle.fx_rowfn.proofs.records.alone.Goals as goal

pub returns : goal.returns
returns c = λ test.
    subst (λ (ss : List Slot). Leads (fields_left test (scope_of c.args.scope) (props_from (tree_of c.args.whole.now) 0) (slots_of (map slot ss))) test c.fields_from.result) c.empty.ensures
    (c.fields_from.ensures test)

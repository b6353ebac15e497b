use Rattle.std.proofs.Common.{map, sym, ap, ◌∙◌}
use Rattle.std.specs.Prelude.{option_map}
use Rattle.fx_meaning.specs.Value.{look}
use Rattle.fx_values.specs.Shape.{slot, slots_of, val}
use Rattle.fx_rowfn.proofs.EnterLaws.{bind_given}
use Rattle.fx_rowfn.proofs.enter.bind_first.Goals as goal

pub returns-in_ok-label-in-Some : goal.returns-in_ok-label-in-Some
returns-in_ok-label-in-Some c = λ test.
    bind_given test c.args.entry c.bound.result c.args.first.now c.in_ok-label-in-Some.label c.in-Some.value c.in_ok-label-in-Some.ensures
    (ap (λ l. look c.args.first.now.label (slots_of (map slot l))) (sym (c.as_slice.ensures ∙ c.as_ref.ensures)) ∙ sym c.in_ok-found.ensures ∙ ap (option_map val) c.in-Some.is) (c.bound.ensures test)

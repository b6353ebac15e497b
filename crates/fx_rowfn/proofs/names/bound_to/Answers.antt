use Rattle.std.proofs.Common.{map, ◌∙◌}
use Rattle.fx_meaning.specs.Value.{look}
use Rattle.fx_values.specs.Shape.{slot, slots_of, val}
use Rattle.fx_rowfn.proofs.NameLaws.{found_inside, found_outside}
use Rattle.fx_rowfn.proofs.names.bound_to.Goals as goal

pub returns-in-Some : goal.returns-in-Some
returns-in-Some c =
    let outer = map slot c.args.scope.now.outer.value in
    let inner = map slot c.args.scope.now.inner.value in
    found_inside c.args.label.now outer inner (val c.in-Some.value.now)
    (c.in-Some.ensures ∙ (λ i. look (c.as_str.ensures i) (slots_of (map slot ((c.as_slice.ensures ∙ c.deref.ensures) i)))))

pub returns-in-None : goal.returns-in-None
returns-in-None c =
    let outer = map slot c.args.scope.now.outer.value in
    let inner = map slot c.args.scope.now.inner.value in
    c.look-in-None.ensures ∙ (λ i. look (c.as_str-in-None.ensures i) (slots_of (map slot ((c.as_slice-in-None.ensures ∙ c.deref-in-None.ensures) i))))
    ∙ found_outside c.args.label.now outer inner
    (c.in-None.ensures ∙ (λ i. look (c.as_str.ensures i) (slots_of (map slot ((c.as_slice.ensures ∙ c.deref.ensures) i)))))

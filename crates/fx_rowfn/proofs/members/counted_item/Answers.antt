use Rattle.std.proofs.Common.{ap, map, subst, sym, ◌∙◌}
use Rattle.std.specs.Prelude.{Err, pos}
use Rattle.fx_meaning.specs.Operators.{item}
use Rattle.fx_values.specs.Shape.{val, vals_of}
use Rattle.fx_values.specs.Told.{Tells}
use Rattle.fx_meaning.specs.Ends.{answered}
use Rattle.fx_value.specs.Ends.{Gives}
use Rattle.fx_rowfn.proofs.MemberLaws.{item_past, item_there}
use Rattle.fx_rowfn.proofs.members.counted_item.Goals as goal

pub returns-in_ok-copy-in-Some : goal.returns-in_ok-copy-in-Some
returns-in_ok-copy-in-Some c =
    let h = c.in-Some.ensures.lookup in
    ap (answered c.args.place) (item_there c.args.items.now c.args.n c.in-Some.value.now h.3.0 h.1) ∙ ap (λ v. Gives v 0) (sym c.in_ok-copy-in-Some.ensures)

pub returns-in-None : goal.returns-in-None
returns-in-None c =
    let h = c.in-None.ensures.lookup in
    subst (λ why. Tells val (answered c.args.place (item (vals_of (map val c.args.items.now)) (pos c.args.n))) (Err why)) (sym c.fault.ensures)
    (ap (answered c.args.place) (item_past c.args.items.now c.args.n h.3))

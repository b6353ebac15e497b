use Rattle.std.proofs.Common.{◌++◌, map, sym, ap, ◌∙◌}
use Rattle.std.proofs.lemmas.List.{append-nil}
use Rattle.fx_values.specs.Shape.{slot, slots_of}
use Rattle.fx_values.proofs.ValueLaws.{closed_is}
use Rattle.fx_rowfn.proofs.enter.captured_in.Goals as goal

pub returns : goal.returns
returns c =
    let k = closed_is c.args.closure.now in
    let inner = ap (map slot) (c.in_ok-new.ensures.ok ∙ c.empty.ensures) in
    let outer = ap (map slot) c.in_ok-clone.ensures.cases in
    λ i. record {
      env = ((λ j. slots_of (outer j ++ inner j)) ∙ ap slots_of (append-nil _) ∙ sym (ap (λ o. o.captured) k)) i;
      setting = c.in_ok-clone-2.ensures.cases i;
    }

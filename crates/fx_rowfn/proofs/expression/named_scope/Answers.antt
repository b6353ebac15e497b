use Rattle.std.proofs.Common.{◌++◌, map, ap, ◌∙◌}
use Rattle.std.proofs.lemmas.List.{append-nil}
use Rattle.fx_values.specs.Shape.{slot, slots_of}
use Rattle.fx_rowfn.proofs.expression.named_scope.Goals as goal

pub returns : goal.returns
returns c =
    let outer = ap (map slot) c.in_ok-new.ensures.ok ∙ c.in_ok-names.ensures ∙ ap (map slot) c.as_slice.ensures in
    let inner = ap (map slot) (c.in_ok-new-2.ensures.ok ∙ c.empty.ensures) in
    λ i. record {
      env = ((λ j. slots_of (outer j ++ inner j)) ∙ ap slots_of (append-nil _)) i;
      setting = c.in_ok-clone.ensures.cases i;
    }

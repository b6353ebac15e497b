use Rattle.std.proofs.Common.{ℕ, List, ◌++◌, map, ap, ◌∙◌}
use Rattle.std.specs.List.{filter}
use Rattle.fx_ast.specs.Free.{free_fun, name_of}
use Rattle.fx_ast.specs.Shape.{body, param, params_of}
use Rattle.fx_values.specs.Shape.{OfSlot, slot}
use Rattle.fx_rowfn.proofs.FunctionLaws.{kept_both}
use Rattle.fx_rowfn.proofs.functions.captured.Goals as goal

pub returns : goal.returns
returns c =
    let k = body c.args.of.now in
    let test = λ (x : List ℕ). free_fun (params_of (map param c.args.params.now)) k.lets k.result (name_of x) in
    let kept = λ (os : List OfSlot). filter (λ o. test o.label) os in
    kept_both test c.in_ok-first.first c.in_ok-all.all c.args.scope.now.outer.value c.args.scope.now.inner.value
    (c.in_ok-first.ensures ∙ (λ i. map slot (c.empty.ensures i) ++ kept (map slot ((c.as_slice-outer.ensures ∙ c.as_ref.ensures) i))))
    (c.in_ok-all.ensures ∙ ap (λ l. map slot c.in_ok-first.first ++ kept (map slot l)) (c.as_slice-inner.ensures ∙ c.as_ref-2.ensures))

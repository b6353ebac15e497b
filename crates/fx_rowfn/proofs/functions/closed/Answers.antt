use Rattle.std.proofs.Common.{map, sym, ap, ◌∙◌}
use Rattle.fx_ast.specs.Shape.{body, param, params_of}
use Rattle.fx_meaning.specs.Value.{closure}
use Rattle.fx_value.specs.Ends.{Gives}
use Rattle.fx_values.specs.Shape.{closed, closure_val, slot, slots_of}
use Rattle.fx_values.proofs.ValueLaws.{val_fun}
use Rattle.fx_rowfn.proofs.FunctionLaws.{closed_made}
use Rattle.fx_rowfn.proofs.functions.closed.Goals as goal

pub returns : goal.returns
returns c =
    ap (λ w. Gives w 0)
    (sym (val_fun c.in_ok-shared.shared
    ∙ ap closure_val (ap closed c.in_ok-shared.ensures.ok ∙ closed_made c.in_ok-params_copied.field-0 c.in_ok-copy.field-0 c.in_ok-new.field-0 c.in_ok-clone.field-0)
    ∙ (λ i. closure (params_of (map param ((c.in_ok-params_copied.ensures ∙ c.as_slice.ensures) i))) (body (c.in_ok-copy.ensures i)).lets (body (c.in_ok-copy.ensures i)).result
    ((ap (λ l. slots_of (map slot l)) c.in_ok-new.ensures.ok ∙ c.in_ok-captured.ensures) i) (c.in_ok-clone.ensures.cases i))))

use Rattle.std.proofs.Common.{arith}
use Rattle.fx_unify.proofs.StoreLaws.{on_ok}
use Rattle.fx_generalize.proofs.EndLaws.{all_seen}
use Rattle.fx_generalize.proofs.ends.see_ends.Goals as goal

pub returns : goal.returns
returns c =
    on_ok c.see_rows.result
    (all_seen c.args.bindings.now.store c.in-Ok.variables (omega arith) (omega arith) (omega arith) (omega arith) (omega arith) c.in_ok-see_types.ensures c.in_ok-see_fields.ensures)
    c.see_rows.ensures

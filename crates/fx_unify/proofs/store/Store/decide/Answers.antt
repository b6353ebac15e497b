use Rattle.fx_unify.proofs.DecideLaws.{rows_checked}
use Rattle.fx_unify.proofs.store.Store.decide.Goals as goal

pub returns-clause-checked : goal.returns-clause-checked
returns-clause-checked c =
    rows_checked c.args.self.now c.args.sorts.now c.check_rows.result c.in_default.ensures.checked c.in_default-check_fields.ensures.checked c.check_rows.ensures.checked

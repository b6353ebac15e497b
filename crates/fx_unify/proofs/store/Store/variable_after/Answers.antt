use Rattle.std.proofs.Common.{◌∙◌, ap, sym, get_or, None}
use Rattle.fx_unify.proofs.KeptLaws.{after_is}
use Rattle.fx_unify.proofs.store.Store.variable_after.Goals as goal

pub returns-in-Some : goal.returns-in-Some
returns-in-Some c =
    after_is c.args.self.now c.args.variable c.in-Some.ty.now c.number_of.result (ap (λ xs. get_or xs c.args.variable None) (sym c.as_slice.ensures.value) ∙ c.in-Some.ensures) c.number_of.ensures

use Rattle.std.proofs.Common.{sym, ap, ◌∙◌}
use Rattle.fx_types.specs.declared.term.Ty.TheVariants as ty
use Rattle.fx_unify.proofs.Cases.{is_a_function}
use Rattle.fx_unify.proofs.HeadLaws.{to_functions}
use Rattle.fx_unify.proofs.store.Store.solve_functions.Goals as goal

pub returns-in-Fun : goal.returns-in-Fun
returns-in-Fun c =
    to_functions c.solve_parts.result c.args.self.now c.solve_parts.new.self c.args.function c.into_inner.result c.args.other (c.in-Fun.is ∙ ap ty.Fun (sym c.into_inner.ensures)) c.solve_parts.ensures

pub returns-in_default : goal.returns-in_default
returns-in_default c = λ s holds e within. is_a_function c.args.other c.requires c.in_default.not-Fun

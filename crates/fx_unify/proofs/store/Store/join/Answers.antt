use Rattle.std.proofs.Common.{refl, sym, ◌∙◌}
use Rattle.fx_types.specs.declared.term.Ty.TheVariants as ty
use Rattle.fx_unify.proofs.JoinLaws.{joined_free, joined_bound}
use Rattle.fx_unify.proofs.StoreLaws.{on_ok}
use Rattle.fx_unify.proofs.store.Store.join.Goals as goal

pub returns-in-Some : goal.returns-in-Some
returns-in-Some c =
    on_ok c.put_off.result
    (λ work. joined_bound c.args.self.now (record c.args.self.now { types = c.replace.new.items; work = c.put_off.new.work }) c.args.one c.args.other (ty.Var c.args.other) refl refl refl refl refl
    c.in_ok-was.ensures.set c.in-Some.was (sym c.in_ok-was.ensures.was ∙ c.in-Some.is) work) c.put_off.ensures

pub returns-in-None : goal.returns-in-None
returns-in-None c =
    joined_free c.args.self.now (record c.args.self.now { types = c.replace.new.items }) c.args.one c.args.other (ty.Var c.args.other) refl refl refl refl refl
    c.in_ok-was.ensures.set refl (sym c.in_ok-was.ensures.was ∙ c.in-None.is)

use Rattle.std.proofs.Common.{◌≡◌, ◌↔◌, refl, sym, subst, false}
use Rattle.fx_types.specs.Ground.{listed}
use Rattle.fx_types.specs.Term.{Label}
use Rattle.fx_unify.specs.Tails.{Tells}
use Rattle.fx_unify.specs.Work.{Holds}
use Rattle.fx_unify.proofs.CompareLaws.{defaults}
use Rattle.fx_unify.proofs.StoreLaws.{on_ok}
use Rattle.fx_unify.proofs.store.Store.meet.Goals as goal

pub returns-in-Link : goal.returns-in-Link
returns-in-Link c =
    on_ok c.link.result
    (λ bound s. subst (λ t. Holds s c.link.new.self ↔ (Holds s c.args.self.now × ((l : Label) → listed l c.args.labels.now ≡ false → Tells t s l))) (sym c.in-Link.is) (bound s))
    c.link.ensures

pub returns-in-Defaults : goal.returns-in-Defaults
returns-in-Defaults c =
    on_ok c.put_off.result
    (λ put s. subst
    (λ t. Holds s (record c.args.self.now { work = c.put_off.new.work }) ↔ (Holds s c.args.self.now × ((l : Label) → listed l c.args.labels.now ≡ false → Tells t s l))) (sym c.in-Defaults.is)
    (defaults c.args.self.now (record c.args.self.now { work = c.put_off.new.work }) s c.in-Defaults.left c.in-Defaults.right _ _ c.args.labels.now c.from_term.ensures c.from_term-in-Defaults.ensures (λ v. refl)
    (put s)))
    c.put_off.ensures

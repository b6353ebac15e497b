use Rattle.std.proofs.Common.{◌≡◌, ◌↔◌, refl, sym, subst, true, false}
use Rattle.fx_types.specs.Ground.{listed}
use Rattle.fx_types.specs.Shape.{row_term}
use Rattle.fx_types.specs.Term.{Label}
use Rattle.fx_unify.specs.Rows.{ground_row, SameAt}
use Rattle.fx_unify.specs.Sums.{names}
use Rattle.fx_unify.specs.Tails.{Tells}
use Rattle.fx_unify.specs.Work.{Hold, Holds}
use Rattle.fx_unify.proofs.CompareLaws.{compared}
use Rattle.fx_unify.proofs.StoreLaws.{on_ok}
use Rattle.fx_unify.proofs.store.Store.compare.Goals as goal

pub returns : goal.returns
returns c =
    on_ok c.meet.result
    (λ met s. compared c.args.self.now (record c.args.self.now { work = c.put_off_all.new.work }) c.meet.new.self s c.args.a c.args.b c.in_ok-tails.tails c.tails.new.labels.items
    (λ l h. c.in_ok-tails.ensures.grows.0 l (c.in_ok-add_names-2.ensures.grows.0 l (c.in_ok-add_names.ensures.there l (subst (λ es. listed l (names es) ≡ true) (sym c.as_slice.ensures) h))))
    (λ l h. c.in_ok-tails.ensures.grows.0 l (c.in_ok-add_names-2.ensures.there l (subst (λ es. listed l (names es) ≡ true) (sym c.as_slice-2.ensures) h)))
    (λ v. refl)
    (subst (λ ls. Hold s c.put_off_all.new.work.items ↔ (Hold s c.args.self.now.work.items × SameAt (ground_row s (row_term c.args.a)) (ground_row s (row_term c.args.b)) ls)) c.as_slice-3.ensures.value
    (c.in_ok-put_off_all.ensures s))
    (c.in_ok-tails.ensures.tells s)
    (subst (λ ls. Holds s c.meet.new.self ↔ (Holds s (record c.args.self.now { work = c.put_off_all.new.work }) × ((l : Label) → listed l ls ≡ false → Tells c.in_ok-tails.tails s l))) c.as_slice-4.ensures.value
    (met s)))
    c.meet.ensures

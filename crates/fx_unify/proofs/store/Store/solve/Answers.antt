use Rattle.std.proofs.Common.{◌≡◌, ◌↔◌, sym, subst}
use Rattle.fx_unify.specs.Part.{part, value}
use Rattle.fx_unify.specs.Work.{Holds, Solving}
use Rattle.fx_unify.proofs.SolvingLaws.{flipped}
use Rattle.fx_unify.proofs.store.Store.solve.Goals as goal

pub returns-in-Absent : goal.returns-in-Absent
returns-in-Absent c =
    subst (λ f. Solving c.solve_absent.result c.args.self.now c.solve_absent.new.self (λ s. value s (part c.args.a) ≡ value s (part f))) (sym c.in-Absent.is) c.solve_absent.ensures

pub returns-in-Is : goal.returns-in-Is
returns-in-Is c =
    subst (λ f. Solving c.solve_type.result c.args.self.now c.solve_type.new.self (λ s. value s (part c.args.a) ≡ value s (part f))) (sym c.in-Is.is) c.solve_type.ensures

pub returns-in_ok-bind_field-in-Var : goal.returns-in_ok-bind_field-in-Var
returns-in_ok-bind_field-in-Var c =
    λ s. subst (λ f. Holds s c.bind_field.new.self ↔ (Holds s c.args.self.now × (value s (part c.args.a) ≡ value s (part f)))) (sym c.in-Var.is) (flipped (c.in_ok-bind_field-in-Var.ensures s))

pub returns-in_ok-bind_slot-in-Slot : goal.returns-in_ok-bind_slot-in-Slot
returns-in_ok-bind_slot-in-Slot c =
    λ s. subst (λ f. Holds s c.bind_slot.new.self ↔ (Holds s c.args.self.now × (value s (part c.args.a) ≡ value s (part f)))) (sym c.in-Slot.is) (flipped (c.in_ok-bind_slot-in-Slot.ensures s))

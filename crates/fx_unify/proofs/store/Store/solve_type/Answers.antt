use Rattle.std.proofs.Common.{◌≡◌, ◌↔◌, sym, subst}
use Rattle.fx_types.specs.Ground.{g_is}
use Rattle.fx_types.specs.Instance.{ground}
use Rattle.fx_types.specs.Shape.{term}
use Rattle.fx_unify.specs.Part.{part, value}
use Rattle.fx_unify.specs.Work.{Holds, Solving}
use Rattle.fx_unify.proofs.store.Store.solve_type.Goals as goal

pub returns-in-Is : goal.returns-in-Is
returns-in-Is c =
    subst (λ f. Solving c.solve_types.result c.args.self.now c.solve_types.new.self (λ s. value s (part f) ≡ g_is (ground s (term c.args.ty)))) (sym c.in-Is.is) c.solve_types.ensures

pub returns-in_ok-bind_field-in-Var : goal.returns-in_ok-bind_field-in-Var
returns-in_ok-bind_field-in-Var c =
    λ s. subst (λ f. Holds s c.bind_field.new.self ↔ (Holds s c.args.self.now × (value s (part f) ≡ g_is (ground s (term c.args.ty))))) (sym c.in-Var.is) (c.in_ok-bind_field-in-Var.ensures s)

pub returns-in_ok-bind_slot-in-Slot : goal.returns-in_ok-bind_slot-in-Slot
returns-in_ok-bind_slot-in-Slot c =
    λ s. subst (λ f. Holds s c.bind_slot.new.self ↔ (Holds s c.args.self.now × (value s (part f) ≡ g_is (ground s (term c.args.ty))))) (sym c.in-Slot.is) (c.in_ok-bind_slot-in-Slot.ensures s)

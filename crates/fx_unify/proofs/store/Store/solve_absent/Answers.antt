use Rattle.std.proofs.Common.{◌≡◌, ◌↔◌, sym, subst}
use Rattle.fx_types.specs.Ground.{g_absent}
use Rattle.fx_unify.specs.Part.{part, value}
use Rattle.fx_unify.specs.Work.{Holds}
use Rattle.fx_unify.proofs.store.Store.solve_absent.Goals as goal

pub returns-in-Var : goal.returns-in-Var
returns-in-Var c =
    λ s. subst (λ f. Holds s c.bind_field.new.self ↔ (Holds s c.args.self.now × (value s (part f) ≡ g_absent))) (sym c.in-Var.is) (c.in_ok-bind_field-in-Var.ensures s)

pub returns : goal.returns
returns c =
    λ s. subst (λ f. Holds s c.bind_slot.new.self ↔ (Holds s c.args.self.now × (value s (part f) ≡ g_absent))) (sym c.in-Slot.is) (c.in_ok-bind_slot-in-Slot.ensures s)

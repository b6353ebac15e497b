use Rattle.std.proofs.Common.{◌≡◌, ◌↔◌, sym, ap, subst, ◌∙◌}
use Rattle.fx_types.specs.Ground.{g_is}
use Rattle.fx_types.specs.Instance.{ground}
use Rattle.fx_types.specs.Shape.{term}
use Rattle.fx_types.proofs.ShapeLaws.{term_variable}
use Rattle.fx_unify.specs.Work.{Holds}
use Rattle.fx_unify.proofs.Cases.{is_head}
use Rattle.fx_unify.proofs.store.Store.solve_types.Goals as goal

pub bind_type-requires : goal.bind_type-requires
bind_type-requires c = rw (c.in-Var.is, term_variable) at c.requires.left

pub solve_head-requires : goal.solve_head-requires
solve_head-requires c = record { left = is_head c.args.a c.in_default.not-Var; right = c.requires.right }

pub returns-in_ok-bind_type-in-Var : goal.returns-in_ok-bind_type-in-Var
returns-in_ok-bind_type-in-Var c =
    λ s. subst (λ t. Holds s c.bind_type.new.self ↔ (Holds s c.args.self.now × (g_is (ground s t) ≡ g_is (ground s (term c.args.b)))))
    (sym (ap term c.in-Var.is ∙ term_variable c.in-Var.number)) (c.in_ok-bind_type-in-Var.ensures s)

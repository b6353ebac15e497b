use Rattle.std.proofs.Common.{◌≡◌, ◌↔◌, sym, ap, subst, ◌∙◌}
use Rattle.fx_types.specs.Ground.{g_is}
use Rattle.fx_types.specs.Instance.{ground}
use Rattle.fx_types.specs.Shape.{term}
use Rattle.fx_types.proofs.ShapeLaws.{term_variable}
use Rattle.fx_unify.specs.Work.{Holds}
use Rattle.fx_unify.proofs.Cases.{is_head}
use Rattle.fx_unify.proofs.SolvingLaws.{flipped}
use Rattle.fx_unify.proofs.store.Store.solve_head.Goals as goal

pub bind_type-requires : goal.bind_type-requires
bind_type-requires c = rw (c.in-Var.is, term_variable) at c.requires.right

pub solve_heads-requires : goal.solve_heads-requires
solve_heads-requires c = record { left = c.requires.left; right = is_head c.args.b c.in_default.not-Var }

pub returns-in_ok-bind_type-in-Var : goal.returns-in_ok-bind_type-in-Var
returns-in_ok-bind_type-in-Var c =
    λ s. subst (λ t. Holds s c.bind_type.new.self ↔ (Holds s c.args.self.now × (g_is (ground s (term c.args.a)) ≡ g_is (ground s t))))
    (sym (ap term c.in-Var.is ∙ term_variable c.in-Var.number)) (flipped (c.in_ok-bind_type-in-Var.ensures s))

use Rattle.std.proofs.Common.{◌≡◌, true, sym, ap, subst, ◌∙◌}
use Rattle.std.specs.Ordering.{is_eq, eq_by_cmp}
use Rattle.std.specs.Cmp.{Equal-is, eq_by_cmp_equiv}
use Rattle.fx_value.specs.Scalar.{scalar_cmp}
use Rattle.fx_value.specs.declared.scalar.Scalar.{Scalar}
use Rattle.fx_value.proofs.Scalars.{scalar_cmp_total, scalar_same}
use Rattle.fx_value.proofs.scalar.Scalar.is_same.Goals as goal

pub returns : goal.returns
returns c =
    let answer : c.is_eq.result ≡ is_eq (scalar_cmp c.args.self.now c.args.other.now) = c.is_eq.ensures ∙ ap is_eq c.scalar_order.ensures in (
      λ t. scalar_same c.args.self.now c.args.other.now ((Equal-is _).0 (sym answer ∙ t)),
      λ same. answer ∙ subst (λ (s : Scalar). eq_by_cmp scalar_cmp c.args.self.now s ≡ true) same ((eq_by_cmp_equiv scalar_cmp_total).refl c.args.self.now),
    )

use Rattle.std.proofs.Common.{◌≡◌, ap, subst, ◌∙◌}
use Rattle.std.specs.BTreeMap.{is_at}
use Rattle.std.specs.BTreeSet.{contains}
use Rattle.std.specs.Ordering.{eq_by_cmp}
use Rattle.std.specs.Prelude.{cond, true, not, ◌||◌}
use Rattle.std.specs.declared.cmp.Ordering.{Ordering}
use Rattle.fx_value.specs.Scalar.{scalar_cmp}
use Rattle.fx_value.specs.declared.scalar.Scalar.{Scalar}
use Rattle.fx_agg.proofs.Values.{scalar_derived, seen_or}
use Rattle.fx_agg.proofs.differing.is_new.Goals as goal

pub returns-clause-new : goal.returns-clause-new
returns-clause-new c =
    subst (λ (cmp : Scalar → Scalar → Ordering). c.in_ok-insert.field-0 ≡ not (contains cmp c.args.seen.now c.in_ok-copy.field-0)) scalar_derived c.in_ok-insert.ensures.added
    ∙ ap (λ (v : Scalar). not (contains scalar_cmp c.args.seen.now v)) c.in_ok-copy.ensures

pub returns-clause-seen : goal.returns-clause-seen
returns-clause-seen c =
    λ w. subst (λ (cmp : Scalar → Scalar → Ordering). contains cmp c.insert.new.self w ≡ cond (is_at (cmp c.in_ok-copy.field-0) w) true (contains cmp c.args.seen.now w))
    scalar_derived (c.in_ok-insert.ensures.updates.0 w)
    ∙ seen_or (eq_by_cmp scalar_cmp c.in_ok-copy.field-0 w) (contains scalar_cmp c.args.seen.now w)
    ∙ ap (λ (v : Scalar). eq_by_cmp scalar_cmp v w || contains scalar_cmp c.args.seen.now w) c.in_ok-copy.ensures

use Rattle.std.proofs.Common.{subst, sym}
use Rattle.fx_unify.specs.Bounds.{Narrowed}
use Rattle.fx_unify.proofs.KeptLaws.{none_counted}
use Rattle.fx_unify.proofs.JudgeLaws.{judged_bounds, judged_least, judged_terms}
use Rattle.fx_unify.proofs.settle.judge.Goals as goal

pub returns-in-Err : goal.returns-in-Err
returns-in-Err c =
    judged_bounds c.args.store.now c.args.bounds.now c.args.also.now c.in-Err.fault c.in-Err.ensures.clash

pub decide-requires : goal.decide-requires
decide-requires c = none_counted c.args.store.now c.as_slice-sets.result.now c.in_ok-counts.counts c.in_ok-counts.ensures.types c.in_ok-counts.ensures.rows

pub returns-in-Err-decide : goal.returns-in-Err-decide
returns-in-Err-decide c =
    judged_least c.args.store.now c.as_slice-sets.result.now c.args.bounds.now c.args.also.now c.in-Err-decide.fault
    (subst (λ ks. Narrowed c.args.store.now ks c.args.bounds.now) (sym c.as_slice-sets.ensures.value) c.in-Ok.ensures.ok) c.in-Err-decide.ensures.checked

pub returns : goal.returns
returns c =
    judged_terms c.args.store.now c.as_slice-sets.result.now c.args.bounds.now c.args.also.now c.check_terms.result
    (subst (λ ks. Narrowed c.args.store.now ks c.args.bounds.now) (sym c.as_slice-sets.ensures.value) c.in-Ok.ensures.ok) c.in-Ok-decide.ensures.checked c.check_terms.ensures.checked

use Rattle.std.proofs.Common.{refl, sym, ap, subst, ◌∙◌}
use Rattle.fx_types.specs.Ground.{listed}
use Rattle.fx_unify.specs.Known.{Knows}
use Rattle.fx_unify.specs.Store.{KeptAt, apart_of}
use Rattle.fx_unify.proofs.CompareLaws.{kept_step}
use Rattle.fx_unify.proofs.LabelLaws.{listed_one_more}
use Rattle.fx_unify.proofs.StoreLaws.{kept_before}
use Rattle.fx_types.proofs.Lists.{take_all}
use Rattle.fx_unify.proofs.store.Store.keep_all.Goals as goal

pub loop-label-preserved : goal.loop-label-preserved
loop-label-preserved c =
    kept_step c.args.self.now c.loop-label.self c.keep.new.self c.args.row c.args.labels.now c.loop-label.label-index c.label-item.result c.loop-label-test.true c.label-item.is c.loop-label.invariant
    c.in_ok-keep.ensures.same c.in_ok-keep.ensures.slots c.in_ok-keep.ensures.rests c.in_ok-keep.ensures.work c.in_ok-keep.ensures.apart

pub returns-then-labels-lt-MANY : goal.returns-then-labels-lt-MANY
returns-then-labels-lt-MANY c = subst (KeptAt c.args.self.now c.loop-label.self c.args.row) (take_all c.args.labels.now c.loop-label.label-index c.loop-label-test.false) c.loop-label.invariant

pub loop-label-2-preserved-then-has : goal.loop-label-2-preserved-then-has
loop-label-2-preserved-then-has c = (
  kept_step c.args.self.now c.loop-label-2.self c.loop-label-2.self c.args.row c.args.labels.now c.loop-label-2.label-index c.label-item-in-loop-label-2.result c.loop-label-2-test.true c.label-item-in-loop-label-2.is c.loop-label-2.invariant.0
      (λ x. refl) refl refl refl
      (kept_before (apart_of c.loop-label-2.self c.args.row) c.label-item-in-loop-label-2.result (sym c.if-has.true ∙ c.has.ensures (apart_of c.loop-label-2.self c.args.row) c.loop-label-2.invariant.1)),
  c.loop-label-2.invariant.1,
)

pub loop-label-2-preserved : goal.loop-label-2-preserved
loop-label-2-preserved c = (
  kept_step c.args.self.now c.loop-label-2.self c.keep_more.new.self c.args.row c.args.labels.now c.loop-label-2.label-index c.label-item-in-loop-label-2.result c.loop-label-2-test.true c.label-item-in-loop-label-2.is c.loop-label-2.invariant.0
      c.in_ok-keep_more.ensures.same c.in_ok-keep_more.ensures.slots c.in_ok-keep_more.ensures.rests c.in_ok-keep_more.ensures.work
      (λ l. ap (listed l) c.in_ok-keep_more.ensures.apart ∙ listed_one_more l c.label-item-in-loop-label-2.result (apart_of c.loop-label-2.self c.args.row)),
  subst (Knows c.note.new.self) (sym c.in_ok-keep_more.ensures.apart) (c.in_ok-note.ensures (apart_of c.loop-label-2.self c.args.row) c.loop-label-2.invariant.1),
)

pub returns : goal.returns
returns c = subst (KeptAt c.args.self.now c.loop-label-2.self c.args.row) (take_all c.args.labels.now c.loop-label-2.label-index c.loop-label-2-test.false) c.loop-label-2.invariant.0

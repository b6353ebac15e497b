use Rattle.std.proofs.Common.{◌≡◌, Some, IfSome, map, slice_get, sym, subst}
use Rattle.std.proofs.lemmas.List.{drop_all}
use Rattle.fx_value.specs.declared.scalar.Kind.TheVariants as kind
use Rattle.fx_load.specs.Memo.{ids_of}
use Rattle.fx_load.proofs.KnownLemmas.{number_more, numbers_end}
use Rattle.fx_load.proofs.learn.numbers_of.Goals as goal

pub loop-point-preserved : goal.loop-point-preserved
loop-point-preserved c =
    let ids = ids_of c.args.store.now in
    let bucket = c.args.bucket.now in
    let found = subst (λ o. IfSome o (λ n. slice_get ids n ≡ Some (record { bucket = bucket; key = c.point-item.result.series; kind = Some kind.Int }))) c.in-Some.is c.in_ok-number.ensures in
    number_more ids bucket c.args.points.now c.loop-point.point-index c.point-item.result c.loop-point.numbers.items c.push.new.self.items c.in-Some.number
    c.loop-point-test.true c.point-item.is found c.in_ok-push.ensures.items c.loop-point.invariant

pub returns : goal.returns
returns c = numbers_end (ids_of c.args.store.now) c.args.bucket.now c.args.points.now c.loop-point.point-index c.loop-point.numbers.items (drop_all c.loop-point.point-index c.args.points.now c.loop-point-test.false) c.loop-point.invariant

use Rattle.fx_unify.specs.Store.{entry}
use Rattle.fx_generalize.proofs.SolvedLaws.{kept_covered, apart_covered, same_covered, all_covered}
use Rattle.fx_generalize.proofs.solved.keep_types.Goals as goal

pub loop-ty-preserved-then-branch : goal.loop-ty-preserved-then-branch
loop-ty-preserved-then-branch c =
    let h = c.in_ok-is_apart.ensures c.if-branch.true in
    apart_covered (entry c.args.reader.now.bindings.now.store) c.args.reader.now.names.now c.args.types.now c.loop-ty.ty-index c.ty-item.result c.loop-ty-test.true c.ty-item.is c.loop-ty.kept c.loop-ty.invariant c.is_apart.new.own
    h.1.0 h.0 h.1.1

pub loop-ty-preserved : goal.loop-ty-preserved
loop-ty-preserved c =
    kept_covered (entry c.args.reader.now.bindings.now.store) c.args.reader.now.names.now c.args.types.now c.loop-ty.ty-index c.ty-item.result c.loop-ty-test.true c.ty-item.is c.loop-ty.kept c.loop-ty.invariant
    c.in_ok-read.read c.push.new.self c.in_ok-push.ensures.ok c.in_ok-read.ensures

pub returns : goal.returns
returns c =
    all_covered (entry c.args.reader.now.bindings.now.store) c.args.reader.now.names.now c.args.types.now c.loop-ty.ty-index c.loop-ty.kept c.loop-ty-test.false c.loop-ty.invariant

pub loop-ty-preserved-then-has_type : goal.loop-ty-preserved-then-has_type
loop-ty-preserved-then-has_type c =
    same_covered (entry c.args.reader.now.bindings.now.store) c.args.reader.now.names.now c.args.types.now c.loop-ty.ty-index c.ty-item.result c.loop-ty-test.true c.ty-item.is c.loop-ty.kept c.loop-ty.invariant
    c.in_ok-read.read c.as_slice.result.now c.as_slice.ensures c.in_ok-read.ensures (c.has_type.ensures c.if-has_type.true)

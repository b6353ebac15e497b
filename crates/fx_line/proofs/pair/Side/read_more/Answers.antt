use Rattle.std.proofs.Common.{◌≡◌, ◌∷◌, ◌++◌, [], Some, List, sym, subst, arith}
use Rattle.fx_line.specs.Line.{Pair}
use Rattle.fx_line.proofs.Pairs.{HasRead, no_pair_here, no_end_here, read_next, next_shorter}
use Rattle.fx_line.proofs.pair.Side.read_more.Goals as goal

pub returns-in_default-read_pair-clause-none : goal.returns-in_default-read_pair-clause-none
returns-in_default-read_pair-clause-none c =
    no_pair_here c.args.self c.args.bytes.now c.args.pairs.items c.loop-after.pairs.items c.loop-after.rest.now c.in-Some.after.now
    c.loop-after.invariant (sym c.in-Some.ensures) (sym c.in_default-read_pair.ensures)

pub loop-after-smaller : goal.loop-after-smaller
loop-after-smaller c =
    next_shorter c.args.self c.loop-after.rest.now c.in-Some.after.now c.in-Some-read_pair.read.pair c.in-Some-read_pair.read.rest.now
    (sym c.in-Some.ensures) (sym c.in-Some-read_pair.ensures)

pub loop-after-preserved : goal.loop-after-preserved
loop-after-preserved c =
    subst (λ (l : List Pair). HasRead c.args.self c.args.bytes.now c.args.pairs.items l c.in-Some-read_pair.read.rest.now) (sym c.in_ok-push.ensures.items)
    (read_next c.args.self c.args.bytes.now c.args.pairs.items c.loop-after.pairs.items c.loop-after.rest.now c.in-Some.after.now c.in-Some-read_pair.read.pair c.in-Some-read_pair.read.rest.now
    c.loop-after.invariant (sym c.in-Some.ensures) (sym c.in-Some-read_pair.ensures))

pub returns-clause-none : goal.returns-clause-none
returns-clause-none c =
    no_end_here c.args.self c.args.bytes.now c.args.pairs.items c.loop-after.pairs.items c.loop-after.rest.now
    c.loop-after.invariant (sym c.in_default.ensures) (sym c.if-ends_all.ensures)

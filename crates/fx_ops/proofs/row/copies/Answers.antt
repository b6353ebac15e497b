use Rattle.std.proofs.Common.{◌≡◌, ◌<◌, length, arith}
use Rattle.std.specs.List.{repeat}
use Rattle.std.specs.String.{string_bytes}
use Rattle.std.proofs.lemmas.Bool.Decides.{nat_tests}
use Rattle.std.proofs.lemmas.Grind.{common_steps}
use Rattle.fx_ops.proofs.RowLemmas.{copies_next, copies_of_nothing}
use Rattle.fx_ops.proofs.row.copies.Goals as goal

pub returns-then-is_empty : goal.returns-then-is_empty
returns-then-is_empty c =
    let empty : length c.args.text.now ≡ 0 = grind (arith, nat_tests) in
    rw (copies_of_nothing c.args.count c.args.text.now empty) c.limited.ensures

pub returns-in_err-add : goal.returns-in_err-add
returns-in_err-add c =
    let within : c.loop-copy.copy < c.args.count = omega arith in
    let next = copies_next c.args.text.now (string_bytes c.loop-copy.row) (repeat c.args.count c.args.text.now) c.args.count c.loop-copy.copy within c.loop-copy.invariant in
    grind (arith, common_steps)

pub loop-copy-preserved : goal.loop-copy-preserved
loop-copy-preserved c =
    let within : c.loop-copy.copy < c.args.count = omega arith in
    let next = copies_next c.args.text.now (string_bytes c.loop-copy.row) (repeat c.args.count c.args.text.now) c.args.count c.loop-copy.copy within c.loop-copy.invariant in
    rw c.in_ok-add.ensures.ok next

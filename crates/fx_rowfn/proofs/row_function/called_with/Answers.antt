use Rattle.std.proofs.Common.{map, subst}
use Rattle.fx_meaning.specs.Rows.{answer_of}
use Rattle.fx_value.specs.Ends.{and_then}
use Rattle.fx_values.specs.Known.{hears}
use Rattle.fx_values.specs.Shape.{closed, slot, slots_of}
use Rattle.fx_rowfn.specs.Follows.{Follows}
use Rattle.fx_rowfn.specs.Rows.{call_work}
use Rattle.fx_rowfn.proofs.CutLaws.{stuck_cut}
use Rattle.fx_rowfn.proofs.RowLaws.{called_limited}
use Rattle.fx_rowfn.proofs.row_function.called_with.Goals as goal

pub halted-requires : goal.halted-requires
halted-requires g c = λ is.
    let k = closed c.args.closure.now.value in
    let test = hears k.setting.patterns (g.P.Patterns.test c.args.patterns.now) in
    let work = call_work test k (slots_of (map slot c.args.args)) in
    let before = c.args.meter.now in
    let after = c.entered-value.new.meter in
    stuck_cut (λ limit. and_then (work limit) answer_of) before after c.requires.unstuck
    (subst (Follows (λ a. a) (λ limit. and_then (work limit) answer_of) before after) is (c.answered-told.ensures work before after c.entered-value.ensures.follows))

pub returns-clause-answer : goal.returns-clause-answer
returns-clause-answer g c =
    let k = closed c.args.closure.now.value in
    let test = hears k.setting.patterns (g.P.Patterns.test c.args.patterns.now) in
    let args = slots_of (map slot c.args.args) in
    let work = call_work test k args in
    let before = c.args.meter.now in
    let after = c.entered-value.new.meter in
    c.halted.ensures (λ limit. and_then (work limit) answer_of) before after (called_limited test k args c.requires.taken) (c.answered-told.ensures work before after c.entered-value.ensures.follows)

use Rattle.std.proofs.Common.{map, refl, arith}
use Rattle.fx_values.specs.Known.{hears}
use Rattle.fx_values.specs.Shape.{closed, slot, slots_of}
use Rattle.fx_rowfn.specs.Rows.{body_work, call_work}
use Rattle.fx_rowfn.proofs.RowLaws.{follows_ticked, tick_refused}
use Rattle.fx_rowfn.proofs.row_function.entered.Goals as goal

pub returns-in-Ok-clause-follows : goal.returns-in-Ok-clause-follows
returns-in-Ok-clause-follows g c =
    let k = closed c.args.closure.now.value in
    let test = hears k.setting.patterns (g.P.Patterns.test c.args.patterns.now) in
    let args = slots_of (map slot c.args.args) in
    follows_ticked (call_work test k args) (body_work test k args) (λ n. refl) c.args.meter.now c.spend.new.self c.in-Ok.ensures.budget c.in-Ok.ensures.ok.0 c.body_value.new.meter c.body_value.result c.body_value.ensures.follows

pub returns-in-Err-clause-follows : goal.returns-in-Err-clause-follows
returns-in-Err-clause-follows g c =
    let k = closed c.args.closure.now.value in
    let test = hears k.setting.patterns (g.P.Patterns.test c.args.patterns.now) in
    let args = slots_of (map slot c.args.args) in
    tick_refused (call_work test k args) (body_work test k args) (λ n. refl) c.args.meter.now c.in-Err.ticks
    (omega (arith, c.in-Err.ensures.over.1, c.requires.ready.spent, c.requires.ready.budget))
    (omega (arith, c.in-Err.ensures.over.0, c.in-Err.ensures.over.1, c.requires.ready.budget, c.requires.ready.spent))

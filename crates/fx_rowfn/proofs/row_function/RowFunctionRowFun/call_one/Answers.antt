use Rattle.std.proofs.Common.{[], ◌∷◌, subst, sym, ◌∙◌}
use Rattle.fx_value.specs.Calls.{Answers}
use Rattle.fx_value.specs.Ends.{NeverStuck}
use Rattle.fx_values.specs.Known.{hears}
use Rattle.fx_values.specs.Shape.{closed}
use Rattle.fx_rowfn.specs.Rows.{row_called}
use Rattle.fx_rowfn.proofs.ArgumentLaws.{rows_given, rows_taken}
use Rattle.fx_rowfn.proofs.row_function.RowFunctionRowFun.call_one.Goals as goal

pub called-requires-clause-taken : goal.called-requires-clause-taken
called-requires-clause-taken g c =
    rows_taken (closed c.args.self.now.closure.value).params (c.args.row.now ∷ []) c.as_slice.result.now c.in_ok-args.args (c.as_slice.ensures ∙ c.args.self.now.labelled) c.in_ok-args.ensures

pub called-requires-clause-unstuck : goal.called-requires-clause-unstuck
called-requires-clause-unstuck g c =
    let k = closed c.args.self.now.closure.value in
    subst (λ args. NeverStuck (row_called (hears k.setting.patterns (g.P.Patterns.test c.args.patterns.now)) k args))
    (sym (rows_given k.params (c.args.row.now ∷ []) c.as_slice.result.now c.in_ok-args.args (c.as_slice.ensures ∙ c.args.self.now.labelled) c.in_ok-args.ensures)) c.requires.unstuck

pub returns-clause-answer : goal.returns-clause-answer
returns-clause-answer g c =
    let k = closed c.args.self.now.closure.value in
    subst (λ args. Answers (row_called (hears k.setting.patterns (g.P.Patterns.test c.args.patterns.now)) k args) c.args.meter.now c.called.new.meter c.called.result)
    (rows_given k.params (c.args.row.now ∷ []) c.as_slice.result.now c.in_ok-args.args (c.as_slice.ensures ∙ c.args.self.now.labelled) c.in_ok-args.ensures) c.called.ensures.answer

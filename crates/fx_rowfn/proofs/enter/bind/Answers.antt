use Rattle.std.proofs.Common.{◌∙◌}
use Rattle.fx_rowfn.proofs.EnterLaws.{bind_none, bind_some}
use Rattle.fx_rowfn.proofs.enter.bind.Goals as goal

pub returns-in-Some : goal.returns-in-Some
returns-in-Some c = λ test.
    bind_some test c.args.entry c.bind_first.result c.moved.result c.as_ref.result.now c.in-Some.first (c.as_ref.ensures ∙ c.in_ok-closure.ensures.cases) c.moved.ensures c.in-Some.ensures.at (c.bind_first.ensures test)

pub returns : goal.returns
returns c = λ test limit fs.
    bind_none test limit fs c.args.entry c.as_ref.result.now c.moved-in-None.result (c.as_ref.ensures ∙ c.in_ok-closure.ensures.cases) c.moved-in-None.ensures c.in-None.ensures.at

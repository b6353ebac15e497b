use Rattle.std.proofs.Common.{[], subst}
use Rattle.std.specs.Prelude.{Some}
use Rattle.fx_ast.specs.Shape.{tree_of}
use Rattle.fx_meaning.specs.Ends.{cell_at}
use Rattle.fx_ops.specs.Limit.{limited}
use Rattle.fx_value.specs.Ends.{and_then}
use Rattle.fx_rowfn.specs.Frame.{unwound}
use Rattle.fx_rowfn.specs.State.{Leads, parts_from, parts_left, scope_of}
use Rattle.fx_rowfn.proofs.StepLaws.{leads_along}
use Rattle.fx_rowfn.proofs.TextLaws.{lone_left}
use Rattle.fx_rowfn.proofs.texts.texted.Goals as goal

pub returns-in-Some : goal.returns-in-Some
returns-in-Some c = λ test.
    let end = cell_at c.args.whole.now.place (limited c.in-Some.piece.now) in
    leads_along (parts_left test (scope_of c.args.scope) c.args.whole.now.place (parts_from (tree_of c.args.whole.now) 0) (Some [])) (λ limit fs. and_then end (unwound test limit fs)) test c.given.result
    (λ limit fs. lone_left test limit fs (scope_of c.args.scope) c.args.whole.now.place (parts_from (tree_of c.args.whole.now) 0) c.in-Some.piece.now c.in-Some.ensures)
    (c.given.ensures test end c.text_kept.ensures)

pub returns-in-None : goal.returns-in-None
returns-in-None c = λ test.
    subst (λ s. Leads (parts_left test (scope_of c.args.scope) c.args.whole.now.place (parts_from (tree_of c.args.whole.now) 0) (Some s)) test c.parts_on.result) c.new.ensures.bytes
    (c.parts_on.ensures test)

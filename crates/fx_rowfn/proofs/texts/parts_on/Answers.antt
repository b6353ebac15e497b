use Rattle.std.proofs.Common.{◌+◌, subst, sym}
use Rattle.std.specs.Prelude.{option_map}
use Rattle.std.specs.String.{string_bytes}
use Rattle.fx_ast.specs.Shape.{tree_of}
use Rattle.fx_meaning.specs.Operators.{text_made}
use Rattle.fx_value.specs.Ends.{and_then}
use Rattle.fx_rowfn.specs.Frame.{unwound}
use Rattle.fx_rowfn.specs.State.{Leads, parts_from, parts_left, scope_of}
use Rattle.fx_rowfn.proofs.StepLaws.{leads_along}
use Rattle.fx_rowfn.proofs.TextLaws.{no_parts_left}
use Rattle.fx_rowfn.proofs.texts.parts_on.Goals as goal

pub returns-in_ok-frame-in-Some : goal.returns-in_ok-frame-in-Some
returns-in_ok-frame-in-Some c = λ test.
    let before = option_map string_bytes c.args.before in
    let rest = parts_from (tree_of c.args.whole.now) (c.args.next + 1) in
    subst (λ ps. Leads (parts_left test (scope_of c.args.scope) c.args.place ps before) test c.part_on.result) (sym c.in-Some.ensures.at)
    (c.part_on.ensures test c.args.place before rest c.in_ok-frame-in-Some.ensures)

pub returns-in-None : goal.returns-in-None
returns-in-None c = λ test.
    let before = option_map string_bytes c.args.before in
    let end = text_made c.args.place before in
    leads_along (parts_left test (scope_of c.args.scope) c.args.place (parts_from (tree_of c.args.whole.now) c.args.next) before) (λ limit fs. and_then end (unwound test limit fs)) test c.given.result
    (λ limit fs. no_parts_left test limit fs (scope_of c.args.scope) c.args.place before (parts_from (tree_of c.args.whole.now) c.args.next) c.in-None.ensures.at)
    (c.given.ensures test end c.text_made.ensures)

use Rattle.std.proofs.Common.{◌+◌, refl}
use Rattle.fx_ast.specs.Shape.{tree_of}
use Rattle.fx_ast.specs.Tree.{more_links, no_links}
use Rattle.fx_meaning.specs.Ends.{pure}
use Rattle.fx_values.specs.Shape.{val}
use Rattle.fx_rowfn.specs.State.{links_from, scope_of}
use Rattle.fx_rowfn.proofs.OperatorLaws.{link_told, links_lead}
use Rattle.fx_rowfn.proofs.operators.linked.Goals as goal

pub returns-in-Some : goal.returns-in-Some
returns-in-Some c =
    let l = c.in-Some.operator.now in
    let ls = links_from (tree_of c.args.chain.now) c.args.next in
    let rest = links_from (tree_of c.args.chain.now) (c.args.next + 1) in
    links_lead (scope_of c.args.scope) (val c.args.left) ls (more_links l.place l.op (tree_of l.right) rest) c.one_linked.result (link_told ls rest l c.in-Some.ensures.at) c.one_linked.ensures

pub returns-in-None : goal.returns-in-None
returns-in-None c =
    links_lead (scope_of c.args.scope) (val c.args.left) (links_from (tree_of c.args.chain.now) c.args.next) no_links c.given.result c.in-None.ensures.at
    (λ test. c.given.ensures test (pure (val c.args.left)) refl)

use Rattle.std.proofs.Common.{ap, sym, refl, ◌∙◌, map}
use Rattle.fx_ast.proofs.ShapeLaws.{shape_chain, tree_is}
use Rattle.fx_ast.specs.Shape.{link, links_of, shape_of, tree_of}
use Rattle.fx_ast.specs.Tree.{chain}
use Rattle.fx_rowfn.specs.State.{links_from, links_in, links_past}
use Rattle.fx_rowfn.proofs.PartLaws.{links_else, links_found, links_none_past}
use Rattle.fx_rowfn.proofs.parts.link_at.Goals as goal

pub returns-in-Chain-clause-at : goal.returns-in-Chain-clause-at
returns-in-Chain-clause-at c =
    let h = c.get-in-Chain.ensures.lookup in
    links_found c.args.of.now (chain (tree_of c.in-Chain.first) (links_of (map link c.in-Chain.rest))) c.in-Chain.rest c.as_slice.result.now c.args.place c.get-in-Chain.result
    (ap shape_of (sym c.get.ensures ∙ c.in-Chain.is) ∙ shape_chain c.in-Chain.first c.in-Chain.rest) refl c.as_slice.ensures h.1 h.3

pub returns-in_default-clause-at : goal.returns-in_default-clause-at
returns-in_default-clause-at c =
    ap (λ t. links_from t c.args.place) (tree_is c.args.of.now)
    ∙ ap (links_past c.args.place) (ap (λ n. links_in (shape_of n)) (sym c.get.ensures) ∙ links_else c.get.result.now c.in_default.not-Chain)
    ∙ links_none_past c.args.place

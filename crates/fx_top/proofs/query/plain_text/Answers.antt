use Rattle.std.proofs.Common.{◌≡◌, ℕ, List, length, sym, ◌∙◌, ap}
use Rattle.fx_ast.specs.Tree.{tree, text, piece, no_parts}
use Rattle.fx_ast.specs.Shape.{a_piece, tree_of, part}
use Rattle.fx_ast.specs.Bare.{nowhere, bare}
use Rattle.fx_top.proofs.QueryLemmas.{none_so, same_one, some_so, text_is, piece_of, opens_as}
use Rattle.fx_top.proofs.query.plain_text.Goals as goal

pub returns-in-Some-clause-some : goal.returns-in-Some-clause-some
returns-in-Some-clause-some c =
    some_so c.piece_of.result (λ r. part c.in-Some.item.now ≡ a_piece r.now) (λ r. bare (tree_of c.args.expr.now) ≡ tree nowhere (text (piece r.now no_parts)))
    (λ r h. text_is c.args.expr.now c.in-Text.parts (sym c.get.ensures ∙ c.in-Text.is) c.in-Some.item.now r.now (sym c.as_slice.ensures ∙ c.in-Some.ensures.some) h)
    c.piece_of.ensures.some

pub returns-in-Some-clause-none : goal.returns-in-Some-clause-none
returns-in-Some-clause-none c =
    none_so c.piece_of.result ((value : List ℕ) → part c.in-Some.item.now ≡ a_piece value → ⊥) ((value : List ℕ) → bare (tree_of c.args.expr.now) ≡ tree nowhere (text (piece value no_parts)) → ⊥)
    (λ none value h.
    let found = piece_of c.args.expr.now c.in-Text.parts (sym c.get.ensures ∙ c.in-Text.is) value h in
    let same = same_one c.in-Some.item.now found.0 (sym (sym c.as_slice.ensures ∙ c.in-Some.ensures.some) ∙ found.1) in
    none value (ap part same ∙ found.2))
    c.piece_of.ensures.none

pub returns-in-None-clause-none : goal.returns-in-None-clause-none
returns-in-None-clause-none c = λ value h.
    let found = piece_of c.args.expr.now c.in-Text.parts (sym c.get.ensures ∙ c.in-Text.is) value h in
    c.in-None.ensures.none (ap length (c.as_slice.ensures ∙ found.1))

pub returns-in_default : goal.returns-in_default
returns-in_default c = record {
  some = tt;
  none = λ value h. let opened = opens_as c.args.expr.now (text (piece value no_parts)) h in c.in_default.not-Text opened.0 (c.get.ensures ∙ opened.1);
}

use Rattle.std.proofs.Common.{◌≡◌, List, ℕ, Bor, ap, ◌∙◌}
use Rattle.std.proofs.lemmas.Result.{IfOk-weaker}
use Rattle.std.specs.Prelude.{codes}
use Rattle.std.specs.List.{join_by}
use Rattle.fx_value.specs.Ends.{Gives}
use Rattle.fx_value.proofs.Loops.{told_unstuck}
use Rattle.fx_pivot.specs.Cells.{texts_of, name_of}
use Rattle.fx_pivot.proofs.Names.{name_is}
use Rattle.fx_pivot.proofs.naming.joined_name.Goals as goal

pub texts_of-requires : goal.texts_of-requires
texts_of-requires c = told_unstuck (texts_of c.args.columns.now c.args.row.now) (λ texts. Gives (join_by (λ text. text) (codes "_") texts) 0) c.requires

pub returns : goal.returns
returns c =
    let texts = c.in_ok-texts.texts.items in
    let named : c.as_str.result.now ≡ join_by (λ t. t.now) (codes "_") texts = c.as_str.ensures.value ∙ c.in_ok-name.ensures.ok ∙ ap (λ (ts : List (Bor (List ℕ))). join_by (λ t. t.now) (codes "_") ts) c.deref.ensures.value in
    IfOk-weaker c.of.result (λ t. t ≡ c.as_str.result.now) (λ t. name_of c.args.columns.now c.args.row.now ≡ Gives t 0)
    (λ t is. name_is c.args.columns.now c.args.row.now texts t c.in_ok-texts.ensures (is ∙ named))
    c.of.ensures

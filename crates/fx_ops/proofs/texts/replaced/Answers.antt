use Rattle.std.proofs.Common.{◌≡◌, length, sym, ap, ◌∙◌, rules}
use Rattle.std.specs.List.{join_by}
use Rattle.fx_ops.specs.Texts.{replaced}
use Rattle.fx_ops.proofs.PartLemmas.{one_part}
use Rattle.fx_ops.proofs.RowLemmas.{join_by-now}
use Rattle.fx_ops.proofs.texts.replaced.Goals as goal

pub returns-then-len-eq1 : goal.returns-then-len-eq1
returns-then-len-eq1 c =
    let same = ap (λ t. replaced t c.args.old.now c.args.new.now) c.as_str.ensures in
    let one : length c.in_ok-parts.parts.items ≡ 1 = search rules in
    let whole = one_part c.args.old.now c.as_str.result.now c.args.new.now c.in_ok-parts.parts.items one c.in_ok-parts.ensures in
    let is : replaced c.args.text.now c.args.old.now c.args.new.now ≡ c.args.text.now = sym same ∙ whole ∙ c.as_str.ensures in
    rw is c.kept.ensures

pub returns : goal.returns
returns c =
    let new = c.args.new.now in
    let row : join_by (λ part. part.now) new c.as_slice.result.now ≡ replaced c.args.text.now c.args.old.now new =
    ap (join_by (λ part. part.now) new) c.as_slice.ensures.value ∙ join_by-now new c.in_ok-parts.parts.items ∙ ap (join_by (λ part. part) new) c.in_ok-parts.ensures
    ∙ ap (λ t. replaced t c.args.old.now new) c.as_str.ensures in
    rw row at c.in_a_row.ensures

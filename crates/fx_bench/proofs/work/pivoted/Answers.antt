use Rattle.std.proofs.Common.{◌≡◌, true, [], ◌∷◌, sym, ap, ◌∙◌, rules}
use Rattle.std.specs.List.{list_all}
use Rattle.fx_pivot.specs.Pivot.{are_apart}
use Rattle.fx_shape.specs.Columns.{Label}
use Rattle.fx_bench.specs.Named.{has_named_rows}
use Rattle.fx_bench.proofs.Taken.{named_pivot}
use Rattle.fx_bench.proofs.work.pivoted.Goals as goal

pub pivot-requires : goal.pivot-requires
pivot-requires c =
    let label = c.in_ok-field.field in
    let named : list_all (has_named_rows label) c.args.tables ≡ true = search rules in
    let apart : are_apart c.in_ok-one_label.field-0 c.in_ok-one_label-2.field-0 c.in_ok-of.field-0 ≡ true
    = λ i. are_apart (c.in_ok-one_label.ensures i) (c.in_ok-one_label-2.ensures i) (c.in_ok-of.ensures i) in
    named_pivot _ c.in_ok-one_label.field-0 c.in_ok-one_label-2.field-0 c.in_ok-of.field-0 label c.tables.inside.items
    (c.in_ok-one_label-2.ensures ∙ ap (λ (l : Label). l ∷ []) (sym c.in_ok-field.ensures)) apart (ap (list_all (has_named_rows label)) c.tables.view_is ∙ named)

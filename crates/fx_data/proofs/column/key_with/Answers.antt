use Rattle.std.proofs.Common.{◌≡◌, ◌∙◌, map, sym, ap}
use Rattle.std.specs.Prelude.{false}
use Rattle.std.specs.FinMap.Entries.{put}
use Rattle.fx_base.specs.Text.{text_cmp}
use Rattle.fx_value.specs.declared.scalar.Scalar.{Scalar}
use Rattle.fx_data.specs.Columns.{entry_of, parts_of}
use Rattle.fx_data.proofs.Columns.{entries_back}
use Rattle.fx_data.proofs.column.key_with.Goals as goal

pub returns : goal.returns
returns c =
    let parts = λ (v : Scalar). put text_cmp c.args.label.now (v, false) (map parts_of c.args.key.now.entries) in
    let whole : c.of.result ≡ map entry_of (parts c.args.value.now)
    = c.of.ensures ∙ sym (entries_back c.in_ok-entries.entries.items) ∙ ap (map entry_of) (c.in_ok-entries.ensures ∙ ap parts c.in_ok-copy.ensures) in
    λ i. record { entries = whole i }

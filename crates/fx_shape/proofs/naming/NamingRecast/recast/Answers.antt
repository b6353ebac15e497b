use Rattle.std.proofs.Common.{◌≡◌, List, ap, subst, ◌∙◌}
use Rattle.std.specs.Prelude.{IfOk, fold}
use Rattle.std.specs.FinMap as fin
use Rattle.std.specs.FinMap.{FinMap}
use Rattle.fx_base.specs.Text.{text_cmp}
use Rattle.fx_value.specs.declared.source.Source.{Source}
use Rattle.fx_shape.specs.Columns.{Label}
use Rattle.fx_shape.specs.Naming.{name, stays}
use Rattle.fx_shape.specs.Relabelled.{put_label}
use Rattle.fx_shape.proofs.Named.{all_labels}
use Rattle.fx_shape.proofs.naming.NamingRecast.recast.Goals as goal

pub returns : goal.returns
returns c =
    let n = c.args.self.now in
    let made = λ (labels : List Label). fold (put_label (stays n) (name n) c.args.head.now) fin.empty labels in
    subst (λ (m : FinMap text_cmp Source). IfOk c.relabelled.result (λ h. h ≡ m))
    (ap made (c.as_slice.ensures ∙ c.in_ok-labels.ensures) ∙ all_labels (stays n) (name n) c.args.head.now) c.relabelled.ensures

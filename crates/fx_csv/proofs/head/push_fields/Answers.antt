-- One more column adds one more field.
use Rattle.std.proofs.Common.{◌∙◌, ◌++◌, ◌∷◌, [], map, take, ap, subst}
use Rattle.fx_csv.specs.Heads.{head_field}
use Rattle.fx_csv.specs.Lines.{HasFields}
use Rattle.fx_csv.proofs.Steps.{map_end, map_next}
use Rattle.fx_csv.proofs.head.push_fields.Goals as goal

pub loop-column-preserved : goal.loop-column-preserved
loop-column-preserved c all h =
    let before = all ++ map (head_field c.args.head) (take c.loop-column.column-index c.args.columns.now) in
    subst (HasFields c.push.new.self)
    (ap (λ f. before ++ f ∷ []) c.head_field.ensures
    ∙ map_next c.args.columns.now c.loop-column.column-index (head_field c.args.head) all c.column-item.result c.loop-column-test.true c.column-item.is)
    (c.in_ok-push.ensures before (c.loop-column.invariant all h))

pub returns : goal.returns
returns c all h =
    subst (HasFields c.loop-column.line) (map_end c.args.columns.now c.loop-column.column-index (head_field c.args.head) all c.loop-column-test.false)
    (c.loop-column.invariant all h)

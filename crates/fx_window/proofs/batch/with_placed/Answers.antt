use Rattle.std.proofs.Common.{◌≡◌, List, ◌++◌, sym, ap, subst, ◌∙◌}
use Rattle.std.proofs.lemmas.List.{append-nil}
use Rattle.std.specs.List.{flat_map}
use Rattle.std.specs.Prelude.{IfOk}
use Rattle.fx_data.specs.declared.keyed_row.KeyedRow.{KeyedRow}
use Rattle.fx_group.specs.Answer.{Row}
use Rattle.fx_window.specs.Reaches.{copies_of, made_of}
use Rattle.fx_window.specs.declared.reach.Reach.{Reach}
use Rattle.fx_window.proofs.batch.with_placed.Goals as goal

pub returns-in-None-clause-made : goal.returns-in-None-clause-made
returns-in-None-clause-made c key =
    let old = flat_map (made_of {X = KeyedRow} (λ r. copies_of c.args.frame.now.every c.args.frame.now.period r key)) c.args.batches.items in
    sym (append-nil old) ∙ ap (λ rows. old ++ rows) (sym (c.in-None.ensures.rows key c.args.placed.row))

pub returns-in-Some-clause-made : goal.returns-in-Some-clause-made
returns-in-Some-clause-made c key =
    let each : Reach → Row → List KeyedRow = λ r. copies_of c.args.frame.now.every c.args.frame.now.period r key in
    subst (λ rows. IfOk c.with_row.result (λ bs. flat_map (made_of {X = KeyedRow} each) bs.items ≡ flat_map (made_of {X = KeyedRow} each) c.args.batches.items ++ rows))
    (sym (c.in-Some.ensures.rows key c.args.placed.row)) (c.with_row.ensures.made each)

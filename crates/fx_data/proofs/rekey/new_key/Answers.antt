use Rattle.std.proofs.Common.{◌++◌, ◌∷◌, [], filter_map, ap, ◌∙◌, arith}
use Rattle.fx_data.specs.Regrouped.{after}
use Rattle.fx_data.proofs.Regrouped.{entries_more, entries_all}
use Rattle.fx_data.proofs.rekey.new_key.Goals as goal

pub loop-entry-preserved : goal.loop-entry-preserved
loop-entry-preserved c =
    c.in_ok-push_after.ensures ∙ ap (λ es. es ++ filter_map (after c.args.row.now) (c.entry-item.result ∷ [])) c.loop-entry.invariant
    ∙ entries_more c.args.row.now c.as_slice-old.result.now c.loop-entry.entry-index c.entry-item.result (omega arith) c.entry-item.is

pub returns : goal.returns
returns c =
    entries_all c.args.old.now c.args.row.now c.as_slice-old.result.now c.loop-entry.entry-index c.of.result c.as_slice-old.ensures (omega arith)
    (c.of.ensures ∙ c.loop-entry.invariant)

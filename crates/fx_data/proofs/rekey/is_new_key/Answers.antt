use Rattle.std.proofs.Common.{◌≡◌, List, ◌∷◌, [], ◌++◌, length, take_all, filter_map, get_or, refl, sym, ap, ◌∙◌, arith}
use Rattle.std.proofs.lemmas.Bool.{eqb-true}
use Rattle.fx_data.specs.Regrouped.{after}
use Rattle.fx_data.specs.declared.key.KeyEntry.{KeyEntry}
use Rattle.fx_data.proofs.Regrouped.{entries_more, entries_all}
use Rattle.fx_data.proofs.rekey.is_new_key.Goals as goal

pub loop-entry-preserved : goal.loop-entry-preserved
loop-entry-preserved c =
    let old = c.args.old.now.entries in
    let list = c.as_slice-entry-items.ensures in
    let item : c.entry-item.result ≡ get_or old c.loop-entry.entry-index c.entry-item.result
    = c.entry-item.is ∙ ap (λ (es : List KeyEntry). get_or es c.loop-entry.entry-index c.entry-item.result) list in (
      c.in-Some.ensures.within,
      c.in-Some.ensures.same ∙ ap (λ es. es ++ filter_map (after c.args.row.now) (c.entry-item.result ∷ [])) c.loop-entry.invariant.1
          ∙ entries_more c.args.row.now old c.loop-entry.entry-index c.entry-item.result (omega (arith, ap length list)) item,
    )

pub returns : goal.returns
returns c = λ t.
    let all : c.loop-entry.done ≡ length c.as_slice-entries.result.now = eqb-true _ _ t in
    let known : c.as_slice-entries.result.now ≡ c.args.known.now.entries = c.as_slice-entries.ensures in
    entries_all c.args.old.now c.args.row.now c.args.old.now.entries c.loop-entry.entry-index c.args.known.now.entries refl
    (omega (arith, ap length c.as_slice-entry-items.ensures))
    (sym known ∙ sym (take_all c.loop-entry.done c.as_slice-entries.result.now (omega arith)) ∙ c.loop-entry.invariant.1)

use Rattle.std.proofs.Common.{◌≡◌, ℕ, List, [], ◌∷◌, map, sym, ap, ◌∙◌}
use Rattle.std.proofs.lemmas.List.{map-append}
use Rattle.std.specs.BTreeSet.{contains}
use Rattle.std.specs.BTreeMap.{is_at}
use Rattle.std.specs.List.{list_any}
use Rattle.std.specs.Prelude.{codes, if◌then◌else◌}
use Rattle.fx_group.specs.Answer.{Row}
use Rattle.fx_group.specs.Turned.{with_rows}
use Rattle.fx_group.proofs.Turned.{with_both}
use Rattle.fx_value.specs.declared.scalar.Scalar.{Scalar}
use Rattle.fx_value.specs.Scalar.{scalar_cmp}
use Rattle.fx_agg.specs.Distinct.{values, differing}
use Rattle.fx_agg.specs.OneRow.{valued}
use Rattle.fx_agg.proofs.Moulds.{mould_rises}
use Rattle.fx_agg.proofs.Values.{unseen, unseen_all, unseen_next}
use Rattle.fx_agg.proofs.differing.push_differing.Goals as goal

pub loop-row-init : goal.loop-row-init
loop-row-init c =
    let each = valued c.args.table.key (codes "_value") in
    let column = c.args.column.now in
    let left = c.into_iter-row-iterator.result.rest.items in
    let all : left ≡ c.args.table.rows = c.into_iter-row-iterator.ensures.into_iter_gives.0 ∙ c.into_vec-row-items.ensures in
    ap (λ ws. with_rows c.args.runs (map each ws))
    (unseen_all (contains scalar_cmp c.new-seen.result) (λ w. ap (λ ks. list_any (is_at (scalar_cmp w)) ks) c.new-seen.ensures.empty) (differing (values column left)))
    ∙ ap (λ (rows : List Row). with_rows c.args.runs (map each (differing (values column rows)))) all

pub loop-row-preserved : goal.loop-row-preserved
loop-row-preserved c =
    let each = valued c.args.table.key (codes "_value") in
    let column = c.args.column.now in
    let runs = c.loop-row.runs in
    let left = c.next.new.self.rest.items in
    let value = c.in_ok-value.value in
    let new = c.in_ok-new.new in
    let before = contains scalar_cmp c.loop-row.seen in
    let after = contains scalar_cmp c.is_new.new.seen in
    let here : List Scalar = if new then value ∷ [] else [] in
    let rest = unseen after (differing (values column left)) in
    ap (λ groups. with_rows groups (map each rest)) (c.in_ok-runs.ensures ∙ (λ i. with_rows runs (map (λ v. c.in_ok-mould.ensures v i) here))
    ∙ ap (λ (label : List ℕ). with_rows runs (map (valued c.args.table.key label) here)) c.requires.shown)
    ∙ sym (with_both runs (map each here) (map each rest)) ∙ ap (with_rows runs) (sym (map-append each here rest))
    ∙ ap (λ ws. with_rows runs (map each ws))
    (sym (unseen_next before after value (values column left) new c.in_ok-new.ensures.new c.in_ok-new.ensures.seen))
    ∙ ap (λ (v : Scalar). with_rows runs (map each (unseen before (differing (v ∷ values column left))))) c.in_ok-value.ensures
    ∙ ap (λ (rows : List Row). with_rows runs (map each (unseen before (differing (values column rows))))) (sym c.in-Some.ensures.steps.0) ∙ c.loop-row.invariant

pub push_if-requires : goal.push_if-requires
push_if-requires c = mould_rises c.args.table.key c.args.shown.now c.in_ok-mould.mould c.requires.rising c.in_ok-mould.ensures

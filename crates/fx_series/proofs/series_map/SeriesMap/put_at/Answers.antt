use Rattle.std.proofs.Common.{◌≡◌, map, OnOk, OnErr, slice_get, length, sym, ap, subst, ◌∙◌, to_z, of_z, w64}
use Rattle.std.specs.List.{IsDistinct}
use Rattle.std.specs.Ordering.{int_cmp}
use Rattle.std.specs.BTreeMap.{insert_entry}
use Rattle.std.proofs.lemmas.Int.{to_z-of_z}
use Rattle.indexmap.specs.IndexMap.{set_value_at}
use Rattle.fx_line.specs.Stored.{same_id}
use Rattle.fx_series.specs.Held.{shown, after_put}
use Rattle.fx_series.proofs.MapPut.{put_numbered_ok, put_numbered_err, length_set}
use Rattle.fx_series.proofs.series_map.SeriesMap.put_at.Goals as goal

pub returns-clause-ok : goal.returns-clause-ok
returns-clause-ok c = λ s at distinct.
    let es = c.self.inside.entries.entries in
    let held = c.pair_mut-held.result.1.now in
    let time : to_z w64 (of_z w64 c.args.time) ≡ c.args.time = to_z-of_z w64 c.args.time c.ranges.time in
    let values = subst (λ t. OnOk c.put_value.result (c.put_value.new.self.values ≡ insert_entry int_cmp held.values t c.args.value)) time c.put_value.ensures.ok in
    let new = map shown (set_value_at es c.args.number c.put_value.new.self) in
    subst (λ l. OnOk c.put_value.result (new ≡ after_put s.id c.args.time c.args.value l)) c.self.view_is
    (put_numbered_ok es c.args.number c.pair_mut-held.result.0.now held c.put_value.new.self s c.args.time c.args.value c.put_value.result c.pair_mut-held.ensures.value (ap (λ l. slice_get l c.args.number) c.self.view_is ∙ at)
    (subst (λ l. IsDistinct same_id (map (λ t. t.id) l)) (sym c.self.view_is) distinct) c.put_value.ensures.kind values)

pub returns-clause-err : goal.returns-clause-err
returns-clause-err c =
    let es = c.self.inside.entries.entries in
    let new = map shown (set_value_at es c.args.number c.put_value.new.self) in
    subst (λ l. OnErr c.put_value.result (new ≡ l)) c.self.view_is
    (put_numbered_err es c.args.number c.pair_mut-held.result.0.now c.pair_mut-held.result.1.now c.put_value.new.self c.pair_mut-held.ensures.value c.put_value.result c.put_value.ensures.kind c.put_value.ensures.err)

pub returns-clause-many : goal.returns-clause-many
returns-clause-many c = length_set c.self.inside.entries.entries c.args.number c.put_value.new.self ∙ ap length c.self.view_is

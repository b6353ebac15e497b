use Rattle.std.proofs.Common.{◌≡◌, [], ◌∷◌, map, OnOk, OnErr, Some, None, sym, ap, subst, ◌∙◌, inl, to_z, of_z, w64}
use Rattle.std.specs.Ordering.{int_cmp}
use Rattle.std.specs.BTreeMap.{insert_entry}
use Rattle.std.specs.Map.{lookup}
use Rattle.std.proofs.lemmas.Int.{to_z-of_z}
use Rattle.indexmap.specs.IndexMap.{set_value_at}
use Rattle.fx_value.specs.Scalar.{kind_of}
use Rattle.fx_series.specs.Held.{id_of_key, shown, after_put, is_seen, SeriesAnswers}
use Rattle.fx_series.proofs.Entries.{same_key, put_last, unseen}
use Rattle.fx_series.proofs.MapPut.{Stands, put_ok, answers_there, put_err, none_from}
use Rattle.fx_series.proofs.series_map.SeriesMap.put.Goals as goal

pub returns-in-Some-clause-ok : goal.returns-in-Some-clause-ok
returns-in-Some-clause-ok c =
    let held = c.pair_mut-held.ensures in
    let stands : Stands c.self.inside.entries.entries c.args.key c.in-Some.number c.pair_mut-held.result.0.now c.pair_mut-held.result.1.now =
    record { at = held.value; place = c.in-Some.ensures.index; value = c.in-Some.ensures.value } in
    let time : to_z w64 (of_z w64 c.args.time) ≡ c.args.time = to_z-of_z w64 c.args.time c.ranges.time in
    let values = subst (λ t. OnOk c.put.result (c.put.new.self.values ≡ insert_entry int_cmp c.pair_mut-held.result.1.now.values t c.args.value)) time c.put.ensures.ok in
    let new = map shown (set_value_at c.self.inside.entries.entries c.in-Some.number c.put.new.self) in
    subst (λ l. OnOk c.put.result (new ≡ after_put (id_of_key c.args.key (kind_of c.args.value)) c.args.time c.args.value l)) c.self.view_is
    (put_ok _ _ _ _ _ c.put.new.self stands c.args.time c.unwrap-kind.result c.args.value c.put.result (sym c.kind.ensures ∙ c.unwrap-kind.ensures) c.put.ensures.answers c.put.ensures.kind values)

pub returns-in-Some-clause-err : goal.returns-in-Some-clause-err
returns-in-Some-clause-err c =
    let new = map shown (set_value_at c.self.inside.entries.entries c.in-Some.number c.put.new.self) in
    subst (λ l. OnErr c.put.result (new ≡ l)) c.self.view_is
    (put_err c.self.inside.entries.entries c.in-Some.number _ _ c.put.new.self c.pair_mut-held.ensures.value c.put.result c.put.ensures.kind c.put.ensures.err)

pub returns-in-Some-clause-answers : goal.returns-in-Some-clause-answers
returns-in-Some-clause-answers c =
    let held = c.pair_mut-held.ensures in
    let stands : Stands c.self.inside.entries.entries c.args.key c.in-Some.number c.pair_mut-held.result.0.now c.pair_mut-held.result.1.now =
    record { at = held.value; place = c.in-Some.ensures.index; value = c.in-Some.ensures.value } in
    subst (λ l. SeriesAnswers l (id_of_key c.args.key (kind_of c.args.value)) c.put.result) c.self.view_is
    (answers_there _ _ _ _ _ c.put.new.self stands c.unwrap-kind.result c.args.value c.put.result (sym c.kind.ensures ∙ c.unwrap-kind.ensures) c.put.ensures.answers)

pub returns-in_ok-insert-in-None-clause-ok : goal.returns-in_ok-insert-in-None-clause-ok
returns-in_ok-insert-in-None-clause-ok c =
    let held = c.in_ok-held-in-None.held in
    let none : lookup (same_key c.args.key) c.self.inside.entries.entries ≡ None = none_from _ c.in-None.ensures.found in
    let time : to_z w64 (of_z w64 c.args.time) ≡ c.args.time = to_z-of_z w64 c.args.time c.ranges.time in
    let values = c.in_ok-held-in-None.ensures.values ∙ ap (λ t. (t, c.args.value) ∷ []) time in
    let kind = ap Some c.in_ok-held-in-None.ensures.kind ∙ sym c.unwrap-kind.ensures ∙ c.kind.ensures in
    ap (map shown) c.in_ok-insert-in-None.ensures.entries
    ∙ put_last c.args.key c.self.inside.entries.entries held c.args.time c.args.value none kind values
    ∙ ap (after_put (id_of_key c.args.key (kind_of c.args.value)) c.args.time c.args.value) c.self.view_is

pub returns-in_ok-insert-in-None-clause-answers : goal.returns-in_ok-insert-in-None-clause-answers
returns-in_ok-insert-in-None-clause-answers c =
    let none : lookup (same_key c.args.key) c.self.inside.entries.entries ≡ None = none_from _ c.in-None.ensures.found in
    inl (ap (is_seen (id_of_key c.args.key (kind_of c.args.value))) (sym c.self.view_is) ∙ unseen c.args.key (kind_of c.args.value) c.self.inside.entries.entries none)

use Rattle.std.proofs.Common.{◌≡◌, map, Some, slice_get, sym, ap, subst, ◌∙◌}
use denote.Enum.Bare.{same_true}
use Rattle.fx_value.specs.contracts.scalar.Kind as kinds
use Rattle.fx_series.specs.Held.{id_of_key}
use Rattle.fx_series.proofs.MapPut.{Stands, named_at}
use Rattle.fx_series.proofs.series_map.SeriesMap.number_of.Goals as goal

pub returns-then-eq : goal.returns-then-eq
returns-then-eq c =
    let es = c.self.inside.entries.entries in
    let stands : Stands es c.args.key.now c.in_ok-number.number c.in_ok-held.field-0-0.now c.in_ok-held.held.now =
    record { at = sym c.in_ok-held.ensures.entry; place = c.in_ok-number.ensures.index; value = c.in_ok-number.ensures.value } in
    let kind : c.in_ok-held.held.now.kind ≡ c.args.kind = same_true kinds.the_type tt c.in_ok-held.held.now.kind c.args.kind (sym c.if-eq.ensures) in
    ap (λ l. slice_get (map (λ s. s.id) l) c.in_ok-number.number) (sym c.self.view_is)
    ∙ named_at es c.args.key.now c.in_ok-number.number c.in_ok-held.field-0-0.now c.in_ok-held.held.now stands
    ∙ ap (λ k. Some (id_of_key c.args.key.now (Some k))) kind

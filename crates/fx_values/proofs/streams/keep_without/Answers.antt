use Rattle.std.proofs.Common.{◌≡◌, true, false, cond, [], ◌∷◌, ◌++◌, map, sym, ap, ◌∙◌}
use Rattle.std.specs.Prelude.{not}
use Rattle.std.proofs.lemmas.List.{append-nil, map-append}
use Rattle.fx_types.specs.Ground.{listed}
use Rattle.fx_values.specs.Shape.{slot}
use Rattle.fx_values.proofs.ValueLaws.{slot_is}
use Rattle.fx_values.proofs.streams.keep_without.Goals as goal

pub returns-then-is_listed : goal.returns-then-is_listed
returns-then-is_listed c =
    let labels = map (λ label. label.now) c.args.labels.now in
    let o = slot c.args.from.now in
    let kept = map slot c.args.kept.now in
    let same : listed o.label labels ≡ true
    = ap (λ x. listed x labels) (ap (λ s. s.label) (slot_is c.args.from.now) ∙ sym c.as_str.ensures) ∙ sym c.is_listed.ensures ∙ c.if-is_listed.true in
    sym (append-nil kept) ∙ ap (λ b. kept ++ cond (not b) (o ∷ []) []) (sym same)

pub returns : goal.returns
returns c =
    let labels = map (λ label. label.now) c.args.labels.now in
    let o = slot c.args.from.now in
    let kept = map slot c.args.kept.now in
    let same : listed o.label labels ≡ false
    = ap (λ x. listed x labels) (ap (λ s. s.label) (slot_is c.args.from.now) ∙ sym c.as_str.ensures) ∙ sym c.is_listed.ensures ∙ c.if-is_listed.false in
    ap (map slot) c.in_ok-push.ensures.ok ∙ map-append slot c.args.kept.now (c.slot_of.result ∷ [])
    ∙ ap (λ w. kept ++ w ∷ []) (c.slot_of.ensures ∙ (λ i. record { label = c.in_ok-copy.ensures i; value = c.in_ok-copy-2.ensures i }) ∙ sym (slot_is c.args.from.now))
    ∙ ap (λ b. kept ++ cond (not b) (o ∷ []) []) (sym same)

use Rattle.std.proofs.Common.{[], ◌∷◌, ◌++◌, append_assoc, map, sym, ap, ◌∙◌}
use Rattle.std.proofs.lemmas.List.{map-append}
use Rattle.fx_values.specs.Shape.{slot, slots_of, val}
use Rattle.fx_values.proofs.ListLaws.{slots_pushed}
use Rattle.fx_rowfn.proofs.scope.Scope.extended.Goals as goal

pub returns : goal.returns
returns c =
    let outer = map slot c.args.self.outer.value in
    let inner = map slot c.args.self.inner.value in
    let more
    = ap (map slot) (c.in_ok-new.ensures.ok ∙ c.in_ok-push.ensures.ok) ∙ map-append slot c.in_ok-values.values (c.slot_of.result ∷ [])
    ∙ (λ i. c.in_ok-values.ensures i ++ c.slot_of.ensures i ∷ []) in
    let env = ap (λ l. slots_of (outer ++ l)) more ∙ ap slots_of (sym (append_assoc outer inner _)) ∙ slots_pushed (outer ++ inner) c.args.label (val c.args.value) in
    λ i. record { env = env i; setting = c.args.self.setting.value }

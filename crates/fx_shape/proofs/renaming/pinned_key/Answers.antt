use Rattle.std.proofs.Common.{◌≡◌, ap, ◌∙◌, rules}
use Rattle.std.proofs.lemmas.Fn.{filter_same}
use Rattle.std.specs.List.{filter}
use Rattle.fx_data.specs.declared.key.Key.{Key}
use Rattle.fx_data.specs.declared.key.KeyEntry.{KeyEntry}
use Rattle.fx_shape.proofs.renaming.pinned_key.Goals as goal

pub returns : goal.returns
returns c =
    let pinned = λ (e : KeyEntry). e.pinned in
    let entries : c.of.result ≡ filter pinned c.args.key.now.entries
    = c.of.ensures ∙ filter_same _ pinned _ (λ x b q k. search rules) c.into_vec-entries.result.items c.retain.new.self.items c.retain.ensures.filtered
    ∙ ap (filter pinned) (c.into_vec-entries.ensures ∙ ap (λ (k : Key). k.entries) c.in_ok-entries.ensures) in
    λ i. record { entries = entries i }

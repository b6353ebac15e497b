use Rattle.std.proofs.Common.{◌≡◌, ap, ◌∙◌, rules}
use Rattle.std.proofs.lemmas.Fn.{filter_same}
use Rattle.std.specs.List.{filter}
use Rattle.fx_data.specs.declared.key.KeyEntry.{KeyEntry}
use Rattle.fx_shape.specs.Naming.{stays}
use Rattle.fx_shape.proofs.leaving.key_left.Goals as goal

pub returns : goal.returns
returns c =
    let stays = λ (e : KeyEntry). stays c.args.naming.now e.label in
    let entries : c.of.result ≡ filter stays c.args.key.entries
    = c.of.ensures ∙ filter_same _ stays _ (λ x b q k. search rules) c.into_vec-entries.result.items c.retain.new.self.items c.retain.ensures.filtered
    ∙ ap (filter stays) c.into_vec-entries.ensures in
    λ i. record { entries = entries i }

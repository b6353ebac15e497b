use Rattle.std.proofs.Common.{ap, sym, ◌∙◌}
use Rattle.fx_meaning.specs.Ends.{found, pure}
use Rattle.fx_meaning.specs.Value.{pattern}
use Rattle.fx_value.specs.Ends.{Gives, and_then}
use Rattle.fx_values.proofs.ValueLaws.{val_pattern}
use Rattle.fx_rowfn.proofs.names.pattern_value.Goals as goal

pub returns-in-Some : goal.returns-in-Some
returns-in-Some c =
    ap (λ o. and_then (found o) (λ number. pure (pattern number))) (sym c.in-Some.ensures) ∙ ap (λ v. Gives v 0) (sym (val_pattern c.in-Some.number))

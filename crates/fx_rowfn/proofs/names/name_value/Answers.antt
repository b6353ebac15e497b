use Rattle.std.proofs.Common.{ap, subst, sym, ◌∙◌}
use Rattle.fx_meaning.specs.Ends.{found}
use Rattle.fx_meaning.specs.Native as natives
use Rattle.fx_meaning.specs.Native.{value_if}
use Rattle.fx_meaning.specs.Value.{or_else}
use Rattle.fx_value.specs.Ends.{Gives}
use Rattle.fx_values.specs.Shape.{val}
use Rattle.fx_values.specs.Told.{Tells}
use Rattle.fx_rowfn.proofs.names.name_value.Goals as goal

pub returns-in_ok-copy-in-Some : goal.returns-in_ok-copy-in-Some
returns-in_ok-copy-in-Some c =
    ap (λ o. found (or_else o (value_if (natives.named c.args.label.now)))) (sym c.in-Some.ensures) ∙ ap (λ v. Gives v 0) (sym c.in_ok-copy-in-Some.ensures)

pub returns-in_ok-named-in-None : goal.returns-in_ok-named-in-None
returns-in_ok-named-in-None c =
    subst (λ o. Tells val (found (or_else o (value_if (natives.named c.args.label.now)))) c.built_value.result) c.in-None.ensures
    (subst (λ b. Tells val (found (value_if b)) c.built_value.result) c.in_ok-named-in-None.ensures c.built_value.ensures)

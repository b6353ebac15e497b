use Rattle.std.proofs.Common.{ap, sym, ◌∙◌}
use Rattle.fx_meaning.specs.Ends.{found}
use Rattle.fx_meaning.specs.Native.{value_if}
use Rattle.fx_value.specs.Ends.{Gives}
use Rattle.fx_rowfn.proofs.names.built_value.Goals as goal

pub returns-in-Some : goal.returns-in-Some
returns-in-Some c = ap (λ o. found (value_if o)) c.in-Some.is ∙ ap (λ v. Gives v 0) (sym c.of_built.ensures)

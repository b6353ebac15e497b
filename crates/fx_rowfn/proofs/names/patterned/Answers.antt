use Rattle.std.proofs.Common.{List, ap, subst, ◌∙◌}
use Rattle.fx_meaning.specs.Ends.{found, pure}
use Rattle.fx_meaning.specs.Meaning.{numbered}
use Rattle.fx_meaning.specs.Value.{pattern}
use Rattle.fx_meaning.specs.declared.setting.Placed.{Placed}
use Rattle.fx_meaning.specs.declared.setting.Setting.{Setting}
use Rattle.fx_value.specs.Ends.{and_then}
use Rattle.fx_values.specs.Shape.{val}
use Rattle.fx_values.specs.Told.{Tells}
use Rattle.fx_rowfn.proofs.names.patterned.Goals as goal

pub returns : goal.returns
returns c = λ test.
    c.given.ensures test (and_then (found (numbered c.args.scope.now.setting.value.patterns c.args.place)) (λ number. pure (pattern number)))
    (subst (λ (placed : List Placed). Tells val (and_then (found (numbered placed c.args.place)) (λ number. pure (pattern number))) c.pattern_value.result)
    (c.as_slice.ensures ∙ ap (λ (s : Setting). s.patterns) c.deref.ensures) c.pattern_value.ensures)

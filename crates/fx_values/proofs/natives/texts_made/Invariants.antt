use Rattle.std.proofs.Common.{◌≡◌, map, take}
use Rattle.fx_values.specs.Shape.{val}
use Rattle.fx_values.proofs.TextLaws.{text_val}
use Rattle.fx_values.proofs.natives.texts_made.Given as goal

abbrev pub invariant-loop-text : goal.invariant-loop-text
invariant-loop-text l = map val l.items ≡ map text_val (take l.text-index l.texts)

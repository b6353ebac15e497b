use Rattle.std.proofs.Common.{◌≡◌, ◌++◌, take}
use Rattle.std.specs.List.{flat_map}
use Rattle.fx_line.specs.Line.{more_text}
use Rattle.fx_line.proofs.pieces.head_text.Given as goal

abbrev pub invariant-loop-tag : goal.invariant-loop-tag
invariant-loop-tag l = l.text ≡ l.parts.measurement ++ flat_map more_text (take l.tag-index l.parts.tags)

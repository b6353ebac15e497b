use Rattle.std.proofs.Common.{◌≡◌, take, map}
use Rattle.fx_line.specs.Line.{tag_said}
use Rattle.fx_line.proofs.points.tags_said.Given as goal

abbrev pub invariant-loop-tag : goal.invariant-loop-tag
invariant-loop-tag l = l.said.items ≡ map tag_said (take l.tag-index l.tags)

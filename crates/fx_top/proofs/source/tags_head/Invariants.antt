use Rattle.std.proofs.Common.{◌≡◌, take}
use Rattle.std.specs.FinMap.{empty}
use Rattle.fx_top.specs.Run.{with_tags}
use Rattle.fx_top.proofs.source.tags_head.Given as goal

abbrev pub invariant-loop-tag : goal.invariant-loop-tag
invariant-loop-tag l = l.head ≡ with_tags empty (take l.tag-index l.tags)

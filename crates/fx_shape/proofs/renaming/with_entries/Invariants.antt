use Rattle.std.proofs.Common.{◌≡◌, take}
use Rattle.std.specs.Prelude.{fold}
use Rattle.fx_shape.specs.Rename.{entry_renamed}
use Rattle.fx_shape.proofs.renaming.with_entries.Given as goal

abbrev pub invariant-loop-entry : goal.invariant-loop-entry
invariant-loop-entry l = l.made ≡ fold (entry_renamed l.olds l.news) l.fn.key (take l.entry-index l.entries)

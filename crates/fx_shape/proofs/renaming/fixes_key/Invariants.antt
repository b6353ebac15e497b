use Rattle.std.proofs.Common.{◌≡◌, drop}
use Rattle.fx_shape.specs.Renamed.{fixes_key}
use Rattle.fx_shape.proofs.renaming.fixes_key.Given as goal

abbrev pub invariant-loop-i : goal.invariant-loop-i
invariant-loop-i l = fixes_key l.olds l.news l.key l.renamed ≡ fixes_key (drop l.i l.olds) (drop l.i l.news) l.key l.renamed

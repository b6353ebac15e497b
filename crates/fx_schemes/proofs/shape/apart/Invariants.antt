use Rattle.std.proofs.Common.{◌≡◌, drop}
use Rattle.fx_schemes.specs.Builtins.{apart}
use Rattle.fx_schemes.specs.Given.{texts_of}
use Rattle.fx_schemes.proofs.shape.apart.Given as goal

abbrev pub invariant-loop-label : goal.invariant-loop-label
invariant-loop-label l = apart (texts_of l.labels) (texts_of l.others) ≡ apart (texts_of (drop l.label-index l.labels)) (texts_of l.others)

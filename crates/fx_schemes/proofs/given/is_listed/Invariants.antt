use Rattle.std.proofs.Common.{◌≡◌, drop}
use Rattle.fx_types.specs.Ground.{listed}
use Rattle.fx_schemes.specs.Given.{texts_of}
use Rattle.fx_schemes.proofs.given.is_listed.Given as goal

abbrev pub invariant-loop-other : goal.invariant-loop-other
invariant-loop-other l = listed l.word (texts_of l.words) ≡ listed l.word (texts_of (drop l.other-index l.words))

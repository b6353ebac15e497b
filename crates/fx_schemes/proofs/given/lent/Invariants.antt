use Rattle.std.proofs.Common.{◌≡◌, take}
use Rattle.fx_schemes.specs.Given.{texts_of}
use Rattle.fx_schemes.proofs.given.lent.Given as goal

abbrev pub invariant-loop-text : goal.invariant-loop-text
invariant-loop-text l = texts_of l.lent.items ≡ take l.text-index l.texts

use Rattle.std.proofs.Common.{◌≡◌, ◌++◌, drop, false}
use Rattle.fx_parse.specs.Escapes.{taken}
use Rattle.fx_parse.proofs.escapes.meant.Given as goal

abbrev pub invariant-loop-byte : goal.invariant-loop-byte
invariant-loop-byte l = l.bytes.items ++ taken l.quotes l.after_backslash (drop l.byte-index l.inner) ≡ taken l.quotes false l.inner

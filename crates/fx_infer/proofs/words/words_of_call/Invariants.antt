use Rattle.std.proofs.Common.{◌≡◌, drop}
use Rattle.fx_schemes.specs.declared.list.Builtin.{Builtin}
use Rattle.fx_schemes.specs.Names.{IsId}
use Rattle.fx_infer.proofs.WrittenLaws.{behind, words_in}
use Rattle.fx_infer.proofs.words.words_of_call.Given as goal

abbrev pub invariant-loop-arg : goal.invariant-loop-arg
invariant-loop-arg l = (b : Builtin) → IsId l.id b → words_in b l.args ≡ behind l.given (words_in b (drop l.arg-index l.args))

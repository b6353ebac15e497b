use Rattle.std.proofs.Common.{◌≡◌, ◌++◌, drop, map}
use Rattle.std.specs.Option.{option_map}
use Rattle.fx_ops.specs.Arguments.{texts_in}
use Rattle.fx_ops.proofs.arguments.texts_in.Given as goal

abbrev pub invariant-loop-arg : goal.invariant-loop-arg
invariant-loop-arg l =
    option_map (λ rest. map (λ text. text.now) l.texts.items ++ rest) (texts_in (drop l.arg-index l.args)) ≡ texts_in l.args

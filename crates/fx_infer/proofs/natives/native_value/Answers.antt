use Rattle.std.proofs.Common.{IfOk, subst}
use Rattle.fx_schemes.specs.Names.{builtin_of}
use Rattle.fx_types.specs.Size.{IsType}
use Rattle.fx_infer.specs.Ask.{type_is}
use Rattle.fx_infer.specs.Finds.{Finds}
use Rattle.fx_infer.specs.Native.{native}
use Rattle.fx_infer.proofs.natives.native_value.Goals as goal

pub returns : goal.returns
returns c =
    subst (λ path. IfOk c.native_of.result (Finds (λ s u. IsType u × native (builtin_of path c.args.label.now) (type_is u)) c.args.bindings)) c.in_ok-universe.ensures c.native_of.ensures

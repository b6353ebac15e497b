use Rattle.std.proofs.Common.{◌≡◌, ◌∙◌, IfOk, Some, sym, subst}
use Rattle.fx_schemes.specs.declared.list.Builtin.{Builtin}
use Rattle.fx_schemes.specs.Names.{IsId, builtin_of}
use Rattle.fx_infer.specs.Finds.{Finds}
use Rattle.fx_infer.proofs.NativeLaws.{found_builtin, native_is}
use Rattle.fx_infer.proofs.natives.native_of.Goals as goal

pub returns-in-Some : goal.returns-in-Some
returns-in-Some c =
    let found : (b : Builtin) × (builtin_of c.args.path.now c.args.label.now ≡ Some b) × IsId c.in-Some.id b = found_builtin (builtin_of c.args.path.now c.args.label.now) c.in-Some.id (sym c.builtin.ensures ∙ c.in-Some.is) in
    subst (λ T. IfOk c.value_of.result (Finds T c.args.bindings)) (native_is c.args.path.now c.args.label.now found.0 found.1) (c.value_of.ensures found.0 found.2)

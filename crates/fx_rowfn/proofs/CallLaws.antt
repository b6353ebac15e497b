-- The arguments of a call, one after another, and what is called with them.
use Rattle.std.proofs.Common.{◌≡◌, ℕ, true, false, List, ◌∷◌, refl, sym, ap, ◌∙◌}
use Rattle.std.specs.Prelude.{ℤ, Result, if◌then◌else◌}
use Rattle.std.specs.declared.alloc.Global.{Global}
use Rattle.std.specs.declared.rc.Rc.{Rc}
use Rattle.fx_ast.proofs.ShapeLaws.{prop_is}
use Rattle.fx_ast.specs.Places.{first_place}
use Rattle.fx_ast.specs.Shape.{prop, tree_of}
use Rattle.fx_ast.specs.Tree.{Props, no_props, more_props, call}
use Rattle.fx_ast.specs.declared.expr.Expr.{Expr}
use Rattle.fx_ast.specs.declared.expr.Prop.{Prop}
use Rattle.fx_base.specs.declared.place.Place.{Place}
use Rattle.fx_meaning.specs.Ends.{◌>>=◌}
use Rattle.fx_meaning.specs.Meaning.{Calls, Tests, applied_to, takes}
use Rattle.fx_meaning.specs.Native.{takes_native}
use Rattle.fx_meaning.specs.Natives.{native_call}
use Rattle.fx_meaning.specs.Value as value
use Rattle.fx_meaning.specs.Value.{Slots, Val}
use Rattle.fx_meaning.specs.declared.native.Native.{Native}
use Rattle.fx_value.proofs.Ends.{later-zero}
use Rattle.fx_value.specs.Ends.{Stuck}
use Rattle.fx_values.specs.Shape.{OfClosure, closure_val, val}
use Rattle.fx_values.specs.declared.stop.Stop.{Stop}
use Rattle.fx_values.specs.declared.value.Closure.{Closure}
use Rattle.fx_values.specs.declared.value.Value.{Value}
use Rattle.fx_values.specs.declared.value.Value.TheVariants as v
use Rattle.fx_values.proofs.ValueLaws.{Opens, opens}
use Rattle.fx_rowfn.specs.Calls.{applied_left, args_left, enters_left}
use Rattle.fx_rowfn.specs.Frame as plain
use Rattle.fx_rowfn.specs.Frame.{calls_above, unwound}
use Rattle.fx_rowfn.specs.State.{Leads, frame_of, left, left_then, scope_of, shape_left}
use Rattle.fx_rowfn.specs.declared.frame.Control.TheVariants as control
use Rattle.fx_rowfn.specs.declared.frame.Frame.{Frame}
use Rattle.fx_rowfn.specs.declared.frame.Next.{Next}
use Rattle.fx_rowfn.specs.declared.frame.Next.TheVariants as next
use Rattle.fx_rowfn.specs.declared.scope.Scope.{Scope}
use Rattle.fx_rowfn.proofs.FrameLaws as laws
use Rattle.fx_rowfn.proofs.StepLaws.{leads_along}

module _ (test : Tests) (limit : ℕ) (fs : List plain.Frame) where
  pub callee_awaits : (scope : Scope) (place : Place) (e : Expr) (ps : Props) (f : Frame) (n : Next)
      → frame_of f ≡ plain.callee (scope_of scope) (first_place (tree_of e)) ps → n ≡ next.Await f (control.Eval scope e)
      → shape_left test (scope_of scope) place (call (tree_of e) ps) limit fs ≡ left_then test limit fs n
  callee_awaits scope place e ps f n framed awaits =
      laws.call_left test limit fs (scope_of scope) place (tree_of e) ps
      ∙ sym (ap (left_then test limit fs) awaits ∙ ap (λ g. left test limit (g ∷ fs) (control.Eval scope e)) framed)

  pub argument_awaits : (scope : Scope) (place : Place) (called : Val) (done : Slots) (p : Prop) (ps rest : Props) (f : Frame) (n : Next)
      → ps ≡ more_props (prop p).label (prop p).value rest → frame_of f ≡ plain.argument (scope_of scope) place called done p.label rest → n ≡ next.Await f (control.Eval scope p.value)
      → args_left test (scope_of scope) place called ps done limit fs ≡ left_then test limit fs n
  argument_awaits scope place called done p ps rest f n at framed awaits =
      ap (λ qs. args_left test (scope_of scope) place called qs done limit fs) (at ∙ ap (λ o. more_props o.label o.value rest) (prop_is p))
      ∙ laws.argument_left test limit fs (scope_of scope) place called done p.label (tree_of p.value) rest
      ∙ sym (ap (left_then test limit fs) awaits ∙ ap (λ g. left test limit (g ∷ fs) (control.Eval scope p.value)) framed)

  args_done : (scope : plain.Scope) (place : Place) (called : Val) (done : Slots) → args_left test scope place called no_props done limit fs ≡ applied_left test place scope.setting.moment done called limit fs
  args_done scope place called done = ap (λ e. e >>= unwound test limit fs) (later-zero (applied_to (calls_above test limit fs) place scope.setting.moment done called))

pub arguments_done : (test : Tests) (scope : plain.Scope) (place : Place) (called : Val) (done : Slots) (ps : Props) (r : Result Next Stop) → ps ≡ no_props
    → Leads (applied_left test place scope.setting.moment done called) test r → Leads (args_left test scope place called ps done) test r
arguments_done test scope place called done ps r at leads =
    leads_along (args_left test scope place called ps done) (applied_left test place scope.setting.moment done called) test r
    (λ limit fs. ap (λ qs. args_left test scope place called qs done limit fs) at ∙ args_done test limit fs scope place called done) leads

module _ (calls : Calls) (place : Place) (moment : ℤ) (args : Slots) where
  applied_else : (w : Value) (d : Val) → Opens w d → ((c : Rc Closure Global) → ¬ (w ≡ v.Fun c)) → ((g : Native) → ¬ (w ≡ v.Native g)) → applied_to calls place moment args d ≡ Stuck
  applied_else w (value.cell x) o fun native = refl
  applied_else w (value.span x) o fun native = refl
  applied_else w (value.pattern x) o fun native = refl
  applied_else w (value.array x) o fun native = refl
  applied_else w (value.rec x) o fun native = refl
  applied_else w (value.closure a b c d e) o fun native = absurd (fun o.0 o.1)
  applied_else w (value.native x) o fun native = absurd (native x o)
  applied_else w (value.in_package x) o fun native = refl
  applied_else w (value.stream x) o fun native = refl
  applied_else w (value.shown a b c) o fun native = refl

pub not_called : (test : Tests) (place : Place) (moment : ℤ) (args : Slots) (w : Value) → ((c : Rc Closure Global) → ¬ (w ≡ v.Fun c)) → ((g : Native) → ¬ (w ≡ v.Native g))
    → (limit : ℕ) (fs : List plain.Frame) → applied_left test place moment args (val w) limit fs ≡ Stuck
not_called test place moment args w fun native limit fs =
    ap (λ e. e >>= unwound test limit fs) (applied_else (calls_above test limit fs) place moment args w (val w) (opens w) fun native)

module _ (test : Tests) (place : Place) (moment : ℤ) (args : Slots) where
  pub refused : (c : OfClosure) → takes c.params args ≡ false → (limit : ℕ) (fs : List plain.Frame) → applied_left test place moment args (closure_val c) limit fs ≡ Stuck
  refused c is limit fs = ap (λ b. (if b then calls_above test limit fs c.params c.lets c.result c.captured c.setting args else Stuck) >>= unwound test limit fs) is

  pub accepted : (c : OfClosure) → takes c.params args ≡ true → (limit : ℕ) (fs : List plain.Frame) → applied_left test place moment args (closure_val c) limit fs ≡ enters_left test c args limit fs
  accepted c is limit fs = ap (λ b. (if b then calls_above test limit fs c.params c.lets c.result c.captured c.setting args else Stuck) >>= unwound test limit fs) is

  pub native_refused : (g : Native) → takes_native g args ≡ false → (limit : ℕ) (fs : List plain.Frame) → applied_left test place moment args (value.native g) limit fs ≡ Stuck
  native_refused g is limit fs = ap (λ b. (if b then native_call place moment args g else Stuck) >>= unwound test limit fs) is

  pub native_accepted : (g : Native) → takes_native g args ≡ true → (limit : ℕ) (fs : List plain.Frame)
      → applied_left test place moment args (value.native g) limit fs ≡ native_call place moment args g >>= unwound test limit fs
  native_accepted g is limit fs = ap (λ b. (if b then native_call place moment args g else Stuck) >>= unwound test limit fs) is

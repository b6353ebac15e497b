-- What is done next, carried out over the frames.
use Rattle.std.proofs.Common.{◌≡◌, ℕ, suc, ◌+◌, ◌<◌, List, [], ◌∷◌, ◌++◌, map, refl, sym, ap, arith, ◌∙◌}
use Rattle.std.specs.Prelude.{◌-◌, Option, None, Some}
use Rattle.std.specs.declared.alloc.Global.{Global}
use Rattle.std.specs.declared.rc.Rc.{Rc}
use Rattle.fx_ast.specs.Tree.{Params, Props, Tree}
use Rattle.fx_base.specs.declared.meter.Meter.{Meter}
use Rattle.fx_meaning.specs.Meaning.{Tests, entered, nested}
use Rattle.fx_meaning.specs.Value.{Slots, Val}
use Rattle.fx_meaning.specs.declared.setting.Setting.{Setting}
use Rattle.fx_value.proofs.Ends.{later-zero, then-later}
use Rattle.fx_value.specs.Ends.{End, and_then, later}
use Rattle.fx_values.specs.Shape.{closed, slot, slots_of}
use Rattle.fx_values.specs.declared.value.Closure.{Closure}
use Rattle.fx_values.specs.declared.value.Slot.{Slot}
use Rattle.fx_rowfn.specs.Follows.{Carried}
use Rattle.fx_rowfn.specs.Frame as plain
use Rattle.fx_rowfn.specs.Frame.{calls_above, depth, unwound}
use Rattle.fx_rowfn.specs.State.{bound_left, entered_left, frame_of, left, left_then, level_of, scope_of, stack_of}
use Rattle.fx_rowfn.specs.declared.frame.Control.{Control}
use Rattle.fx_rowfn.specs.declared.frame.Control.TheVariants as control
use Rattle.fx_rowfn.specs.declared.frame.Frame.{Frame}
use Rattle.fx_rowfn.specs.declared.frame.Frame.TheVariants as frame
use Rattle.fx_rowfn.specs.declared.frame.Next.{Next}
use Rattle.fx_rowfn.specs.declared.frame.Next.TheVariants as next
use Rattle.fx_rowfn.specs.declared.scope.Scope.{Scope}
use Rattle.fx_rowfn.proofs.RunLaws.{stack_pushed}

-- no call ends where a value is awaited
pub waits : (f : Frame) (n : ℕ) → plain.deeper (frame_of f) n ≡ n
waits (frame.Sign a b) n = refl
waits (frame.Branch a b c) n = refl
waits (frame.LeftOf a b c) n = refl
waits (frame.RightOf a b c d e g) n = refl
waits (frame.Item a b c d) n = refl
waits (frame.Field a b c d e) n = refl
waits (frame.Callee a b c) n = refl
waits (frame.Argument a b c d e g h) n = refl
waits (frame.Through a b c) n = refl
waits (frame.PipedCallee a b c d) n = refl
waits (frame.PipedArgument a b c d e g h i) n = refl
waits (frame.Member a) n = refl
waits (frame.IndexedBy a b c) n = refl
waits (frame.IndexOf a b) n = refl
waits (frame.Hole a b c d e) n = refl
waits (frame.Default a b) n = refl
waits (frame.Assigned a b) n = refl

pub one_more : (old new : List (Option Frame)) (f : Option Frame) → new ≡ old ++ f ∷ [] → stack_of new ≡ level_of f ∷ stack_of old
one_more old new f is = ap stack_of is ∙ stack_pushed [] old f

pub gone_carried : (n : Next) (c : Control) (frames : List (Option Frame)) (m : Meter) → n ≡ next.Go c → Carried n (stack_of frames) c (stack_of frames) m m
gone_carried n c frames m is = record {
  ticks = 0;
  spent = omega arith;
  deep = omega arith;
  at = λ test limit below. ap (left_then test limit (stack_of frames)) is ∙ sym (later-zero (left test limit (stack_of frames) c));
}

pub awaited_carried : (n : Next) (f : Frame) (c : Control) (old new : List (Option Frame)) (m : Meter) → n ≡ next.Await f c → new ≡ old ++ Some f ∷ []
    → Carried n (stack_of old) c (stack_of new) m m
awaited_carried n f c old new m is pushed =
    let more = one_more old new (Some f) pushed in
    let same : depth (stack_of new) ≡ depth (stack_of old) = ap depth more ∙ waits f (depth (stack_of old)) in
    record {
      ticks = 0;
      spent = omega arith;
      deep = omega (arith, same);
      at = λ test limit below.
          ap (left_then test limit (stack_of old)) is ∙ ap (λ s. left test limit s c) (sym more) ∙ sym (later-zero (left test limit (stack_of new) c));
    }

pub two_carried : (n : Next) (f g : Frame) (c : Control) (old middle new : List (Option Frame)) (m : Meter) → n ≡ next.AwaitTwo f g c → middle ≡ old ++ Some f ∷ [] → new ≡ middle ++ Some g ∷ []
    → Carried n (stack_of old) c (stack_of new) m m
two_carried n f g c old middle new m is first second =
    let below = one_more old middle (Some f) first in
    let more : stack_of new ≡ frame_of g ∷ frame_of f ∷ stack_of old = one_more middle new (Some g) second ∙ ap (λ s. frame_of g ∷ s) below in
    let same : depth (stack_of new) ≡ depth (stack_of old)
    = ap depth more ∙ waits g (depth (frame_of f ∷ stack_of old)) ∙ waits f (depth (stack_of old)) in
    record {
      ticks = 0;
      spent = omega arith;
      deep = omega (arith, same);
      at = λ test limit fits.
          ap (left_then test limit (stack_of old)) is ∙ ap (λ s. left test limit s c) (sym more) ∙ sym (later-zero (left test limit (stack_of new) c));
    }

-- a call is a tick, and what it evaluates may call one less deep
called_deeper : (test : Tests) (limit : ℕ) (fs : List plain.Frame) (ps : Params) (lets : Props) (e : Tree) (captured : Slots) (setting : Setting) (args : Slots) → depth fs < limit
    → and_then (calls_above test limit fs ps lets e captured setting args) (unwound test limit fs)
    ≡ later 1 (bound_left test limit (plain.returned ∷ fs) (record { env = captured; setting = setting }) ps captured args lets e)
called_deeper test limit fs ps lets e captured setting args below =
    let one : limit - depth fs ≡ suc (limit - suc (depth fs)) = omega (arith, below) in
    let inner = entered test (calls_above test limit (plain.returned ∷ fs)) setting ps lets e captured args in
    ap (λ n. and_then (nested test n ps lets e captured setting args) (unwound test limit fs)) one
    ∙ then-later 1 inner (unwound test limit fs)
    ∙ (λ i. later 1 (and_then inner (λ v. sym (later-zero (unwound test limit fs v)) i)))

pub enter_left : (test : Tests) (limit : ℕ) (fs : List plain.Frame) (c : Rc Closure Global) (args : Rc (List Slot) Global) (scope : Scope) → depth fs < limit
    → scope_of scope ≡ record { env = (closed c.value).captured; setting = (closed c.value).setting }
    → entered_left test limit fs (closed c.value) (slots_of (map slot args.value))
    ≡ later 1 (left test limit (plain.returned ∷ fs) (control.Bind (record { closure = c; args = args; scope = scope; next = 0 })))
enter_left test limit fs c args scope below is =
    let k = closed c.value in
    called_deeper test limit fs k.params k.lets k.result k.captured k.setting (slots_of (map slot args.value)) below
    ∙ ap (λ s. later 1 (bound_left test limit (plain.returned ∷ fs) s k.params k.captured (slots_of (map slot args.value)) k.lets k.result)) (sym is)

pub enter_carried : (c : Rc Closure Global) (args : Rc (List Slot) Global) (scope : Scope) (old new : List (Option Frame)) (before after : Meter) → new ≡ old ++ None ∷ []
    → after.spent ≡ before.spent + 1 → scope_of scope ≡ record { env = (closed c.value).captured; setting = (closed c.value).setting }
    → Carried (next.Enter c args) (stack_of old) (control.Bind (record { closure = c; args = args; scope = scope; next = 0 })) (stack_of new) before after
enter_carried c args scope old new before after pushed spent is =
    let more = one_more old new None pushed in
    let deeper : depth (stack_of new) ≡ suc (depth (stack_of old)) = ap depth more in
    let now = control.Bind (record { closure = c; args = args; scope = scope; next = 0 }) in
    record {
      ticks = 1;
      spent = spent;
      deep = omega (arith, deeper);
      at = λ test limit below.
          enter_left test limit (stack_of old) c args scope (omega (arith, below)) is ∙ ap (λ s. later 1 (left test limit s now)) (sym more);
    }

-- a call takes a tick, whatever it does
pub enter_ticks : (test : Tests) (limit : ℕ) (fs : List plain.Frame) (c : Rc Closure Global) (args : Slots) → depth fs < limit
    → (e : End Val) × (entered_left test limit fs (closed c.value) args ≡ later 1 e)
enter_ticks test limit fs c args below =
    let k = closed c.value in
    (_, called_deeper test limit fs k.params k.lets k.result k.captured k.setting args below)

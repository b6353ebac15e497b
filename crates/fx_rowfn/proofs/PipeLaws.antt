-- Pipes, call by call.
use Rattle.std.proofs.Common.{◌≡◌, ℕ, true, false, List, ◌∷◌, refl, sym, ap, ◌∙◌}
use Rattle.std.specs.Prelude.{ℤ, None, Some, Result, if◌then◌else◌}
use Rattle.std.specs.declared.alloc.Global.{Global}
use Rattle.std.specs.declared.rc.Rc.{Rc}
use Rattle.fx_ast.proofs.ShapeLaws.{shape_int, shape_time, shape_span, shape_text, shape_pattern, shape_name, shape_paren, shape_array, shape_rec, shape_fun, shape_pipe, shape_member, shape_index, shape_chain, shape_prefix, shape_if, prop_is, tree_is}
use Rattle.fx_ast.specs.Places.{first_place}
use Rattle.fx_ast.specs.Shape.{prop, shape_of, tree_of}
use Rattle.fx_ast.specs.Tree.{Props, tree, Trees, no_trees, more_trees, no_props, more_props, call, pipe}
use Rattle.fx_ast.specs.declared.expr.Body.{Body}
use Rattle.fx_ast.specs.declared.expr.Expr.{Expr}
use Rattle.fx_ast.specs.declared.expr.Link.{Link}
use Rattle.fx_ast.specs.declared.expr.Node.{Node}
use Rattle.fx_ast.specs.declared.expr.Node.TheOpen.{Node-F}
use Rattle.fx_ast.specs.declared.expr.Node.TheVariants as node
use Rattle.fx_ast.specs.declared.expr.Node.TheViews.{roll-Node, out-Node, roll-out-Node}
use Rattle.fx_ast.specs.declared.expr.Param.{Param}
use Rattle.fx_ast.specs.declared.expr.ParamKind.{ParamKind}
use Rattle.fx_ast.specs.declared.expr.Part.{Part}
use Rattle.fx_ast.specs.declared.expr.Prop.{Prop}
use Rattle.fx_base.specs.declared.place.Place.{Place}
use Rattle.fx_meaning.specs.Ends.{◌>>=◌}
use Rattle.fx_meaning.specs.Meaning.{Calls, Tests, applied_to, means_piped, means_pipes, pipe_label, piped_by, piped_to}
use Rattle.fx_meaning.specs.Value as value
use Rattle.fx_meaning.specs.Value.{Label, Slots, Val, is_there, look, push}
use Rattle.fx_meaning.specs.declared.native.Native.{Native}
use Rattle.fx_meaning.specs.declared.setting.Setting.{Setting}
use Rattle.fx_value.proofs.Ends.{later-zero}
use Rattle.fx_value.specs.Ends.{Stuck}
use Rattle.fx_values.specs.Shape.{val}
use Rattle.fx_values.specs.declared.stop.Stop.{Stop}
use Rattle.fx_values.specs.declared.value.Closure.{Closure}
use Rattle.fx_values.specs.declared.value.Value.{Value}
use Rattle.fx_values.specs.declared.value.Value.TheVariants as v
use Rattle.fx_values.proofs.ValueLaws.{Opens, opens}
use Rattle.fx_rowfn.specs.Calls.{applied_left, piped_args_left, piped_by_left, piped_left, pipes_left}
use Rattle.fx_rowfn.specs.Frame as plain
use Rattle.fx_rowfn.specs.Frame.{calls_above, unwound}
use Rattle.fx_rowfn.specs.State.{Leads, frame_of, left, left_then, scope_of, shape_left}
use Rattle.fx_rowfn.specs.declared.frame.Control.TheVariants as control
use Rattle.fx_rowfn.specs.declared.frame.Frame.{Frame}
use Rattle.fx_rowfn.specs.declared.frame.Next.{Next}
use Rattle.fx_rowfn.specs.declared.frame.Next.TheVariants as next
use Rattle.fx_rowfn.specs.declared.scope.Scope.{Scope}
use Rattle.fx_rowfn.proofs.FrameLaws as laws
use Rattle.fx_rowfn.proofs.StepLaws.{leads_along}

module _ (test : Tests) (calls : Calls) (setting : Setting) (env : Slots) (input : Val) where
  piped_layer : (n : Node) (l : Node-F Node ParamKind Part Body Expr Link Param Prop) → n ≡ roll-Node l → ((e : Expr) → (ps : List Prop) → ¬ (n ≡ node.Call e ps)) → means_piped test calls setting (shape_of n) env input ≡ Stuck
  piped_layer n (Node-F.Int k) is h = ap (λ s. means_piped test calls setting s env input) (ap shape_of (is ∙ node.rolls-Int k) ∙ shape_int k)
  piped_layer n (Node-F.Time k) is h = ap (λ s. means_piped test calls setting s env input) (ap shape_of (is ∙ node.rolls-Time k) ∙ shape_time k)
  piped_layer n (Node-F.Span k) is h = ap (λ s. means_piped test calls setting s env input) (ap shape_of (is ∙ node.rolls-Span k) ∙ shape_span k)
  piped_layer n (Node-F.Text k) is h = ap (λ s. means_piped test calls setting s env input) (ap shape_of (is ∙ node.rolls-Text k) ∙ shape_text k)
  piped_layer n (Node-F.Pattern k) is h = ap (λ s. means_piped test calls setting s env input) (ap shape_of (is ∙ node.rolls-Pattern k) ∙ shape_pattern k)
  piped_layer n (Node-F.Name k) is h = ap (λ s. means_piped test calls setting s env input) (ap shape_of (is ∙ node.rolls-Name k) ∙ shape_name k)
  piped_layer n (Node-F.Paren k) is h = ap (λ s. means_piped test calls setting s env input) (ap shape_of (is ∙ node.rolls-Paren k) ∙ shape_paren k)
  piped_layer n (Node-F.Array es) is h = ap (λ s. means_piped test calls setting s env input) (ap shape_of (is ∙ node.rolls-Array es) ∙ shape_array es)
  piped_layer n (Node-F.Rec b ps) is h = ap (λ s. means_piped test calls setting s env input) (ap shape_of (is ∙ node.rolls-Rec b ps) ∙ shape_rec b ps)
  piped_layer n (Node-F.Fun ps b) is h = ap (λ s. means_piped test calls setting s env input) (ap shape_of (is ∙ node.rolls-Fun ps b) ∙ shape_fun ps b)
  piped_layer n (Node-F.Call e ps) is h = absurd (h e ps (is ∙ node.rolls-Call e ps))
  piped_layer n (Node-F.«Node::Pipe» e es) is h = ap (λ s. means_piped test calls setting s env input) (ap shape_of (is ∙ node.rolls-Pipe e es) ∙ shape_pipe e es)
  piped_layer n (Node-F.Member e x) is h = ap (λ s. means_piped test calls setting s env input) (ap shape_of (is ∙ node.rolls-Member e x) ∙ shape_member e x)
  piped_layer n (Node-F.Index e i) is h = ap (λ s. means_piped test calls setting s env input) (ap shape_of (is ∙ node.rolls-Index e i) ∙ shape_index e i)
  piped_layer n (Node-F.Chain e ls) is h = ap (λ s. means_piped test calls setting s env input) (ap shape_of (is ∙ node.rolls-Chain e ls) ∙ shape_chain e ls)
  piped_layer n (Node-F.Prefix s e) is h = ap (λ s. means_piped test calls setting s env input) (ap shape_of (is ∙ node.rolls-Prefix s e) ∙ shape_prefix s e)
  piped_layer n (Node-F.If a b c) is h = ap (λ s. means_piped test calls setting s env input) (ap shape_of (is ∙ node.rolls-If a b c) ∙ shape_if a b c)

  piped_else : (n : Node) → ((e : Expr) → (ps : List Prop) → ¬ (n ≡ node.Call e ps)) → means_piped test calls setting (shape_of n) env input ≡ Stuck
  piped_else n = piped_layer n (out-Node n) (sym (roll-out-Node n))

module _ (test : Tests) (limit : ℕ) (fs : List plain.Frame) where
  pub pipe_awaits : (scope : Scope) (place : Place) (e : Expr) (es : Trees) (f : Frame) (n : Next)
      → frame_of f ≡ plain.through (scope_of scope) es → n ≡ next.Await f (control.Eval scope e)
      → shape_left test (scope_of scope) place (pipe (tree_of e) es) limit fs ≡ left_then test limit fs n
  pipe_awaits scope place e es f n framed awaits =
      laws.pipe_left test limit fs (scope_of scope) place (tree_of e) es
      ∙ sym (ap (left_then test limit fs) awaits ∙ ap (λ g. left test limit (g ∷ fs) (control.Eval scope e)) framed)

  pub no_call : (scope : plain.Scope) (es : Trees) (input : Val) → es ≡ no_trees → pipes_left test scope es input limit fs ≡ unwound test limit fs input
  no_call scope es input none = ap (λ ts. pipes_left test scope ts input limit fs) none ∙ later-zero (unwound test limit fs input)

  -- what stands behind a `|>` and is no call
  pub not_a_call : (scope : plain.Scope) (e : Expr) (es : Trees) (input : Val) → ((c : Expr) → (ps : List Prop) → ¬ (e.node ≡ node.Call c ps)) → pipes_left test scope (more_trees (tree_of e) es) input limit fs ≡ Stuck
  not_a_call scope e es input none =
      ap (λ t. pipes_left test scope (more_trees t es) input limit fs) (tree_is e)
      ∙ ap (λ x. (x >>= means_pipes test (calls_above test limit fs) scope.setting es scope.env) >>= unwound test limit fs)
      (piped_else test (calls_above test limit fs) scope.setting scope.env input e.node none)

  pub call_awaits : (scope : Scope) (e c : Expr) (ps : Props) (es : Trees) (input : Val) (below f : Frame) (n : Next)
      → shape_of e.node ≡ call (tree_of c) ps → frame_of below ≡ plain.through (scope_of scope) es
      → frame_of f ≡ plain.piped_callee (scope_of scope) (first_place (tree_of c)) input ps → n ≡ next.AwaitTwo below f (control.Eval scope c)
      → pipes_left test (scope_of scope) (more_trees (tree_of e) es) input limit fs ≡ left_then test limit fs n
  call_awaits scope e c ps es input below f n is under framed awaits =
      let through = plain.through (scope_of scope) es in
      ap (λ t. pipes_left test (scope_of scope) (more_trees t es) input limit fs) (tree_is e ∙ ap (tree e.place) is)
      ∙ laws.pipes_left test limit fs (scope_of scope) (tree e.place (call (tree_of c) ps)) es input
      ∙ laws.piped_left test limit (through ∷ fs) (scope_of scope) e.place (tree_of c) ps input
      ∙ sym (ap (left_then test limit fs) awaits ∙ ap (λ g. left test limit (frame_of f ∷ g ∷ fs) (control.Eval scope c)) under ∙ ap (λ g. left test limit (g ∷ through ∷ fs) (control.Eval scope c)) framed)

  pub piped_argument_awaits : (scope : Scope) (place : Place) (input called : Val) (done : Slots) (p : Prop) (ps rest : Props) (f : Frame) (n : Next)
      → ps ≡ more_props (prop p).label (prop p).value rest → frame_of f ≡ plain.piped_argument (scope_of scope) place input called done p.label rest → n ≡ next.Await f (control.Eval scope p.value)
      → piped_args_left test (scope_of scope) place input called ps done limit fs ≡ left_then test limit fs n
  piped_argument_awaits scope place input called done p ps rest f n at framed awaits =
      ap (λ qs. piped_args_left test (scope_of scope) place input called qs done limit fs) (at ∙ ap (λ o. more_props o.label o.value rest) (prop_is p))
      ∙ laws.piped_argument_left test limit fs (scope_of scope) place input called done p.label (tree_of p.value) rest
      ∙ sym (ap (left_then test limit fs) awaits ∙ ap (λ g. left test limit (g ∷ fs) (control.Eval scope p.value)) framed)

pub piped_done : (test : Tests) (scope : plain.Scope) (place : Place) (input called : Val) (done : Slots) (ps : Props) (r : Result Next Stop) → ps ≡ no_props
    → Leads (piped_left test place scope.setting.moment done input called) test r → Leads (piped_args_left test scope place input called ps done) test r
piped_done test scope place input called done ps r at leads =
    leads_along (piped_args_left test scope place input called ps done) (piped_left test place scope.setting.moment done input called) test r
    (λ limit fs. ap (λ qs. piped_args_left test scope place input called qs done limit fs) at
    ∙ ap (λ e. e >>= unwound test limit fs) (later-zero (piped_to (calls_above test limit fs) place scope.setting.moment done input called))) leads

module _ (test : Tests) (place : Place) (moment : ℤ) (args : Slots) (input called : Val) where
  pub no_pipe : pipe_label called ≡ None → (limit : ℕ) (fs : List plain.Frame) → piped_left test place moment args input called limit fs ≡ Stuck
  no_pipe is limit fs = ap (λ o. piped_by (calls_above test limit fs) place moment args input o called >>= unwound test limit fs) is

  pub some_pipe : (x : Label) → pipe_label called ≡ Some x → (limit : ℕ) (fs : List plain.Frame) → piped_left test place moment args input called limit fs ≡ piped_by_left test place moment args input x called limit fs
  some_pipe x is limit fs = ap (λ o. piped_by (calls_above test limit fs) place moment args input o called >>= unwound test limit fs) is

  pub given_twice : (x : Label) → is_there (look x args) ≡ true → (limit : ℕ) (fs : List plain.Frame) → piped_by_left test place moment args input x called limit fs ≡ Stuck
  given_twice x is limit fs = ap (λ b. (if b then Stuck else applied_to (calls_above test limit fs) place moment (push args x input) called) >>= unwound test limit fs) is

  pub given_once : (x : Label) → is_there (look x args) ≡ false → (limit : ℕ) (fs : List plain.Frame)
      → piped_by_left test place moment args input x called limit fs ≡ applied_left test place moment (push args x input) called limit fs
  given_once x is limit fs = ap (λ b. (if b then Stuck else applied_to (calls_above test limit fs) place moment (push args x input) called) >>= unwound test limit fs) is

-- what takes nothing by the pipe
label_else : (w : Value) (d : Val) → Opens w d → ((c : Rc Closure Global) → ¬ (w ≡ v.Fun c)) → ((g : Native) → ¬ (w ≡ v.Native g)) → pipe_label d ≡ None
label_else w (value.cell x) o fun native = refl
label_else w (value.span x) o fun native = refl
label_else w (value.pattern x) o fun native = refl
label_else w (value.array x) o fun native = refl
label_else w (value.rec x) o fun native = refl
label_else w (value.closure a b c d e) o fun native = absurd (fun o.0 o.1)
label_else w (value.native x) o fun native = absurd (native x o)
label_else w (value.in_package x) o fun native = refl
label_else w (value.stream x) o fun native = refl
label_else w (value.shown a b c) o fun native = refl

pub no_label : (w : Value) → ((c : Rc Closure Global) → ¬ (w ≡ v.Fun c)) → ((g : Native) → ¬ (w ≡ v.Native g)) → pipe_label (val w) ≡ None
no_label w fun native = label_else w (val w) (opens w) fun native

-- The parameters and assignments of a call, one after another.
use Rattle.std.proofs.Common.{◌≡◌, ℕ, zero, suc, ◌+◌, ◌<◌, ◌≤◌, List, [], ◌∷◌, length, drop, get_or, map, refl, sym, ap, subst, ◌∙◌}
use Rattle.std.proofs.lemmas.List.{at_drop_all}
use Rattle.std.specs.List.{HoldsAt}
use Rattle.std.specs.Option.{IfSome, MatchOption}
use Rattle.std.specs.Prelude.{Option, None, Some, Result}
use Rattle.fx_ast.proofs.ShapeLaws.{param_is, prop_is}
use Rattle.fx_ast.specs.Shape.{default_of, param, params_of, prop, props_of, tree_of}
use Rattle.fx_ast.specs.Tree.{Default, Params, Props, no_params, more_params, no_props, more_props, by_value}
use Rattle.fx_ast.specs.declared.expr.Expr.{Expr}
use Rattle.fx_ast.specs.declared.expr.Param.{Param}
use Rattle.fx_ast.specs.declared.expr.Prop.{Prop}
use Rattle.fx_meaning.specs.Ends.{◌>>=◌}
use Rattle.fx_meaning.specs.Meaning.{Tests, bound, given, means, means_lets}
use Rattle.fx_meaning.specs.Value.{Label, Slots, Val, look, push}
use Rattle.fx_value.specs.Ends.{End, Stuck}
use Rattle.fx_values.specs.Shape.{closed, val}
use Rattle.fx_values.specs.declared.stop.Stop.{Stop}
use Rattle.fx_values.specs.declared.value.Closure.{Closure}
use Rattle.fx_values.specs.declared.value.Value.{Value}
use Rattle.fx_rowfn.specs.Calls.{ParamAt, binds_left, lets_left, params_left, sets_left}
use Rattle.fx_rowfn.specs.Frame as plain
use Rattle.fx_rowfn.specs.Frame.{calls_above, resumed, unwound}
use Rattle.fx_rowfn.specs.Parts.{PropAt}
use Rattle.fx_rowfn.specs.State.{Leads, args_of, control_left, frame_of, left, left_then, params_past, props_past, resumed_left, scope_of, tree_left}
use Rattle.fx_rowfn.specs.declared.frame.Control.TheVariants as control
use Rattle.fx_rowfn.specs.declared.frame.Entry.{Entry}
use Rattle.fx_rowfn.specs.declared.frame.Frame.TheVariants as frame
use Rattle.fx_rowfn.specs.declared.frame.Next.{Next}
use Rattle.fx_rowfn.specs.declared.frame.Next.TheVariants as next
use Rattle.fx_rowfn.specs.declared.scope.Scope.{Scope}
use Rattle.fx_rowfn.proofs.FrameLaws.{bound_done, default_left, given_left, let_left, lets_done}
use Rattle.fx_rowfn.proofs.PartLaws.{props_past_of}
use Rattle.fx_rowfn.proofs.StepLaws.{leads_along}
use Rattle.fx_rowfn.proofs.WalkLaws.{opened}
use denote.Bor.{Bor}

params_past_of : (n : ℕ) (xs : List Param) → params_past n (params_of (map param xs)) ≡ params_of (map param (drop n xs))
params_past_of zero xs = refl
params_past_of (suc n) [] = refl
params_past_of (suc n) (x ∷ xs) = params_past_of n xs

params_list : (xs : List Param) (n : ℕ) (r : Option (Bor Param)) → IfSome r (λ x. x.now ≡ get_or xs n x.now)
    → MatchOption r (length xs ≤ n) (λ x. (n < length xs) × HoldsAt (λ y. x.now ≡ y) xs n) → ParamAt (λ k. params_past k (params_of (map param xs))) n r
params_list xs n None is found = params_past_of n xs ∙ at_drop_all (λ l. params_of (map param l)) xs n found
params_list xs n (Some x) is found =
    params_past_of n xs ∙ opened (λ l. params_of (map param l)) xs n x.now found.0 is ∙ ap (more_params (param x.now).label (param x.now).default) (sym (params_past_of (n + 1) xs))

pub params_at : (k : Closure) (xs given : List Param) (n : ℕ) (r : Option (Bor Param)) → (closed k).params ≡ params_of (map param xs) → given ≡ xs
    → IfSome r (λ x. x.now ≡ get_or given n x.now) → MatchOption r (length given ≤ n) (λ x. (n < length given) × HoldsAt (λ y. x.now ≡ y) given n)
    → ParamAt (λ m. params_past m (closed k).params) n r
params_at k xs given n r has same read found =
    subst (λ ps. ParamAt (λ m. params_past m ps) n r) (ap (λ l. params_of (map param l)) same ∙ sym has) (params_list given n r read found)

lets_list : (xs : List Prop) (n : ℕ) (r : Option (Bor Prop)) → IfSome r (λ x. x.now ≡ get_or xs n x.now)
    → MatchOption r (length xs ≤ n) (λ x. (n < length xs) × HoldsAt (λ y. x.now ≡ y) xs n) → PropAt (λ k. props_past k (props_of (map prop xs))) n r
lets_list xs n None is found = props_past_of n xs ∙ at_drop_all (λ l. props_of (map prop l)) xs n found
lets_list xs n (Some x) is found =
    props_past_of n xs ∙ opened (λ l. props_of (map prop l)) xs n x.now found.0 is ∙ ap (more_props (prop x.now).label (prop x.now).value) (sym (props_past_of (n + 1) xs))

pub lets_at : (k : Closure) (xs given : List Prop) (n : ℕ) (r : Option (Bor Prop)) → (closed k).lets ≡ props_of (map prop xs) → given ≡ xs
    → IfSome r (λ x. x.now ≡ get_or given n x.now) → MatchOption r (length given ≤ n) (λ x. (n < length given) × HoldsAt (λ y. x.now ≡ y) given n)
    → PropAt (λ m. props_past m (closed k).lets) n r
lets_at k xs given n r has same read found =
    subst (λ ps. PropAt (λ m. props_past m ps) n r) (ap (λ l. props_of (map prop l)) same ∙ sym has) (lets_list given n r read found)

-- the same call at another place
abbrev pub at_place : Entry → ℕ → Entry
at_place e n = record { closure = e.closure; args = e.args; scope = e.scope; next = n }

module _ (test : Tests) (e : Entry) (r : Result Next Stop) where
  pub bind_some : (m : Entry) (k : Closure) (p : Bor Param) → k ≡ e.closure.value → m ≡ at_place e (e.next + 1) → ParamAt (λ n. params_past n (closed k).params) e.next (Some p)
      → Leads (binds_left test (more_params (param p.now).label (param p.now).default (params_left m)) m) test r
      → Leads (control_left test (control.Bind e)) test r
  bind_some m k p same moved at leads =
      let first = λ (ps : Params). more_params (param p.now).label (param p.now).default ps in
      let here : params_left e ≡ first (params_past (e.next + 1) (closed e.closure.value).params)
      = subst (λ c. params_past e.next (closed c).params ≡ first (params_past (e.next + 1) (closed c).params)) same at in
      leads_along (control_left test (control.Bind e)) (binds_left test (first (params_left m)) m) test r
      (λ limit fs. ap (λ ps. binds_left test ps e limit fs) here ∙ ap (λ n. binds_left test (first (params_left n)) n limit fs) (sym moved)) leads

  pub assign_some : (m : Entry) (k : Closure) (p : Bor Prop) → k ≡ e.closure.value → m ≡ at_place e (e.next + 1) → PropAt (λ n. props_past n (closed k).lets) e.next (Some p)
      → Leads (sets_left test (more_props (prop p.now).label (prop p.now).value (lets_left m)) m) test r
      → Leads (control_left test (control.Assign e)) test r
  assign_some m k p same moved at leads =
      let first = λ (ps : Props). more_props (prop p.now).label (prop p.now).value ps in
      let here : lets_left e ≡ first (props_past (e.next + 1) (closed e.closure.value).lets)
      = subst (λ c. props_past e.next (closed c).lets ≡ first (props_past (e.next + 1) (closed c).lets)) same at in
      leads_along (control_left test (control.Assign e)) (sets_left test (first (lets_left m)) m) test r
      (λ limit fs. ap (λ ps. sets_left test ps e limit fs) here ∙ ap (λ n. sets_left test (first (lets_left n)) n limit fs) (sym moved)) leads

  pub assign_none : (k : Closure) → k ≡ e.closure.value → PropAt (λ n. props_past n (closed k).lets) e.next None
      → Leads (tree_left test (scope_of e.scope) (closed k).result) test r → Leads (control_left test (control.Assign e)) test r
  assign_none k same at leads =
      let here : lets_left e ≡ no_props = subst (λ c. props_past e.next (closed c).lets ≡ no_props) same at in
      leads_along (control_left test (control.Assign e)) (tree_left test (scope_of e.scope) (closed k).result) test r
      (λ limit fs. ap (λ ps. sets_left test ps e limit fs) here ∙ lets_done test limit fs (scope_of e.scope) (closed e.closure.value).result ∙ ap (λ c. tree_left test (scope_of e.scope) (closed c).result limit fs) (sym same)) leads

  pub bind_given : (p : Param) (label : Label) (v : Value) → label ≡ p.label → look p.label (args_of e) ≡ Some (val v)
      → Leads (resumed_left test (frame_of (frame.Default e label)) (val v)) test r
      → Leads (binds_left test (more_params (param p).label (param p).default (params_left e)) e) test r
  bind_given p label v same is leads =
      let k = closed e.closure.value in
      let named : (param p).label ≡ p.label = ap (λ o. o.label) (param_is p) in
      leads_along (binds_left test (more_params (param p).label (param p).default (params_left e)) e) (resumed_left test (frame_of (frame.Default e label)) (val v)) test r
      (λ limit fs.
      given_left test limit fs (scope_of e.scope) (param p).label (param p).default (params_left e) k.captured (args_of e) k.lets k.result (val v) (ap (λ y. look y (args_of e)) named ∙ is)
      ∙ ap (λ y. resumed_left test (frame_of (frame.Default e y)) (val v) limit fs) (named ∙ sym same)) leads

module _ (test : Tests) (limit : ℕ) (fs : List plain.Frame) (e : Entry) where
  pub bind_none : (k : Closure) (m : Entry) → k ≡ e.closure.value → m ≡ at_place e 0 → ParamAt (λ n. params_past n (closed k).params) e.next None
      → control_left test (control.Bind e) limit fs ≡ left test limit fs (control.Assign m)
  bind_none k m same moved at =
      let here : params_left e ≡ no_params = subst (λ c. params_past e.next (closed c).params ≡ no_params) same at in
      let c = closed e.closure.value in
      ap (λ ps. binds_left test ps e limit fs) here
      ∙ bound_done test limit fs (scope_of e.scope) c.captured (args_of e) c.lets c.result
      ∙ ap (λ n. left test limit fs (control.Assign n)) (sym moved)

  -- a parameter that has neither an argument nor a default
  pub bind_stuck : (p : Param) (d : Default) → default_of p.default ≡ d → look p.label (args_of e) ≡ None
      → ((captured : Slots) → given test (calls_above test limit fs) (scope_of e.scope).setting d captured None ≡ Stuck)
      → binds_left test (more_params (param p).label (param p).default (params_left e)) e limit fs ≡ Stuck
  bind_stuck p d is none stuck =
      let k = closed e.closure.value in
      let calls = calls_above test limit fs in
      let setting = (scope_of e.scope).setting in
      let after = λ (x : Label) (v : Val). bound test calls setting (params_left e) k.captured (args_of e) (push (scope_of e.scope).env x v) in
      let whole = λ (x : Label) (g : End Val). ((g >>= after x) >>= means_lets test calls setting k.lets >>= means test calls setting k.result) >>= unwound test limit fs in
      ap (λ o. binds_left test (more_params o.label o.default (params_left e)) e limit fs) (param_is p)
      ∙ ap (λ q. whole p.label (given test calls setting q k.captured (look p.label (args_of e)))) is
      ∙ ap (λ o. whole p.label (given test calls setting d k.captured o)) none
      ∙ ap (whole p.label) (stuck k.captured)

  pub bind_awaits : (p : Param) (d : Expr) (label : Label) (scope : Scope) (n : Next) → default_of p.default ≡ by_value (tree_of d) → label ≡ p.label → look p.label (args_of e) ≡ None
      → scope_of scope ≡ record { env = (closed e.closure.value).captured; setting = (scope_of e.scope).setting }
      → n ≡ next.Await (frame.Default e label) (control.Eval scope d)
      → binds_left test (more_params (param p).label (param p).default (params_left e)) e limit fs ≡ left_then test limit fs n
  bind_awaits p d label scope n is same none in_scope awaits =
      let k = closed e.closure.value in
      let calls = calls_above test limit fs in
      let rest = λ (x : Label) (v : Val). resumed test calls (plain.default_of (scope_of e.scope) k.captured (args_of e) x (params_left e) k.lets k.result) v >>= unwound test limit fs in
      ap (λ o. binds_left test (more_params o.label o.default (params_left e)) e limit fs) (param_is p)
      ∙ ap (λ q. binds_left test (more_params p.label q (params_left e)) e limit fs) is
      ∙ default_left test limit fs (scope_of e.scope) p.label (tree_of d) (params_left e) k.captured (args_of e) k.lets k.result none
      ∙ ap (λ x. means test calls (scope_of e.scope).setting (tree_of d) k.captured >>= rest x) (sym same)
      ∙ ap (λ s. means test calls s.setting (tree_of d) s.env >>= rest label) (sym in_scope)
      ∙ sym (ap (left_then test limit fs) awaits)

  pub assign_awaits : (p : Prop) (label : Label) (scope : Scope) (n : Next) → label ≡ p.label → scope_of scope ≡ scope_of e.scope
      → n ≡ next.Await (frame.Assigned e label) (control.Eval scope p.value)
      → sets_left test (more_props (prop p).label (prop p).value (lets_left e)) e limit fs ≡ left_then test limit fs n
  assign_awaits p label scope n same in_scope awaits =
      let k = closed e.closure.value in
      let calls = calls_above test limit fs in
      let rest = λ (x : Label) (v : Val). resumed test calls (plain.assigned (scope_of e.scope) x (lets_left e) k.result) v >>= unwound test limit fs in
      ap (λ o. sets_left test (more_props o.label o.value (lets_left e)) e limit fs) (prop_is p)
      ∙ let_left test limit fs (scope_of e.scope) p.label (tree_of p.value) (lets_left e) k.result
      ∙ ap (λ x. means test calls (scope_of e.scope).setting (tree_of p.value) (scope_of e.scope).env >>= rest x) (sym same)
      ∙ ap (λ s. means test calls s.setting (tree_of p.value) s.env >>= rest label) (sym in_scope)
      ∙ sym (ap (left_then test limit fs) awaits)

-- Each step of an evaluation leaves the work that is left as it was, but for a tick.
use Rattle.std.proofs.Common.{◌≡◌, ℕ, suc, ◌<◌, true, false, List, ◌∷◌, Option, None, Some, sym, ap, arith, ◌∙◌}
use Rattle.std.specs.Prelude.{◌-◌, ℤ, if◌then◌else◌}
use Rattle.fx_ast.specs.Places.{first_place}
use Rattle.fx_ast.specs.Tree.{Tree, tree, Shape, array, call, pipe, member, index, chain, prefix, if_then, Trees, more_trees, Parts, hole, Props, no_props, more_props, Params, no_params, more_params, Default, required, by_pipe, by_value, Links, more_links}
use Rattle.fx_ast.specs.declared.expr.Infix.{Infix}
use Rattle.fx_ast.specs.declared.expr.Prefix.{Prefix}
use Rattle.fx_base.specs.declared.place.Place.{Place}
use Rattle.fx_value.proofs.Ends.{later-zero, then-later, then-then}
use Rattle.fx_value.specs.Ends.{End, Gives, Stuck, later}
use Rattle.fx_value.specs.declared.scalar.Scalar.{Scalar}
use Rattle.fx_meaning.specs.declared.setting.Setting.{Setting}
use Rattle.fx_meaning.specs.Ends.{◌>>=◌, pure, found}
use Rattle.fx_meaning.specs.Forms.{cell_in, truth_in}
use Rattle.fx_meaning.specs.Meaning.{Calls, Tests, applied_to, bound, entered, given, given_or, means, means_lets, means_links, means_parts, means_pipe, means_pipes, means_props, means_shape, means_trees, nested, piped_to, takes}
use Rattle.fx_meaning.specs.Operators.{behind, decides, member_of, operate, prefixed, printed, text_made}
use Rattle.fx_meaning.specs.Value as value
use Rattle.fx_meaning.specs.Value.{Label, Slots, Val, Vals, look, no_slots, no_vals, push, push_val}
use Rattle.fx_rowfn.specs.Frame as frame
use Rattle.fx_rowfn.specs.Frame.{Frame, Scope, calls_above, depth, resumed, unwound}

module _ (test : Tests) (limit : ℕ) (fs : List Frame) (scope : Scope) where
  abbrev calls : Calls
  calls = calls_above test limit fs

  -- the work of a tree, and what becomes of its value
  abbrev pub Left : Tree → End Val
  Left e = means test calls scope.setting e scope.env >>= unwound test limit fs

  abbrev pub LeftShape : Place → Shape → End Val
  LeftShape place s = means_shape test calls scope.setting place s scope.env >>= unwound test limit fs

  -- the work of a tree whose value is awaited by a frame
  abbrev pub Awaits : Frame → Tree → End Val
  Awaits f e = means test calls scope.setting e scope.env >>= (λ v. resumed test calls f v >>= unwound test limit fs)

  pub sign_left : (place : Place) (which : Prefix) (e : Tree) → LeftShape place (prefix which e) ≡ Awaits (frame.sign place which) e
  sign_left place which e = then-then (means test calls scope.setting e scope.env) (prefixed place which) (unwound test limit fs)

  pub if_left : (place : Place) (a b c : Tree) → LeftShape place (if_then a b c) ≡ Awaits (frame.branch scope b c) a
  if_left place a b c =
      ap (λ e. e >>= unwound test limit fs)
      (then-then (means test calls scope.setting a scope.env) truth_in (λ yes. if yes then means test calls scope.setting b scope.env else means test calls scope.setting c scope.env))
      ∙ then-then (means test calls scope.setting a scope.env) (resumed test calls (frame.branch scope b c)) (unwound test limit fs)

  pub chain_left : (place : Place) (e : Tree) (ls : Links) → LeftShape place (chain e ls) ≡ Awaits (frame.left_of scope ls) e
  chain_left place e ls = then-then (means test calls scope.setting e scope.env) (means_links test calls scope.setting ls scope.env) (unwound test limit fs)

  pub array_left : (place : Place) (e : Tree) (es : Trees) → LeftShape place (array (more_trees e es)) ≡ Awaits (frame.item scope no_vals es) e
  array_left place e es =
      ap (λ x. x >>= unwound test limit fs)
      (then-then (means test calls scope.setting e scope.env) (λ v. means_trees test calls scope.setting es scope.env (push_val no_vals v)) (λ vs. pure (value.array vs)))
      ∙ then-then (means test calls scope.setting e scope.env) (resumed test calls (frame.item scope no_vals es)) (unwound test limit fs)

  -- a further item, behind those that stand
  pub item_left : (done : Vals) (e : Tree) (es : Trees)
      → (means_trees test calls scope.setting (more_trees e es) scope.env done >>= (λ vs. pure (value.array vs))) >>= unwound test limit fs ≡ Awaits (frame.item scope done es) e
  item_left done e es =
      ap (λ x. x >>= unwound test limit fs)
      (then-then (means test calls scope.setting e scope.env) (λ v. means_trees test calls scope.setting es scope.env (push_val done v)) (λ vs. pure (value.array vs)))
      ∙ then-then (means test calls scope.setting e scope.env) (resumed test calls (frame.item scope done es)) (unwound test limit fs)

  pub field_left : (done : Slots) (x : Label) (e : Tree) (ps : Props)
      → (means_props test calls scope.setting (more_props x e ps) scope.env done >>= (λ fields. pure (value.rec fields))) >>= unwound test limit fs ≡ Awaits (frame.field scope done x ps) e
  field_left done x e ps =
      ap (λ x. x >>= unwound test limit fs)
      (then-then (means test calls scope.setting e scope.env) (λ v. means_props test calls scope.setting ps scope.env (push done x v)) (λ fields. pure (value.rec fields)))
      ∙ then-then (means test calls scope.setting e scope.env) (resumed test calls (frame.field scope done x ps)) (unwound test limit fs)

  pub call_left : (place : Place) (e : Tree) (ps : Props) → LeftShape place (call e ps) ≡ Awaits (frame.callee scope (first_place e) ps) e
  call_left place e ps =
      then-then (means test calls scope.setting e scope.env) (resumed test calls (frame.callee scope (first_place e) ps)) (unwound test limit fs)

  pub argument_left : (place : Place) (f : Val) (done : Slots) (x : Label) (e : Tree) (ps : Props)
      → (means_props test calls scope.setting (more_props x e ps) scope.env done >>= (λ args. applied_to calls place scope.setting.moment args f)) >>= unwound test limit fs
      ≡ Awaits (frame.argument scope place f done x ps) e
  argument_left place f done x e ps =
      ap (λ x. x >>= unwound test limit fs)
      (then-then (means test calls scope.setting e scope.env) (λ v. means_props test calls scope.setting ps scope.env (push done x v)) (λ args. applied_to calls place scope.setting.moment args f))
      ∙ then-then (means test calls scope.setting e scope.env) (resumed test calls (frame.argument scope place f done x ps)) (unwound test limit fs)

  pub pipe_left : (place : Place) (e : Tree) (es : Trees) → LeftShape place (pipe e es) ≡ Awaits (frame.through scope es) e
  pipe_left place e es = then-then (means test calls scope.setting e scope.env) (means_pipes test calls scope.setting es scope.env) (unwound test limit fs)

  pub member_left : (place : Place) (e : Tree) (x : Label) → LeftShape place (member e x) ≡ Awaits (frame.member x) e
  member_left place e x = then-then (means test calls scope.setting e scope.env) (λ v. member_of v x) (unwound test limit fs)

  pub index_left : (place : Place) (e at : Tree) → LeftShape place (index e at) ≡ Awaits (frame.indexed_by scope place at) e
  index_left place e at = then-then (means test calls scope.setting e scope.env) (resumed test calls (frame.indexed_by scope place at)) (unwound test limit fs)

  pub at_left : (place : Place) (v : Val) (at : Tree)
      → resumed test calls (frame.indexed_by scope place at) v >>= unwound test limit fs ≡ Awaits (frame.index_of place v) at
  at_left place v at = then-then (means test calls scope.setting at scope.env) (resumed test calls (frame.index_of place v)) (unwound test limit fs)

  -- ---- operators

  pub operand_left : (place : Place) (op : Infix) (e : Tree) (ls : Links) (v : Val) → decides op v ≡ false
      → means_links test calls scope.setting (more_links place op e ls) scope.env v >>= unwound test limit fs ≡ Awaits (frame.right_of scope place op v ls) e
  operand_left place op e ls v open_still =
      ap (λ b. ((if b then pure v else (means test calls scope.setting e scope.env >>= operate test place op v)) >>= means_links test calls scope.setting ls scope.env) >>= unwound test limit fs) open_still
      ∙ ap (λ x. x >>= unwound test limit fs) (then-then (means test calls scope.setting e scope.env) (operate test place op v) (means_links test calls scope.setting ls scope.env))
      ∙ then-then (means test calls scope.setting e scope.env) (resumed test calls (frame.right_of scope place op v ls)) (unwound test limit fs)

  -- the left operand decides, so the right one isn't evaluated
  pub decided_left : (place : Place) (op : Infix) (e : Tree) (ls : Links) (v : Val) → decides op v ≡ true
      → means_links test calls scope.setting (more_links place op e ls) scope.env v ≡ means_links test calls scope.setting ls scope.env v
  decided_left place op e ls v decided =
      ap (λ b. (if b then pure v else (means test calls scope.setting e scope.env >>= operate test place op v)) >>= means_links test calls scope.setting ls scope.env) decided
      ∙ later-zero (means_links test calls scope.setting ls scope.env v)

  -- ---- pipes

  pub pipes_left : (e : Tree) (es : Trees) (v : Val)
      → means_pipes test calls scope.setting (more_trees e es) scope.env v >>= unwound test limit fs
      ≡ means_pipe test calls scope.setting e scope.env v >>= unwound test limit (frame.through scope es ∷ fs)
  pipes_left e es v = then-then (means_pipe test calls scope.setting e scope.env v) (means_pipes test calls scope.setting es scope.env) (unwound test limit fs)

  pub piped_left : (place : Place) (e : Tree) (ps : Props) (v : Val)
      → means_pipe test calls scope.setting (tree place (call e ps)) scope.env v >>= unwound test limit fs ≡ Awaits (frame.piped_callee scope (first_place e) v ps) e
  piped_left place e ps v =
      then-then (means test calls scope.setting e scope.env) (resumed test calls (frame.piped_callee scope (first_place e) v ps)) (unwound test limit fs)

  pub piped_argument_left : (place : Place) (input f : Val) (done : Slots) (x : Label) (e : Tree) (ps : Props)
      → (means_props test calls scope.setting (more_props x e ps) scope.env done >>= (λ args. piped_to calls place scope.setting.moment args input f)) >>= unwound test limit fs
      ≡ Awaits (frame.piped_argument scope place input f done x ps) e
  piped_argument_left place input f done x e ps =
      ap (λ x. x >>= unwound test limit fs)
      (then-then (means test calls scope.setting e scope.env) (λ v. means_props test calls scope.setting ps scope.env (push done x v)) (λ args. piped_to calls place scope.setting.moment args input f))
      ∙ then-then (means test calls scope.setting e scope.env) (resumed test calls (frame.piped_argument scope place input f done x ps)) (unwound test limit fs)

  -- ---- texts

  pub hole_left : (place : Place) (before : Option (List ℕ)) (e : Tree) (ps : Parts)
      → (means_parts test calls scope.setting (hole e ps) scope.env before >>= text_made place) >>= unwound test limit fs ≡ Awaits (frame.hole scope place before ps) e
  hole_left place before e ps =
      let m = means test calls scope.setting e scope.env in
      let rest = λ (a : Scalar). means_parts test calls scope.setting ps scope.env (behind before (printed a)) in
      ap (λ x. (x >>= text_made place) >>= unwound test limit fs) (then-then m cell_in rest)
      ∙ ap (λ x. x >>= unwound test limit fs) (then-then m (λ v. cell_in v >>= rest) (text_made place))
      ∙ then-then m (resumed test calls (frame.hole scope place before ps)) (unwound test limit fs)

  -- ---- calls of function literals

  -- what is left of a call: parameters, assignments and the result
  abbrev pub LeftBound : Params → Slots → Slots → Props → Tree → End Val
  LeftBound ps captured args lets e =
      (bound test calls scope.setting ps captured args scope.env >>= means_lets test calls scope.setting lets >>= means test calls scope.setting e) >>= unwound test limit fs

  abbrev pub LeftLets : Props → Tree → End Val
  LeftLets lets e = (means_lets test calls scope.setting lets scope.env >>= means test calls scope.setting e) >>= unwound test limit fs

  pub bound_done : (captured args : Slots) (lets : Props) (e : Tree) → LeftBound no_params captured args lets e ≡ LeftLets lets e
  bound_done captured args lets e =
      ap (λ x. (x >>= means test calls scope.setting e) >>= unwound test limit fs) (later-zero (means_lets test calls scope.setting lets scope.env))

  pub lets_done : (e : Tree) → LeftLets no_props e ≡ Left e
  lets_done e = ap (λ x. x >>= unwound test limit fs) (later-zero (means test calls scope.setting e scope.env))

  pub let_left : (x : Label) (d : Tree) (lets : Props) (e : Tree) → LeftLets (more_props x d lets) e ≡ Awaits (frame.assigned scope x lets e) d
  let_left x d lets e =
      let m = means test calls scope.setting d scope.env in
      ap (λ y. y >>= unwound test limit fs) (then-then m (λ v. means_lets test calls scope.setting lets (push scope.env x v)) (means test calls scope.setting e))
      ∙ then-then m (resumed test calls (frame.assigned scope x lets e)) (unwound test limit fs)

  -- a default is evaluated where the function was
  pub default_left : (x : Label) (d : Tree) (ps : Params) (captured args : Slots) (lets : Props) (e : Tree) → look x args ≡ None
      → LeftBound (more_params x (by_value d) ps) captured args lets e
      ≡ means test calls scope.setting d captured >>= (λ v. resumed test calls (frame.default_of scope captured args x ps lets e) v >>= unwound test limit fs)
  default_left x d ps captured args lets e none =
      let m = means test calls scope.setting d captured in
      let rest = λ (v : Val). bound test calls scope.setting ps captured args (push scope.env x v) in
      ap (λ o. ((given_or o m >>= rest) >>= means_lets test calls scope.setting lets >>= means test calls scope.setting e) >>= unwound test limit fs) none
      ∙ ap (λ y. (y >>= means test calls scope.setting e) >>= unwound test limit fs) (then-then m rest (means_lets test calls scope.setting lets))
      ∙ ap (λ y. y >>= unwound test limit fs) (then-then m (λ v. rest v >>= means_lets test calls scope.setting lets) (means test calls scope.setting e))
      ∙ then-then m (resumed test calls (frame.default_of scope captured args x ps lets e)) (unwound test limit fs)

  given_some : (d : Default) (captured : Slots) (o : Option Val) (v : Val) → o ≡ Some v → given test calls scope.setting d captured o ≡ Gives v 0
  given_some required captured o v is = ap found is
  given_some by_pipe captured o v is = ap found is
  given_some (by_value d) captured o v is = ap (λ p. given_or p (means test calls scope.setting d captured)) is

  pub given_left : (x : Label) (d : Default) (ps : Params) (captured args : Slots) (lets : Props) (e : Tree) (v : Val) → look x args ≡ Some v
      → LeftBound (more_params x d ps) captured args lets e
      ≡ (bound test calls scope.setting ps captured args (push scope.env x v) >>= means_lets test calls scope.setting lets >>= means test calls scope.setting e) >>= unwound test limit fs
  given_left x d ps captured args lets e v is =
      let rest = λ (w : Val). bound test calls scope.setting ps captured args (push scope.env x w) in
      ap (λ y. ((y >>= rest) >>= means_lets test calls scope.setting lets >>= means test calls scope.setting e) >>= unwound test limit fs) (given_some d captured (look x args) v is)
      ∙ ap (λ y. (y >>= means_lets test calls scope.setting lets >>= means test calls scope.setting e) >>= unwound test limit fs) (later-zero (rest v))

-- a call is a tick, and what it evaluates may call one less deep
pub call_entered : (test : Tests) (limit : ℕ) (fs : List Frame) (ps : Params) (lets : Props) (e : Tree) (captured : Slots) (setting : Setting) (place : Place) (moment : ℤ) (args : Slots)
    → depth fs < limit → takes ps args ≡ true
    → applied_to (calls_above test limit fs) place moment args (value.closure ps lets e captured setting) >>= unwound test limit fs
    ≡ later 1 (entered test (calls_above test limit (frame.returned ∷ fs)) setting ps lets e captured args >>= unwound test limit (frame.returned ∷ fs))
call_entered test limit fs ps lets e captured setting place moment args below fit =
    let next : limit - depth fs ≡ suc (limit - suc (depth fs)) = omega (arith, below) in
    let inner = entered test (calls_above test limit (frame.returned ∷ fs)) setting ps lets e captured args in
    ap (λ b. (if b then nested test (limit - depth fs) ps lets e captured setting args else Stuck) >>= unwound test limit fs) fit
    ∙ ap (λ n. nested test n ps lets e captured setting args >>= unwound test limit fs) next
    ∙ then-later 1 inner (unwound test limit fs)
    ∙ (λ i. later 1 (inner >>= (λ v. sym (later-zero (unwound test limit fs v)) i)))

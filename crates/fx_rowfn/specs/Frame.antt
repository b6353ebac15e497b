-- What is still to be done with a value, as plain data: the frames of an evaluation, and the work that is left.
use Rattle.std.specs.Prelude.{ℕ, zero, suc, ◌-◌, List, [], ◌∷◌, Option, if◌then◌else◌}
use Rattle.fx_ast.specs.Tree.{Links, Parts, Params, Props, Tree, Trees}
use Rattle.fx_ast.specs.declared.expr.Infix.{Infix}
use Rattle.fx_ast.specs.declared.expr.Prefix.{Prefix}
use Rattle.fx_base.specs.declared.place.Place.{Place}
use Rattle.fx_value.specs.Ends.{End}
use Rattle.fx_meaning.specs.declared.setting.Setting.{Setting}
use Rattle.fx_meaning.specs.Ends.{◌>>=◌, pure}
use Rattle.fx_meaning.specs.Forms.{cell_in, items_in, truth_in}
use Rattle.fx_meaning.specs.Meaning.{Calls, Tests, applied_to, bound, means, means_lets, means_links, means_parts, means_pipes, means_props, means_trees, nested, piped_to}
use Rattle.fx_meaning.specs.Operators.{behind, indexed, member_of, operate, prefixed, printed, text_made}
use Rattle.fx_meaning.specs.Value.{Label, Slots, Val, Vals, array, no_slots, push, push_val, rec}

-- where something is evaluated: the values of names, and the setting
pub record Scope : Type 0 where
  pub env : Slots
  pub setting : Setting

-- what a value is awaited for
pub data Frame : Type 0 where
  -- an operator before it
  sign : (place : Place) → (which : Prefix) → Frame
  -- the test of an `if`
  branch : (scope : Scope) → (first second : Tree) → Frame
  -- the left operand of operators, and the right one of an operator with those behind it
  left_of : (scope : Scope) → (links : Links) → Frame
  right_of : (scope : Scope) → (place : Place) → (op : Infix) → (left : Val) → (links : Links) → Frame
  -- an item of an array, and a property of a record, with what stands already
  item : (scope : Scope) → (done : Vals) → (rest : Trees) → Frame
  field : (scope : Scope) → (done : Slots) → (label : Label) → (rest : Props) → Frame
  -- what is called, and an argument of a call
  callee : (scope : Scope) → (place : Place) → (args : Props) → Frame
  argument : (scope : Scope) → (place : Place) → (called : Val) → (done : Slots) → (label : Label) → (rest : Props) → Frame
  -- what goes through pipes; what is called with it, and a further argument of such a call
  through : (scope : Scope) → (calls : Trees) → Frame
  piped_callee : (scope : Scope) → (place : Place) → (input : Val) → (args : Props) → Frame
  piped_argument : (scope : Scope) → (place : Place) → (input called : Val) → (done : Slots) → (label : Label) → (rest : Props) → Frame
  -- what has a member; what has an item, and where that stands
  member : (label : Label) → Frame
  indexed_by : (scope : Scope) → (place : Place) → (at : Tree) → Frame
  index_of : (place : Place) → (items : Val) → Frame
  -- a hole of a text
  hole : (scope : Scope) → (place : Place) → (before : Option (List ℕ)) → (rest : Parts) → Frame
  -- the default of a parameter, and an assignment of a function; the scope is what stands behind that in the call
  default_of : (scope : Scope) → (captured args : Slots) → (label : Label) → (rest : Params) → (lets : Props) → (result : Tree) → Frame
  assigned : (scope : Scope) → (label : Label) → (rest : Props) → (result : Tree) → Frame
  -- the end of a call of a function literal
  returned : Frame

-- how many calls haven't returned
abbrev pub deeper : Frame → ℕ → ℕ
deeper returned n = suc n
deeper _ n = n

abbrev pub depth : List Frame → ℕ
depth [] = zero
depth (f ∷ fs) = deeper f (depth fs)

module _ (test : Tests) (calls : Calls) where
  -- what becomes of a value at a frame
  abbrev pub resumed : Frame → Val → End Val
  resumed (sign place which) v = prefixed place which v
  resumed (branch scope a b) v =
      truth_in v >>= (λ holds. if holds then means test calls scope.setting a scope.env else means test calls scope.setting b scope.env)
  resumed (left_of scope links) v = means_links test calls scope.setting links scope.env v
  resumed (right_of scope place op left links) v = operate test place op left v >>= means_links test calls scope.setting links scope.env
  resumed (item scope done rest) v = means_trees test calls scope.setting rest scope.env (push_val done v) >>= (λ vs. pure (array vs))
  resumed (field scope done x rest) v = means_props test calls scope.setting rest scope.env (push done x v) >>= (λ fields. pure (rec fields))
  resumed (callee scope place args) v =
      means_props test calls scope.setting args scope.env no_slots >>= (λ given. applied_to calls place scope.setting.moment given v)
  resumed (argument scope place called done x rest) v =
      means_props test calls scope.setting rest scope.env (push done x v) >>= (λ given. applied_to calls place scope.setting.moment given called)
  resumed (through scope es) v = means_pipes test calls scope.setting es scope.env v
  resumed (piped_callee scope place input args) v =
      means_props test calls scope.setting args scope.env no_slots >>= (λ given. piped_to calls place scope.setting.moment given input v)
  resumed (piped_argument scope place input called done x rest) v =
      means_props test calls scope.setting rest scope.env (push done x v) >>= (λ given. piped_to calls place scope.setting.moment given input called)
  resumed (member x) v = member_of v x
  resumed (indexed_by scope place at) v =
      means test calls scope.setting at scope.env >>= (λ w. items_in v >>= (λ vs. cell_in w >>= indexed place vs))
  resumed (index_of place items) v = items_in items >>= (λ vs. cell_in v >>= indexed place vs)
  resumed (hole scope place before rest) v =
      cell_in v >>= (λ a. means_parts test calls scope.setting rest scope.env (behind before (printed a))) >>= text_made place
  resumed (default_of scope captured args x rest lets e) v =
      bound test calls scope.setting rest captured args (push scope.env x v) >>= means_lets test calls scope.setting lets >>= means test calls scope.setting e
  resumed (assigned scope x rest e) v = means_lets test calls scope.setting rest (push scope.env x v) >>= means test calls scope.setting e
  resumed returned v = pure v

module _ (test : Tests) (limit : ℕ) where
  -- the calls that a frame may make: as deep as the limit lets, below those that haven't returned
  abbrev pub calls_above : List Frame → Calls
  calls_above fs = nested test (limit - depth fs)

  -- what becomes of a value at one frame after another
  abbrev pub unwound : List Frame → Val → End Val
  unwound [] v = pure v
  unwound (f ∷ fs) v = resumed test (calls_above fs) f v >>= unwound fs

-- The state of an evaluation as plain data, and the work that is left in it.
use Rattle.std.specs.Prelude.{◌≡◌, ℕ, zero, suc, List, [], ◌∷◌, ◌++◌, Option, None, Some, Result, Ok, Err, map, option_map}
use Rattle.std.specs.String.{string_bytes}
use Rattle.fx_ast.specs.Shape.{tree_of}
use Rattle.fx_ast.specs.Tree.{Tree, tree, Shape, array, call, chain, pipe, rec, Trees, no_trees, more_trees, Props, no_props, more_props, Params, no_params, more_params, Links, no_links, more_links, text, Parts, no_parts, piece, hole}
use Rattle.fx_base.specs.declared.place.Place.{Place}
use Rattle.fx_value.specs.Ends.{End, Faults, Stuck}
use Rattle.fx_meaning.specs.Ends.{◌>>=◌, pure}
use Rattle.fx_meaning.specs.Meaning.{Tests, bound, means, means_lets, means_parts, means_props, means_shape, means_trees}
use Rattle.fx_meaning.specs.Operators.{text_made}
use Rattle.fx_meaning.specs.Value as value
use Rattle.fx_meaning.specs.Value.{Slots, Val, Vals}
use Rattle.fx_values.specs.Shape.{OfClosure, closed, slot, slots_of, val, vals_of}
use Rattle.fx_values.specs.declared.stop.Stop.{Stop}
use Rattle.fx_values.specs.declared.stop.Stop.TheVariants as stop
use Rattle.fx_rowfn.specs.Frame as plain
use Rattle.fx_rowfn.specs.Frame.{calls_above, unwound}
use Rattle.fx_rowfn.specs.declared.frame.Control.{Control}
use Rattle.fx_rowfn.specs.declared.frame.Control.TheVariants as control
use Rattle.fx_rowfn.specs.declared.frame.Entry.{Entry}
use Rattle.fx_rowfn.specs.declared.frame.Frame.{Frame}
use Rattle.fx_rowfn.specs.declared.frame.Frame.TheVariants as frame
use Rattle.fx_rowfn.specs.declared.frame.Next.{Next}
use Rattle.fx_rowfn.specs.declared.frame.Next.TheVariants as next
use Rattle.fx_rowfn.specs.declared.scope.Scope.{Scope}

-- ---- parts of a tree from a place on

abbrev pub trees_in : Shape → Trees
trees_in (array es) = es
trees_in (pipe e es) = es
trees_in _ = no_trees

abbrev pub props_in : Shape → Props
props_in (rec base ps) = ps
props_in (call e ps) = ps
props_in _ = no_props

abbrev pub links_in : Shape → Links
links_in (chain e ls) = ls
links_in _ = no_links

abbrev pub parts_in : Shape → Parts
parts_in (text ps) = ps
parts_in _ = no_parts

abbrev pub trees_past : ℕ → Trees → Trees
trees_past zero es = es
trees_past (suc n) no_trees = no_trees
trees_past (suc n) (more_trees e es) = trees_past n es

abbrev pub props_past : ℕ → Props → Props
props_past zero ps = ps
props_past (suc n) no_props = no_props
props_past (suc n) (more_props x e ps) = props_past n ps

abbrev pub links_past : ℕ → Links → Links
links_past zero ls = ls
links_past (suc n) no_links = no_links
links_past (suc n) (more_links place op e ls) = links_past n ls

abbrev pub parts_past : ℕ → Parts → Parts
parts_past zero ps = ps
parts_past (suc n) no_parts = no_parts
parts_past (suc n) (piece s ps) = parts_past n ps
parts_past (suc n) (hole e ps) = parts_past n ps

abbrev pub params_past : ℕ → Params → Params
params_past zero ps = ps
params_past (suc n) no_params = no_params
params_past (suc n) (more_params x d ps) = params_past n ps

abbrev pub trees_from : Tree → ℕ → Trees
trees_from (tree place s) n = trees_past n (trees_in s)

abbrev pub props_from : Tree → ℕ → Props
props_from (tree place s) n = props_past n (props_in s)

abbrev pub links_from : Tree → ℕ → Links
links_from (tree place s) n = links_past n (links_in s)

abbrev pub parts_from : Tree → ℕ → Parts
parts_from (tree place s) n = parts_past n (parts_in s)

-- ---- scopes, frames and what is done

abbrev pub scope_of : Scope → plain.Scope
scope_of s = record { env = slots_of (map slot s.outer.value ++ map slot s.inner.value); setting = s.setting.value }

abbrev pub args_of : Entry → Slots
args_of e = slots_of (map slot e.args.value)

abbrev pub frame_of : Frame → plain.Frame
frame_of (frame.Sign place sign) = plain.sign place sign
frame_of (frame.Branch scope a b) = plain.branch (scope_of scope) (tree_of a) (tree_of b)
frame_of (frame.LeftOf scope e n) = plain.left_of (scope_of scope) (links_from (tree_of e) n)
frame_of (frame.RightOf scope place op left e n) = plain.right_of (scope_of scope) place op (val left) (links_from (tree_of e) n)
frame_of (frame.Item scope done e n) = plain.item (scope_of scope) (vals_of (map val done)) (trees_from (tree_of e) n)
frame_of (frame.Field scope done x e n) = plain.field (scope_of scope) (slots_of (map slot done)) x (props_from (tree_of e) n)
frame_of (frame.Callee scope place e) = plain.callee (scope_of scope) place (props_from (tree_of e) 0)
frame_of (frame.Argument scope place f done x e n) = plain.argument (scope_of scope) place (val f) (slots_of (map slot done)) x (props_from (tree_of e) n)
frame_of (frame.Through scope e n) = plain.through (scope_of scope) (trees_from (tree_of e) n)
frame_of (frame.PipedCallee scope place input e) = plain.piped_callee (scope_of scope) place (val input) (props_from (tree_of e) 0)
frame_of (frame.PipedArgument scope place input f done x e n) =
    plain.piped_argument (scope_of scope) place (val input) (val f) (slots_of (map slot done)) x (props_from (tree_of e) n)
frame_of (frame.Member x) = plain.member x
frame_of (frame.IndexedBy scope place at) = plain.indexed_by (scope_of scope) place (tree_of at)
frame_of (frame.IndexOf place v) = plain.index_of place (val v)
frame_of (frame.Hole scope place before e n) = plain.hole (scope_of scope) place (option_map string_bytes before) (parts_from (tree_of e) n)
frame_of (frame.Default e x) =
    plain.default_of (scope_of e.scope) (closed e.closure.value).captured (args_of e) x (params_past e.next (closed e.closure.value).params) (closed e.closure.value).lets (closed e.closure.value).result
frame_of (frame.Assigned e x) = plain.assigned (scope_of e.scope) x (props_past e.next (closed e.closure.value).lets) (closed e.closure.value).result

-- where there is none, a call of a function literal ends
abbrev pub level_of : Option Frame → plain.Frame
level_of None = plain.returned
level_of (Some f) = frame_of f

-- the last frame is the first that gets a value
abbrev pub stacked : List plain.Frame → List (Option Frame) → List plain.Frame
stacked fs [] = fs
stacked fs (f ∷ rest) = stacked (level_of f ∷ fs) rest

abbrev pub stack_of : List (Option Frame) → List plain.Frame
stack_of frames = stacked [] frames

module _ (test : Tests) (limit : ℕ) (fs : List plain.Frame) where
  abbrev pub assigns_left : plain.Scope → Props → Tree → End Val
  assigns_left scope lets e =
      (means_lets test (calls_above test limit fs) scope.setting lets scope.env >>= means test (calls_above test limit fs) scope.setting e) >>= unwound test limit fs

  abbrev pub bound_left : plain.Scope → Params → Slots → Slots → Props → Tree → End Val
  bound_left scope ps captured args lets e =
      (bound test (calls_above test limit fs) scope.setting ps captured args scope.env >>= means_lets test (calls_above test limit fs) scope.setting lets
      >>= means test (calls_above test limit fs) scope.setting e) >>= unwound test limit fs

  -- the work that is left over these frames
  abbrev pub left : Control → End Val
  left (control.Eval scope e) = means test (calls_above test limit fs) (scope_of scope).setting (tree_of e) (scope_of scope).env >>= unwound test limit fs
  left (control.Give v) = unwound test limit fs (val v)
  left (control.Bind e) =
      bound_left (scope_of e.scope) (params_past e.next (closed e.closure.value).params) (closed e.closure.value).captured (args_of e) (closed e.closure.value).lets (closed e.closure.value).result
  left (control.Assign e) = assigns_left (scope_of e.scope) (props_past e.next (closed e.closure.value).lets) (closed e.closure.value).result

  abbrev pub entered_left : OfClosure → Slots → End Val
  entered_left c args = calls_above test limit fs c.params c.lets c.result c.captured c.setting args >>= unwound test limit fs

-- the work of a tree, and of what stands at a place
abbrev pub tree_left : Tests → plain.Scope → Tree → ℕ → List plain.Frame → End Val
tree_left test scope e limit fs = means test (calls_above test limit fs) scope.setting e scope.env >>= unwound test limit fs

abbrev pub shape_left : Tests → plain.Scope → Place → Shape → ℕ → List plain.Frame → End Val
shape_left test scope place s limit fs = means_shape test (calls_above test limit fs) scope.setting place s scope.env >>= unwound test limit fs

-- what becomes of a value at a frame, and then at those below
abbrev pub resumed_left : Tests → plain.Frame → Val → ℕ → List plain.Frame → End Val
resumed_left test f v limit fs = plain.resumed test (calls_above test limit fs) f v >>= unwound test limit fs

-- the work of further items, and of further properties, behind those that stand
abbrev pub items_left : Tests → plain.Scope → Trees → Vals → ℕ → List plain.Frame → End Val
items_left test scope es done limit fs = (means_trees test (calls_above test limit fs) scope.setting es scope.env done >>= (λ vs. pure (value.array vs))) >>= unwound test limit fs

abbrev pub fields_left : Tests → plain.Scope → Props → Slots → ℕ → List plain.Frame → End Val
fields_left test scope ps done limit fs = (means_props test (calls_above test limit fs) scope.setting ps scope.env done >>= (λ fields. pure (value.rec fields))) >>= unwound test limit fs

-- the work of the further parts of a text, behind the text that stands
abbrev pub parts_left : Tests → plain.Scope → Place → Parts → Option (List ℕ) → ℕ → List plain.Frame → End Val
parts_left test scope place ps before limit fs = (means_parts test (calls_above test limit fs) scope.setting ps scope.env before >>= text_made place) >>= unwound test limit fs

abbrev pub control_left : Tests → Control → ℕ → List plain.Frame → End Val
control_left test c limit fs = left test limit fs c

abbrev pub left_then : Tests → ℕ → List plain.Frame → Next → End Val
left_then test limit fs (next.Go c) = left test limit fs c
left_then test limit fs (next.Await f c) = left test limit (frame_of f ∷ fs) c
left_then test limit fs (next.AwaitTwo f g c) = left test limit (frame_of g ∷ frame_of f ∷ fs) c
left_then test limit fs (next.Enter c args) = entered_left test limit fs (closed c.value) (slots_of (map slot args.value))

-- what is done next leaves the work as it was
abbrev pub Leads : (ℕ → List plain.Frame → End Val) → Tests → Result Next Stop → Type 0
Leads work test (Ok n) = (limit : ℕ) (fs : List plain.Frame) → work limit fs ≡ left_then test limit fs n
Leads work test (Err (stop.Fault fault)) = (limit : ℕ) (fs : List plain.Frame) → work limit fs ≡ Faults fault 0
Leads work test (Err stop.Stuck) = (limit : ℕ) (fs : List plain.Frame) → work limit fs ≡ Stuck
Leads work test (Err (stop.Budget ticks)) = ⊥
Leads work test (Err stop.Memory) = Unit {0}

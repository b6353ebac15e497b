-- Trees with all places left out: two trees are the same but for places where these are equal.
use Rattle.std.specs.Prelude.{map}
use Rattle.fx_base.specs.declared.place.Place.{Place}
use Rattle.fx_ast.specs.Shape.{OfBody, OfLink, OfParam, OfPart, a_piece, a_hole, OfProp}
use Rattle.fx_ast.specs.Tree.{Tree, tree, Shape, int, time, span, text, pattern, name, paren, array, rec, fun, call, pipe, member, index, chain, prefix, if_then, Trees, no_trees, more_trees, Parts, no_parts, piece, hole, Props, no_props, more_props, Params, no_params, more_params, Default, required, by_pipe, by_value, Links, no_links, more_links, StatementForm, import, assign, task, show, StatementTree, ScriptTree}

abbrev pub nowhere : Place
nowhere = record { at = 0 }

unfoldable mutual
  pub bare : Tree → Tree
  bare (tree place s) = tree nowhere (bare_shape s)

  pub bare_shape : Shape → Shape
  bare_shape (int n) = int n
  bare_shape (time t) = time t
  bare_shape (span s) = span s
  bare_shape (text ps) = text (bare_parts ps)
  bare_shape (pattern s) = pattern s
  bare_shape (name x) = name x
  bare_shape (paren e) = paren (bare e)
  bare_shape (array es) = array (bare_trees es)
  bare_shape (rec base ps) = rec base (bare_props ps)
  bare_shape (fun ps lets e) = fun (bare_params ps) (bare_props lets) (bare e)
  bare_shape (call e ps) = call (bare e) (bare_props ps)
  bare_shape (pipe e es) = pipe (bare e) (bare_trees es)
  bare_shape (member e x) = member (bare e) x
  bare_shape (index e i) = index (bare e) (bare i)
  bare_shape (chain e ls) = chain (bare e) (bare_links ls)
  bare_shape (prefix s e) = prefix s (bare e)
  bare_shape (if_then a b c) = if_then (bare a) (bare b) (bare c)

  pub bare_trees : Trees → Trees
  bare_trees no_trees = no_trees
  bare_trees (more_trees e es) = more_trees (bare e) (bare_trees es)

  pub bare_parts : Parts → Parts
  bare_parts no_parts = no_parts
  bare_parts (piece s ps) = piece s (bare_parts ps)
  bare_parts (hole e ps) = hole (bare e) (bare_parts ps)

  pub bare_props : Props → Props
  bare_props no_props = no_props
  bare_props (more_props x e ps) = more_props x (bare e) (bare_props ps)

  pub bare_params : Params → Params
  bare_params no_params = no_params
  bare_params (more_params x d ps) = more_params x (bare_default d) (bare_params ps)

  pub bare_default : Default → Default
  bare_default required = required
  bare_default by_pipe = by_pipe
  bare_default (by_value e) = by_value (bare e)

  pub bare_links : Links → Links
  bare_links no_links = no_links
  bare_links (more_links place op e ls) = more_links nowhere op (bare e) (bare_links ls)

-- the same for an item of each kind of list, and for the body of a function
abbrev pub bare_part : OfPart → OfPart
bare_part (a_piece s) = a_piece s
bare_part (a_hole e) = a_hole (bare e)

abbrev pub bare_prop : OfProp → OfProp
bare_prop p = record p { value = bare p.value }

abbrev pub bare_param : OfParam → OfParam
bare_param p = record p { default = bare_default p.default }

abbrev pub bare_link : OfLink → OfLink
bare_link l = record { place = nowhere; op = l.op; right = bare l.right }

abbrev pub bare_body : OfBody → OfBody
bare_body b = record { lets = bare_props b.lets; result = bare b.result }

abbrev pub bare_form : StatementForm → StatementForm
bare_form (import alias path) = import alias path
bare_form (assign x e) = assign x (bare e)
bare_form (task e) = task (bare e)
bare_form (show e) = show (bare e)

abbrev pub bare_statement : StatementTree → StatementTree
bare_statement s = record { place = nowhere; form = bare_form s.form }

abbrev pub bare_script : ScriptTree → ScriptTree
bare_script s = record s { statements = map bare_statement s.statements }

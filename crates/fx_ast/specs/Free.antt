-- What the meaning of a tree asks of what stands around it: the values of its free names, and its patterns.
--
-- A function's parameters and assignments bind in its result and in the assignments after them. Its defaults stand
-- outside: no parameter is bound there.
use Rattle.std.specs.Prelude.{ℕ, Bool, true, false, ◌||◌, List, Option, None, Some, nat_eq, cond}
use Rattle.fx_base.specs.declared.place.Place.{Place}
use Rattle.fx_base.specs.Text.{same_text}
use Rattle.fx_ast.specs.Tree.{Tree, tree, Shape, int, time, span, text, pattern, name, paren, array, rec, fun, call, pipe, member, index, chain, prefix, if_then, Trees, no_trees, more_trees, Parts, no_parts, piece, hole, Props, no_props, more_props, Params, no_params, more_params, Default, required, by_pipe, by_value, Links, no_links, more_links}

pub data Need : Type 0 where
  -- the value of a name
  name_of : (label : List ℕ) → Need
  -- the pattern whose literal has the place
  pattern_at : (place : Place) → Need

-- what is asked is the name's value
abbrev pub is_named : List ℕ → Need → Bool
is_named x (name_of y) = same_text y x
is_named x (pattern_at p) = false

-- what is asked is the pattern at the place
abbrev pub is_pattern_at : Place → Need → Bool
is_pattern_at place (name_of x) = false
is_pattern_at place (pattern_at p) = nat_eq p.at place.at

-- the name before `with`
abbrev pub is_base : Option (List ℕ) → Need → Bool
is_base None n = false
is_base (Some x) n = is_named x n

-- one of the parameters
abbrev pub is_param : Params → Need → Bool
is_param no_params n = false
is_param (more_params x d ps) n = is_named x n || is_param ps n

-- asked by what stands under a binder, unless that binds it
abbrev pub unless : Bool → Bool → Bool
unless bound asked = cond bound false asked

abbrev mutual
  pub free : Tree → Need → Bool
  free (tree place s) n = free_shape place s n

  pub free_shape : Place → Shape → Need → Bool
  free_shape place (int k) n = false
  free_shape place (time t) n = false
  free_shape place (span s) n = false
  free_shape place (text ps) n = free_parts ps n
  free_shape place (pattern s) n = is_pattern_at place n
  free_shape place (name x) n = is_named x n
  free_shape place (paren e) n = free e n
  free_shape place (array es) n = free_trees es n
  free_shape place (rec base ps) n = is_base base n || free_props ps n
  free_shape place (fun ps lets e) n = free_params ps n || unless (is_param ps n) (free_lets lets n (free e n))
  free_shape place (call e ps) n = free e n || free_props ps n
  free_shape place (pipe e es) n = free e n || free_trees es n
  free_shape place (member e x) n = free e n
  free_shape place (index e at) n = free e n || free at n
  free_shape place (chain e ls) n = free e n || free_links ls n
  free_shape place (prefix sign e) n = free e n
  free_shape place (if_then a b c) n = free a n || (free b n || free c n)

  pub free_trees : Trees → Need → Bool
  free_trees no_trees n = false
  free_trees (more_trees e es) n = free e n || free_trees es n

  pub free_parts : Parts → Need → Bool
  free_parts no_parts n = false
  free_parts (piece s ps) n = free_parts ps n
  free_parts (hole e ps) n = free e n || free_parts ps n

  pub free_props : Props → Need → Bool
  free_props no_props n = false
  free_props (more_props x e ps) n = free e n || free_props ps n

  -- assignments, before what asks so after them
  pub free_lets : Props → Need → Bool → Bool
  free_lets no_props n behind = behind
  free_lets (more_props x e ps) n behind = free e n || unless (is_named x n) (free_lets ps n behind)

  pub free_params : Params → Need → Bool
  free_params no_params n = false
  free_params (more_params x d ps) n = free_default d n || free_params ps n

  pub free_default : Default → Need → Bool
  free_default required n = false
  free_default by_pipe n = false
  free_default (by_value e) n = free e n

  pub free_links : Links → Need → Bool
  free_links no_links n = false
  free_links (more_links place op e ls) n = free e n || free_links ls n

-- a function of these parameters, assignments and result
abbrev pub free_fun : Params → Props → Tree → Need → Bool
free_fun ps lets e n = free_params ps n || unless (is_param ps n) (free_lets lets n (free e n))

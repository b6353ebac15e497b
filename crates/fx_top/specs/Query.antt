-- The one tree of a script that runs.
use Rattle.std.specs.Prelude.{◌≡◌, ℕ, ℤ, List, [], ◌∷◌, codes, Option, None, Some}
use Rattle.fx_base.specs.declared.place.Place.{Place}
use Rattle.fx_ast.specs.Tree.{Tree, tree, time, text, name, call, pipe, no_trees, more_trees, no_parts, piece, Props, no_props, more_props, show, StatementTree, ScriptTree}
use Rattle.fx_ast.specs.Bare.{nowhere, bare_script}
use Rattle.fx_top.specs.declared.query.Query.{Query}

-- a script without package and imports that shows one expression
abbrev pub shown : Tree → ScriptTree
shown e = record { package_name = None; statements = record { place = nowhere; form = show e } ∷ [] }

abbrev pub piped : Tree → Tree → Tree
piped first last = tree nowhere (pipe first (more_trees last no_trees))

-- a call of the name
abbrev pub called : List ℕ → Props → Tree
called label args = tree nowhere (call (tree nowhere (name label)) args)

-- an argument that is a text without interpolation, and two that are times
abbrev pub text_arg : List ℕ → List ℕ → Props
text_arg label value = more_props label (tree nowhere (text (piece value no_parts))) no_props

abbrev pub time_args : List ℕ → ℤ → List ℕ → ℤ → Props
time_args a start b stop = more_props a (tree nowhere (time start)) (more_props b (tree nowhere (time stop)) no_props)

-- from(bucket: ..) |> range(start: .., stop: ..)
abbrev pub query_tree : Query → ScriptTree
query_tree q = shown (piped (called (codes "from") (text_arg (codes "bucket") q.bucket))
    (called (codes "range") (time_args (codes "start") q.start (codes "stop") q.stop)))

-- where the first statement begins
abbrev pub begin_of : List StatementTree → Option Place
begin_of [] = None
begin_of (s ∷ ss) = Some s.place

-- the tree is that of the query, but for places; and the query's place is that of its first token
pub record IsQuery (t : ScriptTree) (q : Query) : Type 0 where
  pub same : bare_script t ≡ query_tree q
  pub begin : begin_of t.statements ≡ Some q.place

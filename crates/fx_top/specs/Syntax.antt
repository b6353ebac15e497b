-- What the bytes of a script are read as: a text, its tokens, its tree.
use Rattle.std.specs.Prelude.{◌≡◌, ℕ, Bool, false, List, ◌⊎◌, Result, Ok, Err}
use Rattle.std.specs.Str.{IsUtf8, IsValidUpTo}
use Rattle.fx_ast.specs.declared.script.Script.{Script}
use Rattle.fx_ast.specs.Shape.{script_tree}
use Rattle.fx_ast.specs.Tree.{ScriptTree}
use Rattle.fx_scan.specs.declared.token.Token.{Token}
use Rattle.fx_scan.specs.Tokens.{IsTokenList, IsStuck}
use Rattle.fx_parse.specs.Parsed.{IsParsed, IsUnparsed}
use Rattle.fx_top.specs.Query.{IsQuery}
use Rattle.fx_top.specs.declared.query.Query.{Query}
use Rattle.fx_top.specs.declared.script.ScriptStop.{ScriptStop}
use Rattle.fx_top.specs.declared.script.ScriptStop.TheVariants as stop

-- the script is UTF-8, and its tokens have this tree
pub record HasTree (script : List ℕ) (tree : ScriptTree) : Type 0 where
  pub text : IsUtf8 script
  pub tokens : List Token
  pub list : IsTokenList script tokens
  pub parsed : IsParsed script tokens tree

-- the script is UTF-8, and its tokens have no tree beyond this place
pub record HasNoTree (script : List ℕ) (at : ℕ) (deep : Bool) : Type 0 where
  pub text : IsUtf8 script
  pub tokens : List Token
  pub list : IsTokenList script tokens
  pub unparsed : IsUnparsed script tokens at deep

-- the script is UTF-8 up to the place and no further; or it has tokens up to the place, where none begins; or its tokens
-- have no tree
abbrev pub IsSyntax : List ℕ → ℕ → Bool → Type 0
IsSyntax script at deep =
    (IsValidUpTo script at × (deep ≡ false)) ⊎ ((IsUtf8 script × IsStuck script at × (deep ≡ false)) ⊎ HasNoTree script at deep)

-- the script's tree is that of the query
pub record IsScript (script : List ℕ) (q : Query) : Type 0 where
  pub tree : ScriptTree
  pub has_tree : HasTree script tree
  pub query : IsQuery tree q

-- the script has a tree, and it is that of no query
pub record IsNotBuilt (script : List ℕ) : Type 0 where
  pub tree : ScriptTree
  pub has_tree : HasTree script tree
  pub other : (q : Query) → IsQuery tree q → ⊥

-- what a text is read as
abbrev pub TreeAnswers : List ℕ → Result Script ScriptStop → Type 0
TreeAnswers script (Ok s) = HasTree script (script_tree s)
TreeAnswers script (Err (stop.Syntax place deep)) = IsSyntax script place.at deep
TreeAnswers script (Err stop.NotBuilt) = ⊥
TreeAnswers script (Err stop.Memory) = Unit {0}

-- what a script is read as
abbrev pub ScriptAnswers : List ℕ → Result Query ScriptStop → Type 0
ScriptAnswers script (Ok q) = IsScript script q
ScriptAnswers script (Err (stop.Syntax place deep)) = IsSyntax script place.at deep
ScriptAnswers script (Err stop.NotBuilt) = IsNotBuilt script
ScriptAnswers script (Err stop.Memory) = Unit {0}

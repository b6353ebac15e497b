-- What a script's tokens are parsed to, and where they are refused.
use Rattle.std.specs.Prelude.{◌≡◌, ◌≤◌, ℕ, Bool, List, [], ◌∷◌, length}
use Rattle.fx_ast.specs.Tree.{ScriptTree}
use Rattle.fx_scan.specs.Forms.{Bytes}
use Rattle.fx_scan.specs.declared.token.Token.{Token}
use Rattle.fx_parse.specs.Items.{Items}
use Rattle.fx_parse.specs.Grammar.{IsScript}
use Rattle.fx_ast.specs.Levels.{levels}
use Rattle.fx_parse.specs.Lexemes.{AllRead}
use Rattle.fx_parse.specs.Refusal.{IsRefusal}

-- the tree of the text's tokens, however many levels it has
pub record IsTreeOf (text : Bytes) (tokens : List Token) (tree : ScriptTree) : Type 0 where
  pub items : Items
  pub read : AllRead text tokens items
  pub phrase : IsScript tree items

-- the tree of the text's tokens, of at most 64 levels
pub record IsParsed (text : Bytes) (tokens : List Token) (tree : ScriptTree) : Type 0 where
  pub is : IsTreeOf text tokens tree
  pub low : levels tree ≤ 64

-- the place of the first item that is left, or the text's length
abbrev pub place_left : Bytes → Items → ℕ
place_left text [] = length text
place_left text (x ∷ w) = x.place.at

-- The tokens up to the one at the place, and not with it, begin a list that has a tree of at most 64 levels; or the text
-- ends there too early. Deep where a tree of more levels goes on with that token.
pub record IsUnparsed (text : Bytes) (tokens : List Token) (place : ℕ) (deep : Bool) : Type 0 where
  pub items : Items
  pub read : AllRead text tokens items
  pub rest : Items
  pub refusal : IsRefusal 64 items deep rest
  pub at : place ≡ place_left text rest

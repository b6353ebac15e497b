-- The grammar: which lists of items say which trees.
--
-- Each relation is a line of the grammar, or a part of one, and splits its list into parts. Lines from `or` to `postfix`
-- are numbered by how tightly they bind, and are one relation, `IsLevel`.
use Rattle.std.specs.Prelude.{◌≡◌, ℕ, zero, suc, ◌==◌, not, ◌||◌, Bool, true, false, List, [], ◌∷◌, ◌++◌, Option, None, Some}
use Rattle.fx_base.specs.declared.place.Place.{Place}
use Rattle.fx_ast.specs.Tree.{Tree, tree, Shape, text, name, paren, array, rec, fun, call, pipe, member, index, chain, prefix, if_then, Trees, no_trees, more_trees, Parts, no_parts, piece, hole, Props, no_props, more_props, Params, no_params, more_params, Default, required, by_pipe, by_value, Links, no_links, more_links, import, assign, task, show, StatementTree, ScriptTree}
use Rattle.fx_scan.specs.declared.symbols.Symbol.TheVariants as symbol
use Rattle.fx_scan.specs.declared.words.Word.TheVariants as word
use Rattle.fx_parse.specs.declared.item.Item.{Item}
use Rattle.fx_parse.specs.Items.{Items, Sort, a_symbol, one_of, passes, first, start, label, literal, is_literal, is_name, is_plain, is_label, is_head, is_mid, is_tail, is_word, is_symbol, is_task, is_with, prefixes, operators, infix_of, prefix_of}

-- one item that passes
abbrev pub IsTok : (Item → Bool) → Item → Items → Type 0
IsTok test x w = (test x ≡ true) × (w ≡ x ∷ [])

-- ---- what parts make

-- an operator, or `|>`, and the operand after it
pub record Link : Type 0 where
  pub mark : Item
  pub right : Tree

abbrev pub links_of : List Link → Links
links_of [] = no_links
links_of (x ∷ xs) = more_links x.mark.place (infix_of x.mark.lexeme) x.right (links_of xs)

abbrev pub calls_of : List Link → Trees
calls_of [] = no_trees
calls_of (x ∷ xs) = more_trees x.right (calls_of xs)

-- an operand and a run of links of the line m; the place is that of the operand's first token
abbrev pub run_shape : ℕ → Tree → List Link → Shape
run_shape (suc (suc zero)) t xs = pipe t (calls_of xs)
run_shape m t xs = chain t (links_of xs)

abbrev pub run : ℕ → Place → Tree → List Link → Tree
run m place t [] = t
run m place t (x ∷ xs) = tree place (run_shape m t (x ∷ xs))

-- what stands after an operand
pub data Suffix : Type 0 where
  args : Props → Suffix
  dot : List ℕ → Suffix
  bracket : Place → Tree → Suffix

-- an index by a text without interpolation is a member
abbrev pub indexed : Place → Tree → Place → Tree → Tree
indexed begin t place (tree p (text (piece s no_parts))) = tree begin (member t s)
indexed begin t place i = tree place (index t i)

-- the operand t, whose first token is at the place, with a suffix
abbrev pub put : Place → Tree → Suffix → Tree
put begin t (args ps) = tree begin (call t ps)
put begin t (dot x) = tree begin (member t x)
put begin t (bracket place i) = indexed begin t place i

abbrev pub is_call : Tree → Bool
is_call (tree place (call t ps)) = true
is_call t = false

-- where it has to be a call, only a call may end a postfix
abbrev pub may_end : Bool → Tree → Bool
may_end must_call t = not must_call || is_call t

-- the name by itself, as an expression
abbrev pub named : Item → Tree
named x = tree x.place (name (label x))

-- the arguments of a call, or the properties of a record
pub data Group : Type 0 where
  arguments properties : Group

abbrev pub closer : Group → Item → Bool
closer arguments = is_symbol symbol.CloseParen
closer properties = is_symbol symbol.CloseBrace

abbrev pub labels : Group → Item → Bool
labels arguments = is_name
labels properties = is_label

-- ---- expressions

mutual
  -- expr = "if" expr "then" expr "else" expr | function | or
  pub data IsExpr : Tree → Items → Type 0 where
    by_choice : {a b c : Tree} {w : Items} (x y z : Item) (i u j v k q : Items) → IsTok (is_word word.If) x i → IsExpr a u
        → IsTok (is_word word.Then) y j → IsExpr b v → IsTok (is_word word.Else) z k → IsExpr c q
        → w ≡ i ++ (u ++ (j ++ (v ++ (k ++ q)))) → IsExpr (tree x.place (if_then a b c)) w
    by_function : {t : Tree} {w : Items} → IsFunction t w → IsExpr t w
    by_level : {t : Tree} {w : Items} → IsLevel 8 t w → IsExpr t w

  -- function = "(" [ param { "," param } [ "," ] ] ")" "=>" ( block | expr )
  pub data IsFunction : Tree → Items → Type 0 where
    a_function : {ps : Params} {lets : Props} {e : Tree} {w : Items} (x y : Item) (i u j v : Items) → IsTok (is_symbol symbol.OpenParen) x i
        → IsParams ps u → IsTok (is_symbol symbol.Arrow) y j → IsBody lets e v → w ≡ i ++ (u ++ (j ++ v))
        → IsFunction (tree x.place (fun ps lets e)) w

  -- parameters, with the `)` after them
  pub data IsParams : Params → Items → Type 0 where
    params_end : {w : Items} (x : Item) → IsTok (is_symbol symbol.CloseParen) x w → IsParams no_params w
    params_next : {d : Default} {ps : Params} {w : Items} (x : Item) (i u v : Items) → IsTok is_name x i → IsDefault d u → IsMoreParams ps v
        → w ≡ i ++ (u ++ v) → IsParams (more_params (label x) d ps) w

  pub data IsMoreParams : Params → Items → Type 0 where
    param_last : {w : Items} (x : Item) → IsTok (is_symbol symbol.CloseParen) x w → IsMoreParams no_params w
    param_comma : {ps : Params} {w : Items} (x : Item) (i u : Items) → IsTok (is_symbol symbol.Comma) x i → IsParams ps u → w ≡ i ++ u
        → IsMoreParams ps w

  -- param = name [ "=" ( "<-" | expr ) ]: what stands after the name
  pub data IsDefault : Default → Items → Type 0 where
    no_default : IsDefault required []
    pipe_default : {w : Items} (x y : Item) (i j : Items) → IsTok (is_symbol symbol.Assign) x i → IsTok (is_symbol symbol.PipeParameter) y j
        → w ≡ i ++ j → IsDefault by_pipe w
    value_default : {e : Tree} {w : Items} (x : Item) (i u : Items) → IsTok (is_symbol symbol.Assign) x i → IsExpr e u → w ≡ i ++ u
        → IsDefault (by_value e) w

  -- a `{` after `=>` begins a block
  pub data IsBody : Props → Tree → Items → Type 0 where
    block_body : {lets : Props} {e : Tree} {w : Items} (x : Item) (i u : Items) → IsTok (is_symbol symbol.OpenBrace) x i → IsBlock lets e u
        → w ≡ i ++ u → IsBody lets e w
    expr_body : {e : Tree} {w : Items} → passes (is_symbol symbol.OpenBrace) (first w) ≡ false → IsExpr e w → IsBody no_props e w

  -- block = "{" { name "=" expr } "return" expr "}": what stands after the `{`
  pub data IsBlock : Props → Tree → Items → Type 0 where
    block_end : {e : Tree} {w : Items} (x y : Item) (i u j : Items) → IsTok (is_word word.Return) x i → IsExpr e u
        → IsTok (is_symbol symbol.CloseBrace) y j → w ≡ i ++ (u ++ j) → IsBlock no_props e w
    block_let : {a e : Tree} {lets : Props} {w : Items} (x y : Item) (i j u v : Items) → IsTok is_name x i
        → IsTok (is_symbol symbol.Assign) y j → IsExpr a u → IsBlock lets e v → w ≡ i ++ (j ++ (u ++ v))
        → IsBlock (more_props (label x) a lets) e w

  -- the lines from `or` to `postfix`
  pub data IsLevel : ℕ → Tree → Items → Type 0 where
    at_postfix : {t : Tree} {w : Items} → IsPostfix false t w → IsLevel 0 t w
    at_prefix : {m : ℕ} {t : Tree} {w : Items} (x : Item) (i u : Items) → IsTok (one_of (prefixes (suc m))) x i → IsLevel (suc m) t u
        → w ≡ i ++ u → IsLevel (suc m) (tree x.place (prefix (prefix_of x.lexeme) t)) w
    at_run : {m : ℕ} {t : Tree} {xs : List Link} {w : Items} (u v : Items) → IsLevel m t u → IsLinks m xs v → w ≡ u ++ v
        → IsLevel (suc m) (run (suc m) (start w) t xs) w

  -- operators of the line above m, each with its operand
  pub data IsLinks : ℕ → List Link → Items → Type 0 where
    links_end : {m : ℕ} → IsLinks m [] []
    links_next : {m : ℕ} {t : Tree} {xs : List Link} {w : Items} (x : Item) (i u v : Items) → IsTok (one_of (operators (suc m))) x i
        → IsOperand m t u → IsLinks m xs v → w ≡ i ++ (u ++ v) → IsLinks m (record { mark = x; right = t } ∷ xs) w

  -- what stands after an operator of the line above m: after `|>` a postfix that ends in a call, else what binds as m does
  pub data IsOperand : ℕ → Tree → Items → Type 0 where
    a_call : {m : ℕ} {t : Tree} {w : Items} → (m == 1) ≡ true → IsPostfix true t w → IsOperand m t w
    an_operand : {m : ℕ} {t : Tree} {w : Items} → (m == 1) ≡ false → IsLevel m t w → IsOperand m t w

  -- postfix = primary { "(" [ arg { "," arg } [ "," ] ] ")" | "." name | "[" expr "]" }
  pub data IsPostfix : Bool → Tree → Items → Type 0 where
    a_postfix : {must_call : Bool} {s t : Tree} {w : Items} (u v : Items) → IsPrimary s u → IsSuffixes must_call (start w) s t v → w ≡ u ++ v
        → IsPostfix must_call t w

  -- the operand s, whose first token is at the place, becomes t
  pub data IsSuffixes : Bool → Place → Tree → Tree → Items → Type 0 where
    suffixes_end : {must_call : Bool} {begin : Place} {t : Tree} → may_end must_call t ≡ true → IsSuffixes must_call begin t t []
    suffixes_next : {must_call : Bool} {begin : Place} {s t : Tree} {w : Items} (x : Suffix) (u v : Items) → IsSuffix x u
        → IsSuffixes must_call begin (put begin s x) t v → w ≡ u ++ v → IsSuffixes must_call begin s t w

  pub data IsSuffix : Suffix → Items → Type 0 where
    by_args : {ps : Props} {w : Items} (x : Item) (i u : Items) → IsTok (is_symbol symbol.OpenParen) x i → IsProps arguments ps u → w ≡ i ++ u
        → IsSuffix (args ps) w
    by_dot : {w : Items} (x y : Item) (i j : Items) → IsTok (is_symbol symbol.Dot) x i → IsTok is_name y j → w ≡ i ++ j
        → IsSuffix (dot (label y)) w
    by_bracket : {e : Tree} {w : Items} (x y : Item) (i u j : Items) → IsTok (is_symbol symbol.OpenBracket) x i → IsExpr e u
        → IsTok (is_symbol symbol.CloseBracket) y j → w ≡ i ++ (u ++ j) → IsSuffix (bracket x.place e) w

  -- primary = int | span | time | text | pattern | name | "(" expr ")" | array | rec
  pub data IsPrimary : Tree → Items → Type 0 where
    a_literal : {w : Items} (x : Item) → IsTok is_literal x w → IsPrimary (literal x) w
    a_text : {ps : Parts} {w : Items} (x : Item) (i u : Items) → IsTok is_head x i → IsHoles ps u → w ≡ i ++ u
        → IsPrimary (tree x.place (text (piece (label x) ps))) w
    a_paren : {e : Tree} {w : Items} (x y : Item) (i u j : Items) → IsTok (is_symbol symbol.OpenParen) x i → IsExpr e u
        → IsTok (is_symbol symbol.CloseParen) y j → w ≡ i ++ (u ++ j) → IsPrimary (tree x.place (paren e)) w
    an_array : {es : Trees} {w : Items} (x : Item) (i u : Items) → IsTok (is_symbol symbol.OpenBracket) x i → IsElements es u → w ≡ i ++ u
        → IsPrimary (tree x.place (array es)) w
    a_record : {base : Option (List ℕ)} {ps : Props} {w : Items} (x : Item) (i u : Items) → IsTok (is_symbol symbol.OpenBrace) x i
        → IsRecord base ps u → w ≡ i ++ u → IsPrimary (tree x.place (rec base ps)) w

  -- text = plain | head expr { mid expr } tail: what stands after the head
  pub data IsHoles : Parts → Items → Type 0 where
    holes_end : {e : Tree} {w : Items} (y : Item) (u j : Items) → IsExpr e u → IsTok is_tail y j → w ≡ u ++ j
        → IsHoles (hole e (piece (label y) no_parts)) w
    holes_next : {e : Tree} {ps : Parts} {w : Items} (y : Item) (u j v : Items) → IsExpr e u → IsTok is_mid y j → IsHoles ps v → w ≡ u ++ (j ++ v)
        → IsHoles (hole e (piece (label y) ps)) w

  -- array = "[" [ expr { "," expr } [ "," ] ] "]": what stands after the `[`
  pub data IsElements : Trees → Items → Type 0 where
    elements_end : {w : Items} (x : Item) → IsTok (is_symbol symbol.CloseBracket) x w → IsElements no_trees w
    elements_next : {e : Tree} {es : Trees} {w : Items} (u v : Items) → IsExpr e u → IsMoreElements es v → w ≡ u ++ v
        → IsElements (more_trees e es) w

  pub data IsMoreElements : Trees → Items → Type 0 where
    element_last : {w : Items} (x : Item) → IsTok (is_symbol symbol.CloseBracket) x w → IsMoreElements no_trees w
    element_comma : {es : Trees} {w : Items} (x : Item) (i u : Items) → IsTok (is_symbol symbol.Comma) x i → IsElements es u → w ≡ i ++ u
        → IsMoreElements es w

  -- rec = "{" [ props ] "}" | "{" name "with" props "}": what stands after the `{`
  pub data IsRecord : Option (List ℕ) → Props → Items → Type 0 where
    whole_record : {ps : Props} {w : Items} → IsProps properties ps w → IsRecord None ps w
    changed_record : {ps : Props} {w : Items} (x y : Item) (i j u : Items) → IsTok is_name x i → IsTok is_with y j → IsSomeProps properties ps u
        → w ≡ i ++ (j ++ u) → IsRecord (Some (label x)) ps w

  -- arguments or properties, with what closes them
  pub data IsProps : Group → Props → Items → Type 0 where
    props_end : {g : Group} {w : Items} (x : Item) → IsTok (closer g) x w → IsProps g no_props w
    props_some : {g : Group} {ps : Props} {w : Items} → IsSomeProps g ps w → IsProps g ps w

  -- arg = name [ ":" expr ], prop = ( name | plain ) ":" expr | name
  pub data IsSomeProps : Group → Props → Items → Type 0 where
    props_next : {g : Group} {e : Tree} {ps : Props} {w : Items} (x : Item) (i u v : Items) → IsTok (labels g) x i → IsValue x e u
        → IsMoreProps g ps v → w ≡ i ++ (u ++ v) → IsSomeProps g (more_props (label x) e ps) w

  pub data IsMoreProps : Group → Props → Items → Type 0 where
    prop_last : {g : Group} {w : Items} (x : Item) → IsTok (closer g) x w → IsMoreProps g no_props w
    prop_comma : {g : Group} {ps : Props} {w : Items} (x : Item) (i u : Items) → IsTok (is_symbol symbol.Comma) x i → IsProps g ps u → w ≡ i ++ u
        → IsMoreProps g ps w

  -- what stands after a label; a name by itself is its own value
  pub data IsValue : Item → Tree → Items → Type 0 where
    short_value : {x : Item} → is_name x ≡ true → IsValue x (named x) []
    given_value : {x : Item} {e : Tree} {w : Items} (y : Item) (i u : Items) → IsTok (is_symbol symbol.Colon) y i → IsExpr e u → w ≡ i ++ u
        → IsValue x e w

-- ---- statements

-- statement = name "=" expr | "option" "task" "=" expr | expr
pub data IsStatement : StatementTree → Items → Type 0 where
  an_assignment : {e : Tree} {w : Items} (x y : Item) (i j u : Items) → IsTok is_name x i → IsTok (is_symbol symbol.Assign) y j → IsExpr e u
      → w ≡ i ++ (j ++ u) → IsStatement (record { place = x.place; form = assign (label x) e }) w
  an_option : {e : Tree} {w : Items} (x y z : Item) (i j k u : Items) → IsTok (is_word word.Option) x i → IsTok is_task y j
      → IsTok (is_symbol symbol.Assign) z k → IsExpr e u → w ≡ i ++ (j ++ (k ++ u))
      → IsStatement (record { place = x.place; form = task e }) w
  an_expression : {e : Tree} {w : Items} → IsExpr e w → IsStatement (record { place = start w; form = show e }) w

-- what a statement that follows another doesn't begin with
abbrev pub joining : List Sort
joining = a_symbol symbol.OpenParen ∷ a_symbol symbol.OpenBracket ∷ a_symbol symbol.Plus ∷ a_symbol symbol.Minus ∷ []

abbrev pub joins : Item → Bool
joins = one_of joining

pub data IsStatements : List StatementTree → Items → Type 0 where
  statements_end : IsStatements [] []
  statements_next : {s : StatementTree} {ss : List StatementTree} {w : Items} (u v : Items) → IsStatement s u → passes joins (first v) ≡ false
      → IsStatements ss v → w ≡ u ++ v → IsStatements (s ∷ ss) w

-- import = "import" [ name ] plain
pub data IsImport : StatementTree → Items → Type 0 where
  import_bare : {w : Items} (x y : Item) (i j : Items) → IsTok (is_word word.Import) x i → IsTok is_plain y j → w ≡ i ++ j
      → IsImport (record { place = x.place; form = import None (label y) }) w
  import_as : {w : Items} (x y z : Item) (i j k : Items) → IsTok (is_word word.Import) x i → IsTok is_name y j → IsTok is_plain z k
      → w ≡ i ++ (j ++ k) → IsImport (record { place = x.place; form = import (Some (label y)) (label z) }) w

-- imports, and then statements
pub data IsImports : List StatementTree → Items → Type 0 where
  imports_end : {ss : List StatementTree} {w : Items} → IsStatements ss w → IsImports ss w
  imports_next : {s : StatementTree} {ss : List StatementTree} {w : Items} (u v : Items) → IsImport s u → IsImports ss v → w ≡ u ++ v
      → IsImports (s ∷ ss) w

-- script = [ "package" name ] { import } { statement }
pub data IsScript : ScriptTree → Items → Type 0 where
  no_package : {ss : List StatementTree} {w : Items} → IsImports ss w → IsScript (record { package_name = None; statements = ss }) w
  a_package : {ss : List StatementTree} {w : Items} (x y : Item) (i j u : Items) → IsTok (is_word word.Package) x i → IsTok is_name y j
      → IsImports ss u → w ≡ i ++ (j ++ u) → IsScript (record { package_name = Some (label y); statements = ss }) w

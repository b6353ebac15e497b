-- Trees as plain data: what the grammar, the typing rules and the meaning of expressions speak of.
use Rattle.std.specs.Prelude.{ℕ, ℤ, List, Option}
use Rattle.fx_base.specs.declared.place.Place.{Place}
use Rattle.fx_time.specs.declared.span.Span.{Span}
use Rattle.fx_ast.specs.declared.expr.Infix.{Infix}
use Rattle.fx_ast.specs.declared.expr.Prefix.{Prefix}

mutual
  -- an expression and its place
  pub data Tree : Type 0 where
    tree : (place : Place) → (shape : Shape) → Tree

  pub data Shape : Type 0 where
    int : (value : ℤ) → Shape
    time : (nanoseconds : ℤ) → Shape
    span : (value : Span) → Shape
    text : (parts : Parts) → Shape
    pattern : (text : List ℕ) → Shape
    name : (label : List ℕ) → Shape
    paren : (inner : Tree) → Shape
    array : (items : Trees) → Shape
    rec : (base : Option (List ℕ)) → (props : Props) → Shape
    fun : (params : Params) → (lets : Props) → (result : Tree) → Shape
    call : (callee : Tree) → (args : Props) → Shape
    pipe : (first : Tree) → (calls : Trees) → Shape
    member : (of : Tree) → (label : List ℕ) → Shape
    index : (of at : Tree) → Shape
    chain : (first : Tree) → (rest : Links) → Shape
    prefix : (sign : Prefix) → (of : Tree) → Shape
    if_then : (test yes no : Tree) → Shape

  pub data Trees : Type 0 where
    no_trees : Trees
    more_trees : (first : Tree) → (rest : Trees) → Trees

  -- the parts of a text: pieces, and holes with an expression
  pub data Parts : Type 0 where
    no_parts : Parts
    piece : (text : List ℕ) → (rest : Parts) → Parts
    hole : (inner : Tree) → (rest : Parts) → Parts

  -- labels with expressions: properties, arguments, assignments
  pub data Props : Type 0 where
    no_props : Props
    more_props : (label : List ℕ) → (value : Tree) → (rest : Props) → Props

  -- parameters, in order
  pub data Params : Type 0 where
    no_params : Params
    more_params : (label : List ℕ) → (default : Default) → (rest : Params) → Params

  -- how a parameter gets its value where a call doesn't give one by its label
  pub data Default : Type 0 where
    required : Default
    by_pipe : Default
    by_value : (value : Tree) → Default

  -- operators with their places and right operands
  pub data Links : Type 0 where
    no_links : Links
    more_links : (place : Place) → (op : Infix) → (right : Tree) → (rest : Links) → Links

pub data StatementForm : Type 0 where
  import : (alias : Option (List ℕ)) → (path : List ℕ) → StatementForm
  assign : (label : List ℕ) → (value : Tree) → StatementForm
  task : (value : Tree) → StatementForm
  show : (value : Tree) → StatementForm

pub record StatementTree : Type 0 where
  pub place : Place
  pub form : StatementForm

pub record ScriptTree : Type 0 where
  pub package_name : Option (List ℕ)
  pub statements : List StatementTree

-- Terms as plain data: what contracts speak of.
use Rattle.std.specs.Prelude.{ℕ, List}

abbrev pub Label : Type 0
Label = List ℕ

mutual
  pub data Term : Type 0 where
    bool : Term
    int : Term
    text : Term
    time : Term
    span : Term
    pattern : Term
    done : Term
    type_variable : (number : ℕ) → Term
    array : (element : Term) → Term
    fun : (required : Labels) → (pipe : Pipe) → (result : Term) → Term
    rec : (fields : Fields) → (rest : Tail) → Term
    stream : (fields : Fields) → (rest : Tail) → Term

  -- labels with terms, in order
  pub data Labels : Type 0 where
    no_labels : Labels
    more_labels : (label : Label) → (type : Term) → (rest : Labels) → Labels

  -- what a function takes from a pipe
  pub data Pipe : Type 0 where
    no_pipe : Pipe
    by_pipe : (type : Term) → Pipe

  pub data Field : Type 0 where
    absent : Field
    is : (type : Term) → Field
    field_variable : (number : ℕ) → Field

  -- labels with fields, in order
  pub data Fields : Type 0 where
    no_fields : Fields
    more_fields : (label : Label) → (field : Field) → (rest : Fields) → Fields

  -- what a row has at the labels that it doesn't list
  pub data Tail : Type 0 where
    default : (field : Field) → Tail
    row_variable : (number : ℕ) → Tail

pub record Function : Type 0 where
  pub required : Labels
  pub pipe : Pipe
  pub result : Term

pub record Row : Type 0 where
  pub fields : Fields
  pub rest : Tail

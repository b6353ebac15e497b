-- A function of rows: its call on one row or two, and the answer that operators read.
use Rattle.std.specs.Prelude.{ℕ, Bool, true, false, List, [], ◌∷◌, Option, None, Some, pos, if◌then◌else◌}
use Rattle.std.specs.FinMap.{FinMap, empty, entries, insert}
use Rattle.std.specs.Ordering.{is_gt}
use Rattle.fx_ast.specs.Tree.{Params, no_params, more_params, required, by_pipe, by_value}
use Rattle.fx_base.specs.Text.{text_cmp}
use Rattle.fx_base.specs.declared.place.Place.{Place}
use Rattle.fx_value.specs.Ends.{End, Gives, Stuck, and_then, cut}
use Rattle.fx_value.specs.declared.answer.Answer.{Answer}
use Rattle.fx_value.specs.declared.answer.Answer.TheVariants.{Cell, Line}
use Rattle.fx_value.specs.declared.scalar.Scalar.{Scalar}
use Rattle.fx_meaning.specs.Ends.{◌>>=◌, pure}
use Rattle.fx_meaning.specs.Forms.{cell_in}
use Rattle.fx_meaning.specs.Meaning.{Calls, Tests, applied_to, nested}
use Rattle.fx_meaning.specs.Value.{Label, Val, cell, rec, closure, Slots, no_slots, more_slots, look, is_there}

abbrev pub Row : Type 0
Row = FinMap text_cmp Scalar

abbrev pub fields_of : List (Label × Scalar) → Slots
fields_of [] = no_slots
fields_of (e ∷ es) = more_slots e.0 (cell e.1) (fields_of es)

-- the record of a row
abbrev pub record_of : Row → Val
record_of row = rec (fields_of (entries row))

-- the labels of the parameters without a default, in their order
abbrev pub due : Params → List Label
due no_params = []
due (more_params x required ps) = x ∷ due ps
due (more_params x by_pipe ps) = x ∷ due ps
due (more_params x (by_value e) ps) = due ps

abbrev pub pair_of : Label → Label → Row → Row → Slots
pair_of x y first second = more_slots x (record_of first) (more_slots y (record_of second) no_slots)

-- one row goes to the one label; of two rows the first goes to the label that comes first by bytes
abbrev pub arguments : List Label → List Row → Option Slots
arguments (x ∷ []) (row ∷ []) = Some (more_slots x (record_of row) no_slots)
arguments (x ∷ y ∷ []) (first ∷ second ∷ []) = Some (if is_gt (text_cmp x y) then pair_of y x first second else pair_of x y first second)
arguments _ _ = None

-- a record of scalars as a row, behind what stands already; of several values of a label only the last is looked at
abbrev pub row_from : Row → Slots → End Row
row_from row no_slots = pure row
row_from row (more_slots x v fields) = if is_there (look x fields) then row_from row fields else (cell_in v >>= (λ a. row_from (insert row x a) fields))

-- a scalar, or a record of scalars
abbrev pub answer_of : Val → End Answer
answer_of (cell a) = pure (Cell a)
answer_of (rec fields) = do
  row ← row_from empty fields
  pure (Line row)
answer_of _ = Stuck

abbrev pub nowhere : Place
nowhere = record { at = 0 }

module _ (calls : Calls) (v : Val) where
  abbrev pub called_with : Option Slots → End Val
  called_with None = Stuck
  called_with (Some args) = applied_to calls nowhere (pos 0) args v

  abbrev pub row_called : Params → List Row → End Answer
  row_called ps rows = called_with (arguments (due ps) rows) >>= answer_of

-- how a function literal with its captured values ends on rows, under a limit on ticks
abbrev pub row_meaning : Tests → Val → List Row → ℕ → End Answer
row_meaning test (closure ps lets e captured setting) rows limit =
    cut limit (row_called (nested test limit) (closure ps lets e captured setting) ps rows)
row_meaning test _ rows limit = Stuck

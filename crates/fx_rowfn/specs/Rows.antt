-- Rows as arguments of a function literal, and its call on them.
use Rattle.std.specs.Prelude.{ℕ, Bool, true, false, List, [], ◌∷◌, Option, None, Some, map, if◌then◌else◌}
use Rattle.std.specs.FinMap.{get, insert}
use Rattle.fx_ast.specs.Tree.{Default, required, by_pipe, by_value}
use Rattle.fx_value.specs.Ends.{End, cut}
use Rattle.fx_value.specs.declared.answer.Answer.{Answer}
use Rattle.fx_value.specs.declared.scalar.Scalar.{Scalar}
use Rattle.fx_meaning.specs.Ends.{◌>>=◌, pure}
use Rattle.fx_meaning.specs.Forms.{cell_in}
use Rattle.fx_meaning.specs.Meaning.{Tests, entered, nested}
use Rattle.fx_meaning.specs.Rows.{Row, answer_of, called_with}
use Rattle.fx_meaning.specs.Value.{Label, Slots, Val, cell, is_there, look}
use Rattle.fx_values.specs.Shape.{OfClosure, OfSlot, closure_val, slot, slots_of}
use Rattle.fx_values.specs.declared.value.Slot.{Slot}

-- the parameter has an argument in each call
abbrev pub is_due : Default → Bool
is_due required = true
is_due by_pipe = true
is_due (by_value e) = false

abbrev pub field_of : Label → Option Scalar → List OfSlot
field_of x None = []
field_of x (Some a) = record { label = x; value = cell a } ∷ []

-- the field of a row at a label
abbrev pub field_at : Row → Label → List OfSlot
field_at row x = field_of x (get row x)

-- a row with a field more, unless one behind the field has its label
abbrev pub with_field : Row → Label → Val → Slots → End Row
with_field row x v behind = if is_there (look x behind) then pure row else (cell_in v >>= (λ a. pure (insert row x a)))

abbrev pub args_in : Option (List Slot) → Option Slots
args_in None = None
args_in (Some args) = Some (slots_of (map slot args))

-- the literal's call with arguments that it takes
abbrev pub call_work : Tests → OfClosure → Slots → ℕ → End Val
call_work test c args limit = nested test limit c.params c.lets c.result c.captured c.setting args

-- what is left of it behind its tick
abbrev pub body_work : Tests → OfClosure → Slots → ℕ → End Val
body_work test c args limit = entered test (nested test limit) c.setting c.params c.lets c.result c.captured args

-- what the call gives as a function of rows, under a limit
abbrev pub row_cut : Tests → OfClosure → Slots → ℕ → End Answer
row_cut test c args limit = cut limit (call_work test c args limit >>= answer_of)

-- the same for arguments that the literal may not take, where there are some
abbrev pub row_called : Tests → OfClosure → Option Slots → ℕ → End Answer
row_called test c args limit = cut limit (called_with (nested test limit) (closure_val c) args >>= answer_of)

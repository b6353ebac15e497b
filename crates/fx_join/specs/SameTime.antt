-- Pairs of rows that have one time.
use Rattle.std.specs.Prelude.{ℕ, ℤ, List, [], ◌∷◌, Option, None, Some, codes}
use Rattle.std.specs.FinMap.{get}
use Rattle.std.specs.Ordering.{is_eq, int_cmp}
use Rattle.fx_data.specs.declared.table.Table.{Table}
use Rattle.fx_group.specs.Answer.{Row, Meaning}
use Rattle.fx_join.specs.Joined.{joined}
use Rattle.fx_join.specs.declared.side.Side.{Side}
use Rattle.fx_value.specs.declared.answer.Answer.{Answer}
use Rattle.fx_value.specs.declared.answer.Answer.TheVariants.{Cell}
use Rattle.fx_value.specs.declared.scalar.Scalar.{Scalar}
use Rattle.fx_value.specs.declared.scalar.Scalar.TheVariants.{Null, Bool, Time}
use Rattle.fx_value.specs.Ends.{End, Gives, Stuck, and_then}

-- a time for itself; null and a missing column for none, and no other kind is taken
abbrev pub time_of : Option Scalar → End (Option ℤ)
time_of (Some (Time t)) = Gives (Some t) 0
time_of (Some Null) = Gives None 0
time_of None = Gives None 0
time_of value = Stuck

-- whether two times are the same, null where one of them isn't there
abbrev pub same_time : Option ℤ → Option ℤ → Scalar
same_time (Some a) (Some b) = Bool (is_eq (int_cmp a b))
same_time a b = Null

abbrev pub told_time : List ℕ → Row → Row → End Answer
told_time label l r = and_then (time_of (get l label)) (λ a. and_then (time_of (get r label)) (λ b. Gives (Cell (same_time a b)) 0))

-- the meaning of the equality of a column of two rows, as times; it takes no ticks
abbrev pub same_times : List ℕ → Meaning
same_times label (l ∷ r ∷ []) limit = told_time label l r
same_times label rows limit = Stuck

-- `join.time`: a join by the times of the rows
abbrev pub joined_by_time : Meaning → Side → List Table → List Table → ℕ → End (List Table)
joined_by_time both side lefts rights limit = joined (same_times (codes "_time")) both side lefts rights limit

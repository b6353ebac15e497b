-- The row of a table that a selector chooses.
use Rattle.std.specs.Prelude.{ℕ, Bool, true, false, List, [], ◌∷◌, map, Option, None, Some, option_to_list, if◌then◌else◌}
use Rattle.std.specs.FinMap.{get}
use Rattle.std.specs.Ordering.{is_le, is_ge}
use Rattle.fx_value.specs.declared.scalar.Scalar.{Scalar}
use Rattle.fx_value.specs.declared.scalar.Scalar.TheVariants.{Null}
use Rattle.fx_value.specs.Scalar.{scalar_cmp}
use Rattle.fx_agg.specs.declared.agg.Agg.{Agg}
use Rattle.fx_agg.specs.declared.agg.Agg.TheVariants.{Min, Max, First}
use Rattle.fx_group.specs.Answer.{Row}

-- a row that can be chosen, behind its value
abbrev pub Candidate : Type 0
Candidate = Scalar × Row

-- only a row whose value isn't null can be chosen
abbrev pub candidate_by : Option Scalar → Row → Option Candidate
candidate_by None row = None
candidate_by (Some Null) row = None
candidate_by (Some value) row = Some (value, row)

abbrev pub candidate : List ℕ → Row → Option Candidate
candidate column row = candidate_by (get row column) row

-- whether a row with the first value is chosen before a later one with the second: the first of the least, the first of
-- the greatest, the first of all, and else the last of all
abbrev pub stays : Agg → Scalar → Scalar → Bool
stays Min earlier later = is_le (scalar_cmp earlier later)
stays Max earlier later = is_ge (scalar_cmp earlier later)
stays First earlier later = true
stays which earlier later = false

abbrev pub better : (Scalar → Scalar → Bool) → Option Candidate → Option Candidate → Option Candidate
better keeps None later = later
better keeps (Some a) None = Some a
better keeps (Some a) (Some b) = Some (if keeps a.0 b.0 then a else b)

-- whether there is a row that is chosen before a later one with the value
abbrev pub is_kept : (Scalar → Scalar → Bool) → Option Candidate → Scalar → Bool
is_kept keeps None value = false
is_kept keeps (Some a) value = keeps a.0 value

abbrev pub best : (Scalar → Scalar → Bool) → List ℕ → List Row → Option Candidate
best keeps column [] = None
best keeps column (row ∷ rows) = better keeps (candidate column row) (best keeps column rows)

-- the chosen row, or none
abbrev pub chosen : Agg → List ℕ → List Row → List Row
chosen which column rows = map (λ c. c.1) (option_to_list (best (stays which) column rows))

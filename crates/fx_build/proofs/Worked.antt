-- Values that fit, and values that don't; and runs of scripts with a typing.
use Rattle.std.proofs.Common.{◌≡◌, refl, Bool, true, false, List, [], ℕ, None, pos, IsTrue}
use Rattle.std.specs.Prelude.{if◌then◌else◌, codes}
use mathlib.Core.Bool.{false≢true}
use Rattle.fx_base.specs.Text.{same_text}
use Rattle.fx_value.specs.Ends.{End, Gives, More}
use Rattle.fx_value.specs.declared.scalar.Scalar.TheVariants as scalar
use Rattle.fx_types.specs.Term.{Label}
use Rattle.fx_types.specs.Ground.{Ground, GroundRow, g_array, g_int, g_rec, g_absent, g_is}
use Rattle.fx_ops.specs.Whole.{in_64_bits}
use Rattle.fx_data.specs.declared.table.Table.{Table}
use Rattle.fx_infer.proofs.Worked.{a_literal_is_a_value, another_type_at_each_use, caller_script, identity_script}
use Rattle.fx_schemes.specs.Line.{put}
use Rattle.fx_meaning.specs.declared.setting.Setting.{Setting}
use Rattle.fx_meaning.specs.Meaning.{Tests}
use Rattle.fx_meaning.specs.Value.{Stream, cell, rec, no_slots, more_slots}
use Rattle.fx_build.specs.Fit.{fits, FieldFits, keeps_at}
use Rattle.fx_build.specs.Rows.{TablesFit}
use Rattle.fx_build.specs.Run.{script_run}
use Rattle.fx_build.specs.Sound.{RunFits, ShowsSafely}
use Rattle.fx_build.proofs.RunLaws.{script_safe}

abbrev row_of : Ground → GroundRow
row_of t = put (codes "a") t (λ l. g_absent)

-- `{}` against a row with the integer `a`: a column that isn't there reads as null

field_missing : (c : Bool) (l : Label) → FieldFits None (keeps_at no_slots l) (if c then g_is g_int else g_absent)
field_missing true l = refl
field_missing false l = refl

pub a_missing_column_fits : fits (rec no_slots) (g_rec (row_of g_int))
a_missing_column_fits l = field_missing (same_text l (codes "a")) l

-- against a row with the array `a`: arrays are never null
pub a_missing_array_does_not : fits (rec no_slots) (g_rec (row_of (g_array g_int))) → ⊥
a_missing_array_does_not h = false≢true (h (codes "a"))

-- `{a: "s"}` against the integer `a`, and against a row without `a`

pub another_kind_does_not : fits (rec (more_slots (codes "a") (cell (scalar.Text (codes "s"))) no_slots)) (g_rec (row_of g_int)) → ⊥
another_kind_does_not h = false≢true (h (codes "a"))

pub an_absent_label_is_not_there : fits (rec (more_slots (codes "a") (cell (scalar.Int (pos 1))) no_slots)) (g_rec (λ l. g_absent)) → ⊥
an_absent_label_is_not_there h = (let there = h (codes "a") in cc)

-- ---- runs of scripts whose typing is given by hand: what the laws ask can be met

-- no script here shows a stream, so any tables will do
abbrev no_tables : Stream → ℕ → End (List Table)
no_tables call limit = Gives [] 0

shows_nothing : ShowsSafely TablesFit no_tables
shows_nothing call r limit fit = tt

module _ (test : Tests) (setting : Setting) (moment : IsTrue (in_64_bits setting.moment)) where
  -- `f = (x) => x`, `a = f(x: 1)`, `b = f(x: "s")`

  pub identity_runs : (limit : ℕ) → RunFits TablesFit identity_script [] (script_run test setting no_tables identity_script limit)
  identity_runs limit =
      script_safe TablesFit test setting no_tables identity_script limit another_type_at_each_use (record { moment = moment; patterns = λ place h. absurd (false≢true h) }) shows_nothing

  pub identity_ends : (script_run test setting no_tables identity_script 2).end ≡ Gives tt 2
  identity_ends = refl

  -- `f = (g) => g(x: 1)`, `b = f(g: (x, y=2) => x + y)`

  pub caller_runs : (limit : ℕ) → RunFits TablesFit caller_script [] (script_run test setting no_tables caller_script limit)
  caller_runs limit =
      script_safe TablesFit test setting no_tables caller_script limit a_literal_is_a_value (record { moment = moment; patterns = λ place h. absurd (false≢true h) }) shows_nothing

  -- a call takes one tick, and where there are fewer the run is cut off

  pub caller_ends : (script_run test setting no_tables caller_script 2).end ≡ Gives tt 2
  caller_ends = refl

  pub caller_is_cut : (script_run test setting no_tables caller_script 1).end ≡ More
  caller_is_cut = refl

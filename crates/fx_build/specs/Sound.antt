-- What the run of a script with a typing is to give.
use Rattle.std.specs.Prelude.{◌≡◌, true, ◌<◌, ◌^◌, ◌||◌, ℕ, Bool, false, List, [], ◌∷◌, Some, IsTrue}
use Rattle.std.specs.List.{AllByRecursion}
use Rattle.fx_base.specs.declared.place.Place.{Place}
use Rattle.fx_value.specs.Ends.{End}
use Rattle.fx_ops.specs.Whole.{in_64_bits}
use Rattle.fx_types.specs.Ground.{Ground, GroundRow, g_stream}
use Rattle.fx_ast.specs.Free.{Need, pattern_at, free, is_named, unless}
use Rattle.fx_ast.specs.Tree.{Tree, StatementForm, import, assign, task, show, StatementTree}
use Rattle.fx_meaning.specs.declared.setting.Setting.{Setting}
use Rattle.fx_meaning.specs.Meaning.{numbered}
use Rattle.fx_meaning.specs.Value.{Val, Stream}
use Rattle.fx_infer.specs.Environment.{Env, HasType}
use Rattle.fx_infer.specs.Script.{after, import_name}
use Rattle.fx_build.specs.Fit.{fits, stream_fits}
use Rattle.fx_build.specs.Run.{Run, Yield}
use Rattle.fx_build.specs.Safe.{IsSafe}

-- the value fits each type of the expression
abbrev pub FitsAll : Env → Tree → Val → Type 0
FitsAll env e v = (t : Ground) → HasType env e t → fits v t

-- of the values, the first is the expression's, and Rest says so of those behind it; there is none where the run ended before
abbrev pub FirstFits : Env → Tree → (List Val → Type 0) → List Val → Type 0
FirstFits env e Rest [] = Unit {0}
FirstFits env e Rest (v ∷ vs) = FitsAll env e v × Rest vs

abbrev pub StatementFits : StatementForm → Env → (List Val → Type 0) → List Val → Type 0
StatementFits (assign x e) env Rest vs = FirstFits env e Rest vs
StatementFits (show e) env Rest vs = FirstFits env e Rest vs
StatementFits _ env Rest vs = Rest vs

-- the values are those of the first assignments and expressions, each with all types that the typing gives it
abbrev pub ValuesFit : List StatementTree → Env → List Val → Type 0
ValuesFit [] env vs = vs ≡ []
ValuesFit (s ∷ ss) env vs = StatementFits s.form env (ValuesFit ss (after s.form env)) vs

-- the stream that is shown fits a type, and its tables are as Fit says of each row of types that it fits
abbrev pub YieldFits : {T : Type 0} → (GroundRow → T → Type 0) → Yield T → Type 0
YieldFits Fit y = ((r : GroundRow) × stream_fits y.call (g_stream r)) × ((r : GroundRow) → stream_fits y.call (g_stream r) → Fit r y.tables)

-- the run isn't stuck, and what it gives and shows fits
pub record RunFits {T : Type 0} (Fit : GroundRow → T → Type 0) (ss : List StatementTree) (env : Env) (run : Run T) : Type 0 where
  pub end : IsSafe (λ u. Unit {0}) run.end
  pub values : ValuesFit ss env run.values
  pub yields : AllByRecursion (YieldFits Fit) run.yields

-- yields of streams that fit aren't stuck, and their tables are as Fit says of each row of types that the stream fits
abbrev pub ShowsSafely : {T : Type 0} → (GroundRow → T → Type 0) → (Stream → ℕ → End T) → Type 0
ShowsSafely Fit tables = (call : Stream) (r : GroundRow) (limit : ℕ) → stream_fits call (g_stream r) → IsSafe (Fit r) (tables call limit)

-- ---- what a script needs of its setting

abbrev pub needed_by : StatementForm → (Need → Bool) → Need → Bool
needed_by (import alias path) later n = unless (is_named (import_name alias path) n) (later n)
needed_by (assign x e) later n = free e n || unless (is_named x n) (later n)
needed_by (task e) later n = later n
needed_by (show e) later n = free e n || later n

-- names and patterns that the statements need
abbrev pub needed : List StatementTree → Need → Bool
needed [] n = false
needed (s ∷ ss) n = needed_by s.form (needed ss) n

-- the moment lies in 64 bits, and each pattern of the statements has its number
pub record IsSettingOf (setting : Setting) (ss : List StatementTree) : Type 0 where
  pub moment : IsTrue (in_64_bits setting.moment)
  pub patterns : (place : Place) → needed ss (pattern_at place) ≡ true → (number : ℕ) × (numbered setting.patterns place ≡ Some number) × (number < 2 ^ 32)

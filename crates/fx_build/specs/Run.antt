-- The run of a script: what its statements give and what it shows, one after another, and then its end.
use Rattle.std.specs.Prelude.{ℕ, ◌-◌, List, [], ◌∷◌, Option, None, Some, codes, if◌then◌else◌}
use Rattle.fx_base.specs.Text.{same_text}
use Rattle.fx_base.specs.declared.fault.FaultKind.TheVariants.{DuplicateYield, NullArgument}
use Rattle.fx_base.specs.declared.place.Place.{Place}
use Rattle.fx_value.specs.Ends.{End, Gives, Faults, Stuck, More, later, cut}
use Rattle.fx_value.specs.declared.scalar.Scalar.{Scalar}
use Rattle.fx_value.specs.declared.scalar.Scalar.TheVariants as scalar
use Rattle.fx_types.specs.Term.{Label}
use Rattle.fx_types.specs.Ground.{listed}
use Rattle.fx_ast.specs.Tree.{StatementForm, import, assign, task, show, StatementTree}
use Rattle.fx_meaning.specs.declared.package.Package.{Package}
use Rattle.fx_meaning.specs.declared.package.Package.TheVariants as p
use Rattle.fx_meaning.specs.declared.setting.Setting.{Setting}
use Rattle.fx_meaning.specs.Ends.{fault_at}
use Rattle.fx_meaning.specs.Meaning.{Tests, meaning}
use Rattle.fx_meaning.specs.Native.{path_of}
use Rattle.fx_meaning.specs.Value.{Val, in_package, stream, shown, Slots, no_slots, push, Stream}
use Rattle.fx_infer.specs.Script.{import_name}

-- a stream that is shown, under its name, with its tables
pub record Yield (T : Type 0) : Type 0 where
  pub name : Label
  pub call : Stream
  pub tables : T

-- the values are those of the assignments and expressions, as far as they were evaluated. The end is a value where all
-- statements were, with the ticks of all
pub record Run (T : Type 0) : Type 0 where
  pub values : List Val
  pub yields : List (Yield T)
  pub end : End (Unit {0})

abbrev pub ended : {T : Type 0} → End (Unit {0}) → Run T
ended end = record { values = []; yields = []; end = end }

-- ticks before the run's own
abbrev pub spent : {T : Type 0} → ℕ → Run T → Run T
spent ticks run = record { values = run.values; yields = run.yields; end = later ticks run.end }

-- a yield before the run's own
abbrev pub shows : {T : Type 0} → Yield T → Run T → Run T
shows first run = record { values = run.values; yields = first ∷ run.yields; end = run.end }

-- a value before the run's own
abbrev pub gives : {T : Type 0} → Val → Run T → Run T
gives v run = record { values = v ∷ run.values; yields = run.yields; end = run.end }

-- what follows an end, with what that leaves of the limit
abbrev pub go_on : {A T : Type 0} → ℕ → End A → (A → ℕ → Run T) → Run T
go_on limit (Gives value ticks) next = spent ticks (next value (limit - ticks))
go_on limit (Faults fault ticks) next = ended (Faults fault ticks)
go_on limit Stuck next = ended Stuck
go_on limit More next = ended More

abbrev pub package_among : Label → List Package → Option Package
package_among path [] = None
package_among path (x ∷ xs) = if same_text path (path_of x) then Some x else package_among path xs

-- the package with the path
abbrev pub package_at : Label → Option Package
package_at path = package_among path (p.Array ∷ p.Date ∷ p.Join ∷ p.Series ∷ p.Strings ∷ [])

-- `tables call limit` is how a yield of the stream ends under the limit: its tables, with the ticks of the stream and of
-- the yield. Names that were shown are handed on, with what is left of the limit
module _ {T : Type 0} (test : Tests) (setting : Setting) (tables : Stream → ℕ → End T) where
  -- a name is shown once; the place is that of the statement
  abbrev pub yielded : Place → Label → Stream → List Label → ℕ → (List Label → ℕ → Run T) → Run T
  yielded place name call earlier limit next =
      if listed name earlier then ended (Faults (fault_at place DuplicateYield) 0)
      else go_on limit (cut limit (tables call limit)) (λ made left. shows (record { name = name; call = call; tables = made }) (next (name ∷ earlier) left))

  -- null is no name: a fault of the call of `yield`, after those of its input
  abbrev pub yielded_under : Place → Scalar → Place → Stream → List Label → ℕ → (List Label → ℕ → Run T) → Run T
  yielded_under place (scalar.Text name) at call earlier limit next = yielded place name call earlier limit next
  yielded_under place scalar.Null at call earlier limit next = go_on limit (cut limit (tables call limit)) (λ made left. ended (Faults (fault_at at NullArgument) 0))
  yielded_under place _ at call earlier limit next = ended Stuck

  -- a stream is shown as `_result`, and what is no stream isn't shown
  abbrev pub shown_value : Place → Val → List Label → ℕ → (List Label → ℕ → Run T) → Run T
  shown_value place (shown name at call) earlier limit next = yielded_under place name at call earlier limit next
  shown_value place (stream call) earlier limit next = yielded place (codes "_result") call earlier limit next
  shown_value place _ earlier limit next = next earlier limit

  abbrev pub imported_as : Label → Option Package → Slots → List Label → ℕ → (Slots → List Label → ℕ → Run T) → Run T
  imported_as x None env earlier limit next = ended Stuck
  imported_as x (Some package_of) env earlier limit next = next (push env x (in_package package_of)) earlier limit

  -- a statement, and what follows it in the environment that it leaves. An `option task` isn't evaluated
  abbrev pub statement_run : Place → StatementForm → Slots → List Label → ℕ → (Slots → List Label → ℕ → Run T) → Run T
  statement_run place (import alias path) env earlier limit next = imported_as (import_name alias path) (package_at path) env earlier limit next
  statement_run place (assign x e) env earlier limit next = go_on limit (meaning test setting e env limit) (λ v left. gives v (next (push env x v) earlier left))
  statement_run place (task e) env earlier limit next = next env earlier limit
  statement_run place (show e) env earlier limit next = go_on limit (meaning test setting e env limit) (λ v left. gives v (shown_value place v earlier left (next env)))

  abbrev pub statements_run : List StatementTree → Slots → List Label → ℕ → Run T
  statements_run [] env earlier limit = ended (Gives tt 0)
  statements_run (s ∷ ss) env earlier limit = statement_run s.place s.form env earlier limit (statements_run ss)

  -- the run under a limit on all ticks, each statement cut at what is left of it
  abbrev pub script_run : List StatementTree → ℕ → Run T
  script_run ss limit = statements_run ss no_slots [] limit

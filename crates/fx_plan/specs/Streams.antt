-- What streams mean over stored points: each operator makes tables of those of its inputs. A value of a stream is the
-- tree of its operators, with their arguments; here it is run.
use Rattle.std.specs.Prelude.{ℕ, ◌+◌, Bool, true, false, ◌&&◌, List, [], ◌∷◌, length, Some, if◌then◌else◌}
use Rattle.fx_base.specs.declared.place.Place.{Place}
use Rattle.fx_value.specs.Ends.{End, Gives, later, cut}
use Rattle.fx_data.specs.declared.table.Table.{Table}
use Rattle.fx_meaning.specs.declared.stream.StreamFn.{StreamFn}
use Rattle.fx_meaning.specs.declared.stream.StreamFn.TheVariants as s
use Rattle.fx_meaning.specs.Ends.{◌>>=◌, found, pure}
use Rattle.fx_meaning.specs.Meaning.{Tests}
use Rattle.fx_meaning.specs.Native.{stream_builtin}
use Rattle.fx_meaning.specs.Value.{Slots, Stream, applied, Streams, no_streams, more_streams}
use Rattle.fx_plan.specs.Operators.{operator}
use Rattle.fx_plan.specs.Said.{said_in}
use Rattle.fx_plan.specs.Sources.{Stored}

-- ---- ticks

-- the rows and the tables
abbrev pub size_of : List Table → ℕ
size_of [] = 0
size_of (t ∷ ts) = length t.rows + (1 + size_of ts)

abbrev pub sizes_of : List (List Table) → ℕ
sizes_of [] = 0
sizes_of (ts ∷ tss) = size_of ts + sizes_of tss

abbrev pub is_source : StreamFn → Bool
is_source s.From = true
is_source s.Texts = true
is_source s.Bools = true
is_source s.ArrayFrom = true
is_source _ = false

-- one, and what the operator receives, and then what it makes: its tables, and the rows too where it is a source
abbrev pub counted : StreamFn → List (List Table) → End (List Table) → End (List Table)
counted g received made = later (1 + sizes_of received) (made >>= (λ ts. Gives ts (if is_source g then size_of ts else length ts)))

module _ (test : Tests) (stored : Stored) where
  abbrev pub operator_run : StreamFn → Place → Slots → ℕ → List (List Table) → End (List Table)
  operator_run g place args limit received = do
    w ← found (said_in (Some (stream_builtin g)) args)
    counted g received (operator test stored g place w args limit received)

  -- inputs in order, then the operator; of several inputs with a fault the first wins
  abbrev mutual
    pub stream_run : Stream → ℕ → End (List Table)
    stream_run (applied g place inputs args) limit = inputs_run inputs limit >>= operator_run g place args limit

    pub inputs_run : Streams → ℕ → End (List (List Table))
    inputs_run no_streams limit = pure []
    inputs_run (more_streams call calls) limit = do
      tables ← stream_run call limit
      others ← inputs_run calls limit
      pure (tables ∷ others)

  -- the tables of a stream under a limit on ticks
  unfoldable pub stream_meaning : Stream → ℕ → End (List Table)
  stream_meaning call limit = cut limit (stream_run call limit)

  -- what a yield of the stream shows: its tables, with one tick and one for each row and table that it receives
  unfoldable pub yield_meaning : Stream → ℕ → End (List Table)
  yield_meaning call limit = cut limit (stream_run call limit >>= (λ ts. Gives ts (1 + size_of ts)))

-- ---- which operators make tables

-- all but a yield, which shows those of a stream
abbrev pub is_listed : StreamFn → Bool
is_listed s.Yield = false
is_listed _ = true

-- the stream is made of these alone
abbrev mutual
  pub all_listed : Stream → Bool
  all_listed (applied g place inputs args) = is_listed g && inputs_listed inputs

  pub inputs_listed : Streams → Bool
  inputs_listed no_streams = true
  inputs_listed (more_streams call calls) = all_listed call && inputs_listed calls

-- a yield of such a stream shows its tables, and one of any other stream nothing yet
abbrev pub shown_if : Bool → End (List Table) → End (List Table)
shown_if true shown = shown
shown_if false shown = Gives [] 0

abbrev pub listed_yield : Tests → Stored → Stream → ℕ → End (List Table)
listed_yield test stored call limit = shown_if (all_listed call) (yield_meaning test stored call limit)

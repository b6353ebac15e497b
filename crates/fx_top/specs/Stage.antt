-- What the stages of a run answer, each for the part that it sees.
use Rattle.std.specs.Prelude.{◌≡◌, ℕ, ◌+◌, ◌≤◌, List, length, take, Option, Result, Ok, Err, ◌⊎◌}
use Rattle.std.specs.declared.vec.Vec.{Vec}
use Rattle.std.specs.declared.alloc.Global.{Global}
use Rattle.fx_base.specs.Outside.{Told, Rose, appended}
use Rattle.fx_data.specs.declared.table.Table.{Table}
use Rattle.fx_line.specs.Stored.{StoredPoint}
use Rattle.fx_top.specs.declared.query.Query.{Query}
use Rattle.fx_top.specs.declared.outcome.Outcome.{Outcome}
use Rattle.fx_top.specs.declared.outcome.Outcome.TheVariants as outcome
use Rattle.fx_series.specs.Store.{Kept, StandsFor}
use Rattle.fx_load.specs.declared.loads.Load.{Load}
use Rattle.fx_load.specs.declared.loads.LoadsStop.{LoadsStop}
use Rattle.fx_load.specs.declared.loads.FileStop.TheVariants as file_stop
use Rattle.fx_load.specs.Loads.{IsTold, IsLong}
use Rattle.fx_top.specs.Answer.{NamesAt, yield_text}
use Rattle.fx_top.specs.Run.{run_of}

-- a load over files that tell their content
abbrev pub FileAnswers : Told → List ℕ → ℕ → Result (Vec ℕ Global) Outcome → Type 0
FileAnswers told name limit (Ok bytes) = IsTold told name limit bytes.items
FileAnswers told name limit (Err (outcome.FileFault n)) = n ≡ name
FileAnswers told name limit (Err (outcome.TooLong n taken)) = IsLong told name limit × (n ≡ name) × (taken ≡ limit + 1)
FileAnswers told name limit (Err outcome.Memory) = Unit {0}
FileAnswers told name limit (Err o) = ⊥

-- a load over any files
abbrev pub FileCauses : List ℕ → ℕ → ℕ → ℕ → Result (Vec ℕ Global) Outcome → Type 0
FileCauses name limit files files' (Ok bytes) = (files' ≡ files) × (length bytes.items ≤ limit)
FileCauses name limit files files' (Err (outcome.FileFault n)) = Rose files files' × (n ≡ name)
FileCauses name limit files files' (Err (outcome.TooLong n taken)) = (files' ≡ files) × (n ≡ name)
FileCauses name limit files files' (Err outcome.Memory) = Unit {0}
FileCauses name limit files files' (Err o) = ⊥

-- the causes of a run's answers by the count of the sink's faults
abbrev pub RunCauses : ℕ → ℕ → Outcome → Type 0
RunCauses out out' outcome.SinkFault = Rose out out'
RunCauses out out' outcome.Memory = Unit {0}
RunCauses out out' o = out' ≡ out

-- a query over stored points, by what was written
abbrev pub DataAnswers : Query → List (List ℕ) → List StoredPoint → Option (List ℕ) → Option (List ℕ) → Outcome → Type 0
DataAnswers q buckets stored old new outcome.Done = (tables : List Table) × (run_of q buckets stored ≡ Ok tables) × (new ≡ appended old (yield_text tables))
DataAnswers q buckets stored old new (outcome.Fault fault) = (run_of q buckets stored ≡ Err fault) × (new ≡ old)
DataAnswers q buckets stored old new outcome.SinkFault = (tables : List Table) × (n : ℕ) × (run_of q buckets stored ≡ Ok tables) × (new ≡ appended old (take n (yield_text tables)))
DataAnswers q buckets stored old new outcome.Memory = (new ≡ old) ⊎ ((tables : List Table) × (n : ℕ) × (run_of q buckets stored ≡ Ok tables) × (new ≡ appended old (take n (yield_text tables))))
DataAnswers q buckets stored old new o = ⊥

-- the answer that a load of files stopped
abbrev pub StopAnswers : LoadsStop → List Load → Outcome → Type 0
StopAnswers stop loads outcome.Memory = Unit {0}
StopAnswers stop loads (outcome.FileFault name) = (stop.stop ≡ file_stop.Failed) × NamesAt loads stop.place name
StopAnswers stop loads (outcome.TooLong name taken) = (stop.stop ≡ file_stop.TooLong taken) × NamesAt loads stop.place name
StopAnswers stop loads (outcome.Line name number cause) = (stop.stop ≡ file_stop.Line number cause) × NamesAt loads stop.place name
StopAnswers stop loads (outcome.TooMany name number) = (stop.stop ≡ file_stop.TooMany number) × NamesAt loads stop.place name
StopAnswers stop loads o = ⊥

-- a store that stands for stored points
pub record IsKept (kept : Kept) : Type 0 where
  pub buckets : List (List ℕ)
  pub stored : List StoredPoint
  pub stands : StandsFor kept buckets stored

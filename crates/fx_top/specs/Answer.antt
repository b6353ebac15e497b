-- What the answers of the top call say.
use Rattle.fx_line.specs.declared.line.LineMode.{LineMode}
use Rattle.std.specs.Prelude.{◌≡◌, ℕ, ℤ, ◌+◌, List, [], fold, take, codes, Option, Some, Ok, Err, ◌⊎◌}
use Rattle.std.specs.List.{slice_get}
use Rattle.fx_base.specs.Outside.{Told, appended, Rose}
use Rattle.fx_base.specs.declared.fault.Fault.{Fault}
use Rattle.fx_data.specs.declared.table.Table.{Table}
use Rattle.fx_line.specs.Stored.{StoredPoint}
use Rattle.fx_series.specs.Store.{with_bucket}
use Rattle.fx_csv.specs.Printed.{printed}
use Rattle.fx_load.specs.declared.loads.Load.{Load}
use Rattle.fx_load.specs.declared.loads.FileStop.{FileStop}
use Rattle.fx_load.specs.declared.loads.FileStop.TheVariants as file_stop
use Rattle.fx_load.specs.Loads.{IsTold, IsLong, FilesRead, StopsFiles}
use Rattle.fx_top.specs.declared.command.Command.{Command}
use Rattle.fx_top.specs.declared.query.Query.{Query}
use Rattle.fx_top.specs.declared.outcome.Outcome.{Outcome}
use Rattle.fx_top.specs.declared.outcome.Outcome.TheVariants as outcome
use Rattle.fx_top.specs.declared.run.TheConstants.{MOST_SCRIPT_BYTES}
use Rattle.fx_top.specs.Command.{IsCommand, mode_of}
use Rattle.fx_top.specs.Message.{line_of}
use Rattle.fx_top.specs.Run.{run_of}
use Rattle.fx_top.specs.Syntax.{IsScript, IsSyntax, IsNotBuilt}

-- what a yield of these tables prints
abbrev pub yield_text : List Table → List ℕ
yield_text tables = printed (codes "_result") tables

-- the buckets that a run adds, in their order
abbrev pub buckets_of : List Load → List (List ℕ)
buckets_of loads = fold (λ buckets l. with_bucket buckets l.bucket) [] loads

-- the files take no stored points to these, and the query over them yields these tables
pub record Yields (mode : LineMode) (told : Told) (c : Command) (q : Query) (tables : List Table) : Type 0 where
  pub stored : List StoredPoint
  pub read : FilesRead mode told c.loads [] stored
  pub run : run_of q (buckets_of c.loads) stored ≡ Ok tables

-- the query over the stored points ends with this fault
pub record Fails (mode : LineMode) (told : Told) (c : Command) (q : Query) (fault : Fault) : Type 0 where
  pub stored : List StoredPoint
  pub read : FilesRead mode told c.loads [] stored
  pub run : run_of q (buckets_of c.loads) stored ≡ Err fault

-- the load at a place is of a file of this name
abbrev pub NamesAt : List Load → ℕ → List ℕ → Type 0
NamesAt loads place name = (l : Load) × (slice_get loads place ≡ Some l) × (name ≡ l.file)

-- the first file that stops the load has this name, and this is why it does
pub record Stops (mode : LineMode) (told : Told) (c : Command) (name : List ℕ) (stop : FileStop) : Type 0 where
  pub place : ℕ
  pub at : StopsFiles mode told c.loads [] place stop
  pub names : NamesAt c.loads place name

-- the end of a run over the command's files, by what was written before and after it: the bytes written are those of
-- evaluating the query directly over all loaded points, or the named refusal or fault
abbrev pub EndsAs : LineMode → Told → Command → Query → Option (List ℕ) → Option (List ℕ) → Outcome → Type 0
EndsAs mode told c q old new outcome.Done = (tables : List Table) × Yields mode told c q tables × (new ≡ appended old (yield_text tables))
EndsAs mode told c q old new (outcome.FileFault name) = Stops mode told c name file_stop.Failed × (new ≡ old)
EndsAs mode told c q old new (outcome.TooLong name taken) = Stops mode told c name (file_stop.TooLong taken) × (new ≡ old)
EndsAs mode told c q old new (outcome.Line name number cause) = Stops mode told c name (file_stop.Line number cause) × (new ≡ old)
EndsAs mode told c q old new (outcome.TooMany name number) = Stops mode told c name (file_stop.TooMany number) × (new ≡ old)
EndsAs mode told c q old new (outcome.Fault fault) = Fails mode told c q fault × (new ≡ old)
EndsAs mode told c q old new outcome.SinkFault = (tables : List Table) × (n : ℕ) × Yields mode told c q tables × (new ≡ appended old (take n (yield_text tables)))
EndsAs mode told c q old new outcome.Memory = (new ≡ old) ⊎ ((tables : List Table) × (n : ℕ) × Yields mode told c q tables × (new ≡ appended old (take n (yield_text tables))))
EndsAs mode told c q old new outcome.Usage = ⊥
EndsAs mode told c q old new outcome.NotBuilt = ⊥
EndsAs mode told c q old new (outcome.Syntax place deep) = ⊥

-- the words are a command, whose script is this query
pub record Asks (told : Told) (words : List (List ℕ)) (c : Command) (q : Query) : Type 0 where
  pub command : IsCommand words c
  pub script : List ℕ
  pub script_file : IsTold told c.script MOST_SCRIPT_BYTES script
  pub query : IsScript script q

-- a run over the command's files
pub record Runs (moment : ℤ) (told : Told) (words : List (List ℕ)) (old new : Option (List ℕ)) (o : Outcome) : Type 0 where
  pub command : Command
  pub query : Query
  pub asks : Asks told words command query
  pub ends : EndsAs (mode_of moment command) told command query old new o

-- the words are a command, and its script has this name
abbrev pub NamesScript : List (List ℕ) → List ℕ → Type 0
NamesScript words name = (c : Command) × IsCommand words c × (name ≡ c.script)

-- the words are a command, whose script has the property
pub record HasScript (P : List ℕ → Type 0) (told : Told) (words : List (List ℕ)) : Type 0 where
  pub command : Command
  pub is_command : IsCommand words command
  pub script : List ℕ
  pub script_file : IsTold told command.script MOST_SCRIPT_BYTES script
  pub has : P script

-- the answers over files that tell their content, in the order of the refusals
abbrev pub Answers : ℤ → Told → List (List ℕ) → Option (List ℕ) → Option (List ℕ) → Outcome → Type 0
Answers moment told words old new outcome.Usage = ((c : Command) → IsCommand words c → ⊥) × (new ≡ old)
Answers moment told words old new (outcome.FileFault name) = (NamesScript words name × (new ≡ old)) ⊎ Runs moment told words old new (outcome.FileFault name)
Answers moment told words old new (outcome.TooLong name taken) = (NamesScript words name × IsLong told name MOST_SCRIPT_BYTES × (taken ≡ MOST_SCRIPT_BYTES + 1) × (new ≡ old)) ⊎ Runs moment told words old new (outcome.TooLong name taken)
Answers moment told words old new (outcome.Syntax place deep) = HasScript (λ script. IsSyntax script place.at deep) told words × (new ≡ old)
Answers moment told words old new outcome.NotBuilt = HasScript IsNotBuilt told words × (new ≡ old)
Answers moment told words old new outcome.Memory = (new ≡ old) ⊎ Runs moment told words old new outcome.Memory
Answers moment told words old new o = Runs moment told words old new o

-- what is written whatever the files tell: the text of one whole yield, a prefix of it where the sink or the memory
-- refused, and nothing before a refusal
abbrev pub Writes : Option (List ℕ) → Option (List ℕ) → Outcome → Type 0
Writes old new outcome.Done = (tables : List Table) × (new ≡ appended old (yield_text tables))
Writes old new outcome.SinkFault = (tables : List Table) × (n : ℕ) × (new ≡ appended old (take n (yield_text tables)))
Writes old new outcome.Memory = (tables : List Table) × (n : ℕ) × (new ≡ appended old (take n (yield_text tables)))
Writes old new o = new ≡ old

-- the causes of the answers by the counts of the devices' faults: a device's fault is answered only where its count
-- rose, and where it rose nothing else is answered but want of memory
abbrev pub Causes : ℕ → ℕ → ℕ → ℕ → Outcome → Type 0
Causes files files' out out' (outcome.FileFault name) = Rose files files' × (out' ≡ out)
Causes files files' out out' outcome.SinkFault = (files' ≡ files) × Rose out out'
Causes files files' out out' outcome.Memory = Unit {0}
Causes files files' out out' o = (files' ≡ files) × (out' ≡ out)

-- a file that the words name as data, and one that they name
abbrev pub IsDataFile : List (List ℕ) → List ℕ → Type 0
IsDataFile words name = (c : Command) × IsCommand words c × ((place : ℕ) × NamesAt c.loads place name)

abbrev pub IsFile : List (List ℕ) → List ℕ → Type 0
IsFile words name = NamesScript words name ⊎ IsDataFile words name

-- the file that an answer shows is one that the words name, whatever the files tell
abbrev pub NamesFile : List (List ℕ) → Outcome → Type 0
NamesFile words (outcome.FileFault name) = IsFile words name
NamesFile words (outcome.TooLong name taken) = IsFile words name
NamesFile words (outcome.Line name number cause) = IsDataFile words name
NamesFile words (outcome.TooMany name number) = IsDataFile words name
NamesFile words o = Unit {0}

-- an answer that the words and the files' content alone settle: no device failed, and memory was had
abbrev pub IsSettled : Outcome → Type 0
IsSettled outcome.Memory = ⊥
IsSettled outcome.SinkFault = ⊥
IsSettled (outcome.FileFault name) = ⊥
IsSettled o = Unit {0}

-- the script whose place the outcome's line shows is the command's
abbrev pub Shows : Told → List (List ℕ) → Outcome → List ℕ → Type 0
Shows told words (outcome.Syntax place deep) script = (c : Command) × IsCommand words c × (told c.script ≡ Some script)
Shows told words (outcome.Fault fault) script = (c : Command) × IsCommand words c × (told c.script ≡ Some script)
Shows told words o script = Unit {0}

-- the outcome's line was written, whatever the files tell; where they tell their content it shows places of the script
pub record IsSaid (content : Option Told) (words : List (List ℕ)) (old new : Option (List ℕ)) (o : Outcome) : Type 0 where
  pub script : List ℕ
  pub shows : (told : Told) → content ≡ Some told → Shows told words o script
  pub line : new ≡ appended old (line_of script o)

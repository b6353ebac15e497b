-- What files make of the stored points, one after another, and where the first file stands that stops a load.
use Rattle.std.specs.Prelude.{◌≡◌, ℕ, ◌+◌, ◌<◌, ◌≤◌, true, List, [], ◌∷◌, ◌++◌, length, Some, Result, Ok, Err}
use Rattle.std.specs.List.{AllByRecursion}
use Rattle.fx_base.specs.Outside.{Told, Rose}
use Rattle.fx_line.specs.declared.line.LineMode.{LineMode}
use Rattle.fx_line.specs.Stored.{StoredPoint}
use Rattle.fx_series.specs.Store.{Kept, StandsFor, is_added}
use Rattle.fx_load.specs.declared.load.LoadStop.{LoadStop}
use Rattle.fx_load.specs.declared.load.LoadStop.TheVariants as load_stop
use Rattle.fx_load.specs.declared.load.TheConstants.{MOST_POINTS}
use Rattle.fx_load.specs.declared.loads.Load.{Load}
use Rattle.fx_load.specs.declared.loads.FileStop.{FileStop}
use Rattle.fx_load.specs.declared.loads.FileStop.TheVariants as file_stop
use Rattle.fx_load.specs.declared.loads.LoadsStop.{LoadsStop}
use Rattle.fx_load.specs.declared.loads.TheConstants.{MOST_FILE_BYTES}
use Rattle.fx_load.specs.Bytes.{lines_of}
use Rattle.fx_load.specs.Load.{Reads, StopsAt, IsCause, IsTooMany}

-- a file is told to hold these bytes, within a limit
pub record IsTold (told : Told) (name : List ℕ) (limit : ℕ) (bytes : List ℕ) : Type 0 where
  pub bytes_are : told name ≡ Some bytes
  pub short : length bytes ≤ limit

-- a file is told to hold more bytes than a limit
pub record IsLong (told : Told) (name : List ℕ) (limit : ℕ) : Type 0 where
  pub bytes : List ℕ
  pub bytes_are : told name ≡ Some bytes
  pub long : limit < length bytes

-- the lines of a file take the stored points to those behind them
pub record FileReads (mode : LineMode) (told : Told) (l : Load) (before after : List StoredPoint) : Type 0 where
  pub bytes : List ℕ
  pub file : IsTold told l.file MOST_FILE_BYTES bytes
  pub read : Reads mode l.bucket (lines_of bytes) before after

-- files, one after another, take the stored points to those behind them
abbrev pub FilesRead : LineMode → Told → List Load → List StoredPoint → List StoredPoint → Type 0
FilesRead mode told [] before after = before ≡ after
FilesRead mode told (l ∷ loads) before after = (middle : List StoredPoint) × FileReads mode told l before middle × FilesRead mode told loads middle after

-- a file with a line that stops its load, over these stored points
pub record HasStop (mode : LineMode) (told : Told) (l : Load) (before : List StoredPoint) (number : ℕ) (P : List ℕ → List StoredPoint → Type 0) : Type 0 where
  pub bytes : List ℕ
  pub file : IsTold told l.file MOST_FILE_BYTES bytes
  pub line : List ℕ
  pub stored : List StoredPoint
  pub at : StopsAt mode l.bucket bytes before number line stored
  pub why : P line stored

-- why a file stops a load over these stored points
abbrev pub FileStops : LineMode → Told → Load → List StoredPoint → FileStop → Type 0
FileStops mode told l before file_stop.Failed = Unit {0}
FileStops mode told l before (file_stop.TooLong taken) = IsLong told l.file MOST_FILE_BYTES × (taken ≡ MOST_FILE_BYTES + 1)
FileStops mode told l before (file_stop.Line number cause) = HasStop mode told l before number (λ line stored. IsCause mode l.bucket line stored cause)
FileStops mode told l before (file_stop.TooMany number) = HasStop mode told l before number (λ line stored. IsTooMany mode l.bucket line stored)
FileStops mode told l before file_stop.Memory = Unit {0}

-- the file at this place is the first that stops a load, where these points are stored
pub record StopsFiles (mode : LineMode) (told : Told) (loads : List Load) (before : List StoredPoint) (place : ℕ) (stop : FileStop) : Type 0 where
  pub ahead : List Load
  pub load : Load
  pub behind : List Load
  pub split : loads ≡ ahead ++ load ∷ behind
  pub counted : place ≡ length ahead
  pub stored : List StoredPoint
  pub read : FilesRead mode told ahead before stored
  pub stops : FileStops mode told load stored stop

-- a store that stands for stored points, with a load's bucket, or those of all loads, among its buckets
abbrev pub HasBucket : Kept → Load → Type 0
HasBucket kept l = is_added kept.buckets l.bucket ≡ true

pub record IsReadyFor (kept : Kept) (l : Load) : Type 0 where
  pub buckets : List (List ℕ)
  pub stored : List StoredPoint
  pub stands : StandsFor kept buckets stored
  pub added : HasBucket kept l
  pub few : kept.puts ≤ MOST_POINTS

pub record AreReady (kept : Kept) (loads : List Load) : Type 0 where
  pub buckets : List (List ℕ)
  pub stored : List StoredPoint
  pub stands : StandsFor kept buckets stored
  pub added : AllByRecursion (HasBucket kept) loads
  pub few : kept.puts ≤ MOST_POINTS

-- a store that is ready stays so
abbrev pub StaysReady : Kept → Kept → Type 0
StaysReady old new = (buckets : List (List ℕ)) (stored : List StoredPoint) → StandsFor old buckets stored → old.puts ≤ MOST_POINTS → (after : List StoredPoint) × StandsFor new buckets after × (new.puts ≤ MOST_POINTS)

-- what a file leaves, and what files leave, by the answer
abbrev pub stop_of : LoadStop → FileStop
stop_of (load_stop.Line number cause) = file_stop.Line number cause
stop_of (load_stop.TooMany number) = file_stop.TooMany number
stop_of load_stop.Memory = file_stop.Memory

abbrev pub OneLoads : LineMode → Told → List (List ℕ) → Load → List StoredPoint → Kept → Result (Unit {0}) FileStop → Type 0
OneLoads mode told buckets l before kept (Ok _) = (after : List StoredPoint) × FileReads mode told l before after × StandsFor kept buckets after
OneLoads mode told buckets l before kept (Err stop) = FileStops mode told l before stop

abbrev pub FilesLoad : LineMode → Told → List (List ℕ) → List Load → List StoredPoint → Kept → Result (Unit {0}) LoadsStop → Type 0
FilesLoad mode told buckets loads before kept (Ok _) = (after : List StoredPoint) × FilesRead mode told loads before after × StandsFor kept buckets after
FilesLoad mode told buckets loads before kept (Err stop) = StopsFiles mode told loads before stop.place stop.stop

-- the causes of the answers by the count of the files' faults: Failed comes only where it rose, and where it rose nothing
-- else comes but want of memory
abbrev pub StopCauses : ℕ → ℕ → FileStop → Type 0
StopCauses files files' file_stop.Failed = Rose files files'
StopCauses files files' file_stop.Memory = Unit {0}
StopCauses files files' stop = files' ≡ files

abbrev pub OneCauses : ℕ → ℕ → Result (Unit {0}) FileStop → Type 0
OneCauses files files' (Ok _) = files' ≡ files
OneCauses files files' (Err stop) = StopCauses files files' stop

abbrev pub FilesCauses : ℕ → ℕ → ℕ → Result (Unit {0}) LoadsStop → Type 0
FilesCauses many files files' (Ok _) = files' ≡ files
FilesCauses many files files' (Err stop) = StopCauses files files' stop.stop × (stop.place < many)

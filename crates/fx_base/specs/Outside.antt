-- What calls of the outside answer, by cases over the answer.
use Rattle.std.specs.Prelude.{◌≡◌, ℕ, ◌+◌, ◌-◌, ◌^◌, ◌<◌, ◌≤◌, min, List, ◌++◌, length, take, Option, None, Some, Result, Ok, Err}
use Rattle.std.specs.declared.vec.Vec.{Vec}
use Rattle.std.specs.declared.alloc.Global.{Global}
use Rattle.fx_base.specs.declared.files.FileFault.{FileFault}
use Rattle.fx_base.specs.declared.files.FileFault.TheVariants as file
use Rattle.fx_base.specs.declared.sink.SinkFault.{SinkFault}
use Rattle.fx_base.specs.declared.sink.SinkFault.TheVariants as sink

-- a count of faults rose, or stands at the end of its type
abbrev pub Rose : ℕ → ℕ → Type 0
Rose before now = min (before + 1) (2 ^ 64 - 1) ≤ now

-- the bytes of each file by its name, None where there is no such file
abbrev pub Told : Type 0
Told = List ℕ → Option (List ℕ)

-- what an object tells of its files, None where it tells nothing
abbrev pub Content : Type 0
Content = Option Told

-- a load answers as a file that is told, or isn't there, allows
abbrev pub LoadsFile : Option (List ℕ) → ℕ → Result (Vec ℕ Global) FileFault → Type 0
LoadsFile told limit (Ok bytes) = told ≡ Some bytes.items
LoadsFile told limit (Err (file.TooLong taken)) = (bytes : List ℕ) × (told ≡ Some bytes) × (limit < length bytes)
LoadsFile told limit (Err file.Failed) = Unit {0}
LoadsFile told limit (Err file.Memory) = Unit {0}

abbrev pub Loads : Content → List ℕ → ℕ → Result (Vec ℕ Global) FileFault → Type 0
Loads None name limit result = Unit {0}
Loads (Some told) name limit result = LoadsFile (told name) limit result

-- the causes of a load's answers: Failed only where the count of faults rose, TooLong only where one byte more than
-- the limit was taken
abbrev pub LoadCause : ℕ → ℕ → ℕ → Result (Vec ℕ Global) FileFault → Type 0
LoadCause limit before now (Ok bytes) = (now ≡ before) × (length bytes.items ≤ limit)
LoadCause limit before now (Err (file.TooLong taken)) = (now ≡ before) × (taken ≡ limit + 1)
LoadCause limit before now (Err file.Failed) = Rose before now
LoadCause limit before now (Err file.Memory) = before ≤ now

-- bytes behind those that were written before, where these are told
abbrev pub appended : Option (List ℕ) → List ℕ → Option (List ℕ)
appended None piece = None
appended (Some bytes) piece = Some (bytes ++ piece)

-- a write appends the whole piece, or after a refusal a prefix of it
abbrev pub Writes : Option (List ℕ) → List ℕ → Result (Unit {0}) SinkFault → Option (List ℕ) → Type 0
Writes old piece (Ok _) new = new ≡ appended old piece
Writes old piece (Err _) new = (n : ℕ) × (new ≡ appended old (take n piece))

-- the causes of a write's answers: Failed only where the count of faults rose
abbrev pub WriteCause : ℕ → ℕ → Result (Unit {0}) SinkFault → Type 0
WriteCause before now (Ok _) = now ≡ before
WriteCause before now (Err sink.Failed) = Rose before now
WriteCause before now (Err sink.Memory) = before ≤ now

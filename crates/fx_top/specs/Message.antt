-- What an outcome is to a person: the exit status and the line on standard error.
use Rattle.std.specs.Prelude.{ℕ, ◌+◌, Bool, true, false, not, ◌==◌, List, [], ◌++◌, codes, count_by, decimal, take}
use Rattle.std.specs.List.{suffix_len}
use Rattle.fx_base.specs.declared.fault.FaultKind.{FaultKind}
use Rattle.fx_base.specs.declared.fault.FaultKind.TheVariants as fault
use Rattle.fx_line.specs.declared.line.LineError.{LineError}
use Rattle.fx_line.specs.declared.line.LineError.TheVariants as line
use Rattle.fx_load.specs.declared.cause.LineCause.{LineCause}
use Rattle.fx_load.specs.declared.cause.LineCause.TheVariants as cause
use Rattle.fx_top.specs.declared.outcome.Outcome.{Outcome}
use Rattle.fx_top.specs.declared.outcome.Outcome.TheVariants as outcome

abbrev pub status_of : Outcome → ℕ
status_of outcome.Done = 0
status_of outcome.Usage = 1
status_of (outcome.FileFault name) = 2
status_of (outcome.TooLong name taken) = 3
status_of (outcome.Syntax place deep) = 5
status_of outcome.NotBuilt = 13
status_of (outcome.Line file number cause) = 4
status_of (outcome.Fault fault) = 7
status_of outcome.SinkFault = 9
status_of outcome.Memory = 10
status_of (outcome.TooMany file number) = 12

abbrev pub error_text : LineError → List ℕ
error_text line.Syntax = codes "Syntax"
error_text line.TooManyTags = codes "TooManyTags"
error_text line.NameReserved = codes "NameReserved"
error_text line.FloatField = codes "FloatField"
error_text line.UintField = codes "UintField"
error_text line.IntRange = codes "IntRange"
error_text line.TimeRange = codes "TimeRange"

abbrev pub cause_text : LineCause → List ℕ
cause_text (cause.Form error) = error_text error
cause_text (cause.KindConflict old new) = codes "KindConflict"

abbrev pub fault_text : FaultKind → List ℕ
fault_text fault.Overflow = codes "Overflow"
fault_text fault.DivideByZero = codes "DivideByZero"
fault_text fault.BadConversion = codes "BadConversion"
fault_text fault.IndexRange = codes "IndexRange"
fault_text fault.TimeRange = codes "TimeRange"
fault_text fault.TooLarge = codes "TooLarge"
fault_text fault.NullArgument = codes "NullArgument"
fault_text fault.NoBucket = codes "NoBucket"
fault_text fault.BadWindow = codes "BadWindow"
fault_text fault.BadCount = codes "BadCount"
fault_text fault.PivotName = codes "PivotName"
fault_text fault.DuplicateYield = codes "DuplicateYield"

abbrev pub syntax_text : Bool → List ℕ
syntax_text true = codes "nested too deep"
syntax_text false = codes "syntax"

-- the line of a place in a script, and its column: one more than the line feeds before it, and one more than the bytes
-- between the last of them and the place
abbrev pub line_at : List ℕ → ℕ → ℕ
line_at script at = count_by (λ b. b == 10) (take at script) + 1

abbrev pub column_at : List ℕ → ℕ → ℕ
column_at script at = suffix_len (λ b. not (b == 10)) (take at script) + 1

-- the line on standard error, none for Done; the script is the one whose place it shows
abbrev pub line_of : List ℕ → Outcome → List ℕ
line_of script outcome.Done = []
line_of script outcome.Usage = codes "usage: fluxrun COMMAND ARGUMENTS\n"
line_of script (outcome.FileFault name) = codes "fluxrun: " ++ (name ++ codes ": cannot read\n")
line_of script (outcome.TooLong name taken) = codes "fluxrun: " ++ (name ++ codes ": too long\n")
line_of script outcome.NotBuilt = codes "fluxrun: not built\n"
line_of script (outcome.Syntax place deep) = codes "fluxrun: " ++ (decimal (line_at script place.at) ++ (codes ":" ++ (decimal (column_at script place.at) ++ (codes ": " ++ (syntax_text deep ++ codes "\n")))))
line_of script (outcome.Line file number cause) = codes "fluxrun: " ++ (file ++ (codes ":" ++ (decimal number ++ (codes ": " ++ (cause_text cause ++ codes "\n")))))
line_of script (outcome.Fault fault) = codes "fluxrun: " ++ (decimal (line_at script fault.place.at) ++ (codes ":" ++ (decimal (column_at script fault.place.at) ++ (codes ": fault " ++ (fault_text fault.kind ++ codes "\n")))))
line_of script outcome.SinkFault = codes "fluxrun: cannot write\n"
line_of script outcome.Memory = codes "fluxrun: out of memory\n"
line_of script (outcome.TooMany file number) = codes "fluxrun: " ++ (file ++ (codes ":" ++ (decimal number ++ codes ": too many points\n")))

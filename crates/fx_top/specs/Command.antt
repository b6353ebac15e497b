-- The form of a command line.
use Rattle.std.specs.Prelude.{◌≡◌, ◌≢◌, ℕ, ℤ, ◌≤◌, Bool, true, false, List, [], ◌∷◌, ◌++◌, length, codes, Option, None, Some}
use Rattle.fx_line.specs.declared.line.LineMode.{LineMode}
use Rattle.fx_load.specs.Bytes.{IsFreeOf}
use Rattle.fx_load.specs.declared.loads.Load.{Load}
use Rattle.fx_top.specs.declared.command.Command.{Command}
use Rattle.fx_top.specs.declared.command.TheConstants.{MOST_LOADS}
use Rattle.fx_top.specs.declared.words.Precision.{Precision}
use Rattle.fx_top.specs.declared.words.Precision.TheVariants as unit
use Rattle.fx_top.specs.declared.words.Reading.TheVariants as reading
use Rattle.fx_top.specs.declared.words.Said.{Said}
use Rattle.fx_top.specs.Words.{factor_of, says}

-- the word is BUCKET=FILE, cut at its first `=`, and neither part is empty
pub record IsLoad (word bucket file : List ℕ) : Type 0 where
  pub spelled : word ≡ bucket ++ 61 ∷ file
  pub cut : IsFreeOf 61 bucket
  pub bucket_there : bucket ≢ []
  pub file_there : file ≢ []

-- each word loads the file at its place into its bucket
abbrev pub AreLoads : List (List ℕ) → List Load → Type 0
AreLoads [] [] = Unit {0}
AreLoads [] (l ∷ loads) = ⊥
AreLoads (word ∷ words) [] = ⊥
AreLoads (word ∷ words) (l ∷ loads) = IsLoad word l.bucket l.file × AreLoads words loads

-- the value that stands alone, if one stands there; no answer where several do
abbrev pub once : {A : Type 0} → List A → Option (Option A)
once [] = Some None
once (x ∷ []) = Some (Some x)
once (x ∷ y ∷ more) = None

abbrev pub value_or : {A : Type 0} → Option A → A → A
value_or None a = a
value_or (Some b) a = b

abbrev pub is_there : {A : Type 0} → Option A → Bool
is_there None = false
is_there (Some a) = true

-- the positional words are a script and the files to load, no more than may be, and no option stands twice
pub record Commands (said : Said) (c : Command) : Type 0 where
  pub loads : List (List ℕ)
  pub words : said.words ≡ c.script ∷ loads
  pub few : length loads ≤ MOST_LOADS
  pub are_loads : AreLoads loads c.loads
  pub moment : once said.nows ≡ Some c.moment
  pub precision : Option Precision
  pub one_precision : once said.precisions ≡ Some precision
  pub precision_is : c.precision ≡ value_or precision unit.Ns
  pub skip : Option Bool
  pub one_skip : once said.skips ≡ Some skip
  pub skip_is : c.skip_floats ≡ is_there skip

-- the words behind `run`
pub record IsRun (words : List (List ℕ)) (c : Command) : Type 0 where
  pub said : Said
  pub says_it : says reading.Open words ≡ Some said
  pub commands : Commands said c

-- the words are `run SCRIPT`, BUCKET=FILE for each file, and options
pub record IsCommand (words : List (List ℕ)) (c : Command) : Type 0 where
  pub rest : List (List ℕ)
  pub spelled : words ≡ codes "run" ∷ rest
  pub run : IsRun rest c

-- how a run reads the lines of its files: a line without a time has the moment, or the time of `--now`
abbrev pub mode_of : ℤ → Command → LineMode
mode_of moment c = record { factor = factor_of c.precision; moment = value_or c.moment moment; skip_floats = c.skip_floats }

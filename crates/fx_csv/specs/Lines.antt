-- What a record that is being filled holds.
use Rattle.std.specs.Prelude.{◌≡◌, ℕ, List, []}
use Rattle.csv.specs.Records.{fields_of, partial_of}
use Rattle.fx_csv.specs.declared.line.Line.{Line}

-- these are the fields so far, and none is begun
pub record HasFields (line : Line) (all : List (List ℕ)) : Type 0 where
  pub fields : fields_of line.fields ≡ all
  pub partial : partial_of line.fields ≡ []

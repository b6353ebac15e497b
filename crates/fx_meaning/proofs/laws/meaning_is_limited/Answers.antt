use Rattle.fx_meaning.proofs.MeaningLaws.{meaning_limited, call_limited, row_limited}
use Rattle.fx_meaning.proofs.laws.meaning_is_limited.Goals as goal

pub returns : goal.returns
returns c = record {
  expression = λ test setting e env. meaning_limited test setting e env;
  call = λ test place moment args v. call_limited test place moment args v;
  row = λ test v rows. row_limited test v rows;
}

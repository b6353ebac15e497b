use Rattle.fx_build.proofs.ListedLaws.{fits_listed}
use Rattle.fx_build.proofs.StreamRuns.{stream_safe, yield_safe}
use Rattle.fx_build.proofs.laws.streams_are_sound.Goals as goal

pub returns : goal.returns
returns c = record {
  listed = λ call r h. fits_listed call r h;
  tables = λ test stored call r limit lawful listed h. stream_safe test stored lawful call r limit listed h;
  shown = λ test stored call r limit lawful listed h. yield_safe test stored lawful call r limit listed h;
}

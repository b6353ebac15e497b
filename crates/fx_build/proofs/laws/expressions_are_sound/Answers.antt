use Rattle.fx_build.proofs.Soundness.{every_type_safe, name_fits}
use Rattle.fx_build.proofs.laws.expressions_are_sound.Goals as goal

pub returns : goal.returns
returns c = record {
  safe = λ test setting env slots e t limit met h. every_type_safe test setting env slots e t limit met h;
  name = λ env x e place v h. name_fits env x e place v h;
}

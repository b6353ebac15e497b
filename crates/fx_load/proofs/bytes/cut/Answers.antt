use Rattle.std.proofs.Common.{◌≡◌, length, take, subst, arith}
use Rattle.std.proofs.Math.Seq.{take-length}
use Rattle.fx_load.specs.Bytes.{IsFreeOf}
use Rattle.fx_load.proofs.BytesLemmas.{free_before}
use Rattle.fx_load.proofs.bytes.cut.Goals as goal

pub returns-in-Some-clause-first : goal.returns-in-Some-clause-first
returns-in-Some-clause-first c = free_before c.args.b c.in-Some.i c.args.text.now (λ k below. c.in-Some.ensures.0.before k (omega arith) below)

pub returns-in-None-clause-none : goal.returns-in-None-clause-none
returns-in-None-clause-none c = subst (IsFreeOf c.args.b) (take-length c.args.text.now) (free_before c.args.b (length c.args.text.now) c.args.text.now (λ k below. c.in-None.ensures k (omega arith) below))

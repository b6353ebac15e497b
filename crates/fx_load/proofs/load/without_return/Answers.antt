use Rattle.std.proofs.Common.{sym, ◌∙◌, ap}
use Rattle.fx_load.specs.Bytes.{without_return}
use Rattle.fx_load.proofs.BytesLemmas.{return_off, no_return_off}
use Rattle.fx_load.proofs.load.without_return.Goals as goal

pub returns-in-Some : goal.returns-in-Some
returns-in-Some c = sym (ap without_return c.in-Some.ensures.found ∙ return_off c.in-Some.rest.now)

pub returns-in-None : goal.returns-in-None
returns-in-None c = sym (no_return_off c.args.bytes.now c.in-None.ensures.none)

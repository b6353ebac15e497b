use Rattle.fx_schemes.proofs.Rolled.{fun_rolled}
use Rattle.fx_infer.proofs.terms.function_of.Goals as goal

pub returns : goal.returns
returns c = fun_rolled c.args.required c.args.pipe c.args.gives c.in_ok-new.field-0 c.in_ok-new.ensures

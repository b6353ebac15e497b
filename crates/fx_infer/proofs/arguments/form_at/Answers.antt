use Rattle.fx_infer.proofs.ArgLaws.{known_id, form_of_id, form_of_none}
use Rattle.fx_infer.proofs.arguments.form_at.Goals as goal

pub form_of-requires : goal.form_of-requires
form_of-requires c = known_id c.args.of c.in-Some.id c.in-Some.is c.requires

pub returns-in-Some : goal.returns-in-Some
returns-in-Some c = form_of_id c.args.of c.in-Some.id c.args.label.now c.form_of.result c.in-Some.is c.form_of.ensures

pub returns-in-None : goal.returns-in-None
returns-in-None c = form_of_none c.args.of c.args.label.now c.in-None.is

use Rattle.fx_generalize.proofs.ReadLaws.{fields_over}
use Rattle.fx_generalize.proofs.read.over.Goals as goal

pub returns : goal.returns
returns c = fields_over c.args.fields c.in_ok-fields.fields c.args.row c.in_ok-fields.ensures

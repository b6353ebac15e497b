use Rattle.std.proofs.Common.{sym, ap}
use Rattle.fx_meaning.specs.Ends.{pure}
use Rattle.fx_meaning.specs.Value.{cell}
use Rattle.fx_value.specs.Ends.{Gives}
use Rattle.fx_values.proofs.ValueLaws.{val_cell}
use Rattle.fx_rowfn.proofs.eval.constant.Goals as goal

pub returns : goal.returns
returns c = λ test. c.given.ensures test (pure (cell c.args.value)) (ap (λ v. Gives v 0) (sym (val_cell c.args.value)))

use Rattle.std.proofs.Common.{sym, ap}
use Rattle.fx_meaning.specs.Ends.{pure}
use Rattle.fx_meaning.specs.Value.{span}
use Rattle.fx_value.specs.Ends.{Gives}
use Rattle.fx_values.proofs.ValueLaws.{val_span}
use Rattle.fx_rowfn.proofs.eval.duration.Goals as goal

pub returns : goal.returns
returns c = λ test. c.given.ensures test (pure (span c.args.d)) (ap (λ v. Gives v 0) (sym (val_span c.args.d)))

use Rattle.std.proofs.Common.{ap, ◌∙◌, Ok, Err}
use Rattle.std.specs.Prelude.{option_map}
use Rattle.fx_types.specs.Size.{Pipes}
use Rattle.fx_unify.specs.Part.{part}
use Rattle.fx_unify.specs.View.{part_seen}
use Rattle.fx_unify.proofs.DecideLaws.{field_ok, field_err, field_free}
use Rattle.fx_unify.proofs.WeighLaws.{viewed}
use Rattle.fx_unify.proofs.store.Store.check_field.Goals as goal

pub returns-in-Ok-clause-checked : goal.returns-in-Ok-clause-checked
returns-in-Ok-clause-checked c =
    λ n e. field_ok c.args.self.now c.args.sorts.now n c.in-Some.field c.args.slot.now c.in-Ok.field-0 c.in-Some.is (viewed c.args.self.now c.args.sorts.now Pipes (part_seen c.view.result) (part c.in-Some.field) (Ok c.in-Ok.field-0) 4096 c.view.ensures c.in-Ok.ensures.nodes) e

pub returns-in-Err-clause-checked : goal.returns-in-Err-clause-checked
returns-in-Err-clause-checked c =
    λ n e. field_err c.args.self.now c.args.sorts.now n c.in-Some.field c.args.slot.now c.in-Err.fault c.in-Some.is (viewed c.args.self.now c.args.sorts.now Pipes (part_seen c.view.result) (part c.in-Some.field) (Err c.in-Err.fault) 4096 c.view.ensures c.in-Err.ensures.nodes) e

pub returns-in-None-clause-checked : goal.returns-in-None-clause-checked
returns-in-None-clause-checked c =
    λ n e. (0, field_free c.args.self.now c.args.sorts.now n (e ∙ ap (option_map part) c.in-None.is))

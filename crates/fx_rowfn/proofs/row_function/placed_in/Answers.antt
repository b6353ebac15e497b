use Rattle.std.proofs.Common.{sym, ap, ◌∙◌}
use Rattle.fx_values.proofs.ValueLaws.{closed_is}
use Rattle.fx_rowfn.proofs.row_function.placed_in.Goals as goal

pub returns : goal.returns
returns c = c.as_slice.ensures ∙ ap (λ s. s.patterns) c.as_ref.ensures ∙ sym (ap (λ o. o.setting.patterns) (closed_is c.args.closure.now))

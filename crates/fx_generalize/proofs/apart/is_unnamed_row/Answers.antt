use Rattle.std.proofs.Common.{sym, ap, ◌∙◌}
use Rattle.fx_unify.specs.Part.{p_slot}
use Rattle.fx_generalize.specs.Named.{place, is_field}
use Rattle.fx_generalize.proofs.NameLaws.{not_true}
use Rattle.fx_generalize.proofs.apart.is_unnamed_row.Goals as goal

pub returns-in-None : goal.returns-in-None
returns-in-None c =
    λ e. (sym c.row_at.ensures ∙ c.in-None.is, λ l. ap (place (is_field (p_slot c.args.row l))) (sym c.as_slice.ensures.value) ∙ c.has_slot.ensures (not_true c.has_slot.result e) l)

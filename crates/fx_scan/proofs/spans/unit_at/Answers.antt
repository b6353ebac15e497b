use Rattle.std.proofs.Common.{sym, ◌∙◌}
use Rattle.fx_scan.proofs.UnitLemmas.{no_unit}
use Rattle.fx_scan.proofs.spans.unit_at.Goals as goal

pub returns-else-begins_letter-clause-value : goal.returns-else-begins_letter-clause-value
returns-else-begins_letter-clause-value c = sym (no_unit c.args.s.now (sym c.begins_letter.ensures ∙ c.if-begins_letter.false))

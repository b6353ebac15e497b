use Rattle.std.proofs.Common.{sym, ◌∙◌}
use Rattle.fx_scan.proofs.FoundLemmas.{nothing_found}
use Rattle.fx_scan.proofs.front.token_at.Goals as goal

pub returns-in-Nothing : goal.returns-in-Nothing
returns-in-Nothing c = nothing_found c.args.mode c.args.s.now (sym c.group_at.ensures ∙ c.in-Nothing.is)

use Rattle.std.proofs.Common.{sym, ap}
use Rattle.fx_parse.specs.Items.{a_mid, among, one_of, sort}
use Rattle.std.proofs.Common.{[], ◌∷◌}
use Rattle.fx_parse.proofs.sorts.Sorts.{not_mid}
use Rattle.fx_parse.proofs.predicates.is_mid.Goals as goal

pub returns-in-Mid : goal.returns-in-Mid
unfolding one_of
returns-in-Mid c = ap (λ l. among (a_mid ∷ []) (sort l)) (sym c.in-Mid.is)

pub returns-in_default : goal.returns-in_default
unfolding one_of
returns-in_default c = not_mid c.args.item.now.lexeme c.in_default.not-Mid

use Rattle.std.proofs.Common.{sym, ap}
use Rattle.fx_parse.specs.Items.{a_name, among, one_of, sort}
use Rattle.std.proofs.Common.{[], ◌∷◌}
use Rattle.fx_parse.proofs.sorts.Sorts.{not_name}
use Rattle.fx_parse.proofs.predicates.is_name.Goals as goal

pub returns-in-Name : goal.returns-in-Name
unfolding one_of
returns-in-Name c = ap (λ l. among (a_name ∷ []) (sort l)) (sym c.in-Name.is)

pub returns-in_default : goal.returns-in_default
unfolding one_of
returns-in_default c = not_name c.args.item.now.lexeme c.in_default.not-Name

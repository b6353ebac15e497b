use Rattle.std.proofs.Common.{sym, ap}
use Rattle.fx_parse.specs.Items.{a_head, among, one_of, sort}
use Rattle.std.proofs.Common.{[], ◌∷◌}
use Rattle.fx_parse.proofs.sorts.Sorts.{not_head}
use Rattle.fx_parse.proofs.predicates.is_head.Goals as goal

pub returns-in-Head : goal.returns-in-Head
unfolding one_of
returns-in-Head c = ap (λ l. among (a_head ∷ []) (sort l)) (sym c.in-Head.is)

pub returns-in_default : goal.returns-in_default
unfolding one_of
returns-in_default c = not_head c.args.item.now.lexeme c.in_default.not-Head

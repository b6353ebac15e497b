use Rattle.std.proofs.Common.{sym, ap}
use Rattle.fx_parse.specs.Items.{a_tail, among, one_of, sort}
use Rattle.std.proofs.Common.{[], ◌∷◌}
use Rattle.fx_parse.proofs.sorts.Sorts.{not_tail}
use Rattle.fx_parse.proofs.predicates.is_tail.Goals as goal

pub returns-in-Tail : goal.returns-in-Tail
unfolding one_of
returns-in-Tail c = ap (λ l. among (a_tail ∷ []) (sort l)) (sym c.in-Tail.is)

pub returns-in_default : goal.returns-in_default
unfolding one_of
returns-in_default c = not_tail c.args.item.now.lexeme c.in_default.not-Tail

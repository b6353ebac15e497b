use Rattle.std.proofs.Common.{sym, ap}
use Rattle.fx_parse.specs.Items.{a_plain, among, one_of, sort}
use Rattle.std.proofs.Common.{[], ◌∷◌}
use Rattle.fx_parse.proofs.sorts.Sorts.{not_plain}
use Rattle.fx_parse.proofs.predicates.is_plain.Goals as goal

pub returns-in-Plain : goal.returns-in-Plain
unfolding one_of
returns-in-Plain c = ap (λ l. among (a_plain ∷ []) (sort l)) (sym c.in-Plain.is)

pub returns-in_default : goal.returns-in_default
unfolding one_of
returns-in_default c = not_plain c.args.item.now.lexeme c.in_default.not-Plain

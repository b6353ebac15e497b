use Rattle.std.proofs.Common.{sym, ◌∙◌}
use Rattle.fx_schemes.specs.Builtins.{IsLine, OfRows}
use Rattle.fx_schemes.proofs.SchemeLaws.{tested}
use Rattle.fx_schemes.proofs.rows.filter.Goals as goal

pub returns-then-not-is_one_of : goal.returns-then-not-is_one_of
unfolding IsLine
returns-then-not-is_one_of c = λ L h.
    let is = h.0 in
    let says = c.is_one_of.ensures in
    let no = c.if-not-is_one_of.true in
    cc

pub returns : goal.returns
unfolding IsLine
returns c = tested _ OfRows _ (sym c.is_one_of.ensures ∙ c.if-not-is_one_of.false) c.in_ok-filter_dropping.ensures

use Rattle.std.proofs.Common.{◌≡◌, take}
use Rattle.fx_top.proofs.SourceLemmas.{tables_at}
use Rattle.fx_top.proofs.source.query_tables.Given as goal

abbrev pub invariant-loop-number : goal.invariant-loop-number
invariant-loop-number g l = l.tables ≡ tables_at l.query l.store.series (take l.number-index l.number-items)

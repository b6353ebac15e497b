use Rattle.std.proofs.Common.{◌≡◌, map, ap, subst}
use Rattle.std.specs.Prelude.{IfOk}
use Rattle.std.specs.FinMap as fin
use Rattle.fx_data.specs.Gathered.{gathered, table_of}
use Rattle.fx_data.specs.Regrouped.{regrouped}
use Rattle.fx_data.proofs.regrouping.regroup.Goals as goal

pub returns : goal.returns
unfolding gathered
returns c =
    let same : map table_of (fin.entries c.in_ok-runs.runs) ≡ regrouped c.args.rows = ap (λ groups. map table_of (fin.entries groups)) c.in_ok-runs.ensures in
    subst (λ ts. IfOk c.into_tables.result (λ t. t ≡ ts)) same c.into_tables.ensures

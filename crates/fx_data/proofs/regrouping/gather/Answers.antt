use Rattle.std.proofs.Common.{◌≡◌, map, ap, subst, ◌∙◌}
use Rattle.std.specs.Prelude.{IfOk}
use Rattle.std.specs.FinMap as fin
use Rattle.fx_data.specs.Gathered.{gathered, table_of}
use Rattle.fx_data.specs.Regrouped.{alone, bare, all_joined, regrouped_with}
use Rattle.fx_data.proofs.Regrouped.{joined_all}
use Rattle.fx_data.proofs.regrouping.gather.Goals as goal

pub returns : goal.returns
unfolding gathered
returns c =
    let same : map table_of (fin.entries c.in_ok-all.all) ≡ regrouped_with c.args.rows c.args.empties = ap (λ groups. map table_of (fin.entries groups)) (c.in_ok-all.ensures ∙ ap (λ groups. all_joined groups (map bare c.args.empties)) c.in_ok-runs.ensures ∙ joined_all (map alone c.args.rows) (map bare c.args.empties)) in
    subst (λ ts. IfOk c.into_tables.result (λ t. t ≡ ts)) same c.into_tables.ensures

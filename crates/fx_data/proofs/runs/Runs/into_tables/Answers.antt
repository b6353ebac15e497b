use Rattle.std.proofs.Common.{◌≡◌, map, ap, subst, ◌∙◌}
use Rattle.std.specs.Prelude.{IfOk}
use Rattle.std.specs.FinMap as fin
use Rattle.fx_data.specs.Gathered.{gathered, table_of}
use Rattle.fx_data.proofs.runs.Runs.into_tables.Goals as goal

pub returns : goal.returns
unfolding gathered
returns c =
    let same : gathered c.of.result ≡ map table_of (fin.entries c.args.self) = ap gathered c.of.ensures ∙ ap (λ groups. map table_of (fin.entries groups)) c.self.view_is in
    subst (λ ts. IfOk c.collect.result (λ t. t ≡ ts)) same c.collect.ensures

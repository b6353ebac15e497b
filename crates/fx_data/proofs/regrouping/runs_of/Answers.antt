use Rattle.std.proofs.Common.{◌≡◌, map, sym, ap, subst, ◌∙◌}
use Rattle.std.specs.List.{AllByRecursion}
use Rattle.std.specs.FinMap as fin
use Rattle.fx_data.specs.Regrouped.{alone, all_joined}
use Rattle.fx_data.specs.Table.{HasRisingLabels}
use Rattle.fx_data.proofs.Regrouped.{joined_empty}
use Rattle.fx_data.proofs.regrouping.runs_of.Goals as goal

pub loop-keyed-init : goal.loop-keyed-init
loop-keyed-init c =
    let left = c.into_iter-keyed-iterator.result.rest.items in
    let all : left ≡ c.args.rows = c.into_iter-keyed-iterator.ensures.into_iter_gives.0 ∙ c.into_vec-keyed-items.ensures in
    record {
      same =
          ap (λ groups. all_joined groups (map alone left)) c.empty-runs.ensures ∙ ap (λ rs. all_joined fin.empty (map alone rs)) all
          ∙ joined_empty (map alone c.args.rows);
      rising = subst (AllByRecursion (λ r. HasRisingLabels r.key)) (sym all) c.requires;
    }

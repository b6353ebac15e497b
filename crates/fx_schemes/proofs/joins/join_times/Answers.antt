use Rattle.std.proofs.Common.{refl, ap, ◌∙◌, [], ◌∷◌}
use Rattle.std.specs.Prelude.{codes}
use Rattle.fx_schemes.specs.Plan.{labelled}
use Rattle.fx_schemes.specs.Scheme.{shown}
use Rattle.fx_schemes.proofs.JoinLaws.{times, times_law}
use Rattle.fx_schemes.proofs.Results.{along}
use Rattle.fx_schemes.proofs.SchemeLaws.{by_scheme, same_more, same_piped, free}
use Rattle.fx_schemes.proofs.joins.join_times.Goals as goal

pub returns : goal.returns
returns c =
    by_scheme _ c.joined.result times
    (along shown c.joined.result _ times
    (same_piped (codes "left") (codes "method" ∷ []) [] (free 3) _ _ _ _ _ _ refl
    (same_more _ _ _ _ _ (c.in_ok-right.ensures ∙ ap (λ t. labelled (codes "right") t ∷ []) c.in_ok-stream_over.ensures) refl)
    refl)
    c.joined.ensures)
    times_law

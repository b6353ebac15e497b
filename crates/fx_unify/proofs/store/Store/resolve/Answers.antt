use Rattle.std.proofs.Common.{◌≡◌, sym, ap, ◌∙◌, Some}
use Rattle.std.specs.Prelude.{option_map}
use Rattle.fx_unify.specs.Part.{part, value}
use Rattle.fx_unify.specs.Store.{entry, bound_to}
use Rattle.fx_unify.specs.View.{part_seen}
use Rattle.fx_unify.proofs.RowLaws.{if_ok}
use Rattle.fx_unify.proofs.StoreLaws.{stepped}
use Rattle.fx_unify.proofs.store.Store.resolve.Goals as goal

pub returns-in_ok-seen-in-Some-clause-same : goal.returns-in_ok-seen-in-Some-clause-same
returns-in_ok-seen-in-Some-clause-same c =
    let bound : bound_to (entry c.args.self.now) (part c.args.field) ≡ Some (part_seen c.in-Some.next) =
    ap (bound_to (entry c.args.self.now)) (sym c.view.ensures) ∙ sym c.view_after.ensures ∙ ap (option_map part_seen) c.in-Some.is in
    if_ok c.copy.result (λ f e s solved. ap (value s) e ∙ c.in_ok-seen-in-Some.ensures.same s solved ∙ sym (stepped (entry c.args.self.now) (part c.args.field) (part_seen c.in-Some.next) bound s solved)) c.copy.ensures

use Rattle.std.proofs.Common.{◌≡◌, ◌<◌, map, filter, length, Some, IfOk, All, slice_get, ap, sym, subst, ◌∙◌}
use Rattle.std.specs.Ordering.{nat_cmp}
use Rattle.std.specs.List.Sorted.{IsStrictlySortedBy}
use Rattle.std.proofs.lemmas.Result.{IfOk-weaker}
use Rattle.fx_series.specs.Store.{Kept}
use Rattle.fx_series.specs.Read.{is_in}
use Rattle.fx_series.proofs.Places.{places-found, places-within, places-rise}
use Rattle.fx_series.proofs.store.Store.series.Goals as goal

pub returns-clause-found : goal.returns-clause-found
returns-clause-found c =
    let test = is_in c.args.bucket.now c.args.kind in
    let P : Kept → Type 0 = λ k. IfOk c.numbers.result (λ ns. map (slice_get k.series) ns ≡ map (λ s. Some s) (filter test k.series)) in
    subst P c.self.view_is (IfOk-weaker c.numbers.result _ _ (λ ns h. ap (map (slice_get c.self.inside.series)) h ∙ places-found test c.self.inside.series) c.numbers.ensures)

pub returns-clause-within : goal.returns-clause-within
returns-clause-within c =
    let test = is_in c.args.bucket.now c.args.kind in
    let P : Kept → Type 0 = λ k. IfOk c.numbers.result (λ ns. All (λ n. n < length k.series) ns) in
    subst P c.self.view_is (IfOk-weaker c.numbers.result _ _ (λ ns h. subst (All (λ n. n < length c.self.inside.series)) (sym h) (places-within test c.self.inside.series)) c.numbers.ensures)

pub returns-clause-rising : goal.returns-clause-rising
returns-clause-rising c =
    let test = is_in c.args.bucket.now c.args.kind in
    IfOk-weaker c.numbers.result _ _ (λ ns h. subst (IsStrictlySortedBy nat_cmp) (sym h) (places-rise test 0 c.self.inside.series)) c.numbers.ensures

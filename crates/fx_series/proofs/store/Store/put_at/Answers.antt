use Rattle.std.proofs.Common.{◌≡◌, slice_get, length, sym, ap, subst, ◌∙◌, arith, to_z, of_z, w64}
use Rattle.std.proofs.lemmas.Int.{to_z-of_z}
use Rattle.fx_series.specs.Store.{Kept, StandsFor, is_added}
use Rattle.fx_series.proofs.Stands.{ids_differ, put_by_number}
use Rattle.fx_series.proofs.store.Store.put_at.Goals as goal

pub invariant_of-self-2 : goal.invariant_of-self-2
invariant_of-self-2 c =
    let room = ap (λ k. k.puts) c.self.view_is in
    (omega (arith, c.put_at.ensures.many, c.self.invariant.0), omega (arith, room, c.requires.room))

pub returns-clause-ok : goal.returns-clause-ok
returns-clause-ok c = λ s buckets stored at added lawful stands.
    let kept : Kept = record { buckets = c.self.inside.buckets.keys; series = c.self.inside.series; puts = c.self.inside.puts } in
    let stands' : StandsFor kept buckets stored = subst (λ k. StandsFor k buckets stored) (sym c.self.view_is) stands in
    let time : to_z w64 (of_z w64 c.args.time) ≡ c.args.time = to_z-of_z w64 c.args.time c.ranges.time in
    let at' = ap (λ k. slice_get k.series c.args.series) c.self.view_is ∙ at in
    put_by_number kept buckets stored stands' c.args.series s c.args.time (to_z w64 (of_z w64 c.args.time)) c.args.value c.put_at.new.self at'
    (ap (λ k. is_added k.buckets s.id.bucket) c.self.view_is ∙ added) lawful (c.requires.kind s at) time
    (c.in_ok-put_at.ensures.ok s at' (ids_differ kept buckets stored stands'))

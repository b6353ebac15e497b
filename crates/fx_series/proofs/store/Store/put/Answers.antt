use Rattle.std.proofs.Common.{◌≡◌, Ok, Err, sym, ap, subst, ◌∙◌, arith, to_z, of_z, w64, length}
use Rattle.std.proofs.lemmas.Int.{to_z-of_z}
use Rattle.std.proofs.lemmas.Result.{err_from_is_err_and}
use Rattle.fx_value.specs.Scalar.{kind_of}
use Rattle.fx_line.specs.Stored.{StoredPoint, SeriesId}
use Rattle.fx_series.specs.Store.{StandsFor, is_added}
use Rattle.fx_series.proofs.Stands.{stands-after, answers-after, length-after_put}
use Rattle.fx_series.proofs.store.Store.put.Goals as goal

pub returns-in_err-put-clause-answers : goal.returns-in_err-put-clause-answers
returns-in_err-put-clause-answers c = λ buckets stored h.
    let p = err_from_is_err_and c.from_residual-in_err-put.result c.from_residual-in_err-put.ensures.1 in
    let s : StoredPoint = record { bucket = c.args.bucket.now; point = c.args.point } in
    let added = ap (λ k. is_added k.buckets c.args.bucket.now) c.self.view_is ∙ sym c.if-not-has_bucket.ensures in
    let stands = subst (λ k. StandsFor k buckets stored) (sym c.self.view_is) h in
    rw (p.1, p.2) (answers-after _ buckets stored s stands added c.in_ok-copy.field-0 c.in_ok-copy.ensures (Err c.in_err-put.field-0.0) c.in_err-put.ensures.answers)

pub invariant_of-self-2 : goal.invariant_of-self-2
invariant_of-self-2 c =
    let room = ap (λ k. k.puts) c.self.view_is in
    let id : SeriesId = record { bucket = c.in_ok-copy.field-0; key = c.args.point.series; kind = kind_of c.args.point.value } in
    let grown = ap length c.in_ok-put.ensures.ok in
    (omega (arith, grown, length-after_put id (to_z w64 (of_z w64 c.args.point.time)) c.args.point.value c.self.inside.series, c.self.invariant.0), omega (arith, room, c.requires.room))

pub returns-clause-ok : goal.returns-clause-ok
returns-clause-ok c = λ buckets stored h.
    let s : StoredPoint = record { bucket = c.args.bucket.now; point = c.args.point } in
    let added = ap (λ k. is_added k.buckets c.args.bucket.now) c.self.view_is ∙ sym c.if-not-has_bucket.ensures in
    let stands = subst (λ k. StandsFor k buckets stored) (sym c.self.view_is) h in
    let time : to_z w64 (of_z w64 c.args.point.time) ≡ c.args.point.time = to_z-of_z w64 c.args.point.time c.requires.lawful.time in
    stands-after _ buckets stored s stands added c.in_ok-copy.field-0 c.in_ok-copy.ensures _ c.put.new.self time c.requires.lawful c.in_ok-put.ensures.ok c.in_ok-put.ensures.answers

pub returns-clause-answers : goal.returns-clause-answers
returns-clause-answers c = λ buckets stored h.
    let s : StoredPoint = record { bucket = c.args.bucket.now; point = c.args.point } in
    let added = ap (λ k. is_added k.buckets c.args.bucket.now) c.self.view_is ∙ sym c.if-not-has_bucket.ensures in
    let stands = subst (λ k. StandsFor k buckets stored) (sym c.self.view_is) h in
    answers-after _ buckets stored s stands added c.in_ok-copy.field-0 c.in_ok-copy.ensures (Ok tt) c.in_ok-put.ensures.answers

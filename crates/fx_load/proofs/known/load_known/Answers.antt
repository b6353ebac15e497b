use Rattle.std.proofs.Common.{◌≡◌, ◌∙◌, ap}
use Rattle.fx_load.proofs.KnownLemmas.{known_may, known_loads}
use Rattle.fx_load.proofs.known.load_known.Goals as goal

pub put_values-requires-clause-may : goal.put_values-requires-clause-may
put_values-requires-clause-may c =
    let among = c.in-Some.ensures.among in
    known_may c.args.mode c.args.bucket.now c.args.line.now c.args.store.now c.args.memo.now among.0 c.in-Some.known.now c.read.new.values.items c.in-Some.time c.requires.fits among.1 c.in-Some.ensures.filled
    c.as_slice.result.now c.as_slice-2.result.now (c.as_slice.ensures.value ∙ ap (λ k. k.numbers) c.known.view_is) c.as_slice-2.ensures.value

pub returns : goal.returns
returns c = λ buckets stored stands.
    let among = c.in-Some.ensures.among in
    known_loads c.args.mode c.args.bucket.now c.args.line.now c.args.store.now c.args.memo.now among.0 c.in-Some.known.now c.read.new.values.items c.in-Some.time c.requires.fits among.1 c.in-Some.ensures.filled
    buckets stored c.put_values.new.store c.as_slice.result.now c.as_slice-2.result.now (c.as_slice.ensures.value ∙ ap (λ k. k.numbers) c.known.view_is) c.as_slice-2.ensures.value stands c.in_ok-put_values.ensures

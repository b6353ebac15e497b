use Rattle.std.proofs.Common.{Ok, subst}
use Rattle.fx_load.specs.Memo.{KnownLoads}
use Rattle.fx_load.proofs.KnownLemmas.{fits_taken}
use Rattle.fx_load.proofs.load.load_line.Goals as goal

pub returns-in-Ok-true-clause-loads : goal.returns-in-Ok-true-clause-loads
returns-in-Ok-true-clause-loads c = λ buckets stored stands.
    subst (λ b. KnownLoads c.args.mode buckets c.args.bucket.now c.args.line.now stored c.args.store.now c.load_known.new.store (Ok b)) c.in-Ok-true.field-0-test (c.in-Ok-true.ensures buckets stored stands)

pub returns-in-Ok-true-clause-fits : goal.returns-in-Ok-true-clause-fits
returns-in-Ok-true-clause-fits c =
    let ready = c.requires.ready in
    let loads = subst (λ b. KnownLoads c.args.mode ready.buckets c.args.bucket.now c.args.line.now ready.stored c.args.store.now c.load_known.new.store (Ok b)) c.in-Ok-true.field-0-test (c.in-Ok-true.ensures ready.buckets ready.stored ready.stands) in
    fits_taken c.args.mode c.args.bucket.now c.args.line.now c.args.memo.now c.args.store.now c.load_known.new.store ready loads c.requires.fits

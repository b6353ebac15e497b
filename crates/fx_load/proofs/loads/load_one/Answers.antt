use Rattle.std.proofs.Common.{◌≡◌, sym, subst}
use Rattle.fx_load.specs.declared.loads.TheConstants.{MOST_FILE_BYTES}
use Rattle.fx_load.proofs.LoadsLemmas.{told_bytes, one_read, one_stops, stays_ready}
use Rattle.fx_load.proofs.loads.load_one.Goals as goal

pub returns-in-Ok-load_file-clause-told : goal.returns-in-Ok-load_file-clause-told
returns-in-Ok-load_file-clause-told g c = λ told buckets stored tells stands.
    one_read c.args.mode told buckets c.args.load.now stored c.load_file.new.store c.in-Ok.bytes.items c.as_slice.result.now c.as_slice.ensures.value
    (told_bytes (g.F.Files.content c.args.files.now) told c.args.load.now.file MOST_FILE_BYTES c.in-Ok.bytes tells c.in-Ok.ensures.bytes c.in-Ok.ensures.cause.1)
    (c.in-Ok-load_file.ensures buckets stored stands)

pub returns-in-Ok-load_file-clause-stays : goal.returns-in-Ok-load_file-clause-stays
returns-in-Ok-load_file-clause-stays g c = stays_ready c.args.mode c.args.load.now.bucket c.as_slice.result.now c.args.store.now c.load_file.new.store c.in-Ok-load_file.ensures

pub returns-clause-told : goal.returns-clause-told
returns-clause-told g c = λ told buckets stored tells stands.
    one_stops c.args.mode told buckets c.args.load.now stored c.load_file.new.store c.in-Ok.bytes.items c.as_slice.result.now c.in-Err.stop c.stop_of.result c.as_slice.ensures.value c.stop_of.ensures
    (told_bytes (g.F.Files.content c.args.files.now) told c.args.load.now.file MOST_FILE_BYTES c.in-Ok.bytes tells c.in-Ok.ensures.bytes c.in-Ok.ensures.cause.1)
    (c.in-Err.ensures buckets stored stands)

use Rattle.std.proofs.Common.{◌≡◌, ◌+◌, ◌∙◌, length, ap, sym, subst, arith, Err}
use Rattle.std.specs.Option.{option_map}
use Rattle.fx_load.specs.Bytes.{lines_left, bytes_left}
use Rattle.fx_load.specs.Load.{FileLoads}
use Rattle.fx_load.proofs.LoadLemmas.{read_more, ready_after, stops, stop_loads, all_read, HasRead}
use Rattle.fx_load.proofs.load.load_file.Goals as goal

pub returns-in-Err : goal.returns-in-Err
returns-in-Err c = λ buckets stored stands.
    let had = c.loop-rest.invariant.read buckets stored stands in
    let lines = ap (λ o. lines_left (option_map (λ t. t.now) o)) c.in-Some.is ∙ c.first_line.ensures.lines in
    let at = stops c.args.mode buckets c.args.bucket.now c.args.file.now c.first_line.result.0.now stored c.loop-rest.number (option_map (λ t. t.now) c.loop-rest.rest) (lines_left (option_map (λ t. t.now) c.first_line.result.1)) c.loop-rest.store had lines in
    subst (λ stop. FileLoads c.args.mode buckets c.args.bucket.now c.args.file.now stored c.load_line.new.store (Err stop)) (sym c.at_line.ensures)
    (stop_loads c.args.mode buckets c.args.bucket.now c.args.file.now c.first_line.result.0.now stored had.stored (c.loop-rest.number + 1) c.load_line.new.store c.load_line.new.store c.in-Err.stop at (c.in-Err.ensures.loads buckets had.stored had.stands))

pub loop-rest-preserved : goal.loop-rest-preserved
loop-rest-preserved c =
    let lines = ap (λ o. lines_left (option_map (λ t. t.now) o)) c.in-Some.is ∙ c.first_line.ensures.lines in
    let size : bytes_left (option_map (λ t. t.now) c.loop-rest.rest) ≡ length c.in-Some.text.now + 1 = ap (λ o. bytes_left (option_map (λ t. t.now) o)) c.in-Some.is in
    let ready = c.loop-rest.invariant.ready in
    let taken = c.in-Ok.ensures.loads ready.buckets ready.stored ready.stands in
    record {
      small = omega (arith, c.first_line.ensures.shorter, size, c.loop-rest.invariant.small);
      ready = ready_after c.args.mode ready.buckets c.args.bucket.now c.first_line.result.0.now ready.stored taken.0 c.loop-rest.store c.load_line.new.store ready.added ready.stands taken.1 taken.2;
      fits = c.in-Ok.ensures.fits;
      read = λ buckets stored stands.
          let had = c.loop-rest.invariant.read buckets stored stands in
          let more = c.in-Ok.ensures.loads buckets had.stored had.stands in
          read_more c.args.mode buckets c.args.bucket.now c.args.file.now c.first_line.result.0.now stored more.0 c.loop-rest.number (option_map (λ t. t.now) c.loop-rest.rest) (option_map (λ t. t.now) c.first_line.result.1) c.loop-rest.store c.load_line.new.store had lines more.1 more.2;
    }

pub returns : goal.returns
returns c = λ buckets stored stands. all_read c.args.mode buckets c.args.bucket.now c.args.file.now stored c.loop-rest.number c.loop-rest.store
    (subst (λ o. HasRead c.args.mode buckets c.args.bucket.now c.args.file.now stored c.loop-rest.number (option_map (λ t. t.now) o) c.loop-rest.store) c.in_default.is (c.loop-rest.invariant.read buckets stored stands))

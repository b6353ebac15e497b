use Rattle.std.proofs.Common.{◌≡◌, [], ◌∷◌, ◌++◌, length, ap, sym, ◌∙◌, arith}
use Rattle.std.specs.Prelude.{reverse}
use Rattle.std.proofs.lemmas.List.{reverse-reverse, nil_from_length}
use Rattle.fx_load.specs.Load.{in_bucket}
use Rattle.fx_load.proofs.LoadLemmas.{nothing_put, next_point, next_joined, lawful_at, put_more, ready_more, put_stops, all_put}
use Rattle.fx_load.proofs.load.put_points.Goals as goal

pub loop-point-init : goal.loop-point-init
loop-point-init c = record {
  done = [];
  joined = sym (ap reverse c.reverse.ensures.items ∙ reverse-reverse c.args.points.items);
  ready = c.requires.ready;
  put = λ buckets stored stands. nothing_put buckets c.args.bucket.now stored c.args.store.now stands;
}

pub put_point-requires-clause-lawful : goal.put_point-requires-clause-lawful
put_point-requires-clause-lawful c =
    let had = c.loop-point.invariant in
    let left = c.pop.new.self.items in
    lawful_at c.args.points.items had.done (reverse left) c.in-Some.point c.requires.lawful (next_point c.args.points.items had.done c.loop-point.points.items left c.in-Some.point had.joined c.in-Some.ensures.items)

pub loop-point-preserved : goal.loop-point-preserved
loop-point-preserved c =
    let had = c.loop-point.invariant in
    let left = c.pop.new.self.items in
    let point = c.in-Some.point in
    let is = next_point c.args.points.items had.done c.loop-point.points.items left point had.joined c.in-Some.ensures.items in
    let ready = had.ready in
    record {
      done = had.done ++ point ∷ [];
      joined = next_joined c.args.points.items had.done left point is;
      ready = ready_more ready.buckets c.args.bucket.now ready.stored point c.loop-point.store c.put_point.new.store ready.added ready.stands (c.in-Ok.ensures ready.buckets ready.stored ready.stands);
      put = λ buckets stored stands.
          let h = had.put buckets stored stands in
          put_more buckets c.args.bucket.now stored had.done point c.loop-point.store c.put_point.new.store h (c.in-Ok.ensures buckets (stored ++ in_bucket c.args.bucket.now had.done) h.stands);
    }

pub returns-in-Err : goal.returns-in-Err
returns-in-Err c = λ buckets stored stands.
    let had = c.loop-point.invariant in
    let left = c.pop.new.self.items in
    let is = next_point c.args.points.items had.done c.loop-point.points.items left c.in-Some.point had.joined c.in-Some.ensures.items in
    let h = had.put buckets stored stands in
    put_stops buckets c.args.bucket.now stored c.args.points.items had.done (reverse left) c.in-Some.point c.loop-point.store c.put_point.new.store c.in-Err.stop is h
    (c.in-Err.ensures buckets (stored ++ in_bucket c.args.bucket.now had.done) h.stands)

pub returns : goal.returns
returns c = λ buckets stored stands.
    let had = c.loop-point.invariant in
    let left = c.loop-point.points.items in
    let none : length left ≡ 0 = omega (arith, c.in_default.ensures.cases.0) in
    all_put buckets c.args.bucket.now stored c.args.points.items had.done c.loop-point.store (had.joined ∙ ap (λ l. had.done ++ reverse l) (nil_from_length left none)) had.ready (had.put buckets stored stands)

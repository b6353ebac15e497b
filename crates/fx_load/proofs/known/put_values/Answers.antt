use Rattle.std.proofs.Common.{◌≡◌, ◌+◌, Some, ◌∷◌, drop, length, slice_get, get_or, sym, subst, inl, inr, w64}
use Rattle.std.proofs.lemmas.Int.{to_z-of_z}
use Rattle.std.proofs.lemmas.List.{drop_all}
use Rattle.fx_load.proofs.KnownLemmas.{IsPuttingInts, begin_puts, puts_done, at_step, at_time, again, put_next, next_within, next_kind, got_at, none_at}
use Rattle.fx_load.proofs.known.put_values.Goals as goal

pub loop-i-init : goal.loop-i-init
loop-i-init c =
    let old = c.args.store.now in
    let bucket = c.args.bucket.now in
    let numbers = c.args.numbers.now in
    let values = c.args.values.now in
    at_time old bucket numbers values (again c.args.time) numbers values old c.args.time (sym (to_z-of_z w64 c.args.time c.ranges.time))
    (begin_puts old bucket numbers values c.args.time c.requires.ready c.requires.room c.requires.may)

pub returns-in_default : goal.returns-in_default
returns-in_default c =
    let old = c.args.store.now in
    let bucket = c.args.bucket.now in
    let numbers = c.args.numbers.now in
    let values = c.args.values.now in
    let i = c.loop-i.i in
    puts_done old c.loop-i.store bucket numbers (drop i numbers) values (drop i values) c.args.time
    (at_time old bucket numbers values c.args.time (drop i numbers) (drop i values) c.loop-i.store (again c.args.time) (to_z-of_z w64 c.args.time c.ranges.time) c.loop-i.invariant)
    (inr (drop_all i values (none_at values i c.in_default.ensures.lookup.0)))

-- what is to be put from this place on
from_here : (c : goal.After-put_at-arg-in-loop-i-1) → IsPuttingInts c.args.store.now c.args.bucket.now c.args.numbers.now c.args.values.now c.args.time (get_or c.args.numbers.now c.loop-i.i 0 ∷ drop (c.loop-i.i + 1) c.args.numbers.now) (c.in-Some.value.now ∷ drop (c.loop-i.i + 1) c.args.values.now) c.loop-i.store
from_here c =
    let old = c.args.store.now in
    let bucket = c.args.bucket.now in
    let numbers = c.args.numbers.now in
    let values = c.args.values.now in
    let i = c.loop-i.i in
    at_step old bucket numbers values c.args.time c.loop-i.store i c.in-Some.value.now c.loop-i-test.true (got_at values i c.in-Some.value.now c.in-Some.ensures.lookup.0 c.in-Some.ensures.lookup.1)
    (at_time old bucket numbers values c.args.time (drop i numbers) (drop i values) c.loop-i.store (again c.args.time) (to_z-of_z w64 c.args.time c.ranges.time) c.loop-i.invariant)

pub put_at-requires-clause-series : goal.put_at-requires-clause-series
put_at-requires-clause-series c =
    next_within c.args.store.now c.loop-i.store c.loop-i.store c.args.bucket.now c.args.numbers.now (drop (c.loop-i.i + 1) c.args.numbers.now) c.args.values.now (drop (c.loop-i.i + 1) c.args.values.now) c.args.time c.in-Some.value.now (get_or c.args.numbers.now c.loop-i.i 0) (from_here c)

pub put_at-requires-clause-kind : goal.put_at-requires-clause-kind
put_at-requires-clause-kind c =
    next_kind c.args.store.now c.loop-i.store c.loop-i.store c.args.bucket.now c.args.numbers.now (drop (c.loop-i.i + 1) c.args.numbers.now) c.args.values.now (drop (c.loop-i.i + 1) c.args.values.now) c.args.time c.in-Some.value.now (get_or c.args.numbers.now c.loop-i.i 0) (from_here c)

pub loop-i-preserved : goal.loop-i-preserved
loop-i-preserved c =
    let old = c.args.store.now in
    let kept = c.loop-i.store in
    let new = c.put_at.new.self in
    let bucket = c.args.bucket.now in
    let numbers = c.args.numbers.now in
    let values = c.args.values.now in
    let i = c.loop-i.i in
    let value = c.in-Some.value.now in
    let before = at_time old bucket numbers values c.args.time (drop i numbers) (drop i values) kept (again c.args.time) (to_z-of_z w64 c.args.time c.ranges.time) c.loop-i.invariant in
    let here = at_step old bucket numbers values c.args.time kept i value c.loop-i-test.true (got_at values i value c.in-Some.ensures.lookup.0 c.in-Some.ensures.lookup.1) before in
    at_time old bucket numbers values (again c.args.time) (drop (i + 1) numbers) (drop (i + 1) values) new c.args.time (sym (to_z-of_z w64 c.args.time c.ranges.time))
    (put_next old kept new bucket numbers (drop (i + 1) numbers) values (drop (i + 1) values) c.args.time value (get_or numbers i 0) here c.in_ok-put_at.ensures.ok)

pub returns : goal.returns
returns c =
    let old = c.args.store.now in
    let bucket = c.args.bucket.now in
    let numbers = c.args.numbers.now in
    let values = c.args.values.now in
    let i = c.loop-i.i in
    puts_done old c.loop-i.store bucket numbers (drop i numbers) values (drop i values) c.args.time
    (at_time old bucket numbers values c.args.time (drop i numbers) (drop i values) c.loop-i.store (again c.args.time) (to_z-of_z w64 c.args.time c.ranges.time) c.loop-i.invariant)
    (inl (drop_all i numbers c.loop-i-test.false))

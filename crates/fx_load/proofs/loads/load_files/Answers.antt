use Rattle.std.proofs.Common.{◌≡◌, ◌∙◌, refl, subst}
use Rattle.fx_load.specs.Loads.{StopCauses}
use Rattle.fx_load.proofs.LoadsLemmas.{ready_at, still_ready, read_on, read_all, read_stops}
use Rattle.fx_load.proofs.loads.load_files.Goals as goal

pub loop-place-init : goal.loop-place-init
loop-place-init g c = record {
  ready = c.requires.ready;
  same = refl;
  faults = refl;
  read = λ told buckets stored tells stands. record { stored = stored; read = refl; stands = stands };
}

pub load_one-requires-clause-ready : goal.load_one-requires-clause-ready
load_one-requires-clause-ready g c = ready_at c.loop-place.store c.args.loads.now c.loop-place.place c.index-loads-place.result c.loop-place.invariant.ready c.loop-place-test.true c.index-loads-place.is

pub returns-in-Err : goal.returns-in-Err
returns-in-Err g c =
    let had = c.loop-place.invariant in
    record {
      same = c.in-Err.ensures.same ∙ had.same;
      told = λ told buckets stored tells stands.
          let h = had.read told buckets stored tells stands in
          read_stops c.args.mode told buckets c.args.loads.now stored c.loop-place.place c.index-loads-place.result c.loop-place.store c.in-Err.stop c.loop-place-test.true c.index-loads-place.is h
          (c.in-Err.ensures.told told buckets h.stored (had.same ∙ tells) h.stands);
      causes = (subst (λ n. StopCauses n (g.F.Files.faults c.load_one.new.files) c.in-Err.stop) had.faults c.in-Err.ensures.causes, c.loop-place-test.true);
      ready = tt;
    }

pub loop-place-preserved : goal.loop-place-preserved
loop-place-preserved g c =
    let had = c.loop-place.invariant in
    record {
      ready = still_ready c.loop-place.store c.load_one.new.store c.args.loads.now had.ready c.in-Ok.ensures.stays;
      same = c.in-Ok.ensures.same ∙ had.same;
      faults = c.in-Ok.ensures.causes ∙ had.faults;
      read = λ told buckets stored tells stands.
          let h = had.read told buckets stored tells stands in
          read_on c.args.mode told buckets c.args.loads.now stored c.loop-place.place c.index-loads-place.result c.loop-place.store c.load_one.new.store c.loop-place-test.true c.index-loads-place.is h
          (c.in-Ok.ensures.told told buckets h.stored (had.same ∙ tells) h.stands);
    }

pub returns : goal.returns
returns g c =
    let had = c.loop-place.invariant in
    record {
      same = had.same;
      told = λ told buckets stored tells stands. read_all c.args.mode told buckets c.args.loads.now stored c.loop-place.place c.loop-place.store c.loop-place-test.false (had.read told buckets stored tells stands);
      causes = had.faults;
      ready = had.ready;
    }

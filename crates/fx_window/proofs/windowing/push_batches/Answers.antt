use Rattle.std.proofs.Common.{◌≡◌, List, sym, ap, subst, ◌∙◌}
use Rattle.std.specs.List.{flat_map}
use Rattle.fx_data.specs.declared.keyed_row.KeyedRow.{KeyedRow}
use Rattle.fx_group.specs.Answer.{Row}
use Rattle.fx_group.specs.Turned.{Groups, with_rows}
use Rattle.fx_group.proofs.Turned.{with_both}
use Rattle.fx_window.specs.Reaches.{AllBatches, copies_of, made_of}
use Rattle.fx_window.specs.declared.batch.Batch.{Batch}
use Rattle.fx_window.specs.declared.reach.Reach.{Reach}
use Rattle.fx_window.proofs.windowing.push_batches.Goals as goal

pub loop-batch-init : goal.loop-batch-init
loop-batch-init c =
    let f = c.args.frame.now in
    let each : Reach → Row → List KeyedRow = λ reach. copies_of f.every f.period reach c.args.key.now in
    let all : c.into_iter-batch-iterator.result.rest.items ≡ c.args.batches.items = c.into_iter-batch-iterator.ensures.into_iter_gives.0 in
    record {
      same = ap (λ (bs : List Batch). with_rows c.args.runs (flat_map (made_of each) bs)) all;
      all = subst (AllBatches f.every f.period c.args.key.now.entries) (sym all) c.requires.all;
    }

pub push_batch-requires-clause-near : goal.push_batch-requires-clause-near
push_batch-requires-clause-near c =
    let f = c.args.frame.now in
    (subst (AllBatches f.every f.period c.args.key.now.entries) c.in-Some.ensures.steps.0 c.loop-batch.invariant.all).0.0

pub push_batch-requires-clause-lawful : goal.push_batch-requires-clause-lawful
push_batch-requires-clause-lawful c =
    let f = c.args.frame.now in
    record { rising = c.requires.rising; columns = (subst (AllBatches f.every f.period c.args.key.now.entries) c.in-Some.ensures.steps.0 c.loop-batch.invariant.all).0.1 }

pub loop-batch-preserved : goal.loop-batch-preserved
loop-batch-preserved c =
    let f = c.args.frame.now in
    let each : Reach → Row → List KeyedRow = λ reach. copies_of f.every f.period reach c.args.key.now in
    let left = c.next.new.self.rest.items in
    record {
      same = ap (λ (g : Groups). with_rows g (flat_map (made_of each) left)) c.in_ok-runs.ensures
          ∙ sym (with_both c.loop-batch.runs (made_of each c.in-Some.batch) (flat_map (made_of each) left))
          ∙ ap (λ (bs : List Batch). with_rows c.loop-batch.runs (flat_map (made_of each) bs)) (sym c.in-Some.ensures.steps.0) ∙ c.loop-batch.invariant.same;
      all = (subst (AllBatches f.every f.period c.args.key.now.entries) c.in-Some.ensures.steps.0 c.loop-batch.invariant.all).1;
    }

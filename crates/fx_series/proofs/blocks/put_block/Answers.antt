use Rattle.std.proofs.Common.{◌≡◌, List, get_or, sym, ap, ◌∙◌, subst, OnOk, OnErr}
use Rattle.std.proofs.Math.ListN.{set}
use Rattle.std.specs.Int.{w64}
use Rattle.std.proofs.lemmas.Int.{to_z-of_z}
use Rattle.std.proofs.lemmas.Result.{on_ok_weaker, on_err_weaker}
use Rattle.fx_series.specs.declared.series.TimeValue.{TimeValue}
use Rattle.fx_series.specs.Read.{pairs}
use Rattle.fx_series.specs.Blocks.{Rises, AreBlocks}
use Rattle.fx_series.proofs.BlockPlaces.{rises_at, put_in, put_in_are, same_set, put_result_are}
use Rattle.fx_series.proofs.blocks.put_block.Goals as goal

pub put-requires : goal.put-requires
put-requires c = record {
  rising = subst (λ (b : List TimeValue). Rises (pairs b)) (sym c.index_mut.ensures.value) (rises_at c.args.blocks.now.items c.args.place c.index_mut.result.now c.requires.belongs.within c.requires.are.rising);
}

pub returns-clause-ok : goal.returns-clause-ok
returns-clause-ok c =
    on_ok_weaker c.put.result
    (λ e. put_in c.args.blocks.now.items c.args.place c.index_mut.result.now c.put.new.self c.args.time _ c.args.value c.requires.belongs c.index_mut.ensures.value (to_z-of_z w64 c.args.time c.ranges.time) e)
    c.put.ensures.ok

pub returns-clause-are : goal.returns-clause-are
returns-clause-are c =
    let old = c.args.blocks.now.items in
    let new = set old c.args.place c.put.new.self in
    put_result_are c.put.result old new
    (on_ok_weaker c.put.result
    (λ e. put_in_are old c.args.place c.index_mut.result.now c.put.new.self c.args.time _ c.args.value c.requires.belongs c.index_mut.ensures.value (to_z-of_z w64 c.args.time c.ranges.time) e c.requires.are c.requires.room)
    c.put.ensures.ok)
    (on_err_weaker c.put.result (λ e. same_set old c.args.place c.index_mut.result.now c.put.new.self c.requires.belongs.within c.index_mut.ensures.value e) c.put.ensures.err)
    c.requires.are

use Rattle.std.proofs.Common.{◌≡◌, ℤ, List, sym, ap, ◌∙◌, subst, to_z, of_z, OnOk, OnErr}
use Rattle.std.specs.Int.{w64}
use Rattle.std.specs.Ordering.{int_cmp}
use Rattle.std.specs.BTreeMap.{insert_entry}
use Rattle.std.proofs.lemmas.Int.{to_z-of_z}
use Rattle.std.proofs.lemmas.Result.{on_ok_weaker, on_err_weaker}
use Rattle.fx_series.specs.declared.series.TimeValue.{TimeValue}
use Rattle.fx_series.specs.Blocks.{entries_in, AreBlocks, Belongs}
use Rattle.fx_series.proofs.BlockPlaces.{cut_entries, cut_are, half_fits}
use Rattle.fx_series.proofs.blocks.put_within.Goals as goal

pub half_of-half-requires-clause-are : goal.half_of-half-requires-clause-are
half_of-half-requires-clause-are c =
    let t = to_z w64 (of_z w64 c.args.time) in
    let bs = c.args.blocks.now.items in
    let belongs : Belongs bs t c.block_of-place.result = subst (λ (l : List (List TimeValue)). Belongs l t c.block_of-place.result) c.as_slice.ensures.value c.block_of-place.ensures in
    subst AreBlocks (sym c.as_slice-2.ensures.value) (cut_are bs c.cut.new.blocks.items c.block_of-place.result t c.requires.are belongs c.in_ok-cut.ensures.ok)

pub put_block-requires-2-clause-are : goal.put_block-requires-2-clause-are
put_block-requires-2-clause-are c =
    let t = to_z w64 (of_z w64 c.args.time) in
    let bs = c.args.blocks.now.items in
    let belongs : Belongs bs t c.block_of-place.result = subst (λ (l : List (List TimeValue)). Belongs l t c.block_of-place.result) c.as_slice.ensures.value c.block_of-place.ensures in
    cut_are bs c.cut.new.blocks.items c.block_of-place.result t c.requires.are belongs c.in_ok-cut.ensures.ok

pub put_block-requires-2-clause-belongs : goal.put_block-requires-2-clause-belongs
put_block-requires-2-clause-belongs c =
    let t = to_z w64 (of_z w64 c.args.time) in
    let bs = c.args.blocks.now.items in
    let belongs : Belongs bs t c.block_of-place.result = subst (λ (l : List (List TimeValue)). Belongs l t c.block_of-place.result) c.as_slice.ensures.value c.block_of-place.ensures in
    (half_fits bs c.cut.new.blocks.items c.block_of-place.result t c.requires.are belongs c.in_ok-cut.ensures.ok c.as_slice-2.result.now c.half_of-half.result c.as_slice-2.ensures.value c.half_of-half.ensures.later c.half_of-half.ensures.earlier).0

pub put_block-requires-2-clause-room : goal.put_block-requires-2-clause-room
put_block-requires-2-clause-room c =
    let t = to_z w64 (of_z w64 c.args.time) in
    let bs = c.args.blocks.now.items in
    let belongs : Belongs bs t c.block_of-place.result = subst (λ (l : List (List TimeValue)). Belongs l t c.block_of-place.result) c.as_slice.ensures.value c.block_of-place.ensures in
    (half_fits bs c.cut.new.blocks.items c.block_of-place.result t c.requires.are belongs c.in_ok-cut.ensures.ok c.as_slice-2.result.now c.half_of-half.result c.as_slice-2.ensures.value c.half_of-half.ensures.later c.half_of-half.ensures.earlier).1

pub returns-clause-ok : goal.returns-clause-ok
returns-clause-ok c =
    let t = to_z w64 (of_z w64 c.args.time) in
    let when : t ≡ c.args.time = to_z-of_z w64 c.args.time c.ranges.time in
    let bs = c.args.blocks.now.items in
    let belongs : Belongs bs t c.block_of-place.result = subst (λ (l : List (List TimeValue)). Belongs l t c.block_of-place.result) c.as_slice.ensures.value c.block_of-place.ensures in
    let same = cut_entries bs c.cut.new.blocks.items c.block_of-place.result t c.requires.are belongs c.in_ok-cut.ensures.ok in
    on_ok_weaker c.put_block-2.result (λ e. e ∙ (λ i. insert_entry int_cmp (same i) (when i) c.args.value)) c.put_block-2.ensures.ok

pub returns-clause-err : goal.returns-clause-err
returns-clause-err c =
    let t = to_z w64 (of_z w64 c.args.time) in
    let bs = c.args.blocks.now.items in
    let belongs : Belongs bs t c.block_of-place.result = subst (λ (l : List (List TimeValue)). Belongs l t c.block_of-place.result) c.as_slice.ensures.value c.block_of-place.ensures in
    let same = cut_entries bs c.cut.new.blocks.items c.block_of-place.result t c.requires.are belongs c.in_ok-cut.ensures.ok in
    on_err_weaker c.put_block-2.result (λ e. e ∙ same) c.put_block-2.ensures.err

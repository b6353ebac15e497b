use Rattle.std.proofs.Common.{◌≡◌, ◌-◌, ◌<◌, ℤ, List, [], ◌∷◌, ◌++◌, length, sym, ap, ◌∙◌, subst, arith, to_z, of_z}
use Rattle.std.specs.Int.{w64}
use Rattle.std.specs.Ordering.{int_cmp}
use Rattle.std.specs.BTreeMap.{insert_entry}
use Rattle.std.proofs.lemmas.Int.{to_z-of_z}
use Rattle.fx_series.specs.declared.series.TimeValue.{TimeValue}
use Rattle.fx_series.specs.Blocks.{entries_in, AreBlocks, Belongs}
use Rattle.fx_series.proofs.BlockPlaces.{last_belongs, push_block, push_are_blocks}
use Rattle.fx_series.proofs.blocks.append.Goals as goal

pub put_block-requires-clause-belongs : goal.put_block-requires-clause-belongs
put_block-requires-clause-belongs c =
    let bs = c.args.blocks.now.items in
    let when : to_z w64 (of_z w64 c.args.time) ≡ c.args.time = to_z-of_z w64 c.args.time c.ranges.time in
    let long : c.len-len.result ≡ length bs = omega (arith, c.len-len.ensures) in
    (λ (t : ℤ) (n : t ≡ c.args.time). subst (λ (u : ℤ). Belongs bs u (c.len-len.result - 1)) (sym n) (subst (λ n. Belongs bs c.args.time (n - 1)) (sym long) (last_belongs bs c.args.time (omega (arith, c.if-len-gt0.true, long)) c.requires.before))) (to_z w64 (of_z w64 c.args.time)) when

pub returns-clause-ok : goal.returns-clause-ok
returns-clause-ok c =
    let bs = c.args.blocks.now.items in
    let when : to_z w64 (of_z w64 c.args.time) ≡ c.args.time = to_z-of_z w64 c.args.time c.ranges.time in
    let block = c.in_ok-block.ensures ∙ ap (λ (t : ℤ). record { time = t; value = c.args.value } ∷ []) when in
    ap entries_in (c.in_ok-push.ensures.items ∙ ap (λ (b : List TimeValue). bs ++ b ∷ []) block) ∙ push_block bs c.args.time c.args.value c.requires.before

pub returns-clause-are : goal.returns-clause-are
returns-clause-are c =
    let bs = c.args.blocks.now.items in
    let when : to_z w64 (of_z w64 c.args.time) ≡ c.args.time = to_z-of_z w64 c.args.time c.ranges.time in
    let block = c.in_ok-block.ensures ∙ ap (λ (t : ℤ). record { time = t; value = c.args.value } ∷ []) when in
    subst AreBlocks (sym (c.in_ok-push.ensures.items ∙ ap (λ (b : List TimeValue). bs ++ b ∷ []) block)) (push_are_blocks bs c.args.time c.args.value c.requires.are c.requires.before)

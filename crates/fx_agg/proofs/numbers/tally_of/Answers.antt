use Rattle.std.proofs.Common.{◌≡◌, ◌+◌, ◌∷◌, drop, sym, ap, ◌∙◌, arith, drop_of_length-le}
use Rattle.std.proofs.lemmas.List.{drop_more}
use Rattle.std.specs.FinMap.{get}
use Rattle.std.specs.Prelude.{None, option_to_list}
use Rattle.fx_value.specs.Works.{into}
use Rattle.fx_agg.specs.Numbers.{int_of, integers}
use Rattle.fx_agg.specs.Tally.{tallied}
use Rattle.fx_agg.proofs.Gathers.{item_gives, item_unstuck}
use Rattle.fx_agg.proofs.Tallies.{tallied_more, roomy, into_unstuck}
use Rattle.fx_agg.proofs.numbers.tally_of.Goals as goal

pub int_at-requires : goal.int_at-requires
int_at-requires c =
    let column = c.args.column.now in
    let rows = c.args.rows.now in
    let i = c.loop-row.row-index in
    let split : drop i rows ≡ c.row-item.result ∷ drop (i + 1) rows = drop_more rows i c.row-item.result (omega arith) ∙ ap (λ r. r ∷ drop (i + 1) rows) (sym c.row-item.is) in
    λ stuck. item_unstuck tallied (λ row. int_of (get row column)) (into tallied None (integers column rows)) c.loop-row.tally (drop i rows) c.loop-row.invariant.same
    c.row-item.result (drop (i + 1) rows) split (into_unstuck tallied None (integers column rows) c.requires) (ap int_of (sym c.get_near.ensures) ∙ stuck)

pub more-tally-requires : goal.more-tally-requires
more-tally-requires c = roomy c.loop-row.tally c.loop-row.row-index (omega arith) c.loop-row.invariant.room

pub loop-row-preserved : goal.loop-row-preserved
loop-row-preserved c =
    let column = c.args.column.now in
    let rows = c.args.rows.now in
    let i = c.loop-row.row-index in
    let split : drop i rows ≡ c.row-item.result ∷ drop (i + 1) rows = drop_more rows i c.row-item.result (omega arith) ∙ ap (λ r. r ∷ drop (i + 1) rows) (sym c.row-item.is) in
    record {
      same =
          item_gives tallied (λ row. int_of (get row column)) (into tallied None (integers column rows)) c.loop-row.tally (drop i rows) c.loop-row.invariant.same
          c.row-item.result (drop (i + 1) rows) split tallied_more (option_to_list c.int_at.result) (ap int_of (sym c.get_near.ensures) ∙ c.int_at.ensures)
          ∙ ap (λ t. into tallied t (integers column (drop (i + 1) rows))) (sym c.more-tally.ensures.tally);
      room = c.more-tally.ensures.room i c.loop-row.invariant.room;
    }

pub returns : goal.returns
returns c =
    c.loop-row.invariant.same
    ∙ ap (λ rows. into tallied c.loop-row.tally (integers c.args.column.now rows)) (drop_of_length-le c.args.rows.now (omega arith))

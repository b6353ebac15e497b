-- Block after block is printed, until no table is left.
use Rattle.std.proofs.Common.{◌≡◌, ◌∙◌, ◌++◌, ◌-◌, length, drop, ap, sym, subst, arith}
use Rattle.std.proofs.lemmas.List.{length-drop}
use Rattle.std.proofs.lemmas.List.Elements.{All-drop, All-from_recursion, All-rest, All-same}
use Rattle.fx_data.specs.Table.{IsLawfulTable}
use Rattle.fx_csv.specs.Alike.{HasAlikeRows}
use Rattle.fx_csv.specs.Printed.{block_bytes, blocks_bytes, is_block, HasOneKind}
use Rattle.fx_csv.specs.Runs.{runs}
use Rattle.fx_csv.specs.Shapes.{IsFirstBlock}
use Rattle.fx_csv.proofs.Numbered.{begins, goes_on}
use Rattle.fx_csv.proofs.print.print_tables.Goals as goal

pub loop-first-init : goal.loop-first-init
loop-first-init c = record {
  text = ap (λ l. l ++ blocks_bytes c.args.name.now (length c.args.all.now - length c.args.all.now) (runs is_block c.args.all.now)) c.new-out.ensures.items
      ∙ begins c.args.name.now c.args.all.now;
  within = omega arith;
  lawful = c.requires.lawful;
  kinds = c.requires.kinds;
  alike = c.requires.alike;
}

pub first_block-requires-clause-others : goal.first_block-requires-clause-others
first_block-requires-clause-others c =
    All-rest HasOneKind c.in-Some.first.now c.in-Some.others.now c.loop-first.rest.now c.in-Some.ensures.cases.0 c.loop-first.invariant.kinds

pub first_block-requires-clause-alike_others : goal.first_block-requires-clause-alike_others
first_block-requires-clause-alike_others c = λ yes.
    All-rest HasAlikeRows c.in-Some.first.now c.in-Some.others.now c.loop-first.rest.now c.in-Some.ensures.cases.0 (c.loop-first.invariant.alike yes)

pub loop-first-preserved : goal.loop-first-preserved
loop-first-preserved c =
    let all = c.args.all.now in
    let rest = c.loop-first.rest.now in
    let block = c.in_ok-block.block in
    let begun : IsFirstBlock rest block = subst (λ ts. IsFirstBlock ts block) (sym c.in-Some.ensures.cases.0) c.in_ok-block.ensures in
    let left : c.split_at.result.1.now ≡ drop block.len rest = c.split_at.ensures.back in
    let name = c.args.name.now in
    let number = length all - length rest in
    record {
      text =
          ap (λ l. l ++ blocks_bytes name (length all - length c.split_at.result.1.now) (runs is_block c.split_at.result.1.now)) c.in_ok-out.ensures
          ∙ (λ i. (c.loop-first.out.items ++ block_bytes name number (c.split_at.ensures.front i)) ++ blocks_bytes name (length all - length (left i)) (runs is_block (left i)))
          ∙ goes_on name c.loop-first.out.items all rest block begun c.loop-first.invariant.within
          ∙ c.loop-first.invariant.text;
      within = omega (arith, ap length left, length-drop block.len rest, c.loop-first.invariant.within);
      lawful = All-same IsLawfulTable c.split_at.result.1.now (drop block.len rest) left (All-drop IsLawfulTable block.len rest c.loop-first.invariant.lawful);
      kinds = All-same HasOneKind c.split_at.result.1.now (drop block.len rest) left (All-drop HasOneKind block.len rest c.loop-first.invariant.kinds);
      alike = λ yes. All-same HasAlikeRows c.split_at.result.1.now (drop block.len rest) left (All-drop HasAlikeRows block.len rest (c.loop-first.invariant.alike yes));
    }

use Rattle.fx_shape.proofs.Parts.{part_goes, part_lawful}
use Rattle.fx_shape.specs.Cut.{cut}
use Rattle.fx_shape.specs.Part.{parts_of}
use Rattle.fx_shape.proofs.part.cut_tables.Goals as goal

pub loop-table-preserved : goal.loop-table-preserved
loop-table-preserved c =
    let left = c.loop-table.left.items in
    let rest = c.loop-table.table-iterator.rest.items in
    let after = c.next.new.self.rest.items in
    record {
      same = part_goes c.args.part left rest _ c.in-Some.table after c.in-Some.ensures.steps.0 c.in_ok-push_left.ensures (parts_of (cut c.args.part) c.args.tables) c.loop-table.invariant.same;
      lawful = part_lawful c.args.part left rest _ c.in-Some.table after c.in-Some.ensures.steps.0 c.in_ok-push_left.ensures c.loop-table.invariant.lawful;
    }

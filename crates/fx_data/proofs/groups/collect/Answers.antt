use Rattle.std.proofs.Common.{sym, subst, ◌∙◌}
use Rattle.fx_data.specs.Ascending.{Rise}
use Rattle.fx_data.proofs.Gathered.{gathered_rising, gathered_same}
use Rattle.fx_data.proofs.groups.collect.Goals as goal

pub of-requires : goal.of-requires
of-requires c = record { each = c.requires; rising = subst Rise c.as_slice.ensures (c.are_rising.ensures c.if-are_rising.true) }

pub returns-then-are_rising : goal.returns-then-are_rising
returns-then-are_rising c =
    let rises = subst Rise c.as_slice.ensures (c.are_rising.ensures c.if-are_rising.true) in
    c.of.ensures ∙ sym (gathered_rising c.args.tables rises)

pub returns : goal.returns
returns c =
    c.of-2.ensures ∙ sym (gathered_rising c.in_ok-items.items c.in_ok-items.ensures.lawful.rising)
    ∙ gathered_same c.in_ok-items.items c.args.tables (c.in_ok-items.ensures.groups ∙ c.in_ok-ordered.ensures.groups)

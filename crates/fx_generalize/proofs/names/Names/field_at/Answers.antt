use Rattle.std.proofs.Common.{sym, ap, ◌∙◌}
use Rattle.fx_unify.specs.View.{part_seen}
use Rattle.fx_generalize.specs.Named.{place, is_field}
use Rattle.fx_generalize.proofs.NameLaws.{place_hit, place_miss}
use Rattle.fx_generalize.proofs.names.Names.field_at.Goals as goal

pub returns-then-is : goal.returns-then-is
returns-then-is c =
    sym (place_hit (is_field (part_seen c.args.view)) c.as_slice-name-items.result.now c.loop-i.i c.name-item.result c.loop-i-test.true c.name-item.is (sym c.is.ensures ∙ c.if-is.true) c.loop-i.invariant)
    ∙ ap (place (is_field (part_seen c.args.view))) c.as_slice-name-items.ensures.value

pub loop-i-preserved : goal.loop-i-preserved
loop-i-preserved c =
    place_miss (is_field (part_seen c.args.view)) c.as_slice-name-items.result.now c.loop-i.i c.name-item.result c.loop-i-test.true c.name-item.is (sym c.is.ensures ∙ c.if-is.false) c.loop-i.invariant

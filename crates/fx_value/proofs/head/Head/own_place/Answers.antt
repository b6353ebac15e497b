use Rattle.std.proofs.Common.{refl, sym, ap, ◌∙◌}
use Rattle.std.specs.Prelude.{Some}
use Rattle.fx_value.specs.declared.source.Source.{Source}
use Rattle.fx_value.specs.declared.source.Source.TheVariants.{First, Second}
use Rattle.fx_value.specs.Source.{is_first, is_second}
use Rattle.fx_value.proofs.Heads.{is_only}
use Rattle.fx_value.proofs.head.Head.own_place.Goals as goal

pub returns-in-Some-First : goal.returns-in-Some-First
returns-in-Some-First c =
    is_only c.self.inside.slots.items _ c.self.view_is c.self.invariant is_first _ First refl (sym c.if-is_first_alone.ensures)
    (ap (λ (s : Source). Some s) (sym c.in-Some-First.field-0-is) ∙ c.in-Some-First.ensures)

pub returns-in-Some-Second : goal.returns-in-Some-Second
returns-in-Some-Second c =
    is_only c.self.inside.slots.items _ c.self.view_is c.self.invariant is_second _ Second refl (sym c.if-is_second_alone.ensures)
    (ap (λ (s : Source). Some s) (sym c.in-Some-Second.field-0-is) ∙ c.in-Some-Second.ensures)

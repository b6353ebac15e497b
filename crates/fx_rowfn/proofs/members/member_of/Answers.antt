use Rattle.std.proofs.Common.{map, ap, subst, sym, ◌∙◌}
use Rattle.fx_meaning.specs.Ends.{found}
use Rattle.fx_meaning.specs.Native.{value_if}
use Rattle.fx_meaning.specs.Operators.{member_of, or_null}
use Rattle.fx_meaning.specs.Value.{look}
use Rattle.fx_value.specs.Ends.{Gives}
use Rattle.fx_values.specs.Shape.{slot, slots_of, val}
use Rattle.fx_values.specs.Told.{Tells}
use Rattle.fx_values.proofs.ValueLaws.{val_package, val_rec}
use Rattle.fx_rowfn.proofs.MemberLaws.{not_member}
use Rattle.fx_rowfn.proofs.members.member_of.Goals as goal

pub returns-in_ok-field_or_null-in-Rec : goal.returns-in_ok-field_or_null-in-Rec
returns-in_ok-field_or_null-in-Rec c =
    ap (λ v. member_of v c.args.label.now) (ap val c.in-Rec.is ∙ val_rec c.in-Rec.fields)
    ∙ ap (λ ss. Gives (or_null (look c.args.label.now (slots_of (map slot ss)))) 0) (sym (c.as_slice.ensures ∙ c.deref.ensures))
    ∙ ap (λ v. Gives v 0) (sym c.in_ok-field_or_null-in-Rec.ensures)

pub returns-in_ok-member-in-Package : goal.returns-in_ok-member-in-Package
returns-in_ok-member-in-Package c =
    subst (λ v. Tells val (member_of v c.args.label.now) c.built_value.result) (sym (ap val c.in-Package.is ∙ val_package c.in-Package.which))
    (subst (λ b. Tells val (found (value_if b)) c.built_value.result) c.in_ok-member-in-Package.ensures c.built_value.ensures)

pub returns-in_default : goal.returns-in_default
returns-in_default c = not_member c.args.value.now c.args.label.now c.in_default.not-Rec c.in_default.not-Package

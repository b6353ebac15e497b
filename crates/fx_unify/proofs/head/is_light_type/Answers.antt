use Rattle.std.proofs.Common.{sym, ap, ◌∙◌}
use Rattle.fx_types.specs.Shape.{term}
use Rattle.fx_types.proofs.ShapeLaws.{term_bool, term_int, term_text, term_time, term_variable}
use Rattle.fx_unify.specs.Sorts.{is_light}
use Rattle.fx_unify.proofs.LightLaws.{not_light}
use Rattle.fx_unify.proofs.head.is_light_type.Goals as goal

pub returns-in-Bool : goal.returns-in-Bool
returns-in-Bool c = sym (ap (λ t. is_light c.args.sorts.now (term t)) c.in-Bool.is ∙ ap (is_light c.args.sorts.now) term_bool)

pub returns-in-Int : goal.returns-in-Int
returns-in-Int c = sym (ap (λ t. is_light c.args.sorts.now (term t)) c.in-Int.is ∙ ap (is_light c.args.sorts.now) term_int)

pub returns-in-Text : goal.returns-in-Text
returns-in-Text c = sym (ap (λ t. is_light c.args.sorts.now (term t)) c.in-Text.is ∙ ap (is_light c.args.sorts.now) term_text)

pub returns-in-Time : goal.returns-in-Time
returns-in-Time c = sym (ap (λ t. is_light c.args.sorts.now (term t)) c.in-Time.is ∙ ap (is_light c.args.sorts.now) term_time)

pub returns-in-Var : goal.returns-in-Var
returns-in-Var c =
    c.may_be_column.ensures ∙ sym (ap (λ t. is_light c.args.sorts.now (term t)) c.in-Var.is ∙ ap (is_light c.args.sorts.now) (term_variable c.in-Var.number))

pub returns-in_default : goal.returns-in_default
returns-in_default c =
    not_light c.args.sorts.now c.args.ty.now c.in_default.not-Bool c.in_default.not-Int c.in_default.not-Text c.in_default.not-Time c.in_default.not-Var

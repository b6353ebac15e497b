use Rattle.std.proofs.Common.{refl, sym, ap, ◌∙◌}
use Rattle.fx_types.specs.Term.{array}
use Rattle.fx_types.specs.Shape.{term}
use Rattle.fx_types.proofs.ShapeLaws.{term_bool, term_int, term_text, term_time, term_span, term_variable}
use Rattle.fx_schemes.specs.Plan.{simple_term}
use Rattle.fx_schemes.proofs.Results.{along}
use Rattle.fx_schemes.proofs.simple.simple_ty.Goals as goal

pub returns-in-Bool : goal.returns-in-Bool
returns-in-Bool c = rw (c.in-Bool.is, term_bool) refl

pub returns-in-Int : goal.returns-in-Int
returns-in-Int c = rw (c.in-Int.is, term_int) refl

pub returns-in-Text : goal.returns-in-Text
returns-in-Text c = rw (c.in-Text.is, term_text) refl

pub returns-in-Time : goal.returns-in-Time
returns-in-Time c = rw (c.in-Time.is, term_time) refl

pub returns-in-Span : goal.returns-in-Span
returns-in-Span c = rw (c.in-Span.is, term_span) refl

pub returns-in-Var : goal.returns-in-Var
returns-in-Var c = rw (c.in-Var.is, term_variable) refl

pub returns-in-Texts : goal.returns-in-Texts
returns-in-Texts c = along term _ _ _ (ap array term_text ∙ sym (ap simple_term c.in-Texts.is)) c.array_of.ensures

pub returns-in-Array : goal.returns-in-Array
returns-in-Array c =
    along term _ _ _ (ap array (term_variable c.in-Array.number) ∙ sym (ap simple_term c.in-Array.is)) c.array_of-in-Array.ensures

use Rattle.std.proofs.Common.{refl}
use Rattle.fx_types.proofs.ShapeLaws.{term_bool, term_int, term_text, term_time, term_span, term_pattern, term_done, term_variable, term_array, term_fun, term_rec, term_stream}
use Rattle.fx_unify.proofs.tag.tag.Goals as goal

pub returns-in-Bool : goal.returns-in-Bool
returns-in-Bool c = rw (c.in-Bool.is, term_bool) refl

pub returns-in-Int : goal.returns-in-Int
returns-in-Int c = rw (c.in-Int.is, term_int) refl

pub returns-in-Text : goal.returns-in-Text
returns-in-Text c = rw (c.in-Text.is, term_text) refl

pub returns-in-Time : goal.returns-in-Time
returns-in-Time c = rw (c.in-Time.is, term_time) refl

pub returns-in-Span : goal.returns-in-Span
returns-in-Span c = rw (c.in-Span.is, term_span) refl

pub returns-in-Pattern : goal.returns-in-Pattern
returns-in-Pattern c = rw (c.in-Pattern.is, term_pattern) refl

pub returns-in-Done : goal.returns-in-Done
returns-in-Done c = rw (c.in-Done.is, term_done) refl

pub returns-in-Var : goal.returns-in-Var
returns-in-Var c = rw (c.in-Var.is, term_variable) refl

pub returns-in-Array : goal.returns-in-Array
returns-in-Array c = rw (c.in-Array.is, term_array) refl

pub returns-in-Fun : goal.returns-in-Fun
returns-in-Fun c = rw (c.in-Fun.is, term_fun) refl

pub returns-in-Rec : goal.returns-in-Rec
returns-in-Rec c = rw (c.in-Rec.is, term_rec) refl

pub returns-in-Stream : goal.returns-in-Stream
returns-in-Stream c = rw (c.in-Stream.is, term_stream) refl

use Rattle.fx_unify.proofs.BoundLaws.{holds_bool, holds_int, holds_text, holds_time, holds_span, holds_other}
use Rattle.fx_unify.proofs.sorts.Sorts.holds.Goals as goal

pub returns-in-Bool : goal.returns-in-Bool
returns-in-Bool c =
    holds_bool c.args.self.now c.args.ty.now c.in-Bool.is

pub returns-in-Int : goal.returns-in-Int
returns-in-Int c =
    holds_int c.args.self.now c.args.ty.now c.in-Int.is

pub returns-in-Text : goal.returns-in-Text
returns-in-Text c =
    holds_text c.args.self.now c.args.ty.now c.in-Text.is

pub returns-in-Time : goal.returns-in-Time
returns-in-Time c =
    holds_time c.args.self.now c.args.ty.now c.in-Time.is

pub returns-in-Span : goal.returns-in-Span
returns-in-Span c =
    holds_span c.args.self.now c.args.ty.now c.in-Span.is

pub returns-in_default : goal.returns-in_default
returns-in_default c =
    holds_other c.args.self.now c.args.ty.now c.requires c.in_default.not-Bool c.in_default.not-Int c.in_default.not-Text c.in_default.not-Time c.in_default.not-Span

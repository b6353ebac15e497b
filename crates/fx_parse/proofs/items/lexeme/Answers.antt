use Rattle.fx_parse.proofs.tokens.SliceLemmas.{plain_tells, head_tells, mid_tells, tail_tells, pattern_tells, span_tells}
use Rattle.fx_parse.proofs.items.lexeme.Goals as goal

pub returns-in-Span : goal.returns-in-Span
returns-in-Span c = span_tells c.args.kind c.args.slice.now c.span_of.result c.in-Span.is c.requires.form c.span_of.ensures

pub returns-in_ok-quoted-in-Plain : goal.returns-in_ok-quoted-in-Plain
returns-in_ok-quoted-in-Plain c = plain_tells c.args.kind c.args.slice.now c.in_ok-quoted-in-Plain.field-0 c.in-Plain.is c.requires.form c.in_ok-quoted-in-Plain.ensures

pub returns-in_ok-quoted-in-Head : goal.returns-in_ok-quoted-in-Head
returns-in_ok-quoted-in-Head c = head_tells c.args.kind c.args.slice.now c.in_ok-quoted-in-Head.field-0 c.in-Head.is c.requires.form c.in_ok-quoted-in-Head.ensures

pub returns-in_ok-quoted-in-Mid : goal.returns-in_ok-quoted-in-Mid
returns-in_ok-quoted-in-Mid c = mid_tells c.args.kind c.args.slice.now c.in_ok-quoted-in-Mid.field-0 c.in-Mid.is c.requires.form c.in_ok-quoted-in-Mid.ensures

pub returns-in_ok-quoted-in-Tail : goal.returns-in_ok-quoted-in-Tail
returns-in_ok-quoted-in-Tail c = tail_tells c.args.kind c.args.slice.now c.in_ok-quoted-in-Tail.field-0 c.in-Tail.is c.requires.form c.in_ok-quoted-in-Tail.ensures

pub returns-in_ok-quoted-in-Pattern : goal.returns-in_ok-quoted-in-Pattern
returns-in_ok-quoted-in-Pattern c = pattern_tells c.args.kind c.args.slice.now c.in_ok-quoted-in-Pattern.field-0 c.in-Pattern.is c.requires.form c.in_ok-quoted-in-Pattern.ensures

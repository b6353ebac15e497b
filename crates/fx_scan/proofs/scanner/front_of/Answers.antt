use Rattle.std.proofs.Common.{sym, subst, ◌∙◌}
use Rattle.fx_scan.specs.Readers.{IsFound}
use Rattle.fx_scan.proofs.ListSteps.{comment_there, token_there}
use Rattle.fx_scan.proofs.scanner.front_of.Goals as goal

pub returns-then-begins_comment : goal.returns-then-begins_comment
returns-then-begins_comment c = comment_there c.args.left.now c.line_len.result (sym c.begins_comment.ensures ∙ c.if-begins_comment.true) c.line_len.ensures.value

pub returns-in-Some : goal.returns-in-Some
returns-in-Some c =
    token_there c.args.mode c.args.left.now c.in-Some.taken.kind c.in-Some.taken.len (sym c.begins_comment.ensures ∙ c.if-begins_comment.false)
    (subst (IsFound c.args.mode c.args.left.now) c.in-Some.is c.token_at.ensures)

use Rattle.std.proofs.Common.{◌≡◌, ◌-◌, length, drop, take, inl, inr, Some, ap, ◌∙◌, arith, length-append}
use Rattle.std.specs.Str.{chars, encode_utf8_all, IsUtf8}
use Rattle.std.proofs.Math.Seq.{take-append_seam}
use Rattle.std.proofs.lemmas.Bool.Decides.{leb_tells}
use Rattle.std.proofs.lemmas.Str.{IsCharBoundary-at_seam}
use Rattle.fx_ops.specs.Texts.{between}
use Rattle.fx_ops.proofs.CharacterLemmas.{past-IsUtf8, past_found, past_none, front_of, between_is}
use Rattle.fx_ops.proofs.characters.piece.Goals as goal

pub returns-in_err-tail : goal.returns-in_err-tail
returns-in_err-tail c =
    let all = chars c.args.text.now in
    let to = past_found c.args.to all c.in_ok-after.after.now (encode_utf8_all (drop c.args.to all)) c.in_ok-after.ensures in
    let from = past_none c.args.from all (encode_utf8_all (drop c.args.from all)) c.in_err-tail.ensures in
    absurd (omega (arith, to.0, c.requires))

pub overflow_sub-tail : goal.overflow_sub-tail
overflow_sub-tail c =
    let all = chars c.args.text.now in
    let to = past_found c.args.to all c.in_ok-after.after.now (encode_utf8_all (drop c.args.to all)) c.in_ok-after.ensures in
    let from = past_found c.args.from all c.in_ok-tail.tail.now (encode_utf8_all (drop c.args.from all)) c.in_ok-tail.ensures in
    let is = between_is c.args.text.now c.in_ok-tail.tail.now c.in_ok-after.after.now c.args.from c.args.to c.requires from.1 to.1 in
    omega (arith, simp length-append at (ap length is))

pub range-requires-clause-end_boundary : goal.range-requires-clause-end_boundary
range-requires-clause-end_boundary c =
    let all = chars c.args.text.now in
    let to = past_found c.args.to all c.in_ok-after.after.now (encode_utf8_all (drop c.args.to all)) c.in_ok-after.ensures in
    let from = past_found c.args.from all c.in_ok-tail.tail.now (encode_utf8_all (drop c.args.from all)) c.in_ok-tail.ensures in
    let is = between_is c.args.text.now c.in_ok-tail.tail.now c.in_ok-after.after.now c.args.from c.args.to c.requires from.1 to.1 in
    let place : length c.in_ok-tail.tail.now - length c.in_ok-after.after.now ≡ length (between c.args.from c.args.to c.args.text.now) = omega (arith, simp length-append at (ap length is)) in
    let text : IsUtf8 c.in_ok-after.after.now = rw to.1 (past-IsUtf8 c.args.to c.args.text.now c.utf8.text) in
    rw place (IsCharBoundary-at_seam c.in_ok-tail.tail.now (between c.args.from c.args.to c.args.text.now) c.in_ok-after.after.now is text)

pub returns : goal.returns
returns c =
    let all = chars c.args.text.now in
    let to = past_found c.args.to all c.in_ok-after.after.now (encode_utf8_all (drop c.args.to all)) c.in_ok-after.ensures in
    let from = past_found c.args.from all c.in_ok-tail.tail.now (encode_utf8_all (drop c.args.from all)) c.in_ok-tail.ensures in
    let is = between_is c.args.text.now c.in_ok-tail.tail.now c.in_ok-after.after.now c.args.from c.args.to c.requires from.1 to.1 in
    let place : length c.in_ok-tail.tail.now - length c.in_ok-after.after.now ≡ length (between c.args.from c.args.to c.args.text.now) = omega (arith, simp length-append at (ap length is)) in
    let front = (λ i. take (place i) (is i)) ∙ take-append_seam (between c.args.from c.args.to c.args.text.now) c.in_ok-after.after.now in
    elim (leb_tells c.args.to (length all)) [
      | inl within ↦ rw within.0 (ap (λ t. Some t) (c.range.ensures.value ∙ front_of c.in_ok-tail.tail.now _ ∙ front))
      | inr beyond ↦ absurd (omega (arith, beyond.1, to.0))
    ]

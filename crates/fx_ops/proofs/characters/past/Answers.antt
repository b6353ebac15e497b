use Rattle.std.proofs.Common.{◌≡◌, drop, length, inl, inr, Some, sym, ap, ◌∙◌, arith}
use Rattle.std.specs.Str.{chars, encode_utf8_all}
use Rattle.std.proofs.lemmas.Bool.Decides.{leb_tells}
use Rattle.std.proofs.lemmas.Str.{IsUtf8-past_char, chars_past_char, encodes-chars}
use Rattle.fx_ops.proofs.CharacterLemmas.{drop_next}
use Rattle.fx_ops.proofs.characters.past.Goals as goal

pub loop-place-preserved : goal.loop-place-preserved
loop-place-preserved c =
    let text = c.loop-place.rest.rest.now in
    let rest = c.next.new.self.rest.now in
    let starts = c.in_ok-next.ensures.steps.0 in
    let first = chars_past_char text rest c.in_ok-next.field-0 c.loop-place.invariant.2 starts in
    let next = drop_next (chars c.args.text.now) c.loop-place.place c.in_ok-next.field-0 (chars rest) (sym first ∙ c.loop-place.invariant.3) in
    (tt, tt, IsUtf8-past_char text rest c.in_ok-next.field-0 c.loop-place.invariant.2 starts, next.1, omega (arith, next.0))

pub returns : goal.returns
returns c =
    let all = chars c.args.text.now in
    let count : c.loop-place.place ≡ c.args.count = omega arith in
    let left = encodes-chars c.loop-place.rest.rest.now c.loop-place.invariant.2 in
    let from = c.loop-place.invariant.3 ∙ ap (λ n. drop n all) count in
    elim (leb_tells c.args.count (length all)) [
      | inl within ↦ rw within.0 (ap (λ t. Some t) (c.as_str.ensures ∙ sym left ∙ ap encode_utf8_all from))
      | inr past ↦ absurd (omega (arith, past.1, c.loop-place.invariant.4))
    ]

use Rattle.std.proofs.Common.{◌≡◌, ◌<◌, ◌^◌, length, to_z, w64, pos, sym, ap, ◌∙◌, arith, rules}
use Rattle.std.specs.Prelude.{Ok}
use Rattle.std.specs.Str.{chars, encode_utf8_all}
use Rattle.std.proofs.lemmas.Int.{to_z_pos}
use Rattle.std.proofs.lemmas.Str.{chars_from_encodes, encodes-chars, length-le-encodes}
use Rattle.fx_value.specs.declared.scalar.Scalar.TheVariants as scalar
use Rattle.fx_ops.specs.Arguments.{◌>>=◌}
use Rattle.fx_ops.proofs.characters.strlen.Goals as goal

pub returns-in-Some-clause-answer : goal.returns-in-Some-clause-answer
returns-in-Some-clause-answer c =
    let text = c.as_str.result.now in
    let count : c.count.result ≡ length (chars text) = search (rules, chars_from_encodes) in
    let bytes = length-le-encodes (chars text) in
    let whole : length (encode_utf8_all (chars text)) ≡ length text = ap length (encodes-chars text c.as_str.utf8) in
    let small : c.count.result < 2 ^ 63 = omega (arith, c.as_str.type_inv) in
    let value : to_z w64 c.count.result ≡ pos (length (chars c.in-Some.text.now)) = to_z_pos w64 c.count.result small ∙ ap pos count ∙ ap (λ t. pos (length (chars t))) c.as_str.ensures in
    (λ i. sym c.in-Some.ensures i >>= (λ t. Ok (scalar.Int (pos (length (chars t)))))) ∙ ap (λ n. Ok (scalar.Int n)) (sym value)

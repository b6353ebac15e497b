use Rattle.std.proofs.Common.{◌≡◌, List, ℕ, false, [], drop, sym, subst, ◌∙◌}
use Rattle.std.specs.Str.{IsUtf8}
use Rattle.std.proofs.lemmas.List.{append-nil, drop_all}
use Rattle.fx_parse.specs.Escapes.{taken}
use Rattle.fx_parse.proofs.tokens.EscapeLemmas.{meant_utf8}
use Rattle.fx_parse.proofs.escapes.meant.Goals as goal

pub text_of-requires : goal.text_of-requires
text_of-requires c =
    let none : drop c.loop-byte.byte-index c.args.inner.now ≡ [] = drop_all c.loop-byte.byte-index c.args.inner.now c.loop-byte-test.false in
    let all = rw none at c.loop-byte.invariant in
    let is : c.as_slice.result.now ≡ taken c.args.quotes false c.args.inner.now = c.as_slice.ensures.value ∙ sym (append-nil c.loop-byte.bytes.items) ∙ all in
    let P : List ℕ → Type 0 = λ x. IsUtf8 x in
    subst P (sym is) (meant_utf8 c.args.quotes c.args.inner.now c.requires)

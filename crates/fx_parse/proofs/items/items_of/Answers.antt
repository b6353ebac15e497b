use Rattle.std.proofs.Common.{◌≡◌, ◌<◌, ◌∙◌, length, take, ap, arith}
use Rattle.std.proofs.lemmas.List.{take_all}
use Rattle.fx_parse.proofs.tokens.SliceLemmas.{tokens_formed}
use Rattle.fx_parse.proofs.tokens.ReadLemmas.{read_more, read_one}
use Rattle.fx_parse.proofs.items.items_of.Goals as goal

pub item-requires-clause-formed : goal.item-requires-clause-formed
item-requires-clause-formed c =
    let bytes : c.as_bytes-bytes.result.now ≡ c.args.text.now = c.as_bytes-bytes.ensures.value ∙ c.as_str.ensures in
    let within : c.loop-token.token-index < length c.args.tokens.now = omega (arith, c.loop-token-test.true, ap length c.as_slice-token-items.ensures) in
    rw (bytes, c.as_slice-token-items.ensures) (tokens_formed c.args.text.now c.args.tokens.now c.requires c.loop-token.token-index _ within)

pub loop-token-preserved : goal.loop-token-preserved
loop-token-preserved c =
    let bytes : c.as_bytes-bytes.result.now ≡ c.args.text.now = c.as_bytes-bytes.ensures.value ∙ c.as_str.ensures in
    let within : c.loop-token.token-index < length c.args.tokens.now = omega (arith, c.loop-token-test.true, ap length c.as_slice-token-items.ensures) in
    read_more c.args.text.now c.args.tokens.now c.loop-token.token-index _ c.loop-token.items.items c.push.new.self.items c.in_ok-item.field-0 within c.loop-token.invariant
    (rw (bytes, c.as_slice-token-items.ensures) at c.in_ok-item.ensures) c.in_ok-push.ensures.items

pub returns-clause-only : goal.returns-clause-only
returns-clause-only c = λ others read.
    let all : take c.loop-token.token-index c.args.tokens.now ≡ c.args.tokens.now = take_all c.loop-token.token-index c.args.tokens.now (omega (arith, c.loop-token-test.false, ap length c.as_slice-token-items.ensures)) in
    read_one c.args.text.now c.args.tokens.now others c.loop-token.items.items read (rw all at c.loop-token.invariant)

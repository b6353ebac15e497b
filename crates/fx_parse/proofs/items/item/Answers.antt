use Rattle.std.proofs.Common.{◌≡◌, ◌+◌, ◌-◌, arith}
use Rattle.fx_parse.proofs.tokens.SliceLemmas.{slice_readable}
use Rattle.fx_parse.proofs.items.item.Goals as goal

pub lexeme-requires-clause-readable : goal.lexeme-requires-clause-readable
lexeme-requires-clause-readable c =
    let t = c.args.token.now in
    let long : t.place.at + t.len - t.place.at ≡ t.len = omega arith in
    rw long (slice_readable c.args.text.now t c.requires.utf8 c.requires.formed)

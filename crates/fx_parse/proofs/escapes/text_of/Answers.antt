use Rattle.std.proofs.Common.{List, ℕ, length, sym, subst, arith, rules}
use Rattle.std.specs.Str.{IsUtf8, IsValidUpTo}
use Rattle.std.proofs.lemmas.List.{take_all}
use Rattle.fx_parse.proofs.escapes.text_of.Goals as goal

not_short : (bs : List ℕ) (n : ℕ) → IsUtf8 bs → IsValidUpTo bs n → ⊥
not_short bs n whole h =
    let P : List ℕ → Type 0 = λ x. IsUtf8 x in
    h.longest (length bs) h.short (subst P (sym (take_all (length bs) bs (omega arith))) whole)

pub unreachable-requires : goal.unreachable-requires
unreachable-requires c = not_short c.args.bytes.now c.in-Err-NotUtf8.field-0-0 c.requires (c.read.ensures.not_utf8 c.in-Err-NotUtf8.field-0-0 (search rules))

use Rattle.std.proofs.Common.{sym, ap, ◌∙◌}
use Rattle.fx_scan.specs.Tables.{word_of}
use Rattle.fx_scan.proofs.FoundLemmas.{name_at, word_at}
use Rattle.fx_scan.proofs.front.name_at.Goals as goal

pub returns-in-Some : goal.returns-in-Some
returns-in-Some c =
    word_at c.args.mode c.args.s.now c.name_len-len.result c.in-Some.field-0 c.requires c.name_len-len.ensures.value
    (ap word_of (sym c.front.ensures) ∙ sym c.reserved.ensures ∙ c.in-Some.is)

pub returns-in-None : goal.returns-in-None
returns-in-None c =
    name_at c.args.mode c.args.s.now c.name_len-len.result c.requires c.name_len-len.ensures.value
    (ap word_of (sym c.front.ensures) ∙ sym c.reserved.ensures ∙ c.in-None.is)

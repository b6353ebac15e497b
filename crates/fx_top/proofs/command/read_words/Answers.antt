use Rattle.std.proofs.Common.{sym, ◌∙◌, ap, ◌∷◌, codes}
use Rattle.std.specs.Cmp.Lexicographic.{same_text}
use Rattle.fx_top.proofs.CommandLemmas.{behind_first, one, lifted}
use Rattle.fx_top.proofs.command.read_words.Goals as goal

pub returns-in-len1-up : goal.returns-in-len1-up
returns-in-len1-up c =
    let words = one c.args.words.now c.command-item.result c.in-len1-up.len_at_least c.command-item.is in
    let run = sym c.as_str.ensures ∙ same_text c.as_str.result.now (codes "run") (sym c.if-eq.true ∙ c.eq.ensures) in
    lifted c.args.words.now (behind_first c.args.words.now) c.read_run.result (words ∙ ap (λ w. w ∷ behind_first c.args.words.now) run) c.read_run.ensures

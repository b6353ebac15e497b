use Rattle.std.proofs.Common.{lit<}
use Rattle.std.proofs.lemmas.Str.Pattern.{split_once_first}
use Rattle.fx_top.proofs.CommandLemmas.{cut_at}
use Rattle.fx_top.proofs.command.cut_word.Goals as goal

pub returns : goal.returns
returns c = let k = cut_at c.args.word.now c.split_once.result (split_once_first 61 c.args.word.now c.split_once.result c.split_once.ensures.cases (lit< tt)) in
    record { parts = k.0; first = k.1; none = k.2 }

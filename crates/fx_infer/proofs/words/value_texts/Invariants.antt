use Rattle.std.proofs.Common.{◌≡◌, drop}
use Rattle.fx_infer.proofs.WrittenLaws.{behind, news_in}
use Rattle.fx_infer.proofs.words.value_texts.Given as goal

abbrev pub invariant-loop-item : goal.invariant-loop-item
invariant-loop-item l = news_in l.props ≡ behind l.texts (news_in (drop l.item-index l.props))

use Rattle.std.proofs.Common.{◌≡◌, drop}
use Rattle.fx_infer.proofs.WrittenLaws.{behind, texts_in}
use Rattle.fx_infer.proofs.words.item_texts.Given as goal

abbrev pub invariant-loop-item : goal.invariant-loop-item
invariant-loop-item l = texts_in l.items ≡ behind l.texts (texts_in (drop l.item-index l.items))

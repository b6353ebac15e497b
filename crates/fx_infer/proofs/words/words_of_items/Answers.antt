use Rattle.std.proofs.Common.{◌∙◌, ap, sym}
use Rattle.fx_schemes.specs.Written.{many_words}
use Rattle.fx_infer.proofs.WrittenLaws.{no_array, items_said, many_said}
use Rattle.fx_infer.proofs.words.words_of_items.Goals as goal

pub returns-in_default : goal.returns-in_default
returns-in_default c = sym (no_array c.args.label.now c.args.value.now c.get.result.now c.get.ensures c.in_default.not-Array)

pub returns-in_ok-copy-in-Some : goal.returns-in_ok-copy-in-Some
returns-in_ok-copy-in-Some c =
    many_said c.args.label.now c.in_ok-copy-in-Some.field-0 c.in-Some.words c.empty.result _ (sym c.in_ok-words.ensures ∙ c.in-Some.is) c.in_ok-copy-in-Some.ensures c.empty.ensures
    ∙ sym (items_said c.args.label.now c.args.value.now c.get.result.now c.in-Array.items c.as_slice-items.result.now c.get.ensures c.in-Array.is c.as_slice-items.ensures)

pub returns-in-None : goal.returns-in-None
returns-in-None c =
    sym (items_said c.args.label.now c.args.value.now c.get.result.now c.in-Array.items c.as_slice-items.result.now c.get.ensures c.in-Array.is c.as_slice-items.ensures
    ∙ ap (many_words c.args.label.now) (sym c.in_ok-words.ensures ∙ c.in-None.is))

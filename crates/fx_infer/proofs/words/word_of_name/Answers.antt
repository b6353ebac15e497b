use Rattle.std.proofs.Common.{◌∙◌, ap, sym, Some}
use Rattle.fx_infer.proofs.WrittenLaws.{no_name, name_said}
use Rattle.fx_infer.proofs.words.word_of_name.Goals as goal

pub returns-in_ok-just-in-Name : goal.returns-in_ok-just-in-Name
returns-in_ok-just-in-Name c = ap Some c.in_ok-just-in-Name.ensures ∙ sym (name_said c.args.label.now c.args.value.now c.get.result.now c.in-Name.name c.get.ensures c.in-Name.is)

pub returns-in_default : goal.returns-in_default
returns-in_default c = sym (no_name c.args.label.now c.args.value.now c.get.result.now c.get.ensures c.in_default.not-Name)

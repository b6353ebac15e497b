use Rattle.std.proofs.Common.{◌∙◌, ap, sym}
use Rattle.fx_schemes.specs.Written.{new_words}
use Rattle.fx_infer.proofs.WrittenLaws.{labels_of, new_said}
use Rattle.fx_infer.proofs.words.labels_and_texts.Goals as goal

pub returns-in_ok-labels-in-Some : goal.returns-in_ok-labels-in-Some
returns-in_ok-labels-in-Some c =
    new_said c.args.label.now c.in_ok-copy-in-Some.field-0 (labels_of c.args.props.now) c.in_ok-labels-in-Some.field-0 c.in-Some.news _ (sym c.in_ok-news.ensures ∙ c.in-Some.is) c.in_ok-copy-in-Some.ensures c.in_ok-labels-in-Some.ensures

pub returns-in-None : goal.returns-in-None
returns-in-None c = sym (ap (new_words c.args.label.now (labels_of c.args.props.now)) (sym c.in_ok-news.ensures ∙ c.in-None.is))

use Rattle.std.proofs.Common.{◌∙◌, ap}
use Rattle.fx_schemes.specs.Signature.{form_in, forms_of}
use Rattle.fx_schemes.proofs.NumberLaws.{at_its_number}
use Rattle.fx_schemes.proofs.SchemeLaws.{no_word, same_word}
use Rattle.fx_schemes.proofs.form.form_of.Goals as goal

pub unreachable-requires : goal.unreachable-requires
unreachable-requires c = no_word c.numbered.result c.requires.0 c.in-None.is (c.numbered.ensures ∙ at_its_number c.requires.0 c.args.id.number c.requires.1)

pub returns : goal.returns
returns c = λ x e.
    let same = same_word c.numbered.result c.in-Some.builtin x c.in-Some.is (c.numbered.ensures ∙ at_its_number x c.args.id.number e) in
    c.form_in.ensures
    ∙ ap (form_in c.as_str.result.now) (c.forms.ensures ∙ ap forms_of same)
    ∙ ap (λ l. form_in l (forms_of x)) c.as_str.ensures

use Rattle.std.proofs.Common.{sym, subst, ◌∙◌, [], Some}
use Rattle.std.specs.Prelude.{codes}
use Rattle.fx_schemes.specs.Builtins.{IsLine, OfGroup}
use Rattle.fx_schemes.specs.Given.{texts_of, list_at}
use Rattle.fx_schemes.specs.Scheme.{IsSchemeOf, shown}
use Rattle.fx_schemes.proofs.Results.{mapped_none, mapped_some}
use Rattle.fx_schemes.proofs.SchemeLaws.{of_some, no_word, tested}
use Rattle.fx_schemes.proofs.shape.group.Goals as goal

pub returns-then-not-is_one_of : goal.returns-then-not-is_one_of
unfolding IsLine
returns-then-not-is_one_of c = λ L h.
    let is = h.0 in
    let says = c.is_one_of.ensures in
    let no = c.if-not-is_one_of.true in
    cc

pub returns-in_default : goal.returns-in_default
unfolding IsLine
returns-in_default c = λ L h. no_word _ h.1.0 (mapped_none _ _ _ c.in_ok-columns.ensures c.in_default.is) h.1.1

pub returns : goal.returns
unfolding IsLine
returns c =
    tested _ _ _ (sym c.is_one_of.ensures ∙ c.if-not-is_one_of.false)
    (of_some (list_at c.args.given.now (codes "columns") (Some [])) OfGroup (texts_of c.in-Some.columns.items)
    (mapped_some _ _ _ _ c.in_ok-columns.ensures c.in-Some.is) (shown c.in_ok-group_by.field-0)
    (subst (λ xs. IsSchemeOf (OfGroup (texts_of xs)) (shown c.in_ok-group_by.field-0)) c.deref.ensures.value c.in_ok-group_by.ensures))

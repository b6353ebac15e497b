use Rattle.std.proofs.Common.{subst, None}
use Rattle.std.specs.Prelude.{codes}
use Rattle.fx_schemes.specs.Builtins.{IsLine, OfKeep}
use Rattle.fx_schemes.specs.Given.{texts_of, list_at}
use Rattle.fx_schemes.specs.Scheme.{IsSchemeOf, shown}
use Rattle.fx_schemes.proofs.Results.{mapped_none, mapped_some}
use Rattle.fx_schemes.proofs.SchemeLaws.{of_some, no_word}
use Rattle.fx_schemes.proofs.shape.keep.Goals as goal

pub returns-in_default : goal.returns-in_default
unfolding IsLine
returns-in_default c = λ L h. no_word _ h.0 (mapped_none _ _ _ c.in_ok-columns.ensures c.in_default.is) h.1

pub returns : goal.returns
unfolding IsLine
returns c =
    of_some (list_at c.args.given.now (codes "columns") None) OfKeep (texts_of c.in-Some.columns.items)
    (mapped_some _ _ _ _ c.in_ok-columns.ensures c.in-Some.is) (shown c.in_ok-keep_these.field-0)
    (subst (λ xs. IsSchemeOf (OfKeep (texts_of xs)) (shown c.in_ok-keep_these.field-0)) c.deref.ensures.value c.in_ok-keep_these.ensures)

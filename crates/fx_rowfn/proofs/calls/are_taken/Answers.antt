use Rattle.std.proofs.Common.{map, sym, ap, ◌∙◌}
use Rattle.fx_ast.specs.Shape.{param, params_of}
use Rattle.fx_meaning.specs.Meaning.{takes}
use Rattle.fx_values.proofs.ValueLaws.{closed_is}
use Rattle.fx_values.specs.Shape.{slot, slots_of}
use Rattle.fx_rowfn.proofs.calls.are_taken.Goals as goal

pub returns : goal.returns
returns c =
    c.takes.ensures
    ∙ ap (λ ps. takes ps (slots_of (map slot c.args.args.now))) (ap (λ l. params_of (map param l)) c.as_slice.ensures ∙ sym (ap (λ o. o.params) (closed_is c.args.closure.now)))

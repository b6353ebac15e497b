use Rattle.std.proofs.Common.{map, sym, ap, ◌∙◌}
use Rattle.std.specs.Prelude.{Some, option_map}
use Rattle.fx_ast.specs.Shape.{param, params_of}
use Rattle.fx_meaning.specs.Meaning.{pipe_of}
use Rattle.fx_values.proofs.ValueLaws.{closed_is}
use Rattle.fx_rowfn.proofs.pipes.pipe_param.Goals as goal

pub returns-in_ok-copy-in-Some : goal.returns-in_ok-copy-in-Some
returns-in_ok-copy-in-Some c =
    ap Some c.in_ok-copy-in-Some.ensures ∙ ap (option_map (λ p. p.now.label)) (sym c.in-Some.is) ∙ c.first_pipe.ensures
    ∙ ap (λ l. pipe_of (params_of (map param l))) c.as_slice.ensures ∙ sym (ap (λ o. pipe_of o.params) (closed_is c.args.closure.now))

pub returns-in-None : goal.returns-in-None
returns-in-None c =
    ap (option_map (λ p. p.now.label)) (sym c.in-None.is) ∙ c.first_pipe.ensures
    ∙ ap (λ l. pipe_of (params_of (map param l))) c.as_slice.ensures ∙ sym (ap (λ o. pipe_of o.params) (closed_is c.args.closure.now))

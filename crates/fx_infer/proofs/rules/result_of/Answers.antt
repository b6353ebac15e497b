use Rattle.std.proofs.Common.{ap, ◌∙◌, map}
use Rattle.std.specs.Prelude.{option_map}
use Rattle.fx_types.specs.Shape.{term, label_term, labels_of, pipe_of}
use Rattle.fx_types.specs.Term.{fun}
use Rattle.fx_infer.proofs.RuleLaws.{result_asked}
use Rattle.fx_infer.proofs.rules.result_of.Goals as goal

pub returns : goal.returns
returns c =
    result_asked c.args.bindings c.in_ok-result.result.bindings c.in_ok-bindings.bindings (term c.args.of.now) (term c.in_ok-result.result.ty) (term c.in_ok-function.function) (labels_of (map label_term c.args.args)) (pipe_of (option_map term c.args.pipe))
    (c.in_ok-function.ensures ∙ ap (λ t. fun (labels_of (map label_term c.args.args)) (pipe_of (option_map term c.args.pipe)) (term t)) c.in_ok-copy.ensures) c.requires.of c.requires.given c.in_ok-result.ensures c.in_ok-bindings.ensures

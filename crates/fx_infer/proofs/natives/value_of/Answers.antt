use Rattle.std.proofs.Common.{subst, map, []}
use Rattle.std.specs.Prelude.{option_map}
use Rattle.fx_types.specs.Shape.{term, label_term, labels_of}
use Rattle.fx_schemes.specs.Builtins.{IsLine}
use Rattle.fx_schemes.specs.Scheme.{Says, shown}
use Rattle.fx_infer.specs.Finds.{line_under}
use Rattle.fx_infer.specs.Infers.{Infers}
use Rattle.fx_infer.specs.Uses.{IsUse}
use Rattle.fx_infer.proofs.NativeLaws.{value_found}
use Rattle.fx_infer.proofs.natives.value_of.Goals as goal

pub returns : goal.returns
returns c b is =
    value_found b (shown c.in-Some.scheme) c.args.bindings c.in_ok-found.found.bindings (λ s. line_under s c.in_ok-found.found.line)
    (subst (λ o. Says (IsLine b []) (option_map shown o)) c.in-Some.is (subst (λ w. Says (IsLine b w) (option_map shown c.in_ok-scheme.field-0)) c.empty-given.ensures (c.in_ok-scheme.ensures b is)))
    (subst (λ es. Infers (λ s L. IsUse (record { vars = c.in-Some.scheme.vars; type = term c.in-Some.scheme.ty; optional = labels_of (map label_term es); pipe_label = c.in-Some.scheme.pipe_label; labels = c.in-Some.scheme.labels; kinds = c.in-Some.scheme.kinds }) L)
    c.args.bindings c.in_ok-found.found.bindings (λ s. line_under s c.in_ok-found.found.line)) c.empty.ensures c.in_ok-found.ensures)

use Rattle.std.proofs.Common.{sym, ◌∙◌}
use Rattle.fx_ast.specs.Tree.{name}
use Rattle.fx_top.proofs.QueryLemmas.{named, opens_as}
use Rattle.fx_top.proofs.query.is_name.Goals as goal

pub returns-in-Name : goal.returns-in-Name
returns-in-Name c =
    let k = named c.args.expr.now c.in-Name.text c.args.label.now (sym c.get.ensures ∙ c.in-Name.is) in
    (λ t. k.0 (c.is_text.ensures.0 t), λ h. c.is_text.ensures.1 (k.1 h))

pub returns-in_default : goal.returns-in_default
returns-in_default c =
    (λ t. cc, λ h. let opened = opens_as c.args.expr.now (name c.args.label.now) h in absurd (c.in_default.not-Name opened.0 (c.get.ensures ∙ opened.1)))

use Rattle.std.proofs.Common.{sym, ◌∙◌}
use Rattle.fx_ast.specs.Tree.{pipe, more_trees, no_trees}
use Rattle.fx_top.proofs.QueryLemmas.{piped_is, one_call, opens_as}
use Rattle.fx_top.proofs.query.piped.Goals as goal

pub returns-in-Some-clause-some : goal.returns-in-Some-clause-some
returns-in-Some-clause-some c =
    piped_is c.args.expr.now c.in-Pipe.first c.in-Pipe.calls (sym c.get.ensures ∙ c.in-Pipe.is) c.in-Some.last.now (sym c.as_slice.ensures ∙ c.in-Some.ensures.some)

pub returns-in-None-clause-none : goal.returns-in-None-clause-none
returns-in-None-clause-none c = λ a b h.
    c.in-None.ensures.none (rw c.as_slice.ensures (one_call c.args.expr.now c.in-Pipe.first c.in-Pipe.calls (sym c.get.ensures ∙ c.in-Pipe.is) a b h))

pub returns-in_default : goal.returns-in_default
returns-in_default c = record {
  some = tt;
  none = λ a b h. let opened = opens_as c.args.expr.now (pipe a (more_trees b no_trees)) h in c.in_default.not-Pipe opened.0 opened.1 (c.get.ensures ∙ opened.2);
}

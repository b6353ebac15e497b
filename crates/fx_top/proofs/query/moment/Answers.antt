use Rattle.std.proofs.Common.{rules, arith, sym, ◌∙◌, ap, FitsSigned}
use Rattle.std.specs.Int.{w64}
use Rattle.std.proofs.lemmas.Int.{to_z-of_z, ints}
use Rattle.fx_ast.specs.declared.expr.Node.TheVariants as node
use Rattle.fx_ast.specs.Tree.{time}
use Rattle.fx_ast.proofs.BareLaws.{bare_time}
use Rattle.fx_top.proofs.QueryLemmas.{made_of, opens_as}
use Rattle.fx_top.proofs.query.moment.Goals as goal

pub returns-in-Time-clause-some : goal.returns-in-Time-clause-some
returns-in-Time-clause-some c =
    let fits : FitsSigned w64 c.number.result = search (rules, arith, ints) in
    simp to_z-of_z (made_of c.args.expr.now (node.Time c.in-Time.t) (time c.number.result) (sym c.get.ensures ∙ c.in-Time.is) (bare_time c.in-Time.t ∙ ap time (sym c.number.ensures)))

pub returns-in_default : goal.returns-in_default
returns-in_default c = record {
  some = tt;
  none = λ t h. let opened = opens_as c.args.expr.now (time t) h in c.in_default.not-Time opened.0 (c.get.ensures ∙ opened.1);
}

use Rattle.std.proofs.Common.{rules, sym, ◌∙◌, ap, subst, arith, ◌≡◌, FitsSigned}
use Rattle.std.specs.Prelude.{IfOk, ◌≤ℤ◌}
use Rattle.std.specs.Int.{w64}
use Rattle.std.proofs.lemmas.Int.{ints, to_z-of_z}
use Rattle.fx_series.specs.Read.{pairs, between}
use Rattle.fx_top.proofs.SourceLemmas.{between_is_within, none_within}
use Rattle.fx_top.proofs.source.read_range.Goals as goal

pub returns-then-query : goal.returns-then-query
returns-then-query g c = λ s is.
    let past : c.args.query.now.stop ≤ℤ c.args.query.now.start = omega (arith, ints, c.if-query.true) in
    ap pairs c.empty.ensures ∙ sym (none_within c.args.query.now.start c.args.query.now.stop s.values past)

pub returns : goal.returns
returns g c = λ s is.
    let start : FitsSigned w64 c.args.query.now.start = search (rules, arith, ints) in
    let stop : FitsSigned w64 c.args.query.now.stop = search (rules, arith, ints) in
    let last : FitsSigned w64 c.moment_before-last.result = search (rules, arith, ints) in
    let h = simp to_z-of_z at (c.read.ensures.values s is) in
    subst (λ values. IfOk c.read.result (λ r. pairs r ≡ values)) (ap (λ t. between c.args.query.now.start t s.values) (simp to_z-of_z at c.moment_before-last.ensures) ∙ between_is_within c.args.query.now.start c.args.query.now.stop s.values) h

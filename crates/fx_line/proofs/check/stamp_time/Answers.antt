use Rattle.std.proofs.Common.{◌≡◌, cond, ap, ◌∙◌, neg_ℤ, rules, eqb}
use Rattle.std.specs.Prelude.{FitsSigned}
use Rattle.std.specs.Int.{w64, w128}
use Rattle.std.proofs.lemmas.Int.{to_z-of_z}
use Rattle.fx_line.specs.Word.{begins}
use Rattle.fx_line.proofs.Numbers.{stamp_fits, stamp_exact}
use Rattle.fx_line.proofs.check.stamp_time.Goals as goal

pub returns-clause-exact : goal.returns-clause-exact
returns-clause-exact c =
    let s = c.args.stamp.now in
    let f : FitsSigned w64 c.args.mode.factor = search rules in
    let g : FitsSigned w128 c.with_sign.result = search rules in
    let h : FitsSigned w128 c.stamp_nanos.result = search rules in
    let nanos = simp to_z-of_z at c.stamp_nanos.ensures in
    let sign = simp to_z-of_z at c.with_sign.ensures in
    let exact = simp to_z-of_z at c.point_time.ensures.exact in
    let fits = simp to_z-of_z at c.point_time.ensures.fits in
    stamp_exact s c.args.mode.factor c.with_sign.result c.point_time.result c.requires
    (sign ∙ ap (λ z. cond (begins (λ b. eqb b 45) s) (neg_ℤ z) z) nanos) fits exact

pub returns-clause-fits : goal.returns-clause-fits
returns-clause-fits c =
    let s = c.args.stamp.now in
    let f : FitsSigned w64 c.args.mode.factor = search rules in
    let g : FitsSigned w128 c.with_sign.result = search rules in
    let h : FitsSigned w128 c.stamp_nanos.result = search rules in
    let nanos = simp to_z-of_z at c.stamp_nanos.ensures in
    let sign = simp to_z-of_z at c.with_sign.ensures in
    let fits = simp to_z-of_z at c.point_time.ensures.fits in
    stamp_fits s c.args.mode.factor c.with_sign.result c.point_time.result c.requires
    (sign ∙ ap (λ z. cond (begins (λ b. eqb b 45) s) (neg_ℤ z) z) nanos) fits

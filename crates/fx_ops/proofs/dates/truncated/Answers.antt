use Rattle.std.proofs.Common.{◌≡◌, FitsSigned, w64, true, refl, ap, ◌∙◌, rules}
use Rattle.std.specs.Int.{w128}
use Rattle.std.proofs.lemmas.Int.{to_z-of_z}
use Rattle.fx_time.specs.Windows.{window_start}
use Rattle.fx_ops.specs.Dates.{window_at}
use Rattle.fx_ops.proofs.DateLemmas.{number_is, unit_is, truncated-in, truncated-out}
use Rattle.fx_ops.proofs.dates.truncated.Goals as goal

pub returns-in-Ok-clause-answer : goal.returns-in-Ok-clause-answer
returns-in-Ok-clause-answer c =
    let t : FitsSigned w64 c.args.t = c.ranges.t in
    let wide : FitsSigned w128 c.window_of.result.0 = search rules in
    let window = c.if-not-is_window.ensures in
    let is : FitsSigned w64 c.window_of.result.0 × (c.in-Ok.start ≡ c.window_of.result.0) = simp to_z-of_z at c.in-Ok.ensures in
    let bounds = simp to_z-of_z at c.window_of.ensures in
    let number = number_is c.args.unit c.args.t bounds.0 t (window.0 refl) bounds.1 in
    let start : c.in-Ok.start ≡ window_start c.args.unit (window_at c.args.unit c.args.t) = is.1 ∙ bounds.2 ∙ ap (window_start c.args.unit) number in
    let fits : FitsSigned w64 c.in-Ok.start = rw is.1 is.0 in
    simp to_z-of_z (truncated-in c.args.unit c.args.t c.in-Ok.start (unit_is c.args.unit true window) start fits)

pub returns-in-Err-clause-answer : goal.returns-in-Err-clause-answer
returns-in-Err-clause-answer c =
    let t : FitsSigned w64 c.args.t = c.ranges.t in
    let wide : FitsSigned w128 c.window_of.result.0 = search rules in
    let window = c.if-not-is_window.ensures in
    let out : FitsSigned w64 c.window_of.result.0 → ⊥ = simp to_z-of_z at c.in-Err.ensures in
    let bounds = simp to_z-of_z at c.window_of.ensures in
    let number = number_is c.args.unit c.args.t bounds.0 t (window.0 refl) bounds.1 in
    let start : c.window_of.result.0 ≡ window_start c.args.unit (window_at c.args.unit c.args.t) = bounds.2 ∙ ap (window_start c.args.unit) number in
    truncated-out c.args.unit c.args.t c.window_of.result.0 (unit_is c.args.unit true window) start out

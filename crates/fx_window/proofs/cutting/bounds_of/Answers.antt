use Rattle.std.proofs.Common.{◌≡◌, ◌+◌, ◌∷◌, drop, sym, ap, ◌∙◌, arith, drop_of_length-le}
use Rattle.std.proofs.lemmas.List.{drop_more}
use Rattle.std.specs.Prelude.{Some}
use Rattle.fx_window.specs.Plain.{bounds_after}
use Rattle.fx_window.proofs.Cuts.{bounds_begin}
use Rattle.fx_window.proofs.cutting.bounds_of.Goals as goal

pub loop-placed-init : goal.loop-placed-init
loop-placed-init c = bounds_begin c.args.placed.now

pub loop-placed-preserved : goal.loop-placed-preserved
loop-placed-preserved c =
    let ps = c.args.placed.now in
    let i = c.loop-placed.placed-index in
    let split : drop i ps ≡ c.placed-item.result ∷ drop (i + 1) ps = drop_more ps i c.placed-item.result (omega arith) ∙ ap (λ p. p ∷ drop (i + 1) ps) (sym c.placed-item.is) in
    ap (λ b. bounds_after (Some b) (drop (i + 1) ps)) c.wider.ensures ∙ sym (ap (bounds_after c.loop-placed.bounds) split) ∙ c.loop-placed.invariant

pub returns : goal.returns
returns c = ap (bounds_after c.loop-placed.bounds) (sym (drop_of_length-le c.args.placed.now (omega arith))) ∙ c.loop-placed.invariant

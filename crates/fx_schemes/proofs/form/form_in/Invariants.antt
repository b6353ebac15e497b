use Rattle.std.proofs.Common.{◌≡◌, drop, map}
use Rattle.fx_schemes.specs.Signature.{form_in}
use Rattle.fx_schemes.proofs.form.form_in.Given as goal

abbrev pub invariant-loop-own : goal.invariant-loop-own
invariant-loop-own l = form_in l.label (map (λ f. (f.0.now, f.1)) l.forms) ≡ form_in l.label (map (λ f. (f.0.now, f.1)) (drop l.own-index l.forms))

use Rattle.std.proofs.Common.{length, length-append, [], ◌∷◌, ap, sym, ◌∙◌, arith}
use Rattle.fx_line.specs.Line.{without_last_spaces}
use Rattle.fx_line.proofs.Trimming.{last_space_off, no_last_space}
use Rattle.fx_line.proofs.trim.without_last_spaces.Goals as goal

pub loop-before-smaller : goal.loop-before-smaller
loop-before-smaller c = omega (arith, ap length c.in-Some.ensures.found, length-append c.in-Some.before.now (32 ∷ []))

pub loop-before-preserved : goal.loop-before-preserved
loop-before-preserved c = sym (last_space_off c.in-Some.before.now) ∙ ap without_last_spaces (sym c.in-Some.ensures.found) ∙ c.loop-before.invariant

pub returns : goal.returns
returns c = sym (no_last_space c.loop-before.rest.now c.in_default.ensures.none) ∙ c.loop-before.invariant

-- The block ends at the first table that does not join it.
use Rattle.std.proofs.Common.{◌∙◌, ◌++◌, ◌∷◌, [], take, refl, ap, sym, if◌then◌else◌}
use Rattle.fx_csv.specs.Shapes.{columns_over}
use Rattle.fx_csv.proofs.BlockSteps.{alone, ends_here}
use Rattle.fx_csv.proofs.block.first_block.Goals as goal

pub loop-i-init : goal.loop-i-init
loop-i-init c = record {
  kept = record { shape = c.in_ok-columns.ensures; passes = alone c.args.first.now c.requires.first };
  cut = refl;
}

pub returns-then-not-branch : goal.returns-then-not-branch
returns-then-not-branch c =
    let kept = c.loop-i.invariant.kept in
    let told = c.in_ok-join.ensures (take c.loop-i.i c.args.rest.now) kept in
    ends_here c.args.first.now c.args.rest.now c.loop-i.i c.index-rest-i.result _ refl c.loop-i-test.true c.index-rest-i.is
    c.loop-i.invariant.cut kept.passes (sym told.0 ∙ c.if-not-branch.true)
    (told.1 ∙ ap (λ b. columns_over (c.args.first.now ∷ (if b then take c.loop-i.i c.args.rest.now ++ c.index-rest-i.result ∷ [] else take c.loop-i.i c.args.rest.now))) c.if-not-branch.true)

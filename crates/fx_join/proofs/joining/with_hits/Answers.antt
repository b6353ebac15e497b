use Rattle.std.proofs.Common.{[], ◌∷◌, ◌++◌, ap, ◌∙◌, arith, rules, ◌≡◌}
use Rattle.std.specs.Prelude.{◌||◌}
use Rattle.fx_join.specs.Part.{hit_at}
use Rattle.fx_join.proofs.Parts.{marked_more}
use Rattle.fx_join.proofs.joining.with_hits.Goals as goal

pub loop-i-preserved : goal.loop-i-preserved
loop-i-preserved c =
    let i = c.loop-i.i in
    let one : c.either.result ≡ (hit_at c.args.marks.now i || hit_at c.args.hits.now i) = search rules in
    let pushed : c.push.new.self.items ≡ c.loop-i.made.items ++ c.either.result ∷ [] = search rules in
    pushed ∙ ap (λ b. c.loop-i.made.items ++ b ∷ []) one ∙ ap (λ bs. bs ++ (hit_at c.args.marks.now i || hit_at c.args.hits.now i) ∷ []) c.loop-i.invariant
    ∙ marked_more c.args.marks.now c.args.hits.now i (omega arith)

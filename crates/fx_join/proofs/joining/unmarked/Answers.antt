use Rattle.std.proofs.Common.{List, [], ◌∷◌, ◌++◌, ap, ◌∙◌, arith}
use Rattle.std.specs.Prelude.{if◌then◌else◌}
use Rattle.fx_group.specs.Answer.{Row}
use Rattle.fx_join.specs.Part.{hit_at}
use Rattle.fx_join.proofs.Parts.{unmarked_more}
use Rattle.fx_join.proofs.joining.unmarked.Goals as goal

pub loop-i-preserved : goal.loop-i-preserved
loop-i-preserved c =
    let i = c.loop-i.i in
    let r = c.index-rights-i.result in
    c.in_ok-push_unless.ensures
    ∙ ap (λ b. c.loop-i.left.items ++ (if b then [] else r ∷ [])) c.is_hit.ensures
    ∙ ap (λ (rows : List Row). rows ++ (if hit_at c.args.marks.now i then [] else r ∷ [])) c.loop-i.invariant
    ∙ unmarked_more c.args.marks.now c.args.rights.now i r (omega arith) c.index-rights-i.is

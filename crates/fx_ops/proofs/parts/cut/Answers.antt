use Rattle.std.proofs.Common.{◌≡◌, ◌∷◌, [], ◌++◌, sym, ap, ◌∙◌, append-nil, rules}
use Rattle.fx_ops.specs.Parts.{parts_past}
use Rattle.fx_ops.proofs.PartLemmas.{parts-found, parts-lacking, one_more}
use Rattle.fx_ops.proofs.parts.cut.Goals as goal

pub parts-preserved : goal.parts-preserved
parts-preserved c =
    let by = c.args.by.now in
    let cases = c.in-Some.ensures.cases in
    let split = cases.2.1.split ∙ ap (λ rest. by ++ rest) (sym cases.4) in
    let found = parts-found by c.parts.rest.now cases.0 c.in-Some.after.now c.requires cases.2.0 split in
    let step : parts_past by 0 c.parts.rest.now ≡ c.in-Some.part.now ∷ parts_past by 0 c.in-Some.after.now =
    found ∙ ap (λ part. part ∷ parts_past by 0 c.in-Some.after.now) (sym cases.3) in
    (search rules, one_more c.parts.found.items c.push.new.self.items c.in-Some.part _ _ _ c.in_ok-push.ensures.items step c.parts.invariant.1)

pub returns : goal.returns
returns c =
    let lacking = parts-lacking c.args.by.now c.parts.rest.now c.in_default.ensures.cases in
    sym (append-nil _) ∙ one_more c.parts.found.items c.push-2.new.self.items c.parts.rest _ [] _ c.in_ok-push-2.ensures.items lacking c.parts.invariant.1

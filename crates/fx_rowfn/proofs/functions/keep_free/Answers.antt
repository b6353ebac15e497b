use Rattle.std.proofs.Common.{◌≡◌, true, false, cond, [], ◌∷◌, ◌++◌, map, sym, ap, ◌∙◌}
use Rattle.std.proofs.lemmas.List.{append-nil, map-append}
use Rattle.fx_ast.specs.Free.{free_fun, name_of}
use Rattle.fx_ast.specs.Shape.{body, param, params_of}
use Rattle.fx_values.specs.Shape.{slot}
use Rattle.fx_values.proofs.ValueLaws.{slot_is}
use Rattle.fx_rowfn.proofs.functions.keep_free.Goals as goal

pub returns-then-not-is_free : goal.returns-then-not-is_free
returns-then-not-is_free c =
    let params = params_of (map param c.args.params.now) in
    let k = body c.args.of.now in
    let o = slot c.args.from.now in
    let kept = map slot c.args.kept.now in
    let same : free_fun params k.lets k.result (name_of o.label) ≡ false
    = ap (λ s. free_fun params k.lets k.result (name_of s.label)) (slot_is c.args.from.now) ∙ sym c.is_free.ensures ∙ c.if-not-is_free.true in
    sym (append-nil kept) ∙ ap (λ b. kept ++ cond b (o ∷ []) []) (sym same)

pub returns : goal.returns
returns c =
    let params = params_of (map param c.args.params.now) in
    let k = body c.args.of.now in
    let o = slot c.args.from.now in
    let kept = map slot c.args.kept.now in
    let same : free_fun params k.lets k.result (name_of o.label) ≡ true
    = ap (λ s. free_fun params k.lets k.result (name_of s.label)) (slot_is c.args.from.now) ∙ sym c.is_free.ensures ∙ c.if-not-is_free.false in
    ap (map slot) c.in_ok-push.ensures.ok ∙ map-append slot c.args.kept.now (c.in_ok-slot_copied.field-0 ∷ [])
    ∙ ap (λ w. kept ++ w ∷ []) c.in_ok-slot_copied.ensures
    ∙ ap (λ b. kept ++ cond b (o ∷ []) []) (sym same)

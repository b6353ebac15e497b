use Rattle.std.proofs.Common.{◌≡◌, ◌∙◌}
use Rattle.fx_types.specs.Instance.{ground}
use Rattle.fx_types.specs.Shape.{term}
use Rattle.fx_unify.proofs.AskLaws.{asked_more, refused_more}
use Rattle.fx_unify.proofs.RowLaws.{if_ok}
use Rattle.fx_unify.proofs.calls.unify.Goals as goal

pub returns-clause-ok : goal.returns-clause-ok
returns-clause-ok c =
    if_ok c.settle.result (λ r h. asked_more c.args.bindings c.in_ok-asked.asked (λ s. ground s (term c.args.a.now) ≡ ground s (term c.args.b.now)) c.in_ok-asked.ensures.ok r h) c.settle.ensures.ok

pub returns-clause-next : goal.returns-clause-next
returns-clause-next c = if_ok c.settle.result (λ r h. h ∙ c.in_ok-asked.ensures.next) c.settle.ensures.next

pub returns-clause-clash : goal.returns-clause-clash
returns-clause-clash c =
    refused_more c.args.bindings c.in_ok-asked.asked (λ s. ground s (term c.args.a.now) ≡ ground s (term c.args.b.now)) c.in_ok-asked.ensures.ok c.settle.result c.settle.ensures.clash

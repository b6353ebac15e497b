use Rattle.std.proofs.Common.{◌↔◌, refl, subst}
use Rattle.fx_types.specs.Instance.{Solution}
use Rattle.fx_types.specs.Raised.{from}
use Rattle.fx_schemes.specs.Scheme.{Keeps}
use Rattle.fx_unify.specs.Solutions.{Solves}
use Rattle.fx_infer.specs.Lists.{AreRaised}
use Rattle.fx_infer.proofs.UsingLaws.{line_used}
use Rattle.fx_infer.proofs.uses.fresh_line.Goals as goal

pub returns : goal.returns
returns c =
    line_used c.args.scheme c.args.bindings c.in_ok-typed.typed c.in_ok-raised.raised.bindings c.in_ok-bindings.bindings c.in-Some.number
    (record { ty = c.in_ok-ty.ty; optional = c.in_ok-raised.raised.entries; pipe_label = c.args.scheme.pipe_label; labels = c.args.scheme.labels })
    c.in-Some.ensures.number.0 refl refl c.in_ok-ty.ensures c.in_ok-typed.ensures.ok c.in_ok-typed.ensures.next
    (subst (λ es. AreRaised c.in-Some.number c.in_ok-typed.typed es c.in_ok-raised.raised.bindings c.in_ok-raised.raised.entries) c.as_slice.ensures c.in_ok-raised.ensures)
    (subst (λ bs. (s : Solution) → Solves s c.in_ok-bindings.bindings ↔ (Solves s c.in_ok-raised.raised.bindings × Keeps (from c.in-Some.number s) bs)) c.as_slice-2.ensures c.in_ok-bindings.ensures.ok)
    c.in_ok-bindings.ensures.more

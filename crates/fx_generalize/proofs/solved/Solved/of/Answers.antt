use Rattle.std.proofs.Common.{refl}
use Rattle.fx_types.specs.Shape.{term}
use Rattle.fx_generalize.proofs.OpenLaws.{opened}
use Rattle.fx_generalize.proofs.SolvedLaws.{same_bounds, solved_of}
use Rattle.fx_generalize.proofs.solved.Solved.of.Goals as goal

pub returns-in-Ok-clause-instances : goal.returns-in-Ok-clause-instances
returns-in-Ok-clause-instances c =
    solved_of c.args.bindings.now c.in_ok-left.left.items c.keep.new.names c.in_ok-bounds.bounds
    (same_bounds c.as_slice.result.now c.in_ok-left.left.items c.as_slice-2.result.now c.keep.new.names.types.items c.in_ok-bounds.bounds c.as_slice.ensures.value c.as_slice-2.ensures.value c.in_ok-bounds.ensures.exact)
    c.requires (opened c.args.bindings.now.store c.requires.0 c.requires.1.0.0 c.in_ok-see_ends.ensures) c.in_ok-left.ensures.narrowed c.in_ok-left.ensures.met (term c.args.ty.now)
    (record { vars = c.in-Ok.vars; ty = c.in_ok-ty.field-0.ty; also = c.in_ok-ty.field-0.also; bounds = c.in_ok-bounds.bounds }) c.args.bindings.now.also.items refl refl c.in_ok-ty.ensures.reading c.in_ok-ty.ensures.covers

pub returns-in-Ok-clause-values : goal.returns-in-Ok-clause-values
returns-in-Ok-clause-values c = opened c.args.bindings.now.store c.requires.0 c.requires.1.0.0 c.in_ok-see_ends.ensures

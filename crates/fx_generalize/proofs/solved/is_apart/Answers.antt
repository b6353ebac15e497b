use Rattle.fx_types.specs.Shape.{term}
use Rattle.fx_generalize.proofs.solved.is_apart.Goals as goal

pub returns : goal.returns
returns c = λ apart. (c.are_apart-2.ensures apart, (term c.in_ok-read_alone.field-0, c.in_ok-read_alone.ensures))

use Rattle.std.proofs.Common.{sym, subst}
use Rattle.fx_types.specs.Instance.{ground, plainest}
use Rattle.fx_types.specs.Shape.{term}
use Rattle.fx_types.specs.Size.{IsSize}
use Rattle.fx_types.proofs.SizeLaws.{size_is}
use Rattle.fx_types.proofs.term.Ty.size.Goals as goal

pub returns : goal.returns
returns c = subst (IsSize (ground plainest (term c.args.self.now))) (sym c.ty_size.ensures) (size_is (term c.args.self.now))

use Rattle.std.proofs.Common.{ap, ◌∙◌}
use Rattle.fx_types.specs.Ground.{listed}
use Rattle.fx_unify.specs.Store.{apart_of}
use Rattle.fx_unify.proofs.LabelLaws.{listed_one_more}
use Rattle.fx_unify.proofs.StoreLaws.{on_ok}
use Rattle.fx_unify.proofs.store.Store.keep.Goals as goal

pub returns-clause-apart : goal.returns-clause-apart
returns-clause-apart c =
    on_ok c.keep_more.result (λ last l. ap (listed l) last ∙ listed_one_more l c.args.label.now (apart_of c.args.self.now c.args.row)) c.keep_more.ensures.apart

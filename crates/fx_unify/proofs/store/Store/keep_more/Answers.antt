use Rattle.std.proofs.Common.{refl, ap, ◌∙◌, ◌++◌, ◌∷◌, []}
use Rattle.fx_unify.specs.Store.{apart_of, rest_in, rest_of}
use Rattle.fx_unify.proofs.StoreLaws.{on_ok, kept_more, kept_last}
use Rattle.fx_unify.proofs.store.Store.keep_more.Goals as goal

pub returns-clause-apart : goal.returns-clause-apart
returns-clause-apart c =
    on_ok c.add.result
    (λ put. kept_last c.args.self.now (record c.args.self.now { apart = c.add.new.lists }) c.args.row c.in_ok-label.label put ∙ ap (λ x. apart_of c.args.self.now c.args.row ++ x ∷ []) c.in_ok-label.ensures)
    c.add.ensures

pub returns-clause-same : goal.returns-clause-same
returns-clause-same c =
    on_ok c.add.result
    (λ put. (kept_more c.args.self.now (record c.args.self.now { apart = c.add.new.lists }) c.args.row c.in_ok-label.label
    (ap (rest_in (apart_of c.args.self.now c.args.row) (rest_of c.args.self.now c.args.row)) c.in_ok-label.ensures ∙ c.requires) refl refl refl refl put).0)
    c.add.ensures

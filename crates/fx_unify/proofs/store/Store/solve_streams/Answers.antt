use Rattle.std.proofs.Common.{sym, ap, ◌∙◌, Ok}
use Rattle.fx_types.specs.declared.term.Ty.TheVariants as ty
use Rattle.fx_unify.proofs.Cases.{is_a_stream}
use Rattle.fx_unify.proofs.HeadLaws.{to_streams}
use Rattle.fx_unify.proofs.store.Store.solve_streams.Goals as goal

pub returns-in_ok-compare-in-Stream : goal.returns-in_ok-compare-in-Stream
returns-in_ok-compare-in-Stream c =
    to_streams {A = Unit {0}} (Ok tt) c.args.self.now c.compare.new.self c.args.row c.into_inner.result c.args.other (c.in-Stream.is ∙ ap ty.Stream (sym c.into_inner.ensures)) c.in_ok-compare-in-Stream.ensures

pub returns-in_default : goal.returns-in_default
returns-in_default c = λ s holds e within. is_a_stream c.args.other c.requires c.in_default.not-Stream

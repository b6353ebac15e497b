use Rattle.std.proofs.Common.{sym, ap, ◌∙◌, Ok}
use Rattle.fx_types.specs.declared.term.Ty.TheVariants as ty
use Rattle.fx_unify.proofs.Cases.{is_a_record}
use Rattle.fx_unify.proofs.HeadLaws.{to_records}
use Rattle.fx_unify.proofs.store.Store.solve_records.Goals as goal

pub returns-in_ok-compare-in-Rec : goal.returns-in_ok-compare-in-Rec
returns-in_ok-compare-in-Rec c =
    to_records {A = Unit {0}} (Ok tt) c.args.self.now c.compare.new.self c.args.row c.into_inner.result c.args.other (c.in-Rec.is ∙ ap ty.Rec (sym c.into_inner.ensures)) c.in_ok-compare-in-Rec.ensures

pub returns-in_default : goal.returns-in_default
returns-in_default c = λ s holds e within. is_a_record c.args.other c.requires c.in_default.not-Rec

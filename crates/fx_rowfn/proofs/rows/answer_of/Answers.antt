use Rattle.std.proofs.Common.{map, subst, sym, ap, ◌∙◌}
use Rattle.fx_meaning.specs.Rows.{answer_of}
use Rattle.fx_meaning.specs.Value.{rec}
use Rattle.fx_value.specs.Ends.{Gives}
use Rattle.fx_value.specs.declared.answer.Answer.{Answer}
use Rattle.fx_value.specs.declared.answer.Answer.TheVariants.{Cell}
use Rattle.fx_values.proofs.ValueLaws.{val_cell, val_rec}
use Rattle.fx_values.specs.Shape.{slot, slots_of, val}
use Rattle.fx_values.specs.Told.{Tells}
use Rattle.fx_rowfn.proofs.RowLaws.{no_answer}
use Rattle.fx_rowfn.proofs.rows.answer_of.Goals as goal

pub returns-in_ok-copy-in-Cell : goal.returns-in_ok-copy-in-Cell
returns-in_ok-copy-in-Cell c = ap answer_of (ap val c.in-Cell.is ∙ val_cell c.in-Cell.scalar) ∙ ap (λ a. Gives (Cell a) 0) (sym c.in_ok-copy-in-Cell.ensures)

pub returns-in-Rec : goal.returns-in-Rec
returns-in-Rec c =
    subst (λ w. Tells {A = Answer} (λ a. a) (answer_of w) c.line_of.result)
    (ap (λ l. rec (slots_of (map slot l))) (c.as_slice.ensures ∙ c.as_ref.ensures) ∙ sym (ap val c.in-Rec.is ∙ val_rec c.in-Rec.fields)) c.line_of.ensures

pub returns-in_default : goal.returns-in_default
returns-in_default c = no_answer c.args.value.now c.in_default.not-Cell c.in_default.not-Rec

use Rattle.std.proofs.Common.{◌≡◌, ℕ, ap, subst, ◌∙◌, true}
use Rattle.fx_types.specs.Ground.{listed}
use Rattle.fx_types.specs.Instance.{ground_tail}
use Rattle.fx_types.specs.Term.{Label}
use Rattle.fx_types.proofs.ShapeLaws.{tail_var}
use Rattle.fx_unify.specs.Decide.{Fixed, FixedRow}
use Rattle.fx_unify.specs.Measure.{least}
use Rattle.fx_unify.proofs.DecideLaws.{leads_var, row_free, row_ok, row_err, widened}
use Rattle.fx_unify.proofs.PlainRowLaws.{light_fixed}
use Rattle.fx_unify.proofs.store.Store.check_row.Goals as goal

pub returns-then-branch-clause-checked : goal.returns-then-branch-clause-checked
returns-then-branch-clause-checked c = light_fixed c.args.self.now c.args.sorts.now c.args.row (c.in_ok-is_light.ensures.light c.if-branch.true)

pub returns-in-Err-clause-checked : goal.returns-in-Err-clause-checked
returns-in-Err-clause-checked c =
    widened c.args.self.now c.args.sorts.now c.in-Err.fault (λ k. (l : Label) → listed l c.as_slice.result.now ≡ true → Fixed (least c.args.self.now c.args.sorts.now) (λ s. s.row_of c.args.row l) k)
    (FixedRow (least c.args.self.now c.args.sorts.now) (λ s. s.row_of c.args.row)) c.in-Err.ensures.checked

pub returns-clause-checked : goal.returns-clause-checked
returns-clause-checked c =
    row_free c.args.self.now c.args.sorts.now c.args.row c.in-Var.field-0 c.in_ok-root.root c.follow.new.labels.items c.in-Var.is
    (subst (λ ls. (k : ℕ) × ((l : Label) → listed l ls ≡ true → Fixed (least c.args.self.now c.args.sorts.now) (λ s. s.row_of c.args.row l) k)) c.as_slice.ensures.value c.in_default.ensures.checked)
    (leads_var c.args.self.now c.args.sorts.now c.follow.new.labels.items c.args.row c.in_ok-root.root c.in_ok-root.ensures.leads) c.in_ok-root.ensures.free c.in_ok-root.ensures.kept

pub returns-in-Ok-clause-checked : goal.returns-in-Ok-clause-checked
returns-in-Ok-clause-checked c =
    row_ok c.args.self.now c.args.sorts.now c.args.row c.in_ok-root.root c.in-Default.field c.in-Ok.field-0 c.follow.new.labels.items c.in-Default.is
    (subst (λ ls. (k : ℕ) × ((l : Label) → listed l ls ≡ true → Fixed (least c.args.self.now c.args.sorts.now) (λ s. s.row_of c.args.row l) k)) c.as_slice.ensures.value c.in_default.ensures.checked)
    (leads_var c.args.self.now c.args.sorts.now c.follow.new.labels.items c.args.row c.in_ok-root.root c.in_ok-root.ensures.leads) c.in-Ok.ensures.nodes

pub returns-in-Default-clause-checked : goal.returns-in-Default-clause-checked
returns-in-Default-clause-checked c =
    row_err c.args.self.now c.args.sorts.now c.args.row c.in_ok-root.root c.in-Default.field c.in-Err-weigh_field.fault c.follow.new.labels.items (FixedRow (least c.args.self.now c.args.sorts.now) (λ s. s.row_of c.args.row)) c.in-Default.is
    (λ s solved l off. c.in_ok-root.ensures.same s solved l off ∙ ap (λ t. ground_tail s t l) (tail_var c.args.row)) c.in-Err-weigh_field.ensures.nodes

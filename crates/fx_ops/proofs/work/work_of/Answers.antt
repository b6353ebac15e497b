use Rattle.std.proofs.Common.{◌≡◌, ◌∙◌, refl, sym, ap}
use Rattle.fx_value.specs.declared.scalar.Kind.TheVariants as kind
use Rattle.fx_ops.specs.declared.operator.BinaryOp.TheVariants.{Add, Sub, Mul, Div, Rem, Eq, Ne, Lt, Le, Gt, Ge}
use Rattle.fx_ops.specs.Binary.{work_of}
use Rattle.fx_ops.proofs.work.work_of.Goals as goal

-- the table has the row of each operator and kind
pub returns : goal.returns
returns c =
    let found = rw c.in-Some.ensures.1 at c.find.ensures in
    let is = c.copied.ensures ∙ found in
    elim c.args.which as (λ w. c.args.which ≡ w → c.copied.result ≡ work_of c.args.which c.args.kind) [
      | Add ↦ λ e.
          let here = rw e at is in
          let row = elim c.args.kind as (λ k. c.args.kind ≡ k → c.copied.result ≡ work_of Add k) [
            | kind.Bool ↦ λ f. rw f at here
            | kind.Int ↦ λ f. rw f at here
            | kind.Text ↦ λ f. rw f at here
            | kind.Time ↦ λ f. rw f at here
          ] refl in
          row ∙ sym (ap (λ w. work_of w c.args.kind) e)
      | Sub ↦ λ e.
          let here = rw e at is in
          let row = elim c.args.kind as (λ k. c.args.kind ≡ k → c.copied.result ≡ work_of Sub k) [
            | kind.Bool ↦ λ f. rw f at here
            | kind.Int ↦ λ f. rw f at here
            | kind.Text ↦ λ f. rw f at here
            | kind.Time ↦ λ f. rw f at here
          ] refl in
          row ∙ sym (ap (λ w. work_of w c.args.kind) e)
      | Mul ↦ λ e.
          let here = rw e at is in
          let row = elim c.args.kind as (λ k. c.args.kind ≡ k → c.copied.result ≡ work_of Mul k) [
            | kind.Bool ↦ λ f. rw f at here
            | kind.Int ↦ λ f. rw f at here
            | kind.Text ↦ λ f. rw f at here
            | kind.Time ↦ λ f. rw f at here
          ] refl in
          row ∙ sym (ap (λ w. work_of w c.args.kind) e)
      | Div ↦ λ e.
          let here = rw e at is in
          let row = elim c.args.kind as (λ k. c.args.kind ≡ k → c.copied.result ≡ work_of Div k) [
            | kind.Bool ↦ λ f. rw f at here
            | kind.Int ↦ λ f. rw f at here
            | kind.Text ↦ λ f. rw f at here
            | kind.Time ↦ λ f. rw f at here
          ] refl in
          row ∙ sym (ap (λ w. work_of w c.args.kind) e)
      | Rem ↦ λ e.
          let here = rw e at is in
          let row = elim c.args.kind as (λ k. c.args.kind ≡ k → c.copied.result ≡ work_of Rem k) [
            | kind.Bool ↦ λ f. rw f at here
            | kind.Int ↦ λ f. rw f at here
            | kind.Text ↦ λ f. rw f at here
            | kind.Time ↦ λ f. rw f at here
          ] refl in
          row ∙ sym (ap (λ w. work_of w c.args.kind) e)
      | Eq ↦ λ e.
          let here = rw e at is in
          let row = elim c.args.kind as (λ k. c.args.kind ≡ k → c.copied.result ≡ work_of Eq k) [
            | kind.Bool ↦ λ f. rw f at here
            | kind.Int ↦ λ f. rw f at here
            | kind.Text ↦ λ f. rw f at here
            | kind.Time ↦ λ f. rw f at here
          ] refl in
          row ∙ sym (ap (λ w. work_of w c.args.kind) e)
      | Ne ↦ λ e.
          let here = rw e at is in
          let row = elim c.args.kind as (λ k. c.args.kind ≡ k → c.copied.result ≡ work_of Ne k) [
            | kind.Bool ↦ λ f. rw f at here
            | kind.Int ↦ λ f. rw f at here
            | kind.Text ↦ λ f. rw f at here
            | kind.Time ↦ λ f. rw f at here
          ] refl in
          row ∙ sym (ap (λ w. work_of w c.args.kind) e)
      | Lt ↦ λ e.
          let here = rw e at is in
          let row = elim c.args.kind as (λ k. c.args.kind ≡ k → c.copied.result ≡ work_of Lt k) [
            | kind.Bool ↦ λ f. rw f at here
            | kind.Int ↦ λ f. rw f at here
            | kind.Text ↦ λ f. rw f at here
            | kind.Time ↦ λ f. rw f at here
          ] refl in
          row ∙ sym (ap (λ w. work_of w c.args.kind) e)
      | Le ↦ λ e.
          let here = rw e at is in
          let row = elim c.args.kind as (λ k. c.args.kind ≡ k → c.copied.result ≡ work_of Le k) [
            | kind.Bool ↦ λ f. rw f at here
            | kind.Int ↦ λ f. rw f at here
            | kind.Text ↦ λ f. rw f at here
            | kind.Time ↦ λ f. rw f at here
          ] refl in
          row ∙ sym (ap (λ w. work_of w c.args.kind) e)
      | Gt ↦ λ e.
          let here = rw e at is in
          let row = elim c.args.kind as (λ k. c.args.kind ≡ k → c.copied.result ≡ work_of Gt k) [
            | kind.Bool ↦ λ f. rw f at here
            | kind.Int ↦ λ f. rw f at here
            | kind.Text ↦ λ f. rw f at here
            | kind.Time ↦ λ f. rw f at here
          ] refl in
          row ∙ sym (ap (λ w. work_of w c.args.kind) e)
      | Ge ↦ λ e.
          let here = rw e at is in
          let row = elim c.args.kind as (λ k. c.args.kind ≡ k → c.copied.result ≡ work_of Ge k) [
            | kind.Bool ↦ λ f. rw f at here
            | kind.Int ↦ λ f. rw f at here
            | kind.Text ↦ λ f. rw f at here
            | kind.Time ↦ λ f. rw f at here
          ] refl in
          row ∙ sym (ap (λ w. work_of w c.args.kind) e)
    ] refl

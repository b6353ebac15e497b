use Rattle.std.proofs.Common.{◌≡◌, refl, ◌∙◌, Ok}
use Rattle.fx_types.specs.declared.term.FunTy.{out-FunTy}
use Rattle.fx_types.specs.Shape.{term}
use Rattle.fx_unify.specs.Part.{part, p_is, value}
use Rattle.fx_unify.proofs.HeadLaws.{parts, pipe_part, result_part, labels_part}
use Rattle.fx_unify.proofs.SolvingLaws.{twice}
use Rattle.fx_unify.proofs.store.Store.solve_parts.Goals as goal

pub returns : goal.returns
returns c =
    parts (Ok tt) c.args.self.now (record c.args.self.now { work = c.put_off-2.new.work }) c.compare.new.self c.args.left c.args.right c.in_ok-a.a c.in_ok-b.b
    (part c.piped.result) (part c.piped-2.result) (p_is (term (out-FunTy c.args.left).result)) (p_is (term (out-FunTy c.args.right).result))
    (λ v. refl)
    (λ s. twice {Y = value s (p_is (term (out-FunTy c.args.left).result)) ≡ value s (p_is (term (out-FunTy c.args.right).result))} (c.in_ok-put_off-2.ensures s) (c.in_ok-put_off.ensures s))
    (λ s. c.piped.ensures s ∙ pipe_part s c.args.left) (λ s. c.piped-2.ensures s ∙ pipe_part s c.args.right)
    (λ s. result_part s c.args.left) (λ s. result_part s c.args.right)
    (λ s l. c.in_ok-a.ensures s l ∙ labels_part s c.args.left l) (λ s l. c.in_ok-b.ensures s l ∙ labels_part s c.args.right l)
    c.in_ok-compare.ensures

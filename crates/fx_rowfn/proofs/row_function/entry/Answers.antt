use Rattle.std.proofs.Common.{map, ap, ◌∙◌}
use Rattle.fx_values.specs.Shape.{closed, slot, slots_of}
use Rattle.fx_rowfn.specs.State.{scope_of}
use Rattle.fx_rowfn.proofs.RowLaws.{entry_work}
use Rattle.fx_rowfn.proofs.row_function.entry.Goals as goal

pub returns : goal.returns
returns c = λ test limit.
    entry_work test limit (scope_of c.in_ok-scope.scope) (closed c.in_ok-closure.closure.value) (closed c.args.closure.now.value) (slots_of (map slot c.in_ok-args.args.value)) (slots_of (map slot c.args.args))
    (ap closed c.in_ok-closure.ensures.cases) (ap (λ l. slots_of (map slot l)) c.in_ok-args.ensures.ok)
    (c.in_ok-scope.ensures ∙ ap (λ k. record { env = (closed k).captured; setting = (closed k).setting }) c.as_ref.ensures)

use Rattle.std.proofs.Common.{◌≡◌, true, map, refl, subst}
use Rattle.std.specs.Option.{IfSome}
use Rattle.fx_meaning.specs.Meaning.{takes}
use Rattle.fx_value.specs.Ends.{NeverStuck}
use Rattle.fx_values.specs.Known.{hears}
use Rattle.fx_values.specs.Shape.{closed, slot, slots_of}
use Rattle.fx_rowfn.specs.Rows.{args_in, row_called}
use Rattle.fx_rowfn.proofs.RowLaws.{called_cut}
use Rattle.fx_rowfn.proofs.row_function.called.Goals as goal

pub called_with-requires-clause-taken : goal.called_with-requires-clause-taken
called_with-requires-clause-taken g c =
    subst (λ args. IfSome args (λ ss. takes (closed c.args.closure.now.value).params (slots_of (map slot ss)) ≡ true)) c.in-Some.is c.requires.taken

pub called_with-requires-clause-unstuck : goal.called_with-requires-clause-unstuck
called_with-requires-clause-unstuck g c =
    let k = closed c.args.closure.now.value in
    let test = hears k.setting.patterns (g.P.Patterns.test c.args.patterns.now) in
    let taken = subst (λ args. IfSome args (λ ss. takes k.params (slots_of (map slot ss)) ≡ true)) c.in-Some.is c.requires.taken in
    subst NeverStuck (called_cut test k (slots_of (map slot c.in-Some.args)) taken)
    (subst (λ args. NeverStuck (row_called test k (args_in args))) c.in-Some.is c.requires.unstuck)

pub unreachable-requires : goal.unreachable-requires
unreachable-requires g c =
    let k = closed c.args.closure.now.value in
    let test = hears k.setting.patterns (g.P.Patterns.test c.args.patterns.now) in
    subst (λ args. NeverStuck (row_called test k (args_in args))) c.in-None.is c.requires.unstuck 0 refl

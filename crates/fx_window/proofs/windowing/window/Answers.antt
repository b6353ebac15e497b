use Rattle.std.proofs.Common.{List, true, false, sym, ap, ◌∙◌}
use Rattle.fx_data.specs.declared.table.Table.{Table}
use Rattle.fx_value.specs.Ends.{Gives}
use Rattle.fx_window.proofs.Plain.{pair_is, window_bad, window_plain}
use Rattle.fx_window.proofs.windowing.window.Goals as goal

pub returns-then-not-is_window_pair : goal.returns-then-not-is_window_pair
returns-then-not-is_window_pair c =
    window_bad c.args.every c.args.period c.args.place c.args.tables (pair_is c.args.every c.args.period false c.if-not-is_window_pair.ensures)

pub returns : goal.returns
returns c =
    window_plain c.args.every c.args.period c.args.place c.args.tables (pair_is c.args.every c.args.period true c.if-not-is_window_pair.ensures) c.requires
    ∙ ap (λ (ts : List Table). Gives ts 0) (sym c.in_ok-in_windows.ensures)

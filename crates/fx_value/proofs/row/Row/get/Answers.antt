use Rattle.std.proofs.Common.{ap, ◌∙◌}
use Rattle.std.specs.Option.{option_map}
use Rattle.fx_value.specs.Source.{value_at}
use Rattle.fx_value.proofs.Rows.{row_answers}
use Rattle.fx_value.proofs.row.Row.get.Goals as goal

pub returns : goal.returns
returns c =
    c.value_of.ensures
    ∙ row_answers c.self.inside.first c.self.inside.second c.self.inside.labels _ c.args.label.now _ c.self.view_is c.get.ensures

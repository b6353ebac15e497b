use Rattle.std.proofs.Common.{◌≡◌, ◌++◌, take}
use Rattle.std.specs.List.{flat_map}
use Rattle.fx_csv.specs.Templates.{piece_text}
use Rattle.fx_csv.proofs.template.Template.push_row.Given as goal

abbrev pub invariant-loop-piece : goal.invariant-loop-piece
invariant-loop-piece l = l.out.items ≡ l.initial.out.items ++ flat_map (piece_text l.row) (take l.piece-index l.self.pieces.items)

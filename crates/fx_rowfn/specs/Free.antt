-- What is free in a part of a text.
use Rattle.std.specs.Prelude.{Bool, false}
use Rattle.fx_ast.specs.Free.{Need, free}
use Rattle.fx_ast.specs.Shape.{OfPart, a_piece, a_hole}

abbrev pub in_part : OfPart → Need → Bool
in_part (a_piece s) n = false
in_part (a_hole e) n = free e n

use Rattle.std.proofs.Common.{◌≡◌, ◌≤◌, length, rules, arith}
use Rattle.std.proofs.lemmas.Grind.{common_steps}
use Rattle.fx_ast.specs.Tree.{tree, text}
use Rattle.fx_parse.specs.ReadExprs.{read_expr}
use Rattle.fx_parse.specs.ReadPrimary.{read_text}
use Rattle.fx_parse.specs.Readings.{Got}
use Rattle.fx_parse.specs.Views.{parts}
use Rattle.fx_parse.proofs.turns.TextLaws.{holed, text_read}
use Rattle.fx_parse.proofs.grammar.Grammar.text.Goals as goal

pub text-requires : goal.text-requires
text-requires g c = holed c.in_ok-head.head.now.place c.in_ok-first.first (read_expr c.args.levels) (length c.head.new.self) c.head.new.self c.push_piece.new.self.items
    (parts c.in_ok-parts.parts) c.holes.new.cursor (rw c.empty-found.ensures at c.in_ok-push_piece.ensures) c.in_ok-parts.ensures

pub returns : goal.returns
returns g c =
    let some : 1 ≤ c.args.levels = omega arith in
    let e : read_text c.args.levels (read_expr c.args.levels) c.args.cursor.now ≡ Got (tree c.in_ok-head.head.now.place (text (parts c.in_ok-parts.parts))) c.holes.new.cursor
    = text_read c.args.levels (read_expr c.args.levels) c.args.cursor.now c.head.new.self c.holes.new.cursor c.in_ok-head.head.now c.push_piece.new.self.items (parts c.in_ok-parts.parts)
    some c.in_ok-head.ensures (rw (c.empty-found.ensures, c.in_ok-first.ensures) at c.in_ok-push_piece.ensures) c.in_ok-parts.ensures in
    first_of (search rules, grind (arith, common_steps))

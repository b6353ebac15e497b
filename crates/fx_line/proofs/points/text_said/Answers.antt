use Rattle.std.proofs.Common.{sym, subst}
use Rattle.std.specs.Str.{IsUtf8}
use Rattle.fx_line.proofs.TextParts.{inside_text}
use Rattle.fx_line.proofs.points.text_said.Goals as goal

pub text-requires : goal.text-requires
text-requires c = subst IsUtf8 (sym c.inside.ensures) (inside_text c.args.value.now c.requires.quoted c.requires.utf8)

use Rattle.std.proofs.Common.{sym, subst, arith}
use Rattle.std.proofs.lemmas.List.Elements.{All-get_or}
use Rattle.fx_line.specs.Collected.{IsTextPair}
use Rattle.fx_line.proofs.points.tags_said.Goals as goal

pub tag_said-requires : goal.tag_said-requires
tag_said-requires c = subst IsTextPair (sym c.tag-item.is) (All-get_or IsTextPair c.args.tags.now c.loop-tag.tag-index c.tag-item.result (omega arith) c.requires)

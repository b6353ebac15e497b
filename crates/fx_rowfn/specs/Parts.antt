-- What stands at a place of a tree's node, and what behind it.
use Rattle.std.specs.Prelude.{◌≡◌, ℕ, ◌+◌, Option, None, Some}
use Rattle.fx_ast.specs.Shape.{OfPart, a_piece, a_hole, link, part, prop, tree_of}
use Rattle.fx_ast.specs.Tree.{Trees, no_trees, more_trees, Props, no_props, more_props, Links, no_links, more_links, Parts, no_parts, piece, hole}
use Rattle.fx_ast.specs.declared.expr.Expr.{Expr}
use Rattle.fx_ast.specs.declared.expr.Link.{Link}
use Rattle.fx_ast.specs.declared.expr.Part.{Part}
use Rattle.fx_ast.specs.declared.expr.Prop.{Prop}
use denote.Bor.{Bor}

abbrev pub TreeAt : (ℕ → Trees) → ℕ → Option (Bor Expr) → Type 0
TreeAt from n None = from n ≡ no_trees
TreeAt from n (Some e) = from n ≡ more_trees (tree_of e.now) (from (n + 1))

abbrev pub PropAt : (ℕ → Props) → ℕ → Option (Bor Prop) → Type 0
PropAt from n None = from n ≡ no_props
PropAt from n (Some p) = from n ≡ more_props (prop p.now).label (prop p.now).value (from (n + 1))

abbrev pub LinkAt : (ℕ → Links) → ℕ → Option (Bor Link) → Type 0
LinkAt from n None = from n ≡ no_links
LinkAt from n (Some l) = from n ≡ more_links (link l.now).place (link l.now).op (link l.now).right (from (n + 1))

-- a part, and others behind it
abbrev pub with_part : OfPart → Parts → Parts
with_part (a_piece s) ps = piece s ps
with_part (a_hole e) ps = hole e ps

abbrev pub PartAt : (ℕ → Parts) → ℕ → Option (Bor Part) → Type 0
PartAt from n None = from n ≡ no_parts
PartAt from n (Some p) = from n ≡ with_part (part p.now) (from (n + 1))

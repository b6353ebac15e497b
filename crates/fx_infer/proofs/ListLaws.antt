-- Typing of lists of parts, one part more at the end.
use Rattle.std.proofs.Common.{◌≡◌, ◌↔◌, refl, sym, subst, List, [], ◌∷◌, ◌++◌}
use Rattle.fx_types.specs.Ground.{Ground, GroundRow, g_is}
use Rattle.fx_schemes.specs.Line.{IsKind}
use Rattle.fx_ast.specs.Shape.{OfProp, OfLink, OfPart, a_piece, a_hole, trees_of, parts_of, props_of, links_of}
use Rattle.fx_ast.specs.Tree.{Tree}
use Rattle.fx_infer.specs.Ask.{type_is, Scope}
use Rattle.fx_infer.specs.Operators.{Infixed}
use Rattle.fx_infer.specs.Typing.{has, has_items, has_parts, has_props, has_pipes, has_pipe, has_links}

module _ (S : Scope) where
  pub items_more : (u : Ground) (es : List Tree) (e : Tree) → has_items (trees_of (es ++ e ∷ [])) S u ↔ (has_items (trees_of es) S u × has e S (type_is u))
  items_more u [] e = (λ h. (tt, h.0), λ h. (h.1, tt))
  items_more u (d ∷ es) e = (
    λ h. (let k : has_items (trees_of es) S u × has e S (type_is u) = (items_more u es e).0 h.1 in ((h.0, k.0), k.1)),
    λ h. (h.0.0, (items_more u es e).1 (h.0.1, h.1)),
  )

  -- a part that is put in is of a column kind
  abbrev pub HasPart : OfPart → Type 0
  HasPart (a_piece s) = Unit {0}
  HasPart (a_hole e) = (u : Ground) × IsKind u × has e S (type_is u)

  pub parts_more : (ps : List OfPart) (p : OfPart) → has_parts (parts_of (ps ++ p ∷ [])) S ↔ (has_parts (parts_of ps) S × HasPart p)
  parts_more [] (a_piece s) = (λ h. (tt, tt), λ h. tt)
  parts_more [] (a_hole e) = (λ h. (tt, h.0), λ h. (h.1, tt))
  parts_more (a_piece s ∷ ps) p = parts_more ps p
  parts_more (a_hole e ∷ ps) p = (
    λ h. (let k : has_parts (parts_of ps) S × HasPart p = (parts_more ps p).0 h.1 in ((h.0, k.0), k.1)),
    λ h. (h.0.0, (parts_more ps p).1 (h.0.1, h.1)),
  )

  -- the property has the type that the row has at its label
  abbrev pub HasProp : GroundRow → OfProp → Type 0
  HasProp r p = (u : Ground) × (r p.label ≡ g_is u) × has p.value S (type_is u)

  pub props_more : (r : GroundRow) (ps : List OfProp) (p : OfProp) → has_props (props_of (ps ++ p ∷ [])) S r ↔ (has_props (props_of ps) S r × HasProp r p)
  props_more r [] p = (λ h. (tt, h.0), λ h. (h.1, tt))
  props_more r (d ∷ ps) p = (
    λ h. (let k : has_props (props_of ps) S r × HasProp r p = (props_more r ps p).0 h.1 in ((h.0, k.0), k.1)),
    λ h. (h.0.0, (props_more r ps p).1 (h.0.1, h.1)),
  )

  pub pipes_more : (u t : Ground) (es : List Tree) (e : Tree)
      → has_pipes (trees_of (es ++ e ∷ [])) S u t ↔ ((v : Ground) × has_pipes (trees_of es) S u v × has_pipe e S v t)
  pipes_more u t [] e = (λ h. (u, refl, subst (λ w. has_pipe e S u w) h.2 h.1), λ h. (t, subst (λ v. has_pipe e S v t) (sym h.1) h.2, refl))
  pipes_more u t (d ∷ es) e = (
    λ h. (let k : (v : Ground) × has_pipes (trees_of es) S h.0 v × has_pipe e S v t = (pipes_more h.0 t es e).0 h.2 in (k.0, (h.0, h.1, k.1), k.2)),
    λ h. (h.1.0, h.1.1, (pipes_more h.1.0 t es e).1 (h.0, h.1.2, h.2)),
  )

  -- the operator with the operand of the link goes from u to t
  abbrev pub HasLink : OfLink → Ground → Ground → Type 0
  HasLink l u t = (w : Ground) × has l.right S (type_is w) × Infixed l.op u w t

  pub links_more : (u t : Ground) (ls : List OfLink) (l : OfLink)
      → has_links (links_of (ls ++ l ∷ [])) S u t ↔ ((v : Ground) × has_links (links_of ls) S u v × HasLink l v t)
  links_more u t [] l = (
    λ h. (u, refl, (h.0, h.2, subst (Infixed l.op u h.0) h.4 h.3)),
    λ h. (h.2.0, t, h.2.1, subst (λ v. Infixed l.op v h.2.0 t) (sym h.1) h.2.2, refl),
  )
  links_more u t (d ∷ ls) l = (
    λ h. (let k : (v : Ground) × has_links (links_of ls) S h.1 v × HasLink l v t = (links_more h.1 t ls l).0 h.4 in (k.0, (h.0, h.1, h.2, h.3, k.1), k.2)),
    λ h. (h.1.0, h.1.1, h.1.2, h.1.3, (links_more h.1.1 t ls l).1 (h.0, h.1.4, h.2)),
  )

-- Texts: those without holes, and those that begin with a piece before a hole.
use Rattle.std.proofs.Common.{◌≡◌, ℕ, zero, suc, false, true, List, [], ◌∷◌, map, drop, refl, sym, ap, ◌∙◌, length, ◌≤◌, arith}
use Rattle.std.specs.Prelude.{Bool, ◌&&◌, cond, None, Some}
use Rattle.fx_base.specs.declared.place.Place.{Place}
use Rattle.fx_ast.specs.declared.expr.Part.{Part}
use Rattle.fx_ast.specs.declared.expr.Part.TheVariants as part_variants
use Rattle.fx_ast.specs.Shape.{part, parts_of}
use Rattle.fx_ast.specs.Tree.{Tree, tree, text, Parts, no_parts, piece, hole}
use Rattle.fx_ast.proofs.ShapeLaws.{part_piece}
use Rattle.fx_ast.specs.Lists.{parts_before}
use Rattle.fx_parse.specs.Closing.{read_hole}
use Rattle.fx_parse.specs.Items.{Items, passes, first, is_name, is_with}
use Rattle.fx_parse.specs.Measures.{plain_of}
use Rattle.fx_parse.specs.Readings.{Out, Got, Bad, mapped}
use Rattle.fx_parse.specs.declared.item.Item.{Item}
use Rattle.std.specs.Prelude.{nat_le}
use Rattle.std.proofs.lemmas.Bool.Decides.{nat_tests}
use Rattle.fx_parse.specs.Items.{label, is_head}
use Rattle.fx_parse.specs.Readings.{token}
use Rattle.fx_parse.specs.ReadPrimary.{read_holes, read_text, sees_with}
use Rattle.fx_parse.proofs.turns.ListTurns.{rows, holes_turn}

pub with_seen : (w : Items) → sees_with w ≡ (passes is_name (first w) && passes is_with (first (drop 1 w)))
unfolding sees_with
with_seen [] = refl
with_seen (x ∷ w) = refl

pub one_piece : (ps : List Part) (s : List ℕ) → ps ≡ part_variants.Piece s ∷ [] → parts_of (map part ps) ≡ piece s no_parts
one_piece ps s e = rw (e, part_piece s) refl

pub plain_piece : (p : Place) (ps : List Part) (s : List ℕ) → ps ≡ part_variants.Piece s ∷ [] → Some s ≡ plain_of (tree p (text (parts_of (map part ps))))
plain_piece p ps s e = rw (one_piece ps s e) refl

pub ruleset pieces = (one_piece, plain_piece)

pub piece_before : (ps : List Part) (s : List ℕ) (rest : Parts) → ps ≡ part_variants.Piece s ∷ [] → parts_before ps rest ≡ piece s rest
piece_before ps s rest e = rw (e, part_piece s) refl

pub pieces_before : (ps : List Part) (s : List ℕ) (o : Out Parts) → ps ≡ part_variants.Piece s ∷ [] → mapped (parts_before ps) o ≡ mapped (piece s) o
pieces_before ps s (Got l r) e = ap (λ x. Got x r) (piece_before ps s l e)
pieces_before ps s (Bad d r) e = refl

hole_first : (p : Place) (s : List ℕ) (e : Tree) (q : List ℕ) (o : Out Parts) (l : Parts) (r : Items) → mapped (λ x. hole e (piece q x)) o ≡ Got l r → None ≡ plain_of (tree p (text (piece s l)))
hole_first p s e q (Got x y) l r is = let h : hole e (piece q x) ≡ l = cc in ap (λ z. plain_of (tree p (text (piece s z)))) h
hole_first p s e q (Bad d y) l r is = absurd (let h : Bad d y ≡ Got l r = is in cc)

row_first : (p : Place) (s : List ℕ) (again : Items → Out Parts) (o : Out (Tree × List ℕ × Bool)) (l : Parts) (r : Items)
    → rows no_parts (λ (x : Tree × List ℕ × Bool) y. hole x.0 (piece x.1 y)) (λ x. x.2) again o ≡ Got l r → None ≡ plain_of (tree p (text (piece s l)))
row_first p s again (Got x y) l r is = hole_first p s x.0 x.1 (cond x.2 (Got no_parts y) (again y)) l r is
row_first p s again (Bad d y) l r is = absurd (let h : Bad d y ≡ Got l r = is in cc)

not_got : (inner : Items → Out Tree) (w : Items) (l : Parts) (r : Items) → read_holes inner zero w ≡ Got l r → ⊥
unfolding read_holes
not_got inner w l r is = let h : Bad false w ≡ Got l r = is in cc

holes_first : (p : Place) (s : List ℕ) (inner : Items → Out Tree) (n : ℕ) (w : Items) (l : Parts) (r : Items) → read_holes inner n w ≡ Got l r
    → None ≡ plain_of (tree p (text (piece s l)))
holes_first p s inner zero w l r is = absurd (not_got inner w l r is)
holes_first p s inner (suc n) w l r is = row_first p s (read_holes inner n) (read_hole inner w) l r (sym (holes_turn inner n w) ∙ is)

pub holed : (p : Place) (s : List ℕ) (inner : Items → Out Tree) (n : ℕ) (w : Items) (ps : List Part) (l : Parts) (r : Items) → ps ≡ part_variants.Piece s ∷ []
    → mapped (parts_before ps) (read_holes inner n w) ≡ Got l r → None ≡ plain_of (tree p (text l))
holed p s inner n w ps l r e is = from (read_holes inner n w) refl
  where
    from : (o : Out Parts) → read_holes inner n w ≡ o → None ≡ plain_of (tree p (text l))
    from (Got x y) f = let h : Got (piece s x) y ≡ Got l r = sym (ap (mapped (parts_before ps)) f ∙ ap (λ z. Got z y) (piece_before ps s x e)) ∙ is in
        let k : piece s x ≡ l = cc in holes_first p s inner n w x y f ∙ ap (λ z. plain_of (tree p (text z))) k
    from (Bad d y) f = absurd (let h : Bad d y ≡ Got l r = sym (ap (mapped (parts_before ps)) f) ∙ is in cc)

text_of_holes : (x : Item) (ps : List Part) (o : Out Parts) (l : Parts) (q : Items) → ps ≡ part_variants.Piece (label x) ∷ [] → mapped (parts_before ps) o ≡ Got l q
    → mapped (λ (p : Item × Parts). tree p.0.place (text (piece (label p.0) p.1))) (mapped (λ b. (x, b)) o) ≡ Got (tree x.place (text l)) q
text_of_holes x ps (Got y r) l q e is =
    let h : Got (piece (label x) y) r ≡ Got l q = sym (ap (λ z. Got z r) (piece_before ps (label x) y e)) ∙ is in
    ap (mapped (λ z. tree x.place (text z))) h
text_of_holes x ps (Bad d r) l q e is = absurd (let h : Bad d r ≡ Got l q = is in cc)

pub text_read : (k : ℕ) (inner : Items → Out Tree) (w r q : Items) (x : Item) (ps : List Part) (l : Parts) → 1 ≤ k → token is_head w ≡ Got x r
    → ps ≡ part_variants.Piece (label x) ∷ [] → mapped (parts_before ps) (read_holes inner (length r) r) ≡ Got l q → read_text k inner w ≡ Got (tree x.place (text l)) q
unfolding read_text
text_read k inner w r q x ps l some t e is =
    let low : nat_le 1 k ≡ true = grind (arith, nat_tests) in
    rw (low, t) (text_of_holes x ps (read_holes inner (length r) r) l q e is)

pub ruleset holed_text = (holed, pieces_before)

-- Readings of texts with holes.
use Rattle.std.proofs.Common.{◌≡◌, ℕ, zero, suc, ◌≤◌, ◌<◌, max, true, false, [], ◌∷◌, ◌++◌, length, sym, refl, ap, ◌∙◌, append-nil, arith, length-append}
use Rattle.std.proofs.lemmas.Bool.{cond_both, both_ways}
use Rattle.fx_ast.specs.Tree.{Tree, Parts, no_parts, piece, hole}
use Rattle.fx_parse.specs.declared.item.Item.{Item}
use Rattle.fx_parse.specs.declared.item.Lexeme.TheVariants.{Mid, Tail}
use Rattle.fx_parse.specs.Items.{Items, a_mid, a_tail, first, passes, one_of, label, literal, is_mid, is_tail}
use Rattle.fx_parse.specs.Grammar.{IsTok, IsExpr, IsHoles, holes_end, holes_next}
use Rattle.fx_ast.specs.Levels.{height, in_parts}
use Rattle.fx_parse.specs.Readings.{Out, mapped, both, token}
use Rattle.fx_parse.specs.ReadPrimary.{read_holes, read_more_holes}
use Rattle.fx_parse.proofs.phrases.Says.{Says, Fine, any_stop, says_token}
use Rattle.fx_parse.proofs.phrases.Both.{Pair, OkPair}
use Rattle.fx_parse.proofs.phrases.Far.{says_mapped}
use Rattle.fx_parse.proofs.phrases.Shortest.{zero_expr, zero_low}
use Rattle.fx_parse.proofs.phrases.Stops.{Low, LowParts, front_passes}
use Rattle.fx_parse.proofs.phrases.Then.{Low_of, Reads, enders, says_then, says_ended, says_nothing}
use Rattle.fx_parse.proofs.sorts.Toks.{item, may_apart, may_within, a_zero}

-- after the expression of a hole: the text's last piece, or a piece and another hole
data IsAfterHole : Parts → Items → Type 0 where
  last_piece : {w : Items} (y : Item) → IsTok is_tail y w → IsAfterHole (piece (label y) no_parts) w
  more_holes : {ps : Parts} {w : Items} (y : Item) (j v : Items) → IsTok is_mid y j → IsHoles ps v → w ≡ j ++ v → IsAfterHole (piece (label y) ps) w

-- ---- the shortest

abbrev a_tail_item : Item
a_tail_item = item (Tail [])

tail_tok : IsTok is_tail a_tail_item (a_tail_item ∷ [])
unfolding one_of
tail_tok = (refl, refl)

mid_passes : is_mid (item (Mid [])) ≡ true
unfolding one_of
mid_passes = refl

low_end : (k : ℕ) → Low_of IsAfterHole (LowParts k)
unfolding height
low_end k = (a_tail_item ∷ [], piece (label a_tail_item) no_parts, last_piece a_tail_item tail_tok, (let h : 0 ≤ k = omega arith in h))

pub low_holes : (k : ℕ) → 1 ≤ k → Low_of IsHoles (LowParts k)
unfolding height
low_holes k some = (
  a_zero ∷ a_tail_item ∷ [],
  hole (literal a_zero) (piece (label a_tail_item) no_parts),
  holes_end a_tail_item (a_zero ∷ []) (a_tail_item ∷ []) zero_expr tail_tok refl,
  (let h = zero_low k some in omega arith),
)

-- ---- what a part of a text begins with

after_hole_begins : (ps : Parts) (v z : Items) → IsAfterHole ps v → passes (one_of enders) (first (v ++ z)) ≡ true
after_hole_begins _ v z (last_piece y t) = may_within (a_tail ∷ []) enders (first (v ++ z)) refl (front_passes is_tail y v [] v z t (sym (append-nil v)))
after_hole_begins _ v z (more_holes y j u t h e) = may_within (a_mid ∷ []) enders (first (v ++ z)) refl (front_passes is_mid y j u v z t e)

no_holes : (ps : Parts) → IsHoles ps [] → ⊥
no_holes _ (holes_end y u j h t e) = let long = ap length e in let one = ap length t.1 in omega (arith, length-append u j)
no_holes _ (holes_next y u j v h t more e) = let long = ap length e in let one = ap length t.1 in omega (arith, length-append u (j ++ v), length-append j v)

-- ---- a hole with what follows it

hole_back : (ps : Parts) (u : Items) → IsHoles ps u → (p : Tree × Parts) × (ps ≡ hole p.0 p.1) × Pair IsExpr (λ e. IsAfterHole) p u
hole_back _ u (holes_end {e = e} y v j h t eq) = ((e, piece (label y) no_parts), refl, (v, j, h, last_piece y t, eq))
hole_back _ u (holes_next {e = e} {ps = ps} y v j z h t more eq) = ((e, piece (label y) ps), refl, (v, j ++ z, h, more_holes y j z t more refl, eq))

hole_into : (e : Tree) (ps : Parts) (w u v : Items) → IsExpr e u → IsAfterHole ps v → w ≡ u ++ v → IsHoles (hole e ps) w
hole_into e _ w u v h (last_piece y t) eq = holes_end y u v h t eq
hole_into e _ w u v h (more_holes y j z t more split) eq = holes_next y u j z h t more (eq ∙ ap (λ x. u ++ x) split)

module _ (k : ℕ) (some : 1 ≤ k) where
  mid_says : (again : Items → Out Parts) (w : Items) → ((r : Items) → length r < length w → Says IsHoles (LowParts k) any_stop r (again r)) → passes is_mid (first w) ≡ true
      → Says IsAfterHole (LowParts k) any_stop w (mapped (λ p. piece (label p.0) p.1) (both (token is_mid) (λ y. again) w))
  unfolding height
  mid_says again w next e = says_mapped (Pair (IsTok is_mid) (λ x. IsHoles)) IsAfterHole (OkPair Fine (λ x. LowParts k)) (LowParts k) any_stop (λ p. piece (label p.0) p.1) w
      (record { into = λ p u n. more_holes p.0 n.0 n.1 n.2 n.3 n.4; back = back; fit = λ p u n o. o.1; unfit = λ p u n o. (tt, o) })
      (both (token is_mid) (λ y. again) w)
      (says_then is_mid (item (Mid [])) mid_passes (λ x. IsHoles) (λ x. LowParts k) any_stop (λ x. low_holes k some) (λ y. again) w (λ x r t less. next r less))
    where
      back : (ps : Parts) (u v : Items) → first (u ++ v) ≡ first w → any_stop (first v) ≡ true → IsAfterHole ps u
          → (p : Item × Parts) × (ps ≡ piece (label p.0) p.1) × Pair (IsTok is_mid) (λ x. IsHoles) p u
      back _ u v ef st (last_piece y t) = absurd (may_apart (a_tail ∷ []) (a_mid ∷ []) (first w) refl
          (ap (passes is_tail) (sym ef) ∙ front_passes is_tail y u [] u v t (sym (append-nil u))) e)
      back _ u v ef st (more_holes {ps = ps} y j z t h eq) = ((y, ps), refl, (j, z, t, h, eq))

  tail_says : (w : Items) → passes is_mid (first w) ≡ false → Says IsAfterHole (LowParts k) any_stop w (mapped (λ y. piece (label y) no_parts) (token is_tail w))
  unfolding height
  tail_says w e = says_mapped (IsTok is_tail) IsAfterHole Fine (LowParts k) any_stop (λ y. piece (label y) no_parts) w
      (record { into = λ y u n. last_piece y n; back = back; fit = λ y u n o. omega arith; unfit = λ y u n o. tt })
      (token is_tail w) (says_token is_tail a_tail_item tail_tok.0 w)
    where
      back : (ps : Parts) (u v : Items) → first (u ++ v) ≡ first w → any_stop (first v) ≡ true → IsAfterHole ps u
          → (y : Item) × (ps ≡ piece (label y) no_parts) × IsTok is_tail y u
      back _ u v ef st (last_piece y t) = (y, refl, t)
      back _ u v ef st (more_holes y j z t h eq) = absurd (both_ways (passes is_mid (first w)) e (ap (passes is_mid) (sym ef) ∙ front_passes is_mid y j z u v t eq))

  says_more_holes : (again : Items → Out Parts) (w : Items) → ((r : Items) → length r < length w → Says IsHoles (LowParts k) any_stop r (again r))
      → Says IsAfterHole (LowParts k) any_stop w (read_more_holes again w)
  unfolding read_more_holes
  says_more_holes again w next = cond_both (passes is_mid (first w)) _ _ (Says IsAfterHole (LowParts k) any_stop w) (mid_says again w next) (tail_says w)

module _ (k : ℕ) (inner : Items → Out Tree) (reads : Reads k inner) (some : 1 ≤ k) where
  pub says_holes : (n : ℕ) (w : Items) → length w ≤ n → Says IsHoles (LowParts k) any_stop w (read_holes inner n w)
  unfolding read_holes height
  says_holes zero [] short = says_nothing IsHoles (LowParts k) any_stop (low_holes k some) no_holes
  says_holes zero (x ∷ w) short = absurd (let h : suc (length w) ≤ 0 = short in omega arith)
  says_holes (suc n) w short = says_mapped (Pair IsExpr (λ e. IsAfterHole)) IsHoles (OkPair (Low k) (λ e. LowParts k)) (LowParts k) any_stop (λ p. hole p.0 p.1) w
      (record {
        into = λ p u h. hole_into p.0 p.1 u h.0 h.1 h.2 h.3 h.4;
        back = λ t u v ef st h. hole_back t u h;
        fit = λ p u h o. (let a : height p.0 ≤ k = o.0 in let b : in_parts p.1 ≤ k = o.1 in omega arith);
        unfit = λ p u h o. (let a : max (height p.0) (in_parts p.1) ≤ k = o in (omega arith, omega arith));
      })
      (both inner (λ e. read_more_holes (read_holes inner n)) w)
      (says_ended k inner reads some any_stop IsAfterHole (LowParts k) after_hole_begins (low_end k) (λ e. read_more_holes (read_holes inner n)) w
      (λ e r less. says_more_holes k some (read_holes inner n) r (λ z shorter. says_holes n z (omega arith))))

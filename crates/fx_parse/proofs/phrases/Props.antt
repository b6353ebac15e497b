-- Readings of arguments and properties.
use Rattle.std.proofs.Common.{◌≡◌, ℕ, zero, suc, ◌≤◌, ◌<◌, max, true, false, List, [], ◌∷◌, ◌++◌, length, Option, sym, refl, ap, ◌∙◌, append-nil, arith, leb}
use Rattle.std.proofs.lemmas.Bool.{cond_both, both_ways, leb-true, leb-false, not_from_false, not-true}
use Rattle.fx_ast.specs.Tree.{Tree, tree, Props, no_props, more_props}
use Rattle.fx_scan.specs.declared.symbols.Symbol.TheVariants as symbol
use Rattle.fx_parse.specs.declared.item.Item.{Item}
use Rattle.fx_parse.specs.Items.{Items, Sort, a_name, a_plain, a_symbol, one_of, first, passes, label, literal, is_name, is_symbol}
use Rattle.fx_parse.specs.Grammar.{IsTok, IsExpr, IsProps, props_end, props_some, IsSomeProps, props_next, IsMoreProps, prop_last, prop_comma, IsValue, short_value, given_value, Group, arguments, properties, closer, labels, named}
use Rattle.fx_ast.specs.Levels.{height, below, in_props}
use Rattle.fx_parse.specs.Readings.{Out, Got, Bad, mapped, both, token}
use Rattle.fx_parse.specs.ReadProps.{read_value, read_more_props, read_some_props, read_props}
use Rattle.fx_parse.proofs.phrases.Says.{Says, Fine, any_stop, says_token}
use Rattle.fx_parse.proofs.phrases.Both.{Pair, OkPair, says_both, says_same}
use Rattle.fx_parse.proofs.phrases.Far.{says_mapped}
use Rattle.fx_parse.proofs.phrases.Stops.{Low, LowProps, forbidden, without, stops, may_follow, front_passes, tok_shorter, not_longer, says_within}
use Rattle.fx_parse.proofs.sorts.Toks.{may_apart, may_within, not_within, sign, a_zero, some_name}
use Rattle.fx_parse.proofs.phrases.Shortest.{zero_expr, zero_low}

-- ---- what the sorts of labels and closers are

abbrev pub close_sign : Group → Item
close_sign arguments = sign symbol.CloseParen
close_sign properties = sign symbol.CloseBrace

close_sign_closes : (g : Group) → closer g (close_sign g) ≡ true
unfolding one_of
close_sign_closes arguments = refl
close_sign_closes properties = refl

name_labels : (g : Group) → labels g some_name ≡ true
unfolding one_of
name_labels arguments = refl
name_labels properties = refl

label_not_closer : (g : Group) (o : Option Item) → passes (labels g) o ≡ true → passes (closer g) o ≡ true → ⊥
label_not_closer arguments o e f = may_apart (a_name ∷ []) (a_symbol symbol.CloseParen ∷ []) o refl e f
label_not_closer properties o e f = may_apart (a_name ∷ a_plain ∷ []) (a_symbol symbol.CloseBrace ∷ []) o refl e f

comma_not_closer : (g : Group) (o : Option Item) → passes (is_symbol symbol.Comma) o ≡ true → passes (closer g) o ≡ true → ⊥
comma_not_closer arguments o e f = may_apart (a_symbol symbol.Comma ∷ []) (a_symbol symbol.CloseParen ∷ []) o refl e f
comma_not_closer properties o e f = may_apart (a_symbol symbol.Comma ∷ []) (a_symbol symbol.CloseBrace ∷ []) o refl e f

-- what can't follow a value
abbrev pub after_value : List Sort
after_value = a_symbol symbol.Colon ∷ forbidden 8

closer_follows : (g : Group) (o : Option Item) → passes (closer g) o ≡ true → without after_value o ≡ true
closer_follows arguments o e = may_follow (a_symbol symbol.CloseParen ∷ []) after_value o refl e
closer_follows properties o e = may_follow (a_symbol symbol.CloseBrace ∷ []) after_value o refl e

more_follows : (g : Group) (ps : Props) (v z : Items) → IsMoreProps g ps v → without after_value (first (v ++ z)) ≡ true
more_follows g no_props v z (prop_last x t) = closer_follows g (first (v ++ z)) (front_passes (closer g) x v [] v z t (sym (append-nil v)))
more_follows g ps v z (prop_comma x i u t q e) =
    may_follow (a_symbol symbol.Comma ∷ []) after_value (first (v ++ z)) refl (front_passes (is_symbol symbol.Comma) x i u v z t e)

some_first : (g : Group) (ps : Props) (u v : Items) → IsSomeProps g ps u → passes (labels g) (first (u ++ v)) ≡ true
some_first g ps u v (props_next x i a b t value more e) = front_passes (labels g) x i (a ++ b) u v t e

value_ends : (o : Option Item) → without after_value o ≡ true → stops 8 o ≡ true
value_ends o e = not_from_false (passes (one_of (forbidden 8)) o) (not_within (forbidden 8) after_value o refl (not-true (passes (one_of after_value) o) e))

given_zero : (x : Item) → IsValue x (literal a_zero) (sign symbol.Colon ∷ a_zero ∷ [])
unfolding one_of
given_zero x = given_value (sign symbol.Colon) (sign symbol.Colon ∷ []) (a_zero ∷ []) (refl, refl) zero_expr refl

module _ (k : ℕ) (inner : Items → Out Tree) (inner_says : 1 ≤ k → (w : Items) → Says IsExpr (Low k) (stops 8) w (inner w)) where
  -- ---- a value

  given_says : 1 ≤ k → (x : Item) (w : Items) → passes (is_symbol symbol.Colon) (first w) ≡ true
      → Says (IsValue x) (Low k) (without after_value) w (mapped (λ p. p.1) (both (token (is_symbol symbol.Colon)) (λ y. inner) w))
  unfolding one_of
  given_says le x w e = says_mapped (Pair (IsTok (is_symbol symbol.Colon)) (λ y. IsExpr)) (IsValue x) (OkPair Fine (λ y. Low k)) (Low k) (without after_value) (λ p. p.1) w
      (record { into = λ p u q. given_value p.0 q.0 q.1 q.2 q.3 q.4; back = back; fit = λ p u q o. o.1; unfit = λ p u q o. (tt, o) })
      (both (token (is_symbol symbol.Colon)) (λ y. inner) w)
      (says_both (IsTok (is_symbol symbol.Colon)) (λ y. IsExpr) Fine (λ y. Low k) any_stop (without after_value)
      (record { follow = λ y t v z n st. refl; some = λ y u n o. (a_zero ∷ [], literal a_zero, zero_expr, zero_low k le); any = λ y. (a_zero ∷ [], literal a_zero, zero_expr) })
      w (token (is_symbol symbol.Colon) w) (λ y. inner) (says_token (is_symbol symbol.Colon) (sign symbol.Colon) refl w)
      (λ y r i. says_same IsExpr IsExpr (Low k) (Low k) (stops 8) (without after_value)
      (record { into = λ t u n. n; back = λ t u n. n; fit = λ t o. o; unfit = λ t o. o; ends = value_ends }) r (inner r) (inner_says le r)))
    where
      back : (t : Tree) (u v : Items) → first (u ++ v) ≡ first w → without after_value (first v) ≡ true → IsValue x t u
          → (p : Item × Tree) × (t ≡ p.1) × Pair (IsTok (is_symbol symbol.Colon)) (λ y. IsExpr) p u
      back t u v ef st (short_value n) = absurd (both_ways (passes (one_of after_value) (first v))
          (not-true (passes (one_of after_value) (first v)) st)
          (may_within (a_symbol symbol.Colon ∷ []) after_value (first v) refl (ap (passes (is_symbol symbol.Colon)) ef ∙ e)))
      back t u v ef st (given_value y i a t1 n q) = ((y, t), refl, (i, a, t1, n, q))

  short_says : 1 ≤ k → (x : Item) (w : Items) → passes (is_symbol symbol.Colon) (first w) ≡ false → is_name x ≡ true
      → Says (IsValue x) (Low k) (without after_value) w (Got (named x) w)
  unfolding height
  short_says le x w e n = record {
    u = [];
    split = refl;
    phrase = short_value n;
    fits = omega arith;
    only = λ c v u' t' ef st ph eq. only t' u' v c ef eq ph;
  }
    where
      only : (t : Tree) (u v c : Items) → first c ≡ first w → u ++ v ≡ c → IsValue x t u → (t ≡ named x) × (u ≡ [])
      only t u v c ef eq (short_value n1) = (refl, refl)
      only t u v c ef eq (given_value y i a t1 n1 q) = absurd (both_ways (passes (is_symbol symbol.Colon) (first w)) e
          (ap (passes (is_symbol symbol.Colon)) (sym ef ∙ ap first (sym eq)) ∙ front_passes (is_symbol symbol.Colon) y i a u v t1 q))

  no_value : 1 ≤ k → (x : Item) (w : Items) → passes (is_symbol symbol.Colon) (first w) ≡ false → is_name x ≡ false
      → Says (IsValue x) (Low k) (without after_value) w (Bad false w)
  unfolding one_of
  no_value le x w e n = record {
    u = [];
    split = refl;
    begun = (sign symbol.Colon ∷ a_zero ∷ [], literal a_zero, given_value (sign symbol.Colon) (sign symbol.Colon ∷ []) (a_zero ∷ []) (refl, refl) zero_expr refl, zero_low k le);
    goes_on = λ d. absurd (let h : false ≡ true = d in cc);
    no_other = λ c v u' t' ef st ph eq low. other t' u' v c ef eq ph;
  }
    where
      other : (t : Tree) (u v c : Items) → first c ≡ first w → u ++ v ≡ c → IsValue x t u → ⊥
      other t u v c ef eq (short_value n1) = both_ways (is_name x) n n1
      other t u v c ef eq (given_value y i a t1 n1 q) = both_ways (passes (is_symbol symbol.Colon) (first w)) e
          (ap (passes (is_symbol symbol.Colon)) (sym ef ∙ ap first (sym eq)) ∙ front_passes (is_symbol symbol.Colon) y i a u v t1 q)

  pub says_value : 1 ≤ k → (x : Item) (w : Items) → Says (IsValue x) (Low k) (without after_value) w (read_value inner x w)
  unfolding read_value
  says_value le x w = cond_both (passes (is_symbol symbol.Colon) (first w)) _ _ (Says (IsValue x) (Low k) (without after_value) w)
      (given_says le x w)
      (λ e. cond_both (is_name x) _ _ (Says (IsValue x) (Low k) (without after_value) w) (short_says le x w e) (no_value le x w e))

  -- ---- a comma, or what closes

  last_says : (g : Group) (w : Items) → passes (closer g) (first w) ≡ true
      → Says (IsMoreProps g) (LowProps k) any_stop w (mapped (λ y. no_props) (token (closer g) w))
  unfolding height
  last_says g w e = says_mapped (IsTok (closer g)) (IsMoreProps g) Fine (LowProps k) any_stop (λ y. no_props) w
      (record { into = λ y u t. prop_last y t; back = back; fit = λ y u t o. omega arith; unfit = λ y u t o. tt })
      (token (closer g) w) (says_token (closer g) (close_sign g) (close_sign_closes g) w)
    where
      back : (ps : Props) (u v : Items) → first (u ++ v) ≡ first w → any_stop (first v) ≡ true → IsMoreProps g ps u → (y : Item) × (ps ≡ no_props) × IsTok (closer g) y u
      back ps u v ef st (prop_last y t) = (y, refl, t)
      back ps u v ef st (prop_comma y i a t n q) = absurd (comma_not_closer g (first w)
          (ap (passes (is_symbol symbol.Comma)) (sym ef) ∙ front_passes (is_symbol symbol.Comma) y i a u v t q) e)

  comma_says : (g : Group) (again : Items → Out Props) (w : Items) → ((r : Items) → length r ≤ length w → Says (IsProps g) (LowProps k) any_stop r (again r))
      → passes (closer g) (first w) ≡ false
      → Says (IsMoreProps g) (LowProps k) any_stop w (mapped (λ p. p.1) (both (token (is_symbol symbol.Comma)) (λ y. again) w))
  unfolding one_of height
  comma_says g again w again_says e = says_mapped (Pair (IsTok (is_symbol symbol.Comma)) (λ y. IsProps g)) (IsMoreProps g) (OkPair Fine (λ y. LowProps k)) (LowProps k) any_stop (λ p. p.1) w
      (record { into = λ p u q. prop_comma p.0 q.0 q.1 q.2 q.3 q.4; back = back; fit = λ p u q o. o.1; unfit = λ p u q o. (tt, o) })
      (both (token (is_symbol symbol.Comma)) (λ y. again) w)
      (says_both (IsTok (is_symbol symbol.Comma)) (λ y. IsProps g) Fine (λ y. LowProps k) any_stop any_stop
      (record {
        follow = λ y t v z n st. refl;
        some = λ y u n o. (close_sign g ∷ [], no_props, props_end (close_sign g) (close_sign_closes g, refl), (let h : 0 ≤ k = omega arith in h));
        any = λ y. (close_sign g ∷ [], no_props, props_end (close_sign g) (close_sign_closes g, refl));
      })
      w (token (is_symbol symbol.Comma) w) (λ y. again) (says_token (is_symbol symbol.Comma) (sign symbol.Comma) refl w)
      (λ y r i. again_says r (not_longer i.u r w i.split)))
    where
      back : (ps : Props) (u v : Items) → first (u ++ v) ≡ first w → any_stop (first v) ≡ true → IsMoreProps g ps u
          → (p : Item × Props) × (ps ≡ p.1) × Pair (IsTok (is_symbol symbol.Comma)) (λ y. IsProps g) p u
      back ps u v ef st (prop_last y t) = absurd (both_ways (passes (closer g) (first w)) e
          (ap (passes (closer g)) (sym ef) ∙ front_passes (closer g) y u [] u v t (sym (append-nil u))))
      back ps u v ef st (prop_comma y i a t n q) = ((y, ps), refl, (i, a, t, n, q))

  says_more_props : (g : Group) (again : Items → Out Props) (w : Items) → ((r : Items) → length r ≤ length w → Says (IsProps g) (LowProps k) any_stop r (again r))
      → Says (IsMoreProps g) (LowProps k) any_stop w (read_more_props g again w)
  unfolding read_more_props
  says_more_props g again w again_says = cond_both (passes (closer g) (first w)) _ _ (Says (IsMoreProps g) (LowProps k) any_stop w)
      (last_says g w) (comma_says g again w again_says)

  -- ---- some properties

  one_prop : (g : Group) (x : Item) → labels g x ≡ true → IsSomeProps g (more_props (label x) (literal a_zero) no_props) (x ∷ sign symbol.Colon ∷ a_zero ∷ close_sign g ∷ [])
  unfolding one_of
  one_prop g x e = props_next x (x ∷ []) (sign symbol.Colon ∷ a_zero ∷ []) (close_sign g ∷ []) (e, refl)
      (given_value (sign symbol.Colon) (sign symbol.Colon ∷ []) (a_zero ∷ []) (refl, refl) zero_expr refl) (prop_last (close_sign g) (close_sign_closes g, refl)) refl

  pub says_some_props : (g : Group) → 1 ≤ k → (again : Items → Out Props) (w : Items) → ((r : Items) → suc (length r) ≤ length w → Says (IsProps g) (LowProps k) any_stop r (again r))
      → Says (IsSomeProps g) (LowProps k) any_stop w (mapped (λ p. more_props (label p.0) p.1.0 p.1.1)
      (both (token (labels g)) (λ x. both (read_value inner x) (λ e. read_more_props g again)) w))
  unfolding height
  says_some_props g le again w again_says = says_mapped (Pair (IsTok (labels g)) (λ x. Pair (IsValue x) (λ e. IsMoreProps g))) (IsSomeProps g)
      (OkPair Fine (λ x. OkPair (Low k) (λ e. LowProps k))) (LowProps k) any_stop (λ p. more_props (label p.0) p.1.0 p.1.1) w
      (record {
        into = λ p u q. props_next p.0 q.0 q.3.0 q.3.1 q.2 q.3.2 q.3.3 (q.4 ∙ ap (λ z. q.0 ++ z) q.3.4);
        back = back;
        fit = λ p u q o. let h : height p.1.0 ≤ k = o.1.0 in let i : in_props p.1.1 ≤ k = o.1.1 in omega arith;
        unfit = λ p u q o. let h : max (height p.1.0) (in_props p.1.1) ≤ k = o in (tt, (omega arith, omega arith));
      })
      (both (token (labels g)) (λ x. both (read_value inner x) (λ e. read_more_props g again)) w)
      (says_both (IsTok (labels g)) (λ x. Pair (IsValue x) (λ e. IsMoreProps g)) Fine (λ x. OkPair (Low k) (λ e. LowProps k)) any_stop any_stop
      (record { follow = λ x t v z n st. refl; some = λ x u n o. rest_some x; any = λ x. rest_any x })
      w (token (labels g) w) (λ x. both (read_value inner x) (λ e. read_more_props g again)) (says_token (labels g) some_name (name_labels g) w)
      (λ x r i. says_both (IsValue x) (λ e. IsMoreProps g) (Low k) (λ e. LowProps k) (without after_value) any_stop
      (record {
        follow = λ e t v z n st. more_follows g t v z n;
        some = λ e u n o. (close_sign g ∷ [], no_props, prop_last (close_sign g) (close_sign_closes g, refl), (let h : 0 ≤ k = omega arith in h));
        any = λ e. (close_sign g ∷ [], no_props, prop_last (close_sign g) (close_sign_closes g, refl));
      })
      r (read_value inner x r) (λ e. read_more_props g again) (says_value le x r)
      (λ e q j. says_more_props g again q (λ z lz. again_says z
      (let a : length w ≡ suc (length r) = tok_shorter (labels g) x i.u r w i.phrase i.split in let b : length q ≤ length r = not_longer j.u q r j.split in omega arith)))))
    where
      rest_some : (x : Item) → (v : Items) × (p : Tree × Props) × Pair (IsValue x) (λ e. IsMoreProps g) p v × OkPair (Low k) (λ e. LowProps k) p
      rest_some x = (
        sign symbol.Colon ∷ a_zero ∷ close_sign g ∷ [],
        (literal a_zero, no_props),
        (sign symbol.Colon ∷ a_zero ∷ [], close_sign g ∷ [], given_zero x, prop_last (close_sign g) (close_sign_closes g, refl), refl),
        (zero_low k le, (let h : 0 ≤ k = omega arith in h)),
      )

      rest_any : (x : Item) → (v : Items) × (p : Tree × Props) × Pair (IsValue x) (λ e. IsMoreProps g) p v
      rest_any x = (
        sign symbol.Colon ∷ a_zero ∷ close_sign g ∷ [],
        (literal a_zero, no_props),
        (sign symbol.Colon ∷ a_zero ∷ [], close_sign g ∷ [], given_zero x, prop_last (close_sign g) (close_sign_closes g, refl), refl),
      )

      back : (ps : Props) (u v : Items) → first (u ++ v) ≡ first w → any_stop (first v) ≡ true → IsSomeProps g ps u
          → (p : Item × (Tree × Props)) × (ps ≡ more_props (label p.0) p.1.0 p.1.1) × Pair (IsTok (labels g)) (λ x. Pair (IsValue x) (λ e. IsMoreProps g)) p u
      back ps u v ef st (props_next {e = e} {ps = rest} x i a b t value more q) = ((x, (e, rest)), refl, (i, a ++ b, t, (a, b, value, more, refl), q))

  -- ---- all of them

  end_says : (g : Group) (w : Items) → passes (closer g) (first w) ≡ true → Says (IsProps g) (LowProps k) any_stop w (mapped (λ y. no_props) (token (closer g) w))
  unfolding height
  end_says g w e = says_mapped (IsTok (closer g)) (IsProps g) Fine (LowProps k) any_stop (λ y. no_props) w
      (record { into = λ y u t. props_end y t; back = back; fit = λ y u t o. omega arith; unfit = λ y u t o. tt })
      (token (closer g) w) (says_token (closer g) (close_sign g) (close_sign_closes g) w)
    where
      back : (ps : Props) (u v : Items) → first (u ++ v) ≡ first w → any_stop (first v) ≡ true → IsProps g ps u → (y : Item) × (ps ≡ no_props) × IsTok (closer g) y u
      back ps u v ef st (props_end y t) = (y, refl, t)
      back ps u v ef st (props_some n) = absurd (label_not_closer g (first w) (ap (passes (labels g)) (sym ef) ∙ some_first g ps u v n) e)

  not_end : (g : Group) (w : Items) → passes (closer g) (first w) ≡ false → (ps : Props) (u v : Items) → first (u ++ v) ≡ first w → IsProps g ps u → IsSomeProps g ps u
  not_end g w e ps u v ef (props_end y t) = absurd (both_ways (passes (closer g) (first w)) e
      (ap (passes (closer g)) (sym ef) ∙ front_passes (closer g) y u [] u v t (sym (append-nil u))))
  not_end g w e ps u v ef (props_some n) = n

  -- with no level left
  none_says : (g : Group) → k ≡ 0 → (w : Items) → passes (closer g) (first w) ≡ false → Says (IsProps g) (LowProps k) any_stop w (Bad (passes (labels g) (first w)) w)
  unfolding height
  none_says g none w e = record {
    u = [];
    split = refl;
    begun = (close_sign g ∷ [], no_props, props_end (close_sign g) (close_sign_closes g, refl), (let h : 0 ≤ k = omega arith in h));
    goes_on = goes w;
    no_other = λ c v u' ps ef st ph eq low.
        let n : IsSomeProps g ps u' = not_end g w e ps u' v (ap first eq ∙ ef) ph in
        tall ps u' n (low (ap (passes (labels g)) (sym ef ∙ ap first (sym eq)) ∙ some_first g ps u' v n));
  }
    where
      goes : (w : Items) → passes (labels g) (first w) ≡ true → (x : Item) × (z : Items) × (c : Items) × (ps : Props) × (w ≡ x ∷ z) × IsProps g ps (x ∷ c)
      goes [] h = absurd (let f : false ≡ true = h in cc)
      goes (x ∷ z) h = (x, z, sign symbol.Colon ∷ a_zero ∷ close_sign g ∷ [], more_props (label x) (literal a_zero) no_props, refl, props_some (one_prop g x h))

      tall : (ps : Props) (u : Items) → IsSomeProps g ps u → in_props ps ≤ k → ⊥
      tall ps u (props_next {e = tree p s} {ps = rest} x i a b t value more q) o = let h : max (suc (below s)) (in_props rest) ≤ k = o in omega arith

  pub says_props : (g : Group) (n : ℕ) (w : Items) → length w ≤ n → Says (IsProps g) (LowProps k) any_stop w (read_props g k inner n w)
  unfolding read_props read_some_props one_of height
  says_props g zero [] le = record {
    u = [];
    split = refl;
    begun = (close_sign g ∷ [], no_props, props_end (close_sign g) (close_sign_closes g, refl), (let h : 0 ≤ k = omega arith in h));
    goes_on = λ d. absurd (let h : false ≡ true = d in cc);
    no_other = λ c v u' ps ef st ph eq low. let h : false ≡ true = ap (passes (labels g)) (sym ef ∙ ap first (sym eq)) ∙ some_first g ps u' v (not_end g [] refl ps u' v (ap first eq ∙ ef) ph) in cc;
  }
  says_props g zero (x ∷ w) le = absurd (let h : length (x ∷ w) ≤ 0 = le in let i : length (x ∷ w) ≡ suc (length w) = refl in omega arith)
  says_props g (suc n) w le = cond_both (passes (closer g) (first w)) _ _ (Says (IsProps g) (LowProps k) any_stop w) (end_says g w)
      (λ e. cond_both (leb 1 k) _ _ (Says (IsProps g) (LowProps k) any_stop w)
      (λ f. says_within (IsSomeProps g) (IsProps g) (LowProps k) any_stop w (λ t u q. props_some q) (λ t u v ef st q. not_end g w e t u v ef q) _
      (says_some_props g (leb-true 1 k f) (read_props g k inner n) w (λ r lr. says_props g n r (omega arith))))
      (λ f. none_says g (let h : k < 1 = leb-false 1 k f in omega arith) w e))

-- Readings of operators between operands.
use Rattle.std.proofs.Common.{◌≡◌, ℕ, zero, suc, ◌≤◌, ◌<◌, max, Bool, true, false, ◌==◌, cond, List, [], ◌∷◌, ◌++◌, length, Option, None, Some, sym, refl, ap, ◌∙◌, subst, ◌⊎◌, inl, inr, ⊎_elim, append_assoc, arith, leb}
use Rattle.std.proofs.lemmas.Bool.{both_ways, leb-true, leb-false, not_from_false, not-true, and_parts, and_cases}
use Rattle.fx_base.specs.declared.place.Place.{Place}
use Rattle.fx_ast.specs.Tree.{Tree, tree, call}
use Rattle.fx_parse.specs.declared.item.Item.{Item}
use Rattle.fx_parse.specs.Items.{Items, Sort, one_of, first, start, passes, literal, prefixes, operators}
use Rattle.fx_parse.specs.Grammar.{IsTok, Link, links_of, calls_of, run_shape, run, is_call, IsLevel, at_prefix, at_run, IsLinks, links_end, links_next, IsOperand, a_call, an_operand, IsPostfix, a_postfix, IsSuffixes, suffixes_end, suffixes_next}
use Rattle.fx_ast.specs.Levels.{height, below, in_links, in_trees, in_props}
use Rattle.fx_parse.specs.Readings.{Out, both, token, links}
use Rattle.fx_parse.specs.ReadPrimary.{starters}
use Rattle.fx_parse.specs.ReadRuns.{need, has_room, read_link, operator_run, read_run}
use Rattle.fx_parse.proofs.phrases.Says.{Says, Fine, any_stop, says_token}
use Rattle.fx_parse.proofs.phrases.Both.{Pair, OkPair, says_both}
use Rattle.fx_parse.proofs.phrases.Far.{says_mapped, says_placed}
use Rattle.fx_parse.proofs.phrases.Linking.{IsLinking, says_links}
use Rattle.fx_parse.proofs.phrases.Stops.{Low, forbidden, without, stops, may_follow, front_passes}
use Rattle.fx_parse.proofs.sorts.Toks.{disjoint, in_left, in_right, a_zero}
use Rattle.fx_parse.proofs.phrases.Shortest.{zero_level, zero_low}
use Rattle.fx_parse.proofs.phrases.Beginnings.{front_part, level_first, start_is}
use Rattle.fx_parse.proofs.phrases.Suffixes.{tall}
use Rattle.fx_parse.proofs.phrases.Postfixes.{zero_call, zero_call_items, zero_called, zero_call_height}

-- ---- heights

abbrev pub in_run : List Link → ℕ
in_run [] = 0
in_run (x ∷ xs) = max (height x.right) (in_run xs)

in_calls : (xs : List Link) → in_trees (calls_of xs) ≡ in_run xs
unfolding height
in_calls [] = refl
in_calls (x ∷ xs) = ap (max (height x.right)) (in_calls xs)

in_chain : (xs : List Link) → in_links (links_of xs) ≡ in_run xs
unfolding height
in_chain [] = refl
in_chain (x ∷ xs) = ap (max (height x.right)) (in_chain xs)

shape_height : (m : ℕ) (t : Tree) (xs : List Link) → below (run_shape (suc m) t xs) ≡ max (height t) (in_run xs)
unfolding height
shape_height zero t xs = ap (max (height t)) (in_chain xs)
shape_height (suc zero) t xs = ap (max (height t)) (in_calls xs)
shape_height (suc (suc m)) t xs = ap (max (height t)) (in_chain xs)

pub run_height : (m : ℕ) (p : Place) (t : Tree) (x : Link) (xs : List Link) → height (run (suc m) p t (x ∷ xs)) ≡ suc (max (height t) (in_run (x ∷ xs)))
unfolding height
run_height m p t x xs = ap suc (shape_height m t (x ∷ xs))

-- a call takes two levels
call_tall : (t : Tree) → is_call t ≡ true → 2 ≤ height t
unfolding height
call_tall (tree p (call t ps)) e = let h : 1 ≤ height t = tall t in let g : 2 ≤ suc (max (height t) (in_props ps)) = omega arith in g
call_tall (tree p s) e = absurd (let h : false ≡ true = e in cc)

suffixes_call : (p : Place) (s t : Tree) (u : Items) → IsSuffixes true p s t u → is_call t ≡ true
suffixes_call p s t u (suffixes_end e) = e
suffixes_call p s t u (suffixes_next x a b n r e) = suffixes_call p _ t b r

pub called_tall : (t : Tree) (u : Items) → IsPostfix true t u → 2 ≤ height t
called_tall t u (a_postfix {s = s} a b n r e) = call_tall t (suffixes_call (start u) s t b r)

operand_tall : (m : ℕ) (t : Tree) (u : Items) → IsOperand m t u → need m ≤ height t
operand_tall m t u (a_call e n) = let h : need m ≡ 2 = ap (λ b. cond b 2 1) e in let g : 2 ≤ height t = called_tall t u n in omega arith
operand_tall m t u (an_operand e n) = let h : need m ≡ 1 = ap (λ b. cond b 2 1) e in let g : 1 ≤ height t = tall t in omega arith

-- ---- operators

operators_apart : (m : ℕ) → disjoint (operators (suc m)) (forbidden m) ≡ true
operators_apart zero = refl
operators_apart (suc zero) = refl
operators_apart (suc (suc zero)) = refl
operators_apart (suc (suc (suc zero))) = refl
operators_apart (suc (suc (suc (suc zero)))) = refl
operators_apart (suc (suc (suc (suc (suc zero))))) = refl
operators_apart (suc (suc (suc (suc (suc (suc zero)))))) = refl
operators_apart (suc (suc (suc (suc (suc (suc (suc zero))))))) = refl
operators_apart (suc (suc (suc (suc (suc (suc (suc (suc m)))))))) = refl

without_left : (xs ys : List Sort) (o : Option Item) → without (xs ++ ys) o ≡ true → passes (one_of xs) o ≡ false
without_left xs ys None e = refl
without_left xs ys (Some x) e = none (one_of xs x) refl
  where
    none : (b : Bool) → one_of xs x ≡ b → b ≡ false
    none true h = absurd (both_ways (one_of (xs ++ ys) x) (not-true (one_of (xs ++ ys) x) e) (in_left xs ys x h))
    none false h = refl

without_right : (xs ys : List Sort) (o : Option Item) → without (xs ++ ys) o ≡ true → without ys o ≡ true
without_right xs ys None e = refl
without_right xs ys (Some x) e = not_from_false (one_of ys x) (none (one_of ys x) refl)
  where
    none : (b : Bool) → one_of ys x ≡ b → b ≡ false
    none true h = absurd (both_ways (one_of (xs ++ ys) x) (not-true (one_of (xs ++ ys) x) e) (in_right xs ys x h))
    none false h = refl

pub stops_below : (m : ℕ) (o : Option Item) → stops (suc m) o ≡ true → stops m o ≡ true
stops_below m o e = without_right (operators (suc m)) (forbidden m) o e

pub stops_zero : (m : ℕ) (o : Option Item) → stops m o ≡ true → stops 0 o ≡ true
stops_zero zero o e = e
stops_zero (suc m) o e = stops_zero m o (stops_below m o e)

-- ---- links

abbrev IsLink : ℕ → Link → Items → Type 0
IsLink m b u = (i : Items) × (v : Items) × IsTok (one_of (operators (suc m))) b.mark i × IsOperand m b.right v × (u ≡ i ++ v)

abbrev LowLink : ℕ → Link → Type 0
LowLink k b = height b.right ≤ k

-- the first operand until an operator came, or that one came
abbrev Open : ℕ → ℕ → Option Tree → Type 0
Open k m None = need m ≤ k
Open k m (Some t) = height t ≤ suc k

abbrev LowRun : ℕ → Option Tree → List Link → Type 0
LowRun k None xs = in_run xs ≤ k
LowRun k (Some t) [] = height t ≤ suc k
LowRun k (Some t) (x ∷ xs) = (height t ≤ k) × (in_run (x ∷ xs) ≤ k)

-- the shortest operand
short_operand : (m k : ℕ) → need m ≤ k → (b : Bool) → (m == 1) ≡ b → (u : Items) × (t : Tree) × IsOperand m t u × (height t ≤ k)
short_operand m k le true e = (
  zero_call_items,
  zero_call,
  a_call e (zero_called true),
  (let h : need m ≡ 2 = ap (λ b. cond b 2 1) e in let g : height zero_call ≡ 2 = zero_call_height in omega arith),
)
short_operand m k le false e = (a_zero ∷ [], literal a_zero, an_operand e (zero_level m), zero_low k (let h : need m ≡ 1 = ap (λ b. cond b 2 1) e in omega arith))

module _ (k m : ℕ) (operand : Items → Out Tree) (operand_says : need m ≤ k → (w : Items) → Says (IsOperand m) (Low k) (stops m) w (operand w)) where
  room_now : (s : Option Tree) (w : Items) → passes (λ x. has_room k m s) (first w) ≡ true → has_room k m s ≡ true
  room_now s [] e = absurd (let h : false ≡ true = e in cc)
  room_now s (x ∷ w) e = e

  room_need : (s : Option Tree) → Open k m s → has_room k m s ≡ true → need m ≤ k
  room_need None o e = o
  room_need (Some t) o e = leb-true (need m) k (and_parts (leb (height t) k) (leb (need m) k) e).1

  link_says : (s : Option Tree) (w : Items) → Open k m s → passes (one_of (operators (suc m))) (first w) ≡ true → passes (λ x. has_room k m s) (first w) ≡ true
      → Says (IsLink m) (LowLink k) (stops m) w (read_link m operand w)
  unfolding read_link
  link_says s [] o e room = absurd (let h : false ≡ true = e in cc)
  link_says s (x ∷ w) o e room = says_mapped (Pair (IsTok (one_of (operators (suc m)))) (λ y. IsOperand m)) (IsLink m) (OkPair Fine (λ y. Low k)) (LowLink k) (stops m) (λ p. record { mark = p.0; right = p.1 }) (x ∷ w)
      (record {
        into = λ p u q. q;
        back = λ b u v ef st q. ((b.mark, b.right), refl, q);
        fit = λ p u q o. o.1;
        unfit = λ p u q o. (tt, o);
      })
      (both (token (one_of (operators (suc m)))) (λ y. operand) (x ∷ w))
      (says_both (IsTok (one_of (operators (suc m)))) (λ y. IsOperand m) Fine (λ y. Low k) any_stop (stops m)
      (record { follow = λ y t v z n st. refl; some = λ y u n f. short; any = λ y. (short.0, short.1, short.2) })
      (x ∷ w) (token (one_of (operators (suc m))) (x ∷ w)) (λ y. operand) (says_token (one_of (operators (suc m))) x e (x ∷ w))
      (λ y r i. operand_says enough r))
    where
      enough : need m ≤ k
      enough = room_need s o (room_now s (x ∷ w) room)

      short : (u : Items) × (t : Tree) × IsOperand m t u × (height t ≤ k)
      short = short_operand m k enough (m == 1) refl

  end_fits : (s : Option Tree) → Open k m s → LowRun k s []
  end_fits None o = let h : 0 ≤ k = omega arith in h
  end_fits (Some t) o = o

  linking : IsLinking (operator_run k m operand) (IsLink m) (λ s xs u. IsLinks m xs u) (Open k m) (LowLink k) (LowRun k) (stops m) (stops (suc m))
  linking = record {
    done = λ s e. links_end;
    more = λ s b xs u v n r. links_next b.mark n.0 n.1 v n.2 n.3 r (ap (λ z. z ++ v) n.4 ∙ append_assoc n.0 n.1 v);
    inverse = inverse;
    begins = λ b u v n. front_passes (one_of (operators (suc m))) b.mark n.0 n.1 u v n.2 n.4;
    link_stops = λ x e. may_follow (operators (suc m)) (forbidden m) (Some x) (operators_apart m) e;
    end_stops = λ x e. stops_below m x e;
    end_none = λ x e. without_left (operators (suc m)) (forbidden m) x e;
    none_stops = refl;
    end_fits = λ s o e. end_fits s o;
    low_rest = λ s o. ([], [], links_end, end_fits s o);
    some_rest = λ s. ([], [], links_end);
    low_link = λ s x o e room. low_link x e (room_need s o room);
    some_link = some_link;
    step_fits = λ s b u o room n low. room_need s o (room_now s u room);
    join_fits = λ s b xs x o e room low lows. join_fits s b xs room low lows;
    fits_join = λ s b xs u v n r lows. fits_join s b xs lows;
    no_room = λ s b xs u v z o room n r lows. no_room s b xs u v room n lows;
  }
    where
      inverse : (s : Option Tree) (xs : List Link) (u : Items) → IsLinks m xs u
          → ((true ≡ true) × (xs ≡ []) × (u ≡ [])) ⊎ ((p : Link × List Link) × (xs ≡ p.0 ∷ p.1) × Pair (IsLink m) (λ b ys q. IsLinks m ys q) p u)
      inverse s xs u links_end = inl (refl, refl, refl)
      inverse s xs u (links_next {t = t} {xs = ys} x i a v h n r e) = inr ((record { mark = x; right = t }, ys), refl, (i ++ a, v, (i, a, h, n, refl), r, e ∙ sym (append_assoc i a v)))

      low_link : (x : Item) → one_of (operators (suc m)) x ≡ true → need m ≤ k → (u : Items) × (b : Link) × IsLink m b (x ∷ u) × LowLink k b
      low_link x e enough = let h : (u : Items) × (t : Tree) × IsOperand m t u × (height t ≤ k) = short_operand m k enough (m == 1) refl in
          (h.0, record { mark = x; right = h.1 }, (x ∷ [], h.0, (e, refl), h.2, refl), h.3)

      some_link : (x : Item) → one_of (operators (suc m)) x ≡ true → (u : Items) × (b : Link) × IsLink m b (x ∷ u)
      some_link x e = let h : (u : Items) × (t : Tree) × IsOperand m t u × (height t ≤ need m) = short_operand m (need m) (omega arith) (m == 1) refl in
          (h.0, record { mark = x; right = h.1 }, (x ∷ [], h.0, (e, refl), h.2, refl))

      join_fits : (s : Option Tree) (b : Link) (xs : List Link) → has_room k m s ≡ true → LowLink k b → LowRun k None xs → LowRun k s (b ∷ xs)
      join_fits None b xs room low lows = let h : max (height b.right) (in_run xs) ≤ k = omega arith in h
      join_fits (Some t) b xs room low lows = (leb-true (height t) k (and_parts (leb (height t) k) (leb (need m) k) room).0, (let h : max (height b.right) (in_run xs) ≤ k = omega arith in h))

      fits_join : (s : Option Tree) (b : Link) (xs : List Link) → LowRun k s (b ∷ xs) → LowLink k b × LowRun k None xs
      fits_join None b xs lows = let h : max (height b.right) (in_run xs) ≤ k = lows in (omega arith, omega arith)
      fits_join (Some t) b xs lows = let h : max (height b.right) (in_run xs) ≤ k = lows.1 in (omega arith, omega arith)

      full : (s : Option Tree) (b : Link) (xs : List Link) (v : Items) → has_room k m s ≡ false → IsOperand m b.right v → LowRun k s (b ∷ xs) → ⊥
      full None b xs v e n lows = let h : true ≡ false = e in cc
      full (Some t) b xs v e n lows = ⊎_elim
          (λ h. let g : k < height t = leb-false (height t) k h in let i : height t ≤ k = lows.0 in omega arith)
          (λ h. let g : k < need m = leb-false (need m) k h in let i : max (height b.right) (in_run xs) ≤ k = lows.1 in let j : need m ≤ height b.right = operand_tall m b.right v n in omega arith)
          (and_cases (leb (height t) k) (leb (need m) k) e)

      has_first : (s : Option Tree) (z : Items) → passes (one_of (operators (suc m))) (first z) ≡ true → passes (λ x. has_room k m s) (first z) ≡ false → has_room k m s ≡ false
      has_first s [] e f = absurd (let h : false ≡ true = e in cc)
      has_first s (x ∷ z) e f = f

      no_room : (s : Option Tree) (b : Link) (xs : List Link) (u v : Items) → passes (λ x. has_room k m s) (first (u ++ v)) ≡ false → IsLink m b u → LowRun k s (b ∷ xs) → ⊥
      no_room s b xs u v room n lows = full s b xs n.1 (has_first s (u ++ v) (front_passes (one_of (operators (suc m))) b.mark n.0 n.1 u v n.2 n.4) room) n.3 lows

  -- ---- an operand and links

  run_low : (p : Place) (t : Tree) (xs : List Link) → LowRun k (Some t) xs → Low (suc k) (run (suc m) p t xs)
  run_low p t [] o = o
  run_low p t (x ∷ xs) o = let h : height (run (suc m) p t (x ∷ xs)) ≡ suc (max (height t) (in_run (x ∷ xs))) = run_height m p t x xs in
      let a : height t ≤ k = o.0 in let b : in_run (x ∷ xs) ≤ k = o.1 in omega arith

  low_run : (p : Place) (t : Tree) (xs : List Link) → Low (suc k) (run (suc m) p t xs) → Low (suc k) t × LowRun k (Some t) xs
  low_run p t [] o = (o, o)
  low_run p t (x ∷ xs) o = let h : height (run (suc m) p t (x ∷ xs)) ≡ suc (max (height t) (in_run (x ∷ xs))) = run_height m p t x xs in
      let g : height (run (suc m) p t (x ∷ xs)) ≤ suc k = o in
      let a : height t ≤ k = omega arith in (omega arith, (a, omega arith))

  pub says_run : (head : Items → Out Tree) → ((w : Items) → Says (IsLevel m) (Low (suc k)) (stops m) w (head w)) → (w : Items)
      → passes (one_of (prefixes (suc m))) (first w) ≡ false → Says (IsLevel (suc m)) (Low (suc k)) (stops (suc m)) w (read_run k m head operand w)
  unfolding read_run
  says_run head head_says w no_prefix = says_placed (Pair (IsLevel m) (λ t. IsLinks m)) (IsLevel (suc m)) (OkPair (Low (suc k)) (λ t. LowRun k (Some t))) (Low (suc k)) (stops (suc m)) (λ p. run (suc m) (start w) p.0 p.1) w
      (record {
        into = λ p u v ef q. subst (λ z. IsLevel (suc m) (run (suc m) z p.0 p.1) u) (begin p.0 q.0 q.1 u v q.2 q.4 ef) (at_run q.0 q.1 q.2 q.3 q.4);
        back = back;
        fit = λ p u q o. run_low (start w) p.0 p.1 o.1;
        unfit = λ p u q o. low_run (start w) p.0 p.1 o;
        some = (a_zero ∷ [], literal a_zero, zero_level (suc m), zero_low (suc k) (omega arith));
      })
      (both head (λ t r. links (operator_run k m operand) (length r) (Some t) r) w)
      (says_both (IsLevel m) (λ t. IsLinks m) (Low (suc k)) (λ t. LowRun k (Some t)) (stops m) (stops (suc m))
      (record { follow = λ t xs v z n st. follows xs v z n st; some = λ t u n o. ([], [], links_end, o); any = λ t. ([], [], links_end) })
      w (head w) (λ t r. links (operator_run k m operand) (length r) (Some t) r) (head_says w)
      (λ t r i. says_links (operator_run k m operand) (IsLink m) (λ s xs u. IsLinks m xs u) (Open k m) (LowLink k) (LowRun k) (stops m) (stops (suc m)) linking link_says
      (length r) (Some t) r i.fits (omega arith)))
    where
      begin : (t : Tree) (a b u v : Items) → IsLevel m t a → u ≡ a ++ b → first (u ++ v) ≡ first w → start u ≡ start w
      begin t a b u v n e ef = start_is (one_of (starters m)) u v w (front_part (starters m) u [] a b e (level_first m t a (b ++ []) n)) ef

      back : (t : Tree) (u v : Items) → first (u ++ v) ≡ first w → stops (suc m) (first v) ≡ true → IsLevel (suc m) t u
          → (p : Tree × List Link) × (t ≡ run (suc m) (start w) p.0 p.1) × Pair (IsLevel m) (λ t. IsLinks m) p u
      back t u v ef st (at_run {t = s} {xs = xs} a b n r e) = ((s, xs), ap (λ z. run (suc m) z s xs) (begin s a b u v n e ef), (a, b, n, r, e))
      back t u v ef st (at_prefix x i a h n e) = absurd (both_ways (passes (one_of (prefixes (suc m))) (first w)) no_prefix
          (ap (passes (one_of (prefixes (suc m)))) (sym ef) ∙ front_passes (one_of (prefixes (suc m))) x i a u v h e))

      follows : (xs : List Link) (v z : Items) → IsLinks m xs v → stops (suc m) (first z) ≡ true → stops m (first (v ++ z)) ≡ true
      follows xs v z links_end st = stops_below m (first z) st
      follows xs v z (links_next x i a b h n r e) st = may_follow (operators (suc m)) (forbidden m) (first (v ++ z)) (operators_apart m) (front_passes (one_of (operators (suc m))) x i (a ++ b) v z h e)

-- Readings of what stands after a primary: arguments, members and indexes.
use Rattle.std.proofs.Common.{◌≡◌, ℕ, suc, ◌+◌, ◌≤◌, ◌<◌, max, Bool, true, false, not, ◌||◌, cond, List, [], ◌∷◌, ◌++◌, length, Some, sym, refl, ap, ◌∙◌, subst, ◌⊎◌, inl, inr, ⊎_elim, append-nil, arith, leb}
use Rattle.std.proofs.lemmas.Bool.{cond_both, both_ways, leb-true, leb-false, not-true, or_right}
use Rattle.fx_base.specs.declared.place.Place.{Place}
use Rattle.fx_ast.specs.Tree.{Tree, tree, int, time, span, text, pattern, name, paren, array, rec, fun, call, pipe, member, index, chain, prefix, if_then, Parts, no_parts, piece, hole, Props, no_props}
use Rattle.fx_scan.specs.declared.symbols.Symbol.TheVariants as symbol
use Rattle.fx_parse.specs.declared.item.Item.{Item}
use Rattle.fx_parse.specs.Items.{Items, Sort, a_symbol, one_of, first, passes, label, literal, is_name, is_symbol}
use Rattle.fx_parse.specs.Grammar.{IsTok, IsExpr, IsProps, props_end, Suffix, args, dot, bracket, indexed, put, is_call, may_end, IsSuffixes, suffixes_end, suffixes_next, IsSuffix, by_args, by_dot, by_bracket, arguments}
use Rattle.fx_ast.specs.Levels.{height, in_props}
use Rattle.fx_parse.specs.Readings.{Out, both, token, links}
use Rattle.fx_parse.specs.ReadProps.{read_props}
use Rattle.fx_parse.specs.ReadRuns.{read_args, read_dot, read_bracket, read_suffix, suffix_starters, suffixes}
use Rattle.fx_parse.proofs.phrases.Says.{Says, Fine, any_stop, says_token}
use Rattle.fx_parse.proofs.phrases.Both.{Pair, OkPair, says_both}
use Rattle.fx_parse.proofs.phrases.Far.{says_mapped}
use Rattle.fx_parse.proofs.phrases.Linking.{IsLinking, says_links}
use Rattle.fx_parse.proofs.phrases.Stops.{Low, LowProps, forbidden, stops, may_follow, front_is, front_passes}
use Rattle.fx_parse.proofs.sorts.Toks.{may_apart, may_within, not_within, in_join, not_of, sign, a_zero, some_name}
use Rattle.fx_parse.proofs.phrases.Shortest.{zero_expr, zero_low}
use Rattle.fx_parse.proofs.phrases.Props.{says_props}

-- ---- heights

-- a level that is kept for the call that has to come
abbrev pub reserve : Bool → ℕ
reserve true = 0
reserve false = 1

pub tall : (t : Tree) → 1 ≤ height t
unfolding height
tall (tree p s) = omega arith

-- an index is no call, and a level above its parts
record IsIndexed (t i m : Tree) : Type 0 where
  no_call : is_call m ≡ false
  above : suc (height t) ≤ height m
  low : height m ≤ suc (max (height t) (height i))
  holds : (l : ℕ) → height m ≤ suc l → height i ≤ l

index_is : (begin : Place) (t : Tree) (place : Place) (i : Tree) → IsIndexed t i (tree place (index t i))
unfolding height
index_is begin t place i = record { no_call = refl; above = omega arith; low = omega arith; holds = λ l h. let g : suc (max (height t) (height i)) ≤ suc l = h in omega arith }

in_text : (begin : Place) (t : Tree) (place p : Place) (ps : Parts) → IsIndexed t (tree p (text ps)) (indexed begin t place (tree p (text ps)))
unfolding height
in_text begin t place p (piece s no_parts) = record {
  no_call = refl;
  above = omega arith;
  low = omega arith;
  holds = λ l h. let g : suc (height t) ≤ suc l = h in let k : 1 ≤ height t = tall t in omega arith;
}
in_text begin t place p (piece s (piece s1 ps)) = index_is begin t place (tree p (text (piece s (piece s1 ps))))
in_text begin t place p (piece s (hole e ps)) = index_is begin t place (tree p (text (piece s (hole e ps))))
in_text begin t place p no_parts = index_is begin t place (tree p (text no_parts))
in_text begin t place p (hole e ps) = index_is begin t place (tree p (text (hole e ps)))

indexed_is : (begin : Place) (t : Tree) (place : Place) (i : Tree) → IsIndexed t i (indexed begin t place i)
indexed_is begin t place (tree p (text ps)) = in_text begin t place p ps
indexed_is begin t place (tree p (int x)) = index_is begin t place (tree p (int x))
indexed_is begin t place (tree p (time x)) = index_is begin t place (tree p (time x))
indexed_is begin t place (tree p (span x)) = index_is begin t place (tree p (span x))
indexed_is begin t place (tree p (pattern x)) = index_is begin t place (tree p (pattern x))
indexed_is begin t place (tree p (name x)) = index_is begin t place (tree p (name x))
indexed_is begin t place (tree p (paren x)) = index_is begin t place (tree p (paren x))
indexed_is begin t place (tree p (array x)) = index_is begin t place (tree p (array x))
indexed_is begin t place (tree p (rec x y)) = index_is begin t place (tree p (rec x y))
indexed_is begin t place (tree p (fun x y z)) = index_is begin t place (tree p (fun x y z))
indexed_is begin t place (tree p (call x y)) = index_is begin t place (tree p (call x y))
indexed_is begin t place (tree p (pipe x y)) = index_is begin t place (tree p (pipe x y))
indexed_is begin t place (tree p (member x y)) = index_is begin t place (tree p (member x y))
indexed_is begin t place (tree p (index x y)) = index_is begin t place (tree p (index x y))
indexed_is begin t place (tree p (chain x y)) = index_is begin t place (tree p (chain x y))
indexed_is begin t place (tree p (prefix x y)) = index_is begin t place (tree p (prefix x y))
indexed_is begin t place (tree p (if_then x y z)) = index_is begin t place (tree p (if_then x y z))

reserve_small : (b : Bool) → reserve b ≤ 1
reserve_small true = omega arith
reserve_small false = omega arith

put_above : (begin : Place) (s : Tree) (x : Suffix) → suc (height s) ≤ height (put begin s x)
unfolding height
put_above begin s (args ps) = omega arith
put_above begin s (dot x) = omega arith
put_above begin s (bracket place i) = (indexed_is begin s place i).above

-- a postfix is as high as what it began with, and a level higher where a call has yet to come
pub grows : (must_call : Bool) (begin : Place) (s t : Tree) (u : Items) → IsSuffixes must_call begin s t u → height s + reserve (may_end must_call s) ≤ height t
grows must_call begin s t u (suffixes_end e) = let h : reserve (may_end must_call s) ≡ 0 = ap reserve e in omega arith
grows must_call begin s t u (suffixes_next x a b n more e) =
    let h : height (put begin s x) + reserve (may_end must_call (put begin s x)) ≤ height t = grows must_call begin (put begin s x) t b more in
    let i : suc (height s) ≤ height (put begin s x) = put_above begin s x in
    let j : reserve (may_end must_call s) ≤ 1 = reserve_small (may_end must_call s) in
    omega arith

pub call_ends : (must_call : Bool) (begin : Place) (s : Tree) (ps : Props) → may_end must_call (tree begin (call s ps)) ≡ true
call_ends must_call begin s ps = or_right (not must_call) true refl

-- ---- what begins a suffix

abbrev pub open_paren : List Sort
open_paren = a_symbol symbol.OpenParen ∷ []

abbrev pub open_bracket : List Sort
open_bracket = a_symbol symbol.OpenBracket ∷ []

abbrev pub a_dot : List Sort
a_dot = a_symbol symbol.Dot ∷ []

pub suffix_first : (x : Suffix) (u v : Items) → IsSuffix x u → passes (one_of suffix_starters) (first (u ++ v)) ≡ true
suffix_first x u v (by_args y i a t n e) = may_within open_paren suffix_starters (first (u ++ v)) refl (front_passes (one_of open_paren) y i a u v t e)
suffix_first x u v (by_dot y z i j t n e) = may_within a_dot suffix_starters (first (u ++ v)) refl (front_passes (one_of a_dot) y i j u v t e)
suffix_first x u v (by_bracket y z i a j t n o e) = may_within open_bracket suffix_starters (first (u ++ v)) refl (front_passes (one_of open_bracket) y i (a ++ j) u v t e)

LowSuffix : ℕ → ℕ → Suffix → Type 0
LowSuffix k l (args ps) = in_props ps ≤ k
LowSuffix k l (dot x) = Unit {0}
LowSuffix k l (bracket place i) = height i ≤ l

pub no_args : IsSuffix (args no_props) (sign symbol.OpenParen ∷ sign symbol.CloseParen ∷ [])
unfolding one_of
no_args = by_args (sign symbol.OpenParen) (sign symbol.OpenParen ∷ []) (sign symbol.CloseParen ∷ []) (refl, refl) (props_end (sign symbol.CloseParen) (refl, refl)) refl

-- the shortest suffix that begins so
short_link : (x : Item) → one_of suffix_starters x ≡ true → (k l : ℕ) → (is_symbol symbol.OpenParen x ≡ false → 1 ≤ l) → (u : Items) × (b : Suffix) × IsSuffix b (x ∷ u) × LowSuffix k l b
unfolding one_of LowSuffix height
short_link x e k l room = ⊎_elim
    (λ h. (sign symbol.CloseParen ∷ [], args no_props, by_args x (x ∷ []) (sign symbol.CloseParen ∷ []) (h, refl) (props_end (sign symbol.CloseParen) (refl, refl)) refl, (let z : 0 ≤ k = omega arith in z)))
    (λ h. ⊎_elim
    (λ g. (
      a_zero ∷ sign symbol.CloseBracket ∷ [],
      bracket x.place (literal a_zero),
      by_bracket x (sign symbol.CloseBracket) (x ∷ []) (a_zero ∷ []) (sign symbol.CloseBracket ∷ []) (g, refl) zero_expr (refl, refl) refl,
      zero_low l (room (not_of open_bracket open_paren x refl g)),
    ))
    (λ g. (some_name ∷ [], dot (label some_name), by_dot x some_name (x ∷ []) (some_name ∷ []) (g, refl) (refl, refl) refl, tt))
    (in_join open_bracket a_dot x h))
    (in_join open_paren (a_symbol symbol.OpenBracket ∷ a_symbol symbol.Dot ∷ []) x e)

-- ---- the readings

module _ (must_call : Bool) (begin : Place) (k l : ℕ) (fit : l + reserve (not must_call) ≡ k) (inner within : Items → Out Tree)
    (inner_says : 1 ≤ k → (w : Items) → Says IsExpr (Low k) (stops 8) w (inner w))
    (within_says : 1 ≤ l → (w : Items) → Says IsExpr (Low l) (stops 8) w (within w)) where
  abbrev pub Held : Tree → Type 0
  Held s = height s + reserve (may_end must_call s) ≤ suc k

  args_says : (w : Items) → passes (is_symbol symbol.OpenParen) (first w) ≡ true → Says IsSuffix (LowSuffix k l) any_stop w (read_args k inner w)
  unfolding read_args one_of LowSuffix height
  args_says w e = says_mapped (Pair (IsTok (is_symbol symbol.OpenParen)) (λ x. IsProps arguments)) IsSuffix (OkPair Fine (λ x. LowProps k)) (LowSuffix k l) any_stop (λ p. args p.1) w
      (record { into = λ p u q. by_args p.0 q.0 q.1 q.2 q.3 q.4; back = back; fit = λ p u q o. o.1; unfit = λ p u q o. (tt, o) })
      (both (token (is_symbol symbol.OpenParen)) (λ x r. read_props arguments k inner (length r) r) w)
      (says_both (IsTok (is_symbol symbol.OpenParen)) (λ x. IsProps arguments) Fine (λ x. LowProps k) any_stop any_stop
      (record {
        follow = λ x t v z n st. refl;
        some = λ x u n o. (sign symbol.CloseParen ∷ [], no_props, props_end (sign symbol.CloseParen) (refl, refl), (let h : 0 ≤ k = omega arith in h));
        any = λ x. (sign symbol.CloseParen ∷ [], no_props, props_end (sign symbol.CloseParen) (refl, refl));
      })
      w (token (is_symbol symbol.OpenParen) w) (λ x r. read_props arguments k inner (length r) r) (says_token (is_symbol symbol.OpenParen) (sign symbol.OpenParen) refl w)
      (λ x r i. says_props k inner inner_says arguments (length r) r (omega arith)))
    where
      back : (x : Suffix) (u v : Items) → first (u ++ v) ≡ first w → any_stop (first v) ≡ true → IsSuffix x u
          → (p : Item × Props) × (x ≡ args p.1) × Pair (IsTok (is_symbol symbol.OpenParen)) (λ x. IsProps arguments) p u
      back x u v ef st (by_args {ps = ps} y i a t n q) = ((y, ps), refl, (i, a, t, n, q))
      back x u v ef st (by_dot y z i j t n q) = absurd (may_apart a_dot open_paren (first w) refl (ap (passes (one_of a_dot)) (sym ef) ∙ front_passes (one_of a_dot) y i j u v t q) e)
      back x u v ef st (by_bracket y z i a j t n o q) = absurd (may_apart open_bracket open_paren (first w) refl (ap (passes (one_of open_bracket)) (sym ef) ∙ front_passes (one_of open_bracket) y i (a ++ j) u v t q) e)

  dot_says : (w : Items) → passes (is_symbol symbol.Dot) (first w) ≡ true → Says IsSuffix (LowSuffix k l) any_stop w (read_dot w)
  unfolding read_dot one_of LowSuffix
  dot_says w e = says_mapped (Pair (IsTok (is_symbol symbol.Dot)) (λ x. IsTok is_name)) IsSuffix (OkPair Fine (λ x. Fine)) (LowSuffix k l) any_stop (λ p. dot (label p.1)) w
      (record { into = λ p u q. by_dot p.0 p.1 q.0 q.1 q.2 q.3 q.4; back = back; fit = λ p u q o. tt; unfit = λ p u q o. (tt, tt) })
      (both (token (is_symbol symbol.Dot)) (λ x. token is_name) w)
      (says_both (IsTok (is_symbol symbol.Dot)) (λ x. IsTok is_name) Fine (λ x. Fine) any_stop any_stop
      (record { follow = λ x t v z n st. refl; some = λ x u n o. (some_name ∷ [], some_name, (refl, refl), tt); any = λ x. (some_name ∷ [], some_name, (refl, refl)) })
      w (token (is_symbol symbol.Dot) w) (λ x. token is_name) (says_token (is_symbol symbol.Dot) (sign symbol.Dot) refl w)
      (λ x r i. says_token is_name some_name refl r))
    where
      back : (x : Suffix) (u v : Items) → first (u ++ v) ≡ first w → any_stop (first v) ≡ true → IsSuffix x u
          → (p : Item × Item) × (x ≡ dot (label p.1)) × Pair (IsTok (is_symbol symbol.Dot)) (λ x. IsTok is_name) p u
      back x u v ef st (by_args y i a t n q) = absurd (may_apart open_paren a_dot (first w) refl (ap (passes (one_of open_paren)) (sym ef) ∙ front_passes (one_of open_paren) y i a u v t q) e)
      back x u v ef st (by_dot y z i j t n q) = ((y, z), refl, (i, j, t, n, q))
      back x u v ef st (by_bracket y z i a j t n o q) = absurd (may_apart open_bracket a_dot (first w) refl (ap (passes (one_of open_bracket)) (sym ef) ∙ front_passes (one_of open_bracket) y i (a ++ j) u v t q) e)

  bracket_says : 1 ≤ l → (w : Items) → passes (is_symbol symbol.OpenParen) (first w) ≡ false → passes (is_symbol symbol.Dot) (first w) ≡ false
      → Says IsSuffix (LowSuffix k l) any_stop w (read_bracket within w)
  unfolding read_bracket one_of LowSuffix
  bracket_says le w no_paren no_dot = says_mapped (Pair (IsTok (is_symbol symbol.OpenBracket)) (λ x. Pair IsExpr (λ e. IsTok (is_symbol symbol.CloseBracket)))) IsSuffix
      (OkPair Fine (λ x. OkPair (Low l) (λ e. Fine))) (LowSuffix k l) any_stop (λ p. bracket p.0.place p.1.0) w
      (record {
        into = λ p u q. by_bracket p.0 p.1.1 q.0 q.3.0 q.3.1 q.2 q.3.2 q.3.3 (q.4 ∙ ap (λ z. q.0 ++ z) q.3.4);
        back = back;
        fit = λ p u q o. o.1.0;
        unfit = λ p u q o. (tt, (o, tt));
      })
      (both (token (is_symbol symbol.OpenBracket)) (λ x. both within (λ e. token (is_symbol symbol.CloseBracket))) w)
      (says_both (IsTok (is_symbol symbol.OpenBracket)) (λ x. Pair IsExpr (λ e. IsTok (is_symbol symbol.CloseBracket))) Fine (λ x. OkPair (Low l) (λ e. Fine)) any_stop any_stop
      (record {
        follow = λ x t v z n st. refl;
        some = λ x u n o. (a_zero ∷ sign symbol.CloseBracket ∷ [], (literal a_zero, sign symbol.CloseBracket), (a_zero ∷ [], sign symbol.CloseBracket ∷ [], zero_expr, (refl, refl), refl), (zero_low l le, tt));
        any = λ x. (a_zero ∷ sign symbol.CloseBracket ∷ [], (literal a_zero, sign symbol.CloseBracket), (a_zero ∷ [], sign symbol.CloseBracket ∷ [], zero_expr, (refl, refl), refl));
      })
      w (token (is_symbol symbol.OpenBracket) w) (λ x. both within (λ e. token (is_symbol symbol.CloseBracket)))
      (says_token (is_symbol symbol.OpenBracket) (sign symbol.OpenBracket) refl w)
      (λ x r i. says_both IsExpr (λ e. IsTok (is_symbol symbol.CloseBracket)) (Low l) (λ e. Fine) (stops 8) any_stop
      (record {
        follow = λ t y v z n st. may_follow (a_symbol symbol.CloseBracket ∷ []) (forbidden 8) (first (v ++ z)) refl (front_passes (is_symbol symbol.CloseBracket) y v [] v z n (sym (append-nil v)));
        some = λ t u n o. (sign symbol.CloseBracket ∷ [], sign symbol.CloseBracket, (refl, refl), tt);
        any = λ t. (sign symbol.CloseBracket ∷ [], sign symbol.CloseBracket, (refl, refl));
      })
      r (within r) (λ e. token (is_symbol symbol.CloseBracket)) (within_says le r)
      (λ e q j. says_token (is_symbol symbol.CloseBracket) (sign symbol.CloseBracket) refl q)))
    where
      back : (x : Suffix) (u v : Items) → first (u ++ v) ≡ first w → any_stop (first v) ≡ true → IsSuffix x u
          → (p : Item × (Tree × Item)) × (x ≡ bracket p.0.place p.1.0) × Pair (IsTok (is_symbol symbol.OpenBracket)) (λ x. Pair IsExpr (λ e. IsTok (is_symbol symbol.CloseBracket))) p u
      back x u v ef st (by_args y i a t n q) = absurd (both_ways (passes (is_symbol symbol.OpenParen) (first w)) no_paren (ap (passes (one_of open_paren)) (sym ef) ∙ front_passes (one_of open_paren) y i a u v t q))
      back x u v ef st (by_dot y z i j t n q) = absurd (both_ways (passes (is_symbol symbol.Dot) (first w)) no_dot (ap (passes (one_of a_dot)) (sym ef) ∙ front_passes (one_of a_dot) y i j u v t q))
      back x u v ef st (by_bracket {e = e} y z i a j t n o q) = ((y, (e, z)), refl, (i, a ++ j, t, (a, j, n, o, refl), q))

  -- where there is room for a suffix that is no list of arguments, there is room for what it holds
  room_within : (s : Tree) (w : Items) → passes (λ x. leb (height s) (cond (is_symbol symbol.OpenParen x) k l)) (first w) ≡ true → passes (is_symbol symbol.OpenParen) (first w) ≡ false → 1 ≤ l
  room_within s [] e f = absurd (let h : false ≡ true = e in cc)
  room_within s (x ∷ w) e f =
      let h : leb (height s) l ≡ true = subst (λ b. leb (height s) (cond b k l) ≡ true) f e in
      let g : height s ≤ l = leb-true (height s) l h in
      let i : 1 ≤ height s = tall s in omega arith

  suffix_says : (s : Tree) (w : Items) → Held s → passes (one_of suffix_starters) (first w) ≡ true
      → passes (λ x. leb (height s) (cond (is_symbol symbol.OpenParen x) k l)) (first w) ≡ true → Says IsSuffix (LowSuffix k l) any_stop w (read_suffix k inner within w)
  unfolding read_suffix
  suffix_says s w held is_link room = cond_both (passes (is_symbol symbol.OpenParen) (first w)) _ _ (Says IsSuffix (LowSuffix k l) any_stop w) (args_says w)
      (λ no_paren. cond_both (passes (is_symbol symbol.Dot) (first w)) _ _ (Says IsSuffix (LowSuffix k l) any_stop w) (dot_says w)
      (λ no_dot. bracket_says (room_within s w room no_paren) w no_paren no_dot))

  -- ---- levels

  pub not_call : (t : Tree) → is_call t ≡ false → reserve (may_end must_call t) ≡ reserve (not must_call)
  not_call t e = ap reserve (ap (λ b. not must_call || b) e ∙ or_none (not must_call))
    where
      or_none : (b : Bool) → (b || false) ≡ b
      or_none true = refl
      or_none false = refl

  -- whether there is room for a suffix that begins with x
  args_room : (s : Tree) (x : Item) → is_symbol symbol.OpenParen x ≡ true → leb (height s) (cond (is_symbol symbol.OpenParen x) k l) ≡ leb (height s) k
  args_room s x e = ap (λ b. leb (height s) (cond b k l)) e

  other_room : (s : Tree) (x : Item) → is_symbol symbol.OpenParen x ≡ false → leb (height s) (cond (is_symbol symbol.OpenParen x) k l) ≡ leb (height s) l
  other_room s x e = ap (λ b. leb (height s) (cond b k l)) e

  abbrev Room : Tree → Items → Bool → Type 0
  Room s w b = passes (λ x. leb (height s) (cond (is_symbol symbol.OpenParen x) k l)) (first w) ≡ b

  room_args : (s : Tree) (x : Item) (u v : Items) (b : Bool) → Room s (u ++ v) b → first (u ++ v) ≡ Some x → is_symbol symbol.OpenParen x ≡ true → leb (height s) k ≡ b
  room_args s x u v b r f e = sym (args_room s x e) ∙ (sym (ap (passes (λ x. leb (height s) (cond (is_symbol symbol.OpenParen x) k l))) f) ∙ r)

  room_other : (s : Tree) (x : Item) (u v : Items) (b : Bool) → Room s (u ++ v) b → first (u ++ v) ≡ Some x → is_symbol symbol.OpenParen x ≡ false → leb (height s) l ≡ b
  room_other s x u v b r f e = sym (other_room s x e) ∙ (sym (ap (passes (λ x. leb (height s) (cond (is_symbol symbol.OpenParen x) k l))) f) ∙ r)

  step_fits : (s : Tree) (b : Suffix) (u v : Items) → Room s (u ++ v) true → IsSuffix b u → LowSuffix k l b → Held (put begin s b)
  unfolding LowSuffix height
  step_fits s b u v room (by_args {ps = ps} y i a t n q) low =
      let h : height s ≤ k = leb-true (height s) k (room_args s y u v true room (front_is (is_symbol symbol.OpenParen) y i a u v t q) t.0) in
      let g : in_props ps ≤ k = low in
      let r : reserve (may_end must_call (tree begin (call s ps))) ≡ 0 = ap reserve (call_ends must_call begin s ps) in
      let z : suc (max (height s) (in_props ps)) + reserve (may_end must_call (tree begin (call s ps))) ≤ suc k = omega arith in z
  step_fits s b u v room (by_dot y z i j t n q) low =
      let h : height s ≤ l = leb-true (height s) l (room_other s y u v true room (front_is (is_symbol symbol.Dot) y i j u v t q) (not_of a_dot open_paren y refl t.0)) in
      let r : reserve (may_end must_call (tree begin (member s (label z)))) ≡ reserve (not must_call) = not_call (tree begin (member s (label z))) refl in
      let f : suc (height s) + reserve (may_end must_call (tree begin (member s (label z)))) ≤ suc k = omega arith in f
  step_fits s b u v room (by_bracket {e = e} y z i a j t n o q) low =
      let h : height s ≤ l = leb-true (height s) l (room_other s y u v true room (front_is (is_symbol symbol.OpenBracket) y i (a ++ j) u v t q) (not_of open_bracket open_paren y refl t.0)) in
      let g : height e ≤ l = low in
      let is : IsIndexed s e (indexed begin s y.place e) = indexed_is begin s y.place e in
      let r : reserve (may_end must_call (indexed begin s y.place e)) ≡ reserve (not must_call) = not_call (indexed begin s y.place e) is.no_call in
      let m : height (indexed begin s y.place e) ≤ suc (max (height s) (height e)) = is.low in
      let f : height (indexed begin s y.place e) + reserve (may_end must_call (indexed begin s y.place e)) ≤ suc k = omega arith in f

  held_low : (s : Tree) (b : Suffix) (u : Items) → IsSuffix b u → Held (put begin s b) → LowSuffix k l b
  unfolding LowSuffix height
  held_low s b u (by_args {ps = ps} y i a t n q) held =
      let h : suc (max (height s) (in_props ps)) + reserve (may_end must_call (tree begin (call s ps))) ≤ suc k = held in
      let z : in_props ps ≤ k = omega arith in z
  held_low s b u (by_dot y z i j t n q) held = tt
  held_low s b u (by_bracket {e = e} y z i a j t n o q) held =
      let is : IsIndexed s e (indexed begin s y.place e) = indexed_is begin s y.place e in
      let r : reserve (may_end must_call (indexed begin s y.place e)) ≡ reserve (not must_call) = not_call (indexed begin s y.place e) is.no_call in
      let h : height (indexed begin s y.place e) + reserve (may_end must_call (indexed begin s y.place e)) ≤ suc k = held in
      is.holds l (omega arith)

  no_room : (s : Tree) (b : Suffix) (u v : Items) → Room s (u ++ v) false → IsSuffix b u → Held (put begin s b) → ⊥
  unfolding height
  no_room s b u v room (by_args {ps = ps} y i a t n q) held =
      let h : k < height s = leb-false (height s) k (room_args s y u v false room (front_is (is_symbol symbol.OpenParen) y i a u v t q) t.0) in
      let g : suc (max (height s) (in_props ps)) + reserve (may_end must_call (tree begin (call s ps))) ≤ suc k = held in
      omega arith
  no_room s b u v room (by_dot y z i j t n q) held =
      let h : l < height s = leb-false (height s) l (room_other s y u v false room (front_is (is_symbol symbol.Dot) y i j u v t q) (not_of a_dot open_paren y refl t.0)) in
      let r : reserve (may_end must_call (tree begin (member s (label z)))) ≡ reserve (not must_call) = not_call (tree begin (member s (label z))) refl in
      let g : suc (height s) + reserve (may_end must_call (tree begin (member s (label z)))) ≤ suc k = held in
      omega arith
  no_room s b u v room (by_bracket {e = e} y z i a j t n o q) held =
      let h : l < height s = leb-false (height s) l (room_other s y u v false room (front_is (is_symbol symbol.OpenBracket) y i (a ++ j) u v t q) (not_of open_bracket open_paren y refl t.0)) in
      let is : IsIndexed s e (indexed begin s y.place e) = indexed_is begin s y.place e in
      let r : reserve (may_end must_call (indexed begin s y.place e)) ≡ reserve (not must_call) = not_call (indexed begin s y.place e) is.no_call in
      let m : suc (height s) ≤ height (indexed begin s y.place e) = is.above in
      let g : height (indexed begin s y.place e) + reserve (may_end must_call (indexed begin s y.place e)) ≤ suc k = held in
      omega arith

  pub some_rest : (s : Tree) → (u : Items) × (t : Tree) × IsSuffixes must_call begin s t u
  some_rest s = (
    sign symbol.OpenParen ∷ sign symbol.CloseParen ∷ [],
    tree begin (call s no_props),
    suffixes_next (args no_props) (sign symbol.OpenParen ∷ sign symbol.CloseParen ∷ []) [] no_args (suffixes_end (call_ends must_call begin s no_props)) refl,
  )

  pub low_rest : (s : Tree) → Held s → (b : Bool) → may_end must_call s ≡ b → (u : Items) × (t : Tree) × IsSuffixes must_call begin s t u × (height t ≤ suc k)
  unfolding height some_rest
  low_rest s held true e = ([], s, suffixes_end e, (let h : reserve (may_end must_call s) ≡ 0 = ap reserve e in let g : height s + reserve (may_end must_call s) ≤ suc k = held in omega arith))
  low_rest s held false e = (
    (some_rest s).0,
    (some_rest s).1,
    (some_rest s).2,
    (let h : reserve (may_end must_call s) ≡ 1 = ap reserve e in let g : height s + reserve (may_end must_call s) ≤ suc k = held in
        let z : suc (max (height s) 0) ≤ suc k = omega arith in z),
  )

  linking : IsLinking (suffixes must_call begin k l inner within) IsSuffix (λ s t u. IsSuffixes must_call begin s t u) Held (LowSuffix k l) (λ s t. height t ≤ suc k) any_stop (stops 0)
  linking = record {
    done = λ s e. suffixes_end e;
    more = λ s b t u v n r. suffixes_next b u v n r refl;
    inverse = inverse;
    begins = λ b u v n. suffix_first b u v n;
    link_stops = λ x e. refl;
    end_stops = λ x e. refl;
    end_none = λ x e. not_within suffix_starters (forbidden 0) x refl (not-true (passes (one_of (forbidden 0)) x) e);
    none_stops = refl;
    end_fits = λ s held e. let h : reserve (may_end must_call s) ≡ 0 = ap reserve e in let g : height s + reserve (may_end must_call s) ≤ suc k = held in omega arith;
    low_rest = λ s held. low_rest s held (may_end must_call s) refl;
    some_rest = some_rest;
    low_link = λ s x held e room. short_link x e k l (λ f. room_within s (x ∷ []) room f);
    some_link = λ x e. let h : (u : Items) × (b : Suffix) × IsSuffix b (x ∷ u) × LowSuffix 1 1 b = short_link x e 1 1 (λ f. omega arith) in (h.0, h.1, h.2);
    step_fits = λ s b u held room n low. step_fits s b u [] (subst (λ z. Room s z true) (sym (append-nil u)) room) n low;
    join_fits = λ s b t x held e room low o. o;
    fits_join = λ s b t u v n r o. (held_low s b u n (held_from s b t v r o), o);
    no_room = λ s b t u v z held room n r o. no_room s b u v room n (held_from s b t z r o);
  }
    where
      inverse : (s t : Tree) (u : Items) → IsSuffixes must_call begin s t u
          → ((may_end must_call s ≡ true) × (t ≡ s) × (u ≡ [])) ⊎ ((p : Suffix × Tree) × (t ≡ p.1) × Pair IsSuffix (λ b z q. IsSuffixes must_call begin (put begin s b) z q) p u)
      inverse s t u (suffixes_end e) = inl (e, refl, refl)
      inverse s t u (suffixes_next x a b n r e) = inr ((x, t), refl, (a, b, n, r, e))

      held_from : (s : Tree) (b : Suffix) (t : Tree) (v : Items) → IsSuffixes must_call begin (put begin s b) t v → height t ≤ suc k → Held (put begin s b)
      held_from s b t v r o = let h : height (put begin s b) + reserve (may_end must_call (put begin s b)) ≤ height t = grows must_call begin (put begin s b) t v r in omega arith

  pub says_suffixes : (n : ℕ) (s : Tree) (w : Items) → height s + reserve (may_end must_call s) ≤ suc k → length w ≤ n
      → Says (λ t u. IsSuffixes must_call begin s t u) (Low (suc k)) (stops 0) w (links (suffixes must_call begin k l inner within) n s w)
  says_suffixes n s w held le = says_links (suffixes must_call begin k l inner within) IsSuffix (λ s t u. IsSuffixes must_call begin s t u) Held (LowSuffix k l) (λ s t. height t ≤ suc k) any_stop (stops 0)
      linking suffix_says n s w held le

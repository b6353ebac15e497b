-- Readings of postfixes.
use Rattle.std.proofs.Common.{◌≡◌, ℕ, suc, ◌+◌, ◌≤◌, Bool, true, false, not, [], ◌∷◌, ◌++◌, length, sym, refl, ap, subst, arith}
use Rattle.fx_ast.specs.Tree.{Tree, tree, call, no_props}
use Rattle.fx_scan.specs.declared.symbols.Symbol.TheVariants as symbol
use Rattle.fx_parse.specs.declared.item.Lexeme.{Lexeme}
use Rattle.fx_parse.specs.declared.item.Lexeme.TheVariants.{Name}
use Rattle.fx_parse.specs.Items.{Items, one_of, first, start, literal, literal_shape}
use Rattle.fx_parse.specs.Grammar.{IsExpr, is_call, may_end, args, IsSuffixes, suffixes_end, suffixes_next, IsPostfix, a_postfix, IsPrimary, a_literal, a_text, a_paren, an_array, a_record}
use Rattle.fx_ast.specs.Levels.{height}
use Rattle.fx_parse.specs.Readings.{Out, both, links}
use Rattle.fx_parse.specs.ReadPrimary.{read_primary, starters}
use Rattle.fx_parse.specs.ReadRuns.{read_postfix, suffixes}
use Rattle.fx_parse.proofs.phrases.Says.{Says, any_stop}
use Rattle.fx_parse.proofs.phrases.Both.{Pair, OkPair, says_both}
use Rattle.fx_parse.proofs.phrases.Far.{says_placed}
use Rattle.fx_parse.proofs.phrases.Stops.{Low, stops}
use Rattle.fx_parse.proofs.sorts.Toks.{sign, a_zero}
use Rattle.fx_parse.proofs.phrases.Shortest.{zero_primary, zero_postfix}
use Rattle.fx_parse.proofs.phrases.Beginnings.{front_part, primary_first, start_is}
use Rattle.fx_parse.proofs.phrases.Suffixes.{reserve, grows, no_args, call_ends, some_rest, low_rest, not_call, says_suffixes}

-- a primary is no call
pub primary_no_call : (t : Tree) (u : Items) → IsPrimary t u → is_call t ≡ false
unfolding literal_shape
primary_no_call t u (a_literal x h) = literal_no_call x.lexeme
  where
    literal_no_call : (l : Lexeme) → is_call (tree x.place (literal_shape l)) ≡ false
    literal_no_call (Name y) = refl
    literal_no_call l = refl
primary_no_call t u (a_text x i a h n e) = refl
primary_no_call t u (a_paren x y i a j h n o e) = refl
primary_no_call t u (an_array x i a h n e) = refl
primary_no_call t u (a_record x i a h n e) = refl

-- the shortest call
pub zero_call : Tree
zero_call = tree a_zero.place (call (literal a_zero) no_props)

pub zero_call_items : Items
zero_call_items = a_zero ∷ sign symbol.OpenParen ∷ sign symbol.CloseParen ∷ []

pub zero_called : (b : Bool) → IsPostfix b zero_call zero_call_items
unfolding zero_call zero_call_items
zero_called b = a_postfix (a_zero ∷ []) (sign symbol.OpenParen ∷ sign symbol.CloseParen ∷ []) zero_primary
    (suffixes_next (args no_props) (sign symbol.OpenParen ∷ sign symbol.CloseParen ∷ []) [] no_args (suffixes_end (call_ends b a_zero.place (literal a_zero) no_props)) refl) refl

pub zero_call_height : height zero_call ≡ 2
unfolding zero_call height literal_shape
zero_call_height = refl

module _ (must_call : Bool) (k l : ℕ) (fit : l + reserve (not must_call) ≡ k) (inner within : Items → Out Tree)
    (inner_says : 1 ≤ k → (w : Items) → Says IsExpr (Low k) (stops 8) w (inner w))
    (within_says : 1 ≤ l → (w : Items) → Says IsExpr (Low l) (stops 8) w (within w))
    (primary_says : (w : Items) → Says IsPrimary (Low (suc l)) any_stop w (read_primary l within w)) where
  some_postfix : (b : Bool) → must_call ≡ b → (c : Items) × (t : Tree) × IsPostfix must_call t c × Low (suc k) t
  unfolding height literal_shape
  some_postfix true e = (
    zero_call_items,
    zero_call,
    zero_called must_call,
    (let h : reserve (not must_call) ≡ 1 = ap (λ z. reserve (not z)) e in let g : height zero_call ≡ 2 = zero_call_height in omega arith),
  )
  some_postfix false e = (a_zero ∷ [], literal a_zero, subst (λ z. IsPostfix z (literal a_zero) (a_zero ∷ [])) (sym e) zero_postfix, (let h : 1 ≤ suc k = omega arith in h))

  held : (s : Tree) (u : Items) → IsPrimary s u → Low (suc l) s → height s + reserve (may_end must_call s) ≤ suc k
  held s u n low = let h : reserve (may_end must_call s) ≡ reserve (not must_call) = not_call must_call a_zero.place k l fit inner within inner_says within_says s (primary_no_call s u n) in omega arith

  pub says_postfix : (w : Items) → Says (IsPostfix must_call) (Low (suc k)) (stops 0) w (read_postfix must_call k l inner within w)
  unfolding read_postfix
  says_postfix w = says_placed (Pair IsPrimary (λ s t u. IsSuffixes must_call (start w) s t u)) (IsPostfix must_call) (OkPair (Low (suc l)) (λ s. Low (suc k))) (Low (suc k)) (stops 0) (λ p. p.1) w
      (record {
        into = λ p u v ef q. a_postfix q.0 q.1 q.2 (subst (λ z. IsSuffixes must_call z p.0 p.1 q.1) (sym (begin p.0 q.0 q.1 u v q.2 q.4 ef)) q.3) q.4;
        back = back;
        fit = λ p u q o. o.1;
        unfit = λ p u q o. (low_first p.0 p.1 q.0 q.1 q.2 q.3 o, o);
        some = some_postfix must_call refl;
      })
      (both (read_primary l within) (λ s r. links (suffixes must_call (start w) k l inner within) (length r) s r) w)
      (says_both IsPrimary (λ s t u. IsSuffixes must_call (start w) s t u) (Low (suc l)) (λ s. Low (suc k)) any_stop (stops 0)
      (record {
        follow = λ s t v z n st. refl;
        some = λ s u n o. low_rest must_call (start w) k l fit inner within inner_says within_says s (held s u n o) (may_end must_call s) refl;
        any = λ s. some_rest must_call (start w) k l fit inner within inner_says within_says s;
      })
      w (read_primary l within w) (λ s r. links (suffixes must_call (start w) k l inner within) (length r) s r) (primary_says w)
      (λ s r i. says_suffixes must_call (start w) k l fit inner within inner_says within_says (length r) s r (held s i.u i.phrase i.fits) (omega arith)))
    where
      begin : (s : Tree) (a b u v : Items) → IsPrimary s a → u ≡ a ++ b → first (u ++ v) ≡ first w → start u ≡ start w
      begin s a b u v n e ef = start_is (one_of (starters 0)) u v w (front_part (starters 0) u [] a b e (primary_first s a (b ++ []) n)) ef

      low_first : (s t : Tree) (a b : Items) → IsPrimary s a → IsSuffixes must_call (start w) s t b → Low (suc k) t → Low (suc l) s
      low_first s t a b n r o =
          let h : reserve (may_end must_call s) ≡ reserve (not must_call) = not_call must_call a_zero.place k l fit inner within inner_says within_says s (primary_no_call s a n) in
          let g : height s + reserve (may_end must_call s) ≤ height t = grows must_call (start w) s t b r in omega arith

      back : (t : Tree) (u v : Items) → first (u ++ v) ≡ first w → stops 0 (first v) ≡ true → IsPostfix must_call t u
          → (p : Tree × Tree) × (t ≡ p.1) × Pair IsPrimary (λ s z q. IsSuffixes must_call (start w) s z q) p u
      back t u v ef st (a_postfix {s = s} a b n r e) = ((s, t), refl, (a, b, n, subst (λ z. IsSuffixes must_call z s t b) (begin s a b u v n e ef) r, e))

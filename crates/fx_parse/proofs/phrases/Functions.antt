-- Readings of functions: parameters, defaults, blocks and bodies.
use Rattle.std.proofs.Common.{◌≡◌, ℕ, zero, suc, ◌≤◌, ◌<◌, max, Bool, true, false, cond, List, [], ◌∷◌, ◌++◌, length, Option, sym, refl, ap, ◌∙◌, append-nil, arith, leb, length-append}
use Rattle.std.proofs.lemmas.Bool.{cond_both, both_ways, leb-false, not-true, not_from_false}
use Rattle.fx_ast.specs.Tree.{Tree, tree, fun, Props, no_props, more_props, Params, no_params, more_params, Default, required, by_pipe, by_value}
use Rattle.fx_scan.specs.declared.symbols.Symbol.TheVariants as symbol
use Rattle.fx_scan.specs.declared.words.Word.TheVariants as word
use Rattle.fx_parse.specs.declared.item.Item.{Item}
use Rattle.fx_parse.specs.Items.{Items, Sort, a_name, a_symbol, a_word, first, passes, one_of, label, literal, is_name, is_symbol, is_word}
use Rattle.fx_parse.specs.Grammar.{IsTok, IsExpr, IsFunction, a_function, IsParams, params_end, params_next, IsMoreParams, param_last, param_comma, IsDefault, no_default, pipe_default, value_default, IsBody, block_body, expr_body, IsBlock, block_end, block_let}
use Rattle.fx_ast.specs.Levels.{height, in_params, in_default, in_props}
use Rattle.fx_parse.specs.Readings.{Out, mapped, both, token}
use Rattle.fx_parse.specs.ReadPrimary.{starters, begins}
use Rattle.fx_parse.specs.ReadFunctions.{read_default, read_more_params, read_params, read_block, read_body, read_function}
use Rattle.fx_parse.proofs.phrases.Beginnings.{expr_first}
use Rattle.fx_parse.proofs.phrases.Both.{Pair, OkPair, says_both, says_same}
use Rattle.fx_parse.proofs.phrases.Far.{says_mapped, says_placed}
use Rattle.fx_parse.proofs.phrases.Says.{Says, Fine, any_stop, says_token}
use Rattle.fx_parse.proofs.phrases.Shortest.{zero_expr, zero_low}
use Rattle.fx_parse.proofs.phrases.Stops.{Low, LowParams, LowDefault, forbidden, without, stops, may_follow, front_passes, not_longer}
use Rattle.fx_parse.proofs.phrases.Then.{Low_of, Reads, enders, any_of, says_then, says_ended, says_nothing}
use Rattle.fx_parse.proofs.sorts.Toks.{sign, a_word_item, may_apart, may_within, not_within, a_zero, some_name}

-- ---- tokens

abbrev opens : Item → Bool
opens = is_symbol symbol.OpenParen

abbrev closes : Item → Bool
closes = is_symbol symbol.CloseParen

abbrev parts_from : Item → Bool
parts_from = is_symbol symbol.Comma

abbrev assigns : Item → Bool
assigns = is_symbol symbol.Assign

abbrev pipes_in : Item → Bool
pipes_in = is_symbol symbol.PipeParameter

abbrev leads : Item → Bool
leads = is_symbol symbol.Arrow

abbrev opens_block : Item → Bool
opens_block = is_symbol symbol.OpenBrace

abbrev closes_block : Item → Bool
closes_block = is_symbol symbol.CloseBrace

abbrev returns : Item → Bool
returns = is_word word.Return

-- each of these tests passes on its own item
record IsTested : Type 0 where
  open_paren : opens (sign symbol.OpenParen) ≡ true
  close_paren : closes (sign symbol.CloseParen) ≡ true
  comma : parts_from (sign symbol.Comma) ≡ true
  assign : assigns (sign symbol.Assign) ≡ true
  pipe : pipes_in (sign symbol.PipeParameter) ≡ true
  arrow : leads (sign symbol.Arrow) ≡ true
  open_brace : opens_block (sign symbol.OpenBrace) ≡ true
  close_brace : closes_block (sign symbol.CloseBrace) ≡ true
  return : returns (a_word_item word.Return) ≡ true
  name : is_name some_name ≡ true

tested : IsTested
unfolding one_of
tested = record { open_paren = refl; close_paren = refl; comma = refl; assign = refl; pipe = refl; arrow = refl; open_brace = refl; close_brace = refl; return = refl; name = refl }

-- ---- the shortest

low_params : (k : ℕ) → Low_of IsParams (LowParams k)
unfolding height
low_params k = (sign symbol.CloseParen ∷ [], no_params, params_end (sign symbol.CloseParen) (tested.close_paren, refl), (let h : 0 ≤ k = omega arith in h))

low_more : (k : ℕ) → Low_of IsMoreParams (LowParams k)
unfolding height
low_more k = (sign symbol.CloseParen ∷ [], no_params, param_last (sign symbol.CloseParen) (tested.close_paren, refl), (let h : 0 ≤ k = omega arith in h))

-- ---- defaults

-- what can't follow a default
abbrev after_default : List Sort
after_default = a_symbol symbol.Assign ∷ forbidden 8

default_ends : (o : Option Item) → without after_default o ≡ true → stops 8 o ≡ true
default_ends o e = not_from_false (passes (one_of (forbidden 8)) o) (not_within (forbidden 8) after_default o refl (not-true (passes (one_of after_default) o) e))

no_assign : (o : Option Item) → without after_default o ≡ true → passes assigns o ≡ true → ⊥
no_assign o e f = both_ways (passes (one_of after_default) o) (not-true (passes (one_of after_default) o) e) (may_within (a_symbol symbol.Assign ∷ []) after_default o refl f)

more_follows : (ps : Params) (v z : Items) → IsMoreParams ps v → without after_default (first (v ++ z)) ≡ true
more_follows _ v z (param_last x t) = may_follow (a_symbol symbol.CloseParen ∷ []) after_default (first (v ++ z)) refl (front_passes closes x v [] v z t (sym (append-nil v)))
more_follows ps v z (param_comma x i u t h e) = may_follow (a_symbol symbol.Comma ∷ []) after_default (first (v ++ z)) refl (front_passes parts_from x i u v z t e)

-- after the `=` of a default
data IsGiven : Default → Items → Type 0 where
  given_pipe : {w : Items} (y : Item) → IsTok pipes_in y w → IsGiven by_pipe w
  given_value : {e : Tree} {w : Items} → IsExpr e w → IsGiven (by_value e) w

default_back : (d : Default) (u v w : Items) → passes assigns (first w) ≡ true → first (u ++ v) ≡ first w → without after_default (first v) ≡ true → IsDefault d u
    → (p : Item × Default) × (d ≡ p.1) × Pair (IsTok assigns) (λ x. IsGiven) p u
default_back _ u v w e ef st no_default = absurd (no_assign (first v) st (ap (passes assigns) ef ∙ e))
default_back _ u v w e ef st (pipe_default x y i j t s q) = ((x, by_pipe), refl, (i, j, t, given_pipe y s, q))
default_back _ u v w e ef st (value_default {e = a} x i j t s q) = ((x, by_value a), refl, (i, j, t, given_value s, q))

default_into : (x : Item) (d : Default) (i j u : Items) → IsTok assigns x i → IsGiven d j → u ≡ i ++ j → IsDefault d u
default_into x _ i j u t (given_pipe y s) q = pipe_default x y i j t s q
default_into x _ i j u t (given_value s) q = value_default x i j t s q

required_only : (d : Default) (u v c w : Items) → passes assigns (first w) ≡ false → first c ≡ first w → u ++ v ≡ c → IsDefault d u → (d ≡ required) × (u ≡ [])
required_only _ u v c w e ef eq no_default = (refl, refl)
required_only _ u v c w e ef eq (pipe_default x y i j t s q) = absurd (both_ways (passes assigns (first w)) e (ap (passes assigns) (sym ef ∙ ap first (sym eq)) ∙ front_passes assigns x i j u v t q))
required_only _ u v c w e ef eq (value_default x i j t s q) = absurd (both_ways (passes assigns (first w)) e (ap (passes assigns) (sym ef ∙ ap first (sym eq)) ∙ front_passes assigns x i j u v t q))

-- the assignments of a block and what it returns
abbrev block_of : Props → Tree → Props × Tree
block_of lets e = (lets, e)

module _ (k : ℕ) (inner : Items → Out Tree) (reads : Reads k inner) (some : 1 ≤ k) where
  expr_says : (w : Items) → Says IsExpr (Low k) (without after_default) w (inner w)
  expr_says w = says_same IsExpr IsExpr (Low k) (Low k) (stops 8) (without after_default)
      (record { into = λ t u n. n; back = λ t u n. n; fit = λ t o. o; unfit = λ t o. o; ends = default_ends }) w (inner w) (reads some w)

  given_says : (w : Items) → Says IsGiven (LowDefault k) (without after_default) w (cond (passes pipes_in (first w)) (mapped (λ y. by_pipe) (token pipes_in w)) (mapped by_value (inner w)))
  unfolding height
  given_says w = cond_both (passes pipes_in (first w)) _ _ (Says IsGiven (LowDefault k) (without after_default) w)
      (λ e. says_mapped (IsTok pipes_in) IsGiven Fine (LowDefault k) (without after_default) (λ y. by_pipe) w
      (record { into = λ y u t. given_pipe y t; back = λ d u v ef st n. pipe_back d u v e ef n; fit = λ y u t o. (let h : 0 ≤ k = omega arith in h); unfit = λ y u t o. tt })
      (token pipes_in w)
      (says_same (IsTok pipes_in) (IsTok pipes_in) Fine Fine any_stop (without after_default) (record { into = λ t u n. n; back = λ t u n. n; fit = λ t o. o; unfit = λ t o. o; ends = λ o h. refl })
      w (token pipes_in w) (says_token pipes_in (sign symbol.PipeParameter) tested.pipe w)))
      (λ e. says_mapped IsExpr IsGiven (Low k) (LowDefault k) (without after_default) by_value w
      (record { into = λ t u n. given_value n; back = λ d u v ef st n. value_back d u v e ef n; fit = λ t u n o. o; unfit = λ t u n o. o })
      (inner w) (expr_says w))
    where
      pipe_back : (d : Default) (u v : Items) → passes pipes_in (first w) ≡ true → first (u ++ v) ≡ first w → IsGiven d u → (y : Item) × (d ≡ by_pipe) × IsTok pipes_in y u
      pipe_back _ u v e ef (given_pipe y t) = (y, refl, t)
      pipe_back _ u v e ef (given_value {e = a} h) = absurd (may_apart (a_word word.If ∷ starters 8) (a_symbol symbol.PipeParameter ∷ []) (first w) refl
          (ap (passes begins) (sym ef) ∙ expr_first a u v h) e)

      value_back : (d : Default) (u v : Items) → passes pipes_in (first w) ≡ false → first (u ++ v) ≡ first w → IsGiven d u → (a : Tree) × (d ≡ by_value a) × IsExpr a u
      value_back _ u v e ef (given_pipe y t) = absurd (both_ways (passes pipes_in (first w)) e (ap (passes pipes_in) (sym ef) ∙ front_passes pipes_in y u [] u v t (sym (append-nil u))))
      value_back _ u v e ef (given_value {e = a} h) = (a, refl, h)

  low_given : Low_of IsGiven (LowDefault k)
  unfolding height
  low_given = (sign symbol.PipeParameter ∷ [], by_pipe, given_pipe (sign symbol.PipeParameter) (tested.pipe, refl), (let h : 0 ≤ k = omega arith in h))

  says_default : (w : Items) → Says IsDefault (LowDefault k) (without after_default) w (read_default inner w)
  unfolding read_default height
  says_default w = cond_both (passes assigns (first w)) _ _ (Says IsDefault (LowDefault k) (without after_default) w)
      (λ e. says_mapped (Pair (IsTok assigns) (λ x. IsGiven)) IsDefault (OkPair Fine (λ x. LowDefault k)) (LowDefault k) (without after_default) (λ p. p.1) w
      (record { into = λ p u q. default_into p.0 p.1 q.0 q.1 u q.2 q.3 q.4; back = λ d u v ef st n. default_back d u v w e ef st n; fit = λ p u q o. o.1; unfit = λ p u q o. (tt, o) })
      (both (token assigns) (λ x r. cond (passes pipes_in (first r)) (mapped (λ y. by_pipe) (token pipes_in r)) (mapped by_value (inner r))) w)
      (says_then assigns (sign symbol.Assign) tested.assign (λ x. IsGiven) (λ x. LowDefault k) (without after_default) (λ x. low_given)
      (λ x r. cond (passes pipes_in (first r)) (mapped (λ y. by_pipe) (token pipes_in r)) (mapped by_value (inner r))) w (λ x r t less. given_says r)))
      (λ e. record { u = []; split = refl; phrase = no_default; fits = (let h : 0 ≤ k = omega arith in h); only = λ c v u' d ef st n eq. required_only d u' v c w e ef eq n })

  -- ---- parameters

  close_says : (w : Items) → passes closes (first w) ≡ true → Says IsMoreParams (LowParams k) any_stop w (mapped (λ y. no_params) (token closes w))
  unfolding height
  close_says w e = says_mapped (IsTok closes) IsMoreParams Fine (LowParams k) any_stop (λ y. no_params) w
      (record { into = λ y u t. param_last y t; back = back; fit = λ y u t o. omega arith; unfit = λ y u t o. tt })
      (token closes w) (says_token closes (sign symbol.CloseParen) tested.close_paren w)
    where
      back : (ps : Params) (u v : Items) → first (u ++ v) ≡ first w → any_stop (first v) ≡ true → IsMoreParams ps u → (y : Item) × (ps ≡ no_params) × IsTok closes y u
      back _ u v ef st (param_last y t) = (y, refl, t)
      back ps u v ef st (param_comma y i r t h s) = absurd (may_apart (a_symbol symbol.Comma ∷ []) (a_symbol symbol.CloseParen ∷ []) (first w) refl
          (ap (passes parts_from) (sym ef) ∙ front_passes parts_from y i r u v t s) e)

  comma_says : (again : Items → Out Params) (w : Items) → ((r : Items) → length r < length w → Says IsParams (LowParams k) any_stop r (again r)) → passes closes (first w) ≡ false
      → Says IsMoreParams (LowParams k) any_stop w (mapped (λ p. p.1) (both (token parts_from) (λ y. again) w))
  comma_says again w next e = says_mapped (Pair (IsTok parts_from) (λ y. IsParams)) IsMoreParams (OkPair Fine (λ y. LowParams k)) (LowParams k) any_stop (λ p. p.1) w
      (record { into = λ p u q. param_comma p.0 q.0 q.1 q.2 q.3 q.4; back = back; fit = λ p u q o. o.1; unfit = λ p u q o. (tt, o) })
      (both (token parts_from) (λ y. again) w)
      (says_then parts_from (sign symbol.Comma) tested.comma (λ y. IsParams) (λ y. LowParams k) any_stop (λ y. low_params k) (λ y. again) w (λ y r t less. next r less))
    where
      back : (ps : Params) (u v : Items) → first (u ++ v) ≡ first w → any_stop (first v) ≡ true → IsMoreParams ps u → (p : Item × Params) × (ps ≡ p.1) × Pair (IsTok parts_from) (λ y. IsParams) p u
      back _ u v ef st (param_last y t) = absurd (both_ways (passes closes (first w)) e (ap (passes closes) (sym ef) ∙ front_passes closes y u [] u v t (sym (append-nil u))))
      back ps u v ef st (param_comma y i r t h s) = ((y, ps), refl, (i, r, t, h, s))

  says_more_params : (again : Items → Out Params) (w : Items) → ((r : Items) → length r < length w → Says IsParams (LowParams k) any_stop r (again r))
      → Says IsMoreParams (LowParams k) any_stop w (read_more_params again w)
  unfolding read_more_params
  says_more_params again w next = cond_both (passes closes (first w)) _ _ (Says IsMoreParams (LowParams k) any_stop w) (close_says w) (comma_says again w next)

  abbrev AfterName : Default × Params → Items → Type 0
  AfterName = Pair IsDefault (λ d. IsMoreParams)

  abbrev LowAfter : Default × Params → Type 0
  LowAfter = OkPair (LowDefault k) (λ d. LowParams k)

  low_after : Low_of AfterName LowAfter
  unfolding height
  low_after = ((low_more k).0, (required, (low_more k).1), ([], (low_more k).0, no_default, (low_more k).2, refl), ((let h : 0 ≤ k = omega arith in h), (low_more k).3))

  end_says : (w : Items) → passes closes (first w) ≡ true → Says IsParams (LowParams k) any_stop w (mapped (λ y. no_params) (token closes w))
  unfolding height
  end_says w e = says_mapped (IsTok closes) IsParams Fine (LowParams k) any_stop (λ y. no_params) w
      (record { into = λ y u t. params_end y t; back = back; fit = λ y u t o. omega arith; unfit = λ y u t o. tt })
      (token closes w) (says_token closes (sign symbol.CloseParen) tested.close_paren w)
    where
      back : (ps : Params) (u v : Items) → first (u ++ v) ≡ first w → any_stop (first v) ≡ true → IsParams ps u → (y : Item) × (ps ≡ no_params) × IsTok closes y u
      back _ u v ef st (params_end y t) = (y, refl, t)
      back _ u v ef st (params_next x i a b t d m s) = absurd (may_apart (a_name ∷ []) (a_symbol symbol.CloseParen ∷ []) (first w) refl
          (ap (passes is_name) (sym ef) ∙ front_passes is_name x i (a ++ b) u v t s) e)

  no_params_here : (ps : Params) → IsParams ps [] → ⊥
  no_params_here _ (params_end y t) = let h = ap length t.1 in omega arith
  no_params_here _ (params_next x i a b t d m s) = let h = ap length s in let g = ap length t.1 in omega (arith, length-append i (a ++ b))

  next_says : (again : Items → Out Params) (w : Items) → ((r : Items) → length r < length w → Says IsParams (LowParams k) any_stop r (again r)) → passes closes (first w) ≡ false
      → Says IsParams (LowParams k) any_stop w (mapped (λ p. more_params (label p.0) p.1.0 p.1.1) (both (token is_name) (λ x. both (read_default inner) (λ d. read_more_params again)) w))
  unfolding height
  next_says again w next e = says_mapped (Pair (IsTok is_name) (λ x. AfterName)) IsParams (OkPair Fine (λ x. LowAfter)) (LowParams k) any_stop (λ p. more_params (label p.0) p.1.0 p.1.1) w
      (record {
        into = λ p u q. params_next p.0 q.0 q.3.0 q.3.1 q.2 q.3.2 q.3.3 (q.4 ∙ ap (λ z. q.0 ++ z) q.3.4);
        back = back;
        fit = λ p u q o. (let a : in_default p.1.0 ≤ k = o.1.0 in let b : in_params p.1.1 ≤ k = o.1.1 in omega arith);
        unfit = λ p u q o. (tt, (let a : max (in_default p.1.0) (in_params p.1.1) ≤ k = o in (omega arith, omega arith)));
      })
      (both (token is_name) (λ x. both (read_default inner) (λ d. read_more_params again)) w)
      (says_then is_name some_name tested.name (λ x. AfterName) (λ x. LowAfter) any_stop (λ x. low_after) (λ x. both (read_default inner) (λ d. read_more_params again)) w
      (λ x r t less. says_both IsDefault (λ d. IsMoreParams) (LowDefault k) (λ d. LowParams k) (without after_default) any_stop
      (record { follow = λ d ps v z m st. more_follows ps v z m; some = λ d u n o. low_more k; any = λ d. any_of IsMoreParams (LowParams k) (low_more k) })
      r (read_default inner r) (λ d. read_more_params again) (says_default r)
      (λ d z s. says_more_params again z (λ q shorter. next q (let long = not_longer s.u z r s.split in omega arith)))))
    where
      back : (ps : Params) (u v : Items) → first (u ++ v) ≡ first w → any_stop (first v) ≡ true → IsParams ps u
          → (p : Item × (Default × Params)) × (ps ≡ more_params (label p.0) p.1.0 p.1.1) × Pair (IsTok is_name) (λ x. AfterName) p u
      back _ u v ef st (params_end y t) = absurd (both_ways (passes closes (first w)) e (ap (passes closes) (sym ef) ∙ front_passes closes y u [] u v t (sym (append-nil u))))
      back _ u v ef st (params_next {d = d} {ps = ps} x i a b t h m s) = ((x, (d, ps)), refl, (i, a ++ b, t, (a, b, h, m, refl), s))

  says_params : (n : ℕ) (w : Items) → length w ≤ n → Says IsParams (LowParams k) any_stop w (read_params inner n w)
  unfolding read_params
  says_params zero [] short = says_nothing IsParams (LowParams k) any_stop (low_params k) no_params_here
  says_params zero (x ∷ w) short = absurd (let h : suc (length w) ≤ 0 = short in omega arith)
  says_params (suc n) w short = cond_both (passes closes (first w)) _ _ (Says IsParams (LowParams k) any_stop w) (end_says w)
      (next_says (read_params inner n) w (λ r less. says_params n r (omega arith)))

  -- ---- blocks, as pairs of assignments and result

  abbrev IsBlockOf : Props × Tree → Items → Type 0
  IsBlockOf p w = IsBlock p.0 p.1 w

  abbrev LowBlock : Props × Tree → Type 0
  LowBlock p = (in_props p.0 ≤ k) × (height p.1 ≤ k)

  abbrev AfterReturn : Tree × Item → Items → Type 0
  AfterReturn = Pair IsExpr (λ e. IsTok closes_block)

  abbrev AfterAssign : Tree × (Props × Tree) → Items → Type 0
  AfterAssign = Pair IsExpr (λ e. IsBlockOf)

  -- `0}` and `return 0}`
  low_return : Low_of AfterReturn (OkPair (Low k) (λ e. Fine))
  low_return = (a_zero ∷ sign symbol.CloseBrace ∷ [], (literal a_zero, sign symbol.CloseBrace), (a_zero ∷ [], sign symbol.CloseBrace ∷ [], zero_expr, (tested.close_brace, refl), refl), (zero_low k some, tt))

  low_block : Low_of IsBlockOf LowBlock
  unfolding height
  low_block = (
    a_word_item word.Return ∷ a_zero ∷ sign symbol.CloseBrace ∷ [],
    (no_props, literal a_zero),
    block_end (a_word_item word.Return) (sign symbol.CloseBrace) (a_word_item word.Return ∷ []) (a_zero ∷ []) (sign symbol.CloseBrace ∷ []) (tested.return, refl) zero_expr (tested.close_brace, refl) refl,
    ((let h : 0 ≤ k = omega arith in h), zero_low k some),
  )

  low_assign : Low_of AfterAssign (OkPair (Low k) (λ e. LowBlock))
  low_assign = (a_zero ∷ low_block.0, (literal a_zero, low_block.1), (a_zero ∷ [], low_block.0, zero_expr, low_block.2, refl), (zero_low k some, low_block.3))

  low_equals : Low_of (Pair (IsTok assigns) (λ y. AfterAssign)) (OkPair Fine (λ y. OkPair (Low k) (λ e. LowBlock)))
  low_equals = (sign symbol.Assign ∷ low_assign.0, (sign symbol.Assign, low_assign.1), (sign symbol.Assign ∷ [], low_assign.0, (tested.assign, refl), low_assign.2, refl), (tt, low_assign.3))

  close_begins : (x : Item) (v z : Items) → IsTok closes_block x v → passes (one_of enders) (first (v ++ z)) ≡ true
  close_begins x v z t = may_within (a_symbol symbol.CloseBrace ∷ []) enders (first (v ++ z)) refl (front_passes closes_block x v [] v z t (sym (append-nil v)))

  block_first : (lets : Props) (e : Tree) (u v : Items) → IsBlock lets e u → passes (one_of (a_word word.Return ∷ a_name ∷ [])) (first (u ++ v)) ≡ true
  block_first _ e u v (block_end x y i a j t h s q) = may_within (a_word word.Return ∷ []) (a_word word.Return ∷ a_name ∷ []) (first (u ++ v)) refl (front_passes returns x i (a ++ j) u v t q)
  block_first _ e u v (block_let x y i j a b t s h m q) = may_within (a_name ∷ []) (a_word word.Return ∷ a_name ∷ []) (first (u ++ v)) refl (front_passes is_name x i (j ++ (a ++ b)) u v t q)

  block_begins : (p : Props × Tree) (v z : Items) → IsBlockOf p v → passes (one_of enders) (first (v ++ z)) ≡ true
  block_begins p v z n = may_within (a_word word.Return ∷ a_name ∷ []) enders (first (v ++ z)) refl (block_first p.0 p.1 v z n)

  return_back : (lets : Props) (e : Tree) (u v w : Items) → passes returns (first w) ≡ true → first (u ++ v) ≡ first w → IsBlock lets e u
      → (p : Item × (Tree × Item)) × (block_of lets e ≡ block_of no_props p.1.0) × Pair (IsTok returns) (λ x. AfterReturn) p u
  return_back _ e u v w f ef (block_end x y i a j t h s q) = ((x, (e, y)), refl, (i, a ++ j, t, (a, j, h, s, refl), q))
  return_back _ e u v w f ef (block_let x y i j a b t s h m q) = absurd (may_apart (a_name ∷ []) (a_word word.Return ∷ []) (first w) refl
      (ap (passes is_name) (sym ef) ∙ front_passes is_name x i (j ++ (a ++ b)) u v t q) f)

  let_back : (lets : Props) (e : Tree) (u v w : Items) → passes returns (first w) ≡ false → first (u ++ v) ≡ first w → IsBlock lets e u
      → (p : Item × (Item × (Tree × (Props × Tree)))) × (block_of lets e ≡ block_of (more_props (label p.0) p.1.1.0 p.1.1.1.0) p.1.1.1.1)
      × Pair (IsTok is_name) (λ x. Pair (IsTok assigns) (λ y. AfterAssign)) p u
  let_back _ e u v w f ef (block_end x y i a j t h s q) = absurd (both_ways (passes returns (first w)) f (ap (passes returns) (sym ef) ∙ front_passes returns x i (a ++ j) u v t q))
  let_back _ e u v w f ef (block_let {a = c} {lets = lets} x y i j a b t s h m q) = ((x, (y, (c, (lets, e)))), refl, (i, j ++ (a ++ b), t, (j, a ++ b, s, (a, b, h, m, refl), refl), q))

  no_block : (p : Props × Tree) → IsBlockOf p [] → ⊥
  no_block p n = let h : false ≡ true = block_first p.0 p.1 [] [] n in cc

  return_says : (w : Items) → passes returns (first w) ≡ true
      → Says IsBlockOf LowBlock any_stop w (mapped (λ p. (no_props, p.1.0)) (both (token returns) (λ x. both inner (λ e. token closes_block)) w))
  unfolding height
  return_says w f = says_mapped (Pair (IsTok returns) (λ x. AfterReturn)) IsBlockOf (OkPair Fine (λ x. OkPair (Low k) (λ e. Fine))) LowBlock any_stop (λ p. (no_props, p.1.0)) w
      (record {
        into = λ p u q. block_end p.0 p.1.1 q.0 q.3.0 q.3.1 q.2 q.3.2 q.3.3 (q.4 ∙ ap (λ z. q.0 ++ z) q.3.4);
        back = λ p u v ef st n. return_back p.0 p.1 u v w f ef n;
        fit = λ p u q o. ((let h : 0 ≤ k = omega arith in h), o.1.0);
        unfit = λ p u q o. (tt, (o.1, tt));
      })
      (both (token returns) (λ x. both inner (λ e. token closes_block)) w)
      (says_then returns (a_word_item word.Return) tested.return (λ x. AfterReturn) (λ x. OkPair (Low k) (λ e. Fine)) any_stop (λ x. low_return) (λ x. both inner (λ e. token closes_block)) w
      (λ x r t less. says_ended k inner reads some any_stop (IsTok closes_block) Fine close_begins (sign symbol.CloseBrace ∷ [], sign symbol.CloseBrace, (tested.close_brace, refl), tt)
      (λ e. token closes_block) r (λ e z shorter. says_token closes_block (sign symbol.CloseBrace) tested.close_brace z)))

  let_says : (again : Items → Out (Props × Tree)) (w : Items) → ((r : Items) → length r < length w → Says IsBlockOf LowBlock any_stop r (again r)) → passes returns (first w) ≡ false
      → Says IsBlockOf LowBlock any_stop w (mapped (λ p. (more_props (label p.0) p.1.1.0 p.1.1.1.0, p.1.1.1.1)) (both (token is_name) (λ x. both (token assigns) (λ y. both inner (λ a. again))) w))
  unfolding height
  let_says again w next f = says_mapped (Pair (IsTok is_name) (λ x. Pair (IsTok assigns) (λ y. AfterAssign))) IsBlockOf (OkPair Fine (λ x. OkPair Fine (λ y. OkPair (Low k) (λ e. LowBlock)))) LowBlock any_stop
      (λ p. (more_props (label p.0) p.1.1.0 p.1.1.1.0, p.1.1.1.1)) w
      (record {
        into = λ p u q. block_let p.0 p.1.0 q.0 q.3.0 q.3.3.0 q.3.3.1 q.2 q.3.2 q.3.3.2 q.3.3.3 (q.4 ∙ ap (λ z. q.0 ++ z) (q.3.4 ∙ ap (λ z. q.3.0 ++ z) q.3.3.4));
        back = λ p u v ef st n. let_back p.0 p.1 u v w f ef n;
        fit = λ p u q o. ((let a : height p.1.1.0 ≤ k = o.1.1.0 in let b : in_props p.1.1.1.0 ≤ k = o.1.1.1.0 in omega arith), o.1.1.1.1);
        unfit = λ p u q o. (tt, (tt, (let a : max (height p.1.1.0) (in_props p.1.1.1.0) ≤ k = o.0 in (omega arith, (omega arith, o.1)))));
      })
      (both (token is_name) (λ x. both (token assigns) (λ y. both inner (λ a. again))) w)
      (says_then is_name some_name tested.name (λ x. Pair (IsTok assigns) (λ y. AfterAssign)) (λ x. OkPair Fine (λ y. OkPair (Low k) (λ e. LowBlock))) any_stop (λ x. low_equals)
      (λ x. both (token assigns) (λ y. both inner (λ a. again))) w
      (λ x r t less. says_then assigns (sign symbol.Assign) tested.assign (λ y. AfterAssign) (λ y. OkPair (Low k) (λ e. LowBlock)) any_stop (λ y. low_assign) (λ y. both inner (λ a. again)) r
      (λ y z s shorter. says_ended k inner reads some any_stop IsBlockOf LowBlock block_begins low_block (λ a. again) z
      (λ a q no_longer. next q (omega arith)))))

  says_block : (n : ℕ) (w : Items) → length w ≤ n → Says IsBlockOf LowBlock any_stop w (read_block inner n w)
  unfolding read_block
  says_block zero [] short = says_nothing IsBlockOf LowBlock any_stop low_block no_block
  says_block zero (x ∷ w) short = absurd (let h : suc (length w) ≤ 0 = short in omega arith)
  says_block (suc n) w short = cond_both (passes returns (first w)) _ _ (Says IsBlockOf LowBlock any_stop w) (return_says w)
      (let_says (read_block inner n) w (λ r less. says_block n r (omega arith)))

  -- ---- bodies

  abbrev IsBodyOf : Props × Tree → Items → Type 0
  IsBodyOf p w = IsBody p.0 p.1 w

  low_body : Low_of IsBodyOf LowBlock
  low_body = (sign symbol.OpenBrace ∷ low_block.0, low_block.1, block_body (sign symbol.OpenBrace) (sign symbol.OpenBrace ∷ []) low_block.0 (tested.open_brace, refl) low_block.2 refl, low_block.3)

  -- an expression begins where the items do
  expr_front : (e : Tree) (u v : Items) → IsExpr e u → first (u ++ v) ≡ first u
  expr_front e [] v n = absurd (let h : false ≡ true = expr_first e [] [] n in cc)
  expr_front e (x ∷ u) v n = refl

  block_body_says : (w : Items) → passes opens_block (first w) ≡ true
      → Says IsBodyOf LowBlock (stops 8) w (mapped (λ p. p.1) (both (token opens_block) (λ x r. read_block inner (length r) r) w))
  block_body_says w f = says_mapped (Pair (IsTok opens_block) (λ x. IsBlockOf)) IsBodyOf (OkPair Fine (λ x. LowBlock)) LowBlock (stops 8) (λ p. p.1) w
      (record { into = λ p u q. block_body p.0 q.0 q.1 q.2 q.3 q.4; back = λ p u v ef st n. back p.0 p.1 u v ef n; fit = λ p u q o. o.1; unfit = λ p u q o. (tt, o) })
      (both (token opens_block) (λ x r. read_block inner (length r) r) w)
      (says_then opens_block (sign symbol.OpenBrace) tested.open_brace (λ x. IsBlockOf) (λ x. LowBlock) (stops 8) (λ x. low_block) (λ x r. read_block inner (length r) r) w
      (λ x r t less. says_same IsBlockOf IsBlockOf LowBlock LowBlock any_stop (stops 8) (record { into = λ t u n. n; back = λ t u n. n; fit = λ t o. o; unfit = λ t o. o; ends = λ o h. refl })
      r (read_block inner (length r) r) (says_block (length r) r (omega arith))))
    where
      back : (lets : Props) (e : Tree) (u v : Items) → first (u ++ v) ≡ first w → IsBody lets e u → (p : Item × (Props × Tree)) × (block_of lets e ≡ p.1) × Pair (IsTok opens_block) (λ x. IsBlockOf) p u
      back lets e u v ef (block_body x i r t h s) = ((x, (lets, e)), refl, (i, r, t, h, s))
      back _ e u v ef (expr_body other h) = absurd (both_ways (passes opens_block (first u)) other (ap (passes opens_block) (sym (expr_front e u v h) ∙ ef) ∙ f))

  expr_body_says : (w : Items) → passes opens_block (first w) ≡ false → Says IsBodyOf LowBlock (stops 8) w (mapped (λ e. (no_props, e)) (inner w))
  unfolding height
  expr_body_says w f = says_placed IsExpr IsBodyOf (Low k) LowBlock (stops 8) (λ e. (no_props, e)) w
      (record {
        into = λ e u v ef n. expr_body (ap (passes opens_block) (sym (expr_front e u v n) ∙ ef) ∙ f) n;
        back = λ p u v ef st n. back p.0 p.1 u v ef n;
        fit = λ e u n o. ((let h : 0 ≤ k = omega arith in h), o);
        unfit = λ e u n o. o.1;
        some = low_body;
      })
      (inner w) (reads some w)
    where
      back : (lets : Props) (e : Tree) (u v : Items) → first (u ++ v) ≡ first w → IsBody lets e u → (a : Tree) × (block_of lets e ≡ block_of no_props a) × IsExpr a u
      back _ e u v ef (block_body x i r t h s) = absurd (both_ways (passes opens_block (first w)) f (ap (passes opens_block) (sym ef) ∙ front_passes opens_block x i r u v t s))
      back _ e u v ef (expr_body other h) = (e, refl, h)

  says_body : (w : Items) → Says IsBodyOf LowBlock (stops 8) w (read_body inner w)
  unfolding read_body
  says_body w = cond_both (passes opens_block (first w)) _ _ (Says IsBodyOf LowBlock (stops 8) w) (block_body_says w) (expr_body_says w)

  -- ---- functions

  abbrev AfterParams : Item × (Props × Tree) → Items → Type 0
  AfterParams = Pair (IsTok leads) (λ y. IsBodyOf)

  abbrev LowAfterParams : Item × (Props × Tree) → Type 0
  LowAfterParams = OkPair Fine (λ y. LowBlock)

  abbrev AfterOpen : Params × (Item × (Props × Tree)) → Items → Type 0
  AfterOpen = Pair IsParams (λ ps. AfterParams)

  abbrev LowAfterOpen : Params × (Item × (Props × Tree)) → Type 0
  LowAfterOpen = OkPair (LowParams k) (λ ps. LowAfterParams)

  low_after_params : Low_of AfterParams LowAfterParams
  low_after_params = (sign symbol.Arrow ∷ low_body.0, (sign symbol.Arrow, low_body.1), (sign symbol.Arrow ∷ [], low_body.0, (tested.arrow, refl), low_body.2, refl), (tt, low_body.3))

  low_after_open : Low_of AfterOpen LowAfterOpen
  low_after_open = ((low_params k).0 ++ low_after_params.0, ((low_params k).1, low_after_params.1), ((low_params k).0, low_after_params.0, (low_params k).2, low_after_params.2, refl), ((low_params k).3, low_after_params.3))

  abbrev a_read_function : Items → Out (Item × (Params × (Item × (Props × Tree))))
  a_read_function = both (token opens) (λ x. both (λ r. read_params inner (length r) r) (λ ps. both (token leads) (λ y. read_body inner)))

  pub function_reads : (w : Items) → Says IsFunction (Low (suc k)) (stops 8) w (mapped (λ p. tree p.0.place (fun p.1.0 p.1.1.1.0 p.1.1.1.1)) (a_read_function w))
  unfolding height
  function_reads w = says_mapped (Pair (IsTok opens) (λ x. AfterOpen)) IsFunction (OkPair Fine (λ x. LowAfterOpen)) (Low (suc k)) (stops 8) (λ p. tree p.0.place (fun p.1.0 p.1.1.1.0 p.1.1.1.1)) w
      (record {
        into = λ p u q. a_function p.0 p.1.1.0 q.0 q.3.0 q.3.3.0 q.3.3.1 q.2 q.3.2 q.3.3.2 q.3.3.3 (q.4 ∙ ap (λ z. q.0 ++ z) (q.3.4 ∙ ap (λ z. q.3.0 ++ z) q.3.3.4));
        back = λ t u v ef st n. back t u n;
        fit = λ p u q o. (let a : in_params p.1.0 ≤ k = o.1.0 in let b : in_props p.1.1.1.0 ≤ k = o.1.1.1.0 in let c : height p.1.1.1.1 ≤ k = o.1.1.1.1 in omega arith);
        unfit = λ p u q o. (let a : suc (max (in_params p.1.0) (max (in_props p.1.1.1.0) (height p.1.1.1.1))) ≤ suc k = o in (tt, (omega arith, (tt, (omega arith, omega arith)))));
      })
      (a_read_function w)
      (says_then opens (sign symbol.OpenParen) tested.open_paren (λ x. AfterOpen) (λ x. LowAfterOpen) (stops 8) (λ x. low_after_open)
      (λ x. both (λ r. read_params inner (length r) r) (λ ps. both (token leads) (λ y. read_body inner))) w
      (λ x r t less. says_both IsParams (λ ps. AfterParams) (LowParams k) (λ ps. LowAfterParams) any_stop (stops 8)
      (record { follow = λ ps b v z m st. refl; some = λ ps u n o. low_after_params; any = λ ps. any_of AfterParams LowAfterParams low_after_params })
      r (read_params inner (length r) r) (λ ps. both (token leads) (λ y. read_body inner)) (says_params (length r) r (omega arith))
      (λ ps z s. says_then leads (sign symbol.Arrow) tested.arrow (λ y. IsBodyOf) (λ y. LowBlock) (stops 8) (λ y. low_body) (λ y. read_body inner) z (λ y q h shorter. says_body q))))
    where
      back : (t : Tree) (u : Items) → IsFunction t u → (p : Item × (Params × (Item × (Props × Tree)))) × (t ≡ tree p.0.place (fun p.1.0 p.1.1.1.0 p.1.1.1.1)) × Pair (IsTok opens) (λ x. AfterOpen) p u
      back _ u (a_function {ps = ps} {lets = lets} {e = e} x y i a j b t h s m q) = ((x, (ps, (y, (lets, e)))), refl, (i, a ++ (j ++ b), t, (a, j ++ b, h, (j, b, s, m, refl), refl), q))

-- where it reads functions, and a level is there
pub says_function : (k : ℕ) (inner : Items → Out Tree) → Reads k inner → (w : Items) → 1 ≤ k → Says IsFunction (Low (suc k)) (stops 8) w (read_function k inner w)
unfolding read_function
says_function k inner reads w some = cond_both (leb 1 k) _ _ (Says IsFunction (Low (suc k)) (stops 8) w) (λ e. function_reads k inner reads some w)
    (λ e. absurd (let h = leb-false 1 k e in omega arith))

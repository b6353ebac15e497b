-- Readings of whole expressions: `if`, functions, and phrases of the line of `or`.
use Rattle.std.proofs.Common.{◌≡◌, ℕ, zero, suc, ◌≤◌, ◌<◌, Bool, true, false, List, [], ◌∷◌, ◌++◌, take, Option, Some, sym, refl, ap, ◌∙◌, subst, inl, inr, ⊎_elim, append_assoc, append-nil, arith, leb}
use Rattle.std.proofs.lemmas.Bool.{cond_both, cases_Bool, both_ways, leb-true, leb-false, not-true}
use Rattle.fx_ast.specs.Tree.{Tree, tree, paren, fun, no_props, no_params, more_params, required, Params}
use Rattle.fx_scan.specs.declared.symbols.Symbol.TheVariants as symbol
use Rattle.fx_scan.specs.declared.words.Word.TheVariants as word
use Rattle.fx_parse.specs.declared.item.Item.{Item}
use Rattle.fx_parse.specs.Items.{Items, a_name, a_head, a_symbol, a_word, literals, first, passes, one_of, label, literal, is_name, is_symbol, is_word, is_head, is_literal, prefixes}
use Rattle.fx_parse.specs.Grammar.{Link, run, IsExpr, by_choice, by_function, by_level, IsFunction, a_function, params_end, params_next, param_last, no_default, expr_body, IsLevel, at_postfix, at_prefix, at_run, links_end, a_postfix, suffixes_end, IsPrimary, a_literal, a_text, a_paren, an_array, a_record}
use Rattle.fx_ast.specs.Levels.{height}
use Rattle.fx_parse.specs.Readings.{Out, Got, Bad, mapped}
use Rattle.fx_parse.specs.ReadFunctions.{sees_function, read_function}
use Rattle.fx_parse.specs.ReadExprs.{read_whole}
use Rattle.fx_parse.proofs.phrases.Beginnings.{paren_begun}
use Rattle.fx_parse.proofs.phrases.Choices.{says_choice}
use Rattle.fx_parse.proofs.phrases.Far.{Used, says_far, used_by, used_none}
use Rattle.fx_parse.proofs.phrases.Functions.{says_function}
use Rattle.fx_parse.proofs.phrases.Primaries.{literal_low}
use Rattle.fx_parse.proofs.phrases.Runs.{run_height}
use Rattle.fx_parse.proofs.phrases.Says.{Says}
use Rattle.fx_parse.proofs.phrases.Shortest.{zero_expr}
use Rattle.fx_parse.proofs.sorts.Sight.{at, at_front, opens, closes, parts_from, assigns, leads, Seen, seen_into, seen_back, function_seen, level_shut, no_parens}
use Rattle.fx_parse.proofs.phrases.Stops.{Low, forbidden, stops, front_passes}
use Rattle.fx_parse.proofs.phrases.Suffixes.{grows, tall}
use Rattle.fx_parse.proofs.phrases.Then.{Reads, says_deep}
use Rattle.fx_parse.proofs.sorts.Toks.{sign, a_zero, may_apart, may_within, not_within}

-- ---- the same phrases where the first items tell so

same_mapped : {A : Type 0} (o : Out A) → mapped (λ x. x) o ≡ o
same_mapped (Got a r) = refl
same_mapped (Bad d r) = refl

far_within : {A : Type 0} (N N' : A → Items → Type 0) (ok : A → Type 0) (stop : Option Item → Bool) (j : ℕ) (w : Items) → ((t : A) (u : Items) → N t u → N' t u)
    → ((t : A) (u v : Items) → take (suc j) (u ++ v) ≡ take (suc j) w → stop (first v) ≡ true → N' t u → N t u) → (o : Out A) → Says N ok stop w o → Used j w o → Says N' ok stop w o
far_within N N' ok stop j w into back o s used = subst (Says N' ok stop w) (same_mapped o)
    (says_far N N' ok ok stop (λ x. x) j w (record { into = into; back = λ t u v e st n. (t, refl, back t u v e st n); fit = λ t u n f. f; unfit = λ t u n f. f }) o s used)

-- ---- shortest phrases that begin with a `(`

no_lead : (o : Option Item) → stops 8 o ≡ true → passes leads o ≡ false
no_lead o e = not_within (a_symbol symbol.Arrow ∷ []) (forbidden 8) o refl (not-true (passes (one_of (forbidden 8)) o) e)

-- ` => 0`
abbrev body : Items
body = sign symbol.Arrow ∷ a_zero ∷ []

no_brace : passes (is_symbol symbol.OpenBrace) (first (a_zero ∷ [])) ≡ false
unfolding one_of
no_brace = refl

-- `( ) => 0` and `( name ) => 0`
bare_function : (x : Item) → opens x ≡ true → IsFunction (tree x.place (fun no_params no_props (literal a_zero))) (x ∷ sign symbol.CloseParen ∷ body)
unfolding one_of
bare_function x e = a_function x (sign symbol.Arrow) (x ∷ []) (sign symbol.CloseParen ∷ []) (sign symbol.Arrow ∷ []) (a_zero ∷ []) (e, refl) (params_end (sign symbol.CloseParen) (refl, refl)) (refl, refl)
    (expr_body no_brace zero_expr) refl

abbrev named_params : Item → Params
named_params y = more_params (label y) required no_params

named_function : (x y z : Item) → opens x ≡ true → is_name y ≡ true → closes z ≡ true → IsFunction (tree x.place (fun (named_params y) no_props (literal a_zero))) (x ∷ y ∷ z ∷ body)
unfolding one_of
named_function x y z e f g = a_function x (sign symbol.Arrow) (x ∷ []) (y ∷ z ∷ []) (sign symbol.Arrow ∷ []) (a_zero ∷ []) (e, refl)
    (params_next y (y ∷ []) [] (z ∷ []) (f, refl) no_default (param_last z (g, refl)) refl) (refl, refl) (expr_body no_brace zero_expr) refl

close_passes : closes (sign symbol.CloseParen) ≡ true
unfolding one_of
close_passes = refl

pub level_of : (t : Tree) (w : Items) (m : ℕ) → IsPrimary t w → IsLevel m t w
level_of t w zero p = at_postfix (a_postfix w [] p (suffixes_end refl) (sym (append-nil w)))
level_of t w (suc m) p = at_run w [] (level_of t w m p) links_end (sym (append-nil w))

-- `( 0 )` and `( name )`
paren_zero : (x : Item) → opens x ≡ true → IsLevel 8 (tree x.place (paren (literal a_zero))) (x ∷ a_zero ∷ sign symbol.CloseParen ∷ [])
paren_zero x e = level_of _ _ 8 (a_paren x (sign symbol.CloseParen) (x ∷ []) (a_zero ∷ []) (sign symbol.CloseParen ∷ []) (e, refl) zero_expr (close_passes, refl) refl)

pub name_literal : (y : Item) → is_name y ≡ true → is_literal y ≡ true
name_literal y e = may_within (a_name ∷ []) literals (Some y) refl e

paren_name : (x y z : Item) → opens x ≡ true → is_name y ≡ true → closes z ≡ true → IsLevel 8 (tree x.place (paren (literal y))) (x ∷ y ∷ z ∷ [])
paren_name x y z e f g = level_of _ _ 8 (a_paren x z (x ∷ []) (y ∷ []) (z ∷ []) (e, refl) (by_level (level_of _ _ 8 (a_literal y (name_literal y f, refl)))) (g, refl) refl)

-- ---- how far a reading gets

module _ (k : ℕ) (N : Tree → Items → Type 0) where
  abbrev Fitting : Items → Type 0
  Fitting p = (q : Items) × (t : Tree) × N t (p ++ q) × Low (suc k) t

  used_one : ((x : Item) → opens x ≡ true → Fitting (x ∷ [])) → (w : Items) (o : Out Tree) → Says N (Low (suc k)) (stops 8) w o → passes opens (at 0 w) ≡ true → Used 1 w o
  used_one fit [] o s e = absurd (let h : false ≡ true = e in cc)
  used_one fit (x ∷ w) o s e = let f = fit x e in used_by N (Low (suc k)) (stops 8) refl (x ∷ []) w f.0 f.1 f.2 f.3 o s

  used_two : ((x y : Item) → opens x ≡ true → is_name y ≡ true → Fitting (x ∷ y ∷ [])) → (w : Items) (o : Out Tree) → Says N (Low (suc k)) (stops 8) w o
      → passes opens (at 0 w) ≡ true → passes is_name (at 1 w) ≡ true → Used 2 w o
  used_two fit [] o s e g = absurd (let h : false ≡ true = e in cc)
  used_two fit (x ∷ []) o s e g = absurd (let h : false ≡ true = g in cc)
  used_two fit (x ∷ y ∷ w) o s e g = let f = fit x y e g in used_by N (Low (suc k)) (stops 8) refl (x ∷ y ∷ []) w f.0 f.1 f.2 f.3 o s

  used_three : ((x y z : Item) → opens x ≡ true → is_name y ≡ true → closes z ≡ true → Fitting (x ∷ y ∷ z ∷ [])) → (w : Items) (o : Out Tree) → Says N (Low (suc k)) (stops 8) w o
      → passes opens (at 0 w) ≡ true → passes is_name (at 1 w) ≡ true → passes closes (at 2 w) ≡ true → Used 3 w o
  used_three fit [] o s e g c = absurd (let h : false ≡ true = e in cc)
  used_three fit (x ∷ []) o s e g c = absurd (let h : false ≡ true = g in cc)
  used_three fit (x ∷ y ∷ []) o s e g c = absurd (let h : false ≡ true = c in cc)
  used_three fit (x ∷ y ∷ z ∷ w) o s e g c = let f = fit x y z e g c in used_by N (Low (suc k)) (stops 8) refl (x ∷ y ∷ z ∷ []) w f.0 f.1 f.2 f.3 o s

-- what stands in the places that the sight looks at tells
seen_move : (s w : Items) → at 0 s ≡ at 0 w → at 1 s ≡ at 1 w → at 2 s ≡ at 2 w → at 3 s ≡ at 3 w → Seen s → Seen w
seen_move s w a b c d seen = (
  ap (passes opens) (sym a) ∙ seen.0,
  ⊎_elim (λ h. inl (ap (passes closes) (sym b) ∙ h))
      (λ h. inr (
        ap (passes is_name) (sym b) ∙ h.0,
        ⊎_elim (λ g. inl (ap (passes parts_from) (sym c) ∙ g))
            (λ g. inr (⊎_elim (λ f. inl (ap (passes assigns) (sym c) ∙ f)) (λ f. inr (ap (passes closes) (sym c) ∙ f.0, ap (passes leads) (sym d) ∙ f.1)) g)) h.1,
      )) seen.1,
)

module _ (k : ℕ) (some : 1 ≤ k) where
  bare_fitting : (x : Item) → opens x ≡ true → Fitting k IsFunction (x ∷ [])
  unfolding height
  bare_fitting x e = (sign symbol.CloseParen ∷ body, _, bare_function x e, (let h = literal_low 0 a_zero in omega arith))

  named_fitting : (x y : Item) → opens x ≡ true → is_name y ≡ true → Fitting k IsFunction (x ∷ y ∷ [])
  unfolding height
  named_fitting x y e f = (sign symbol.CloseParen ∷ body, _, named_function x y (sign symbol.CloseParen) e f close_passes, (let h = literal_low 0 a_zero in omega arith))

  closed_fitting : (x y z : Item) → opens x ≡ true → is_name y ≡ true → closes z ≡ true → Fitting k IsFunction (x ∷ y ∷ z ∷ [])
  unfolding height
  closed_fitting x y z e f g = (body, _, named_function x y z e f g, (let h = literal_low 0 a_zero in omega arith))

  zero_fitting : (x : Item) → opens x ≡ true → Fitting k (IsLevel 8) (x ∷ [])
  unfolding height
  zero_fitting x e = (a_zero ∷ sign symbol.CloseParen ∷ [], _, paren_zero x e, (let h = literal_low 0 a_zero in omega arith))

  name_fitting : (x y : Item) → opens x ≡ true → is_name y ≡ true → Fitting k (IsLevel 8) (x ∷ y ∷ [])
  unfolding height
  name_fitting x y e f = (sign symbol.CloseParen ∷ [], _, paren_name x y (sign symbol.CloseParen) e f close_passes, (let h = literal_low 0 y in omega arith))

  shut_fitting : (x y z : Item) → opens x ≡ true → is_name y ≡ true → closes z ≡ true → Fitting k (IsLevel 8) (x ∷ y ∷ z ∷ [])
  unfolding height
  shut_fitting x y z e f g = ([], _, paren_name x y z e f g, (let h = literal_low 0 y in omega arith))

-- ---- which whole expressions begin so

-- an `if` doesn't begin with what opens
choice_opens : (o : Option Item) → passes (is_word word.If) o ≡ true → passes opens o ≡ true → ⊥
choice_opens o e f = may_apart (a_word word.If ∷ []) (a_symbol symbol.OpenParen ∷ []) o refl e f

-- what is seen as a function is one
function_only : (j : ℕ) (w : Items) → passes opens (at 0 w) ≡ true → ((s : Items) → take (suc j) s ≡ take (suc j) w → Seen s)
    → (t : Tree) (u v : Items) → take (suc j) (u ++ v) ≡ take (suc j) w → stops 8 (first v) ≡ true → IsExpr t u → IsFunction t u
function_only j w e seen _ u v ef st (by_choice x y z i a l b m c t p s q r n eq) = absurd (choice_opens (at 0 w)
    (ap (passes (is_word word.If)) (sym (at_front 0 j (u ++ v) w (omega arith) ef)) ∙ front_passes (is_word word.If) x i (a ++ (l ++ (b ++ (m ++ c)))) u v t eq) e)
function_only j w e seen t u v ef st (by_function h) = h
function_only j w e seen t u v ef st (by_level h) = absurd (level_shut 8 t u v h (no_lead (first v) st) (seen (u ++ v) ef))

-- and what isn't is none
level_only : (j : ℕ) (w : Items) → passes (is_word word.If) (at 0 w) ≡ false → ((s : Items) → take (suc j) s ≡ take (suc j) w → Seen s → ⊥)
    → (t : Tree) (u v : Items) → take (suc j) (u ++ v) ≡ take (suc j) w → stops 8 (first v) ≡ true → IsExpr t u → IsLevel 8 t u
level_only j w e unseen _ u v ef st (by_choice x y z i a l b m c t p s q r n eq) = absurd (both_ways (passes (is_word word.If) (at 0 w)) e
    (ap (passes (is_word word.If)) (sym (at_front 0 j (u ++ v) w (omega arith) ef)) ∙ front_passes (is_word word.If) x i (a ++ (l ++ (b ++ (m ++ c)))) u v t eq))
level_only j w e unseen t u v ef st (by_function h) = absurd (unseen (u ++ v) ef (function_seen t u v h))
level_only j w e unseen t u v ef st (by_level h) = h

module _ (k : ℕ) (inner : Items → Out Tree) (reads : Reads k inner) where
  abbrev Told : Items → Out Tree → Type 0
  Told w o = Says IsExpr (Low (suc k)) (stops 8) w o

  -- ---- functions

  told_function : 1 ≤ k → (j : ℕ) (w : Items) → passes opens (at 0 w) ≡ true → ((s : Items) → take (suc j) s ≡ take (suc j) w → Seen s)
      → (Says IsFunction (Low (suc k)) (stops 8) w (read_function k inner w) → Used j w (read_function k inner w)) → Told w (read_function k inner w)
  told_function some j w e seen used =
      let s = says_function k inner reads w some in
      far_within IsFunction IsExpr (Low (suc k)) (stops 8) j w (λ t u n. by_function n) (function_only j w e seen) (read_function k inner w) s (used s)

  seen_says : 1 ≤ k → (w : Items) → Seen w → Told w (read_function k inner w)
  seen_says some w (e, inl c) = told_function some 1 w e
      (λ s ef. (ap (passes opens) (at_front 0 1 s w (omega arith) ef) ∙ e, inl (ap (passes closes) (at_front 1 1 s w (omega arith) ef) ∙ c)))
      (λ z. used_one k IsFunction (bare_fitting k some) w (read_function k inner w) z e)
  seen_says some w (e, inr (n, inl c)) = told_function some 2 w e
      (λ s ef. (ap (passes opens) (at_front 0 2 s w (omega arith) ef) ∙ e, inr (ap (passes is_name) (at_front 1 2 s w (omega arith) ef) ∙ n, inl (ap (passes parts_from) (at_front 2 2 s w (omega arith) ef) ∙ c))))
      (λ z. used_two k IsFunction (named_fitting k some) w (read_function k inner w) z e n)
  seen_says some w (e, inr (n, inr (inl c))) = told_function some 2 w e
      (λ s ef. (ap (passes opens) (at_front 0 2 s w (omega arith) ef) ∙ e, inr (ap (passes is_name) (at_front 1 2 s w (omega arith) ef) ∙ n, inr (inl (ap (passes assigns) (at_front 2 2 s w (omega arith) ef) ∙ c)))))
      (λ z. used_two k IsFunction (named_fitting k some) w (read_function k inner w) z e n)
  seen_says some w (e, inr (n, inr (inr c))) = told_function some 3 w e
      (λ s ef. seen_move w s (sym (at_front 0 3 s w (omega arith) ef)) (sym (at_front 1 3 s w (omega arith) ef)) (sym (at_front 2 3 s w (omega arith) ef)) (sym (at_front 3 3 s w (omega arith) ef)) (e, inr (n, inr (inr c))))
      (λ z. used_three k IsFunction (closed_fitting k some) w (read_function k inner w) z e n c.0)

  -- ---- phrases of the line of `or`

  module _ (layer : Items → Out Tree) (layer_says : (w : Items) → Says (IsLevel 8) (Low (suc k)) (stops 8) w (layer w)) where
    told_level : (j : ℕ) (w : Items) → passes (is_word word.If) (at 0 w) ≡ false → ((s : Items) → take (suc j) s ≡ take (suc j) w → Seen s → ⊥) → Used j w (layer w) → Told w (layer w)
    told_level j w e unseen used = far_within (IsLevel 8) IsExpr (Low (suc k)) (stops 8) j w (λ t u n. by_level n) (level_only j w e unseen) (layer w) (layer_says w) used

    -- where no `(` stands first
    plain_says : (w : Items) → passes (is_word word.If) (at 0 w) ≡ false → passes opens (at 0 w) ≡ false → Told w (layer w)
    plain_says w e no_open = told_level 0 w e (λ s ef seen. both_ways (passes opens (at 0 w)) no_open (ap (passes opens) (sym (at_front 0 0 s w (omega arith) ef)) ∙ seen.0))
        (used_none (IsLevel 8) (Low (suc k)) (stops 8) w (layer w) (layer_says w))

    -- where one does, and no function
    open_says : 1 ≤ k → (w : Items) → passes (is_word word.If) (at 0 w) ≡ false → passes opens (at 0 w) ≡ true → (Seen w → ⊥) → Told w (layer w)
    open_says some w e o unseen = elim (cases_Bool (passes is_name (at 1 w))) [
      | inr n ↦ told_level 1 w e
          (λ s ef seen. ⊎_elim (λ c. unseen (o, inl (ap (passes closes) (sym (at_front 1 1 s w (omega arith) ef)) ∙ c)))
          (λ g. both_ways (passes is_name (at 1 w)) n (ap (passes is_name) (sym (at_front 1 1 s w (omega arith) ef)) ∙ g.0)) seen.1)
          (used_one k (IsLevel 8) (zero_fitting k some) w (layer w) (layer_says w) o)
      | inl n ↦ elim (cases_Bool (passes closes (at 2 w))) [
        | inl c ↦ told_level 3 w e
            (λ s ef seen. unseen (seen_move s w (at_front 0 3 s w (omega arith) ef) (at_front 1 3 s w (omega arith) ef) (at_front 2 3 s w (omega arith) ef) (at_front 3 3 s w (omega arith) ef) seen))
            (used_three k (IsLevel 8) (shut_fitting k some) w (layer w) (layer_says w) o n c)
        | inr c ↦ told_level 2 w e
            (λ s ef seen. ⊎_elim (λ g. unseen (o, inl (ap (passes closes) (sym (at_front 1 2 s w (omega arith) ef)) ∙ g)))
            (λ g. ⊎_elim (λ h. unseen (o, inr (n, inl (ap (passes parts_from) (sym (at_front 2 2 s w (omega arith) ef)) ∙ h))))
            (λ h. ⊎_elim (λ f. unseen (o, inr (n, inr (inl (ap (passes assigns) (sym (at_front 2 2 s w (omega arith) ef)) ∙ f)))))
            (λ f. both_ways (passes closes (at 2 w)) c (ap (passes closes) (sym (at_front 2 2 s w (omega arith) ef)) ∙ f.0)) h) g.1) seen.1)
            (used_two k (IsLevel 8) (name_fitting k some) w (layer w) (layer_says w) o n)
      ]
    ]

-- ---- at the last level: what begins with a `(` has two levels at least

primary_tall : (t : Tree) (u v : Items) → IsPrimary t u → passes opens (first (u ++ v)) ≡ true → 2 ≤ height t
unfolding height
primary_tall _ u v (a_literal x t) e = absurd (may_apart literals (a_symbol symbol.OpenParen ∷ []) (first (u ++ v)) refl (front_passes is_literal x u [] u v t (sym (append-nil u))) e)
primary_tall _ u v (a_text x i r t h q) e = absurd (may_apart (a_head ∷ []) (a_symbol symbol.OpenParen ∷ []) (first (u ++ v)) refl (front_passes is_head x i r u v t q) e)
primary_tall _ u v (a_paren {e = a} x y i r j t h c q) e = let g = tall a in omega arith
primary_tall _ u v (an_array x i r t h q) e = absurd (may_apart (a_symbol symbol.OpenBracket ∷ []) (a_symbol symbol.OpenParen ∷ []) (first (u ++ v)) refl (front_passes (is_symbol symbol.OpenBracket) x i r u v t q) e)
primary_tall _ u v (a_record x i r t h q) e = absurd (may_apart (a_symbol symbol.OpenBrace ∷ []) (a_symbol symbol.OpenParen ∷ []) (first (u ++ v)) refl (front_passes (is_symbol symbol.OpenBrace) x i r u v t q) e)

run_tall : (m : ℕ) (p : _) (t : Tree) (xs : List Link) → 2 ≤ height t → 2 ≤ height (run (suc m) p t xs)
run_tall m p t [] h = h
run_tall m p t (x ∷ xs) h = let g = run_height m p t x xs in omega arith

front_opens : (u a b v : Items) → u ≡ a ++ b → passes opens (first (u ++ v)) ≡ true → passes opens (first (a ++ (b ++ v))) ≡ true
front_opens u a b v q e = ap (λ z. passes opens (first z)) (sym (ap (λ z. z ++ v) q ∙ append_assoc a b v)) ∙ e

level_tall : (m : ℕ) (t : Tree) (u v : Items) → IsLevel m t u → passes opens (first (u ++ v)) ≡ true → 2 ≤ height t
level_tall _ t u v (at_postfix (a_postfix {s = s} a b p r q)) e =
    let h = primary_tall s a (b ++ v) p (front_opens u a b v q e) in
    let g = grows false _ s t b r in
    omega arith
level_tall _ _ u v (at_prefix {m = m} x i r t h q) e = absurd (may_apart (prefixes (suc m)) (a_symbol symbol.OpenParen ∷ []) (first (u ++ v)) (no_parens (suc m)) (front_passes (one_of (prefixes (suc m))) x i r u v t q) e)
level_tall _ _ u v (at_run {m = m} {t = t} {xs = xs} a b h r q) e = run_tall m _ t xs (level_tall m t a (b ++ v) h (front_opens u a b v q e))

function_tall : (t : Tree) (u : Items) → IsFunction t u → 2 ≤ height t
unfolding height
function_tall _ u (a_function {e = a} x y i r j b t h s m q) = let g = tall a in omega arith

expr_tall : (t : Tree) (u v : Items) → passes opens (first (u ++ v)) ≡ true → IsExpr t u → 2 ≤ height t
expr_tall _ u v e (by_choice x y z i a l b m c t p s q r n eq) = absurd (choice_opens (first (u ++ v)) (front_passes (is_word word.If) x i (a ++ (l ++ (b ++ (m ++ c)))) u v t eq) e)
expr_tall t u v e (by_function h) = function_tall t u h
expr_tall t u v e (by_level h) = level_tall 8 t u v h e

abbrev refusing : Bool → Items → Out Tree
refusing deep r = Bad deep r

module _ (k : ℕ) (last : leb 1 k ≡ false) where
  no_more : (t : Tree) → 2 ≤ height t → Low (suc k) t → ⊥
  no_more t h o = let g : k < 1 = leb-false 1 k last in omega arith

  bare_says : (w : Items) → passes opens (first w) ≡ true → Says IsExpr (Low (suc k)) (stops 8) w (Bad true w)
  bare_says w e = says_deep IsExpr (Low (suc k)) (stops 8) (a_zero ∷ [], literal a_zero, zero_expr, literal_low k a_zero) opens
      (λ x h. (let b = paren_begun x h in (b.0, b.1, by_level (level_of b.1 (x ∷ b.0) 8 b.2)))) (λ t u v h n o. no_more t (expr_tall t u v h n) o) w e

  -- and a reading of phrases refuses it
  refused : (x : Item) (z : Items) → opens x ≡ true → (o : Out Tree) → Says (IsLevel 8) (Low (suc k)) (stops 8) (x ∷ z) o → o ≡ Bad true (x ∷ z)
  refused x z e (Got t r) s = absurd (no_more t (level_tall 8 t s.u r s.phrase (ap (λ y. passes opens (first y)) (sym s.split) ∙ e)) s.fits)
  refused x z e (Bad d r) s = at_once d s.u s.split s.begun.0 s.begun.1 s.begun.2 s.begun.3
      (λ none same. s.no_other (x ∷ a_zero ∷ sign symbol.CloseParen ∷ []) [] (x ∷ a_zero ∷ sign symbol.CloseParen ∷ []) _ (ap first same) refl (paren_zero x e) (ap (λ y. y ++ (x ∷ a_zero ∷ sign symbol.CloseParen ∷ [])) (sym none)))
    where
      at_once : (d : Bool) (u : Items) → x ∷ z ≡ u ++ r → (c : Items) (t : Tree) → IsLevel 8 t (u ++ c) → Low (suc k) t
          → (u ≡ [] → x ∷ z ≡ r → (d ≡ true → Low (suc k) (tree x.place (paren (literal a_zero)))) → ⊥) → refusing d r ≡ refusing true (x ∷ z)
      at_once true [] q c t n o f = ap (refusing true) (sym q)
      at_once false [] q c t n o f = absurd (f refl q (λ h. absurd (let g : false ≡ true = h in cc)))
      at_once d (y ∷ u) q c t n o f = absurd (no_more t (level_tall 8 t (y ∷ (u ++ c)) [] n (let h : x ∷ z ≡ y ∷ (u ++ r) = q in let g : x ≡ y = cc in ap opens (sym g) ∙ e)) o)

no_function : (k : ℕ) (inner : Items → Out Tree) (w : Items) → leb 1 k ≡ false → read_function k inner w ≡ Bad true w
unfolding read_function
no_function k inner w last = rw last refl

pub whole_says : (k : ℕ) (inner layer : Items → Out Tree) → Reads k inner → ((w : Items) → Says (IsLevel 8) (Low (suc k)) (stops 8) w (layer w)) → (w : Items)
    → Says IsExpr (Low (suc k)) (stops 8) w (read_whole k inner layer w)
unfolding read_whole
whole_says k inner layer reads layer_says w =
    let P : Out Tree → Type 0 = Says IsExpr (Low (suc k)) (stops 8) w in
    cond_both (passes (is_word word.If) (first w)) _ _ P (says_choice k inner reads w)
    (λ e. cond_both (sees_function w) _ _ P (function_case w) (λ f. level_case w e (λ seen. both_ways (sees_function w) f (seen_into w seen))))
  where
    function_case : (w : Items) → sees_function w ≡ true → Says IsExpr (Low (suc k)) (stops 8) w (read_function k inner w)
    function_case w f = elim (cases_Bool (leb 1 k)) [
      | inl some ↦ seen_says k inner reads (leb-true 1 k some) w (seen_back w f)
      | inr last ↦ subst (Says IsExpr (Low (suc k)) (stops 8) w) (sym (no_function k inner w last)) (bare_says k last w (seen_back w f).0)
    ]

    level_open : (w : Items) → passes (is_word word.If) (first w) ≡ false → (Seen w → ⊥) → passes opens (first w) ≡ true → Says IsExpr (Low (suc k)) (stops 8) w (layer w)
    level_open [] e unseen o = absurd (let h : false ≡ true = o in cc)
    level_open (x ∷ z) e unseen o = elim (cases_Bool (leb 1 k)) [
      | inl some ↦ open_says k inner reads layer layer_says (leb-true 1 k some) (x ∷ z) e o unseen
      | inr last ↦ subst (Says IsExpr (Low (suc k)) (stops 8) (x ∷ z)) (sym (refused k last x z o (layer (x ∷ z)) (layer_says (x ∷ z)))) (bare_says k last (x ∷ z) o)
    ]

    level_case : (w : Items) → passes (is_word word.If) (first w) ≡ false → (Seen w → ⊥) → Says IsExpr (Low (suc k)) (stops 8) w (layer w)
    level_case w e unseen = elim (cases_Bool (passes opens (first w))) [
      | inl o ↦ level_open w e unseen o
      | inr o ↦ plain_says k inner reads layer layer_says w e o
    ]

-- What the first items tell: whether a function begins, and whether a name stands alone.
use Rattle.std.proofs.Common.{◌≡◌, ℕ, zero, suc, ◌≤◌, ◌&&◌, ◌||◌, Bool, true, false, List, [], ◌∷◌, ◌++◌, take, drop, Option, sym, refl, ap, ◌∙◌, subst, ◌⊎◌, inl, inr, ⊎_elim, append_assoc, append-nil, arith}
use Rattle.std.proofs.lemmas.Bool.{both_ways, and_parts, and_from, or_cases, or_left, or_right}
use Rattle.fx_base.specs.declared.place.Place.{Place}
use Rattle.fx_ast.specs.Tree.{Tree, Params, Default}
use Rattle.fx_scan.specs.declared.symbols.Symbol.TheVariants as symbol
use Rattle.fx_scan.specs.declared.words.Word.TheVariants as word
use Rattle.fx_parse.specs.declared.item.Item.{Item}
use Rattle.fx_parse.specs.Items.{Items, Sort, a_name, a_head, a_symbol, a_word, literals, first, passes, one_of, is_name, is_symbol, is_word, is_head, is_literal, prefixes, operators}
use Rattle.fx_parse.specs.Grammar.{IsTok, Link, IsExpr, by_choice, by_function, by_level, IsFunction, a_function, IsParams, params_end, params_next, IsMoreParams, param_last, param_comma, IsDefault, no_default, pipe_default, value_default, IsLevel, at_postfix, at_prefix, at_run, IsLinks, links_end, links_next, a_postfix, IsSuffixes, suffixes_end, suffixes_next, IsPrimary, a_literal, a_text, a_paren, an_array, a_record}
use Rattle.fx_parse.specs.ReadPrimary.{starters}
use Rattle.fx_parse.specs.ReadRuns.{suffix_starters}
use Rattle.fx_parse.specs.ReadFunctions.{sees, sees_function}
use Rattle.fx_parse.proofs.phrases.Beginnings.{expr_first}
use Rattle.fx_parse.proofs.phrases.Stops.{front_passes}
use Rattle.fx_parse.proofs.phrases.Suffixes.{suffix_first}
use Rattle.fx_parse.proofs.sorts.Toks.{disjoint, may_apart, may_within, may_not}

-- ---- the item so many places ahead

abbrev pub at : ℕ → Items → Option Item
at i w = first (drop i w)

pub at_front : (i j : ℕ) (s w : Items) → i ≤ j → take (suc j) s ≡ take (suc j) w → at i s ≡ at i w
at_front i j s w le e = sym (at_taken i j s le) ∙ ap (at i) e ∙ at_taken i j w le
  where
    at_taken : (i j : ℕ) (s : Items) → i ≤ j → at i (take (suc j) s) ≡ at i s
    at_taken zero j [] le = refl
    at_taken zero j (x ∷ s) le = refl
    at_taken (suc i) j [] le = refl
    at_taken (suc i) zero (x ∷ s) le = absurd (let h : suc i ≤ 0 = le in omega arith)
    at_taken (suc i) (suc j) (x ∷ s) le = at_taken i j s (let h : suc i ≤ suc j = le in omega arith)

-- behind a first token
pub behind : (test : Item → Bool) (x : Item) (i r u v : Items) → IsTok test x i → u ≡ i ++ r → drop 1 (u ++ v) ≡ r ++ v
behind test x i r u v t e = ap (λ z. drop 1 (z ++ v)) (e ∙ ap (λ z. z ++ r) t.1)

drop_none : (i : ℕ) → drop {A = Item} i [] ≡ []
drop_none zero = refl
drop_none (suc i) = refl

drop_more : (i : ℕ) (s : Items) → drop (suc i) s ≡ drop i (drop 1 s)
drop_more i [] = sym (drop_none i)
drop_more i (x ∷ s) = refl

-- the place after a first token
at_behind : (j : ℕ) (test : Item → Bool) (x : Item) (i r u v : Items) → IsTok test x i → u ≡ i ++ r → at (suc j) (u ++ v) ≡ at j (r ++ v)
at_behind j test x i r u v t e = ap first (drop_more j (u ++ v)) ∙ ap (at j) (behind test x i r u v t e)

-- ---- suffixes and links

-- after a phrase of a line stands none of what goes on with it, so that what is empty is empty
suffixes_none : (b : Bool) (p : _) (s t : Tree) (u v : Items) → passes (one_of suffix_starters) (first (u ++ v)) ≡ false → IsSuffixes b p s t u → u ≡ []
suffixes_none b p s _ u v e (suffixes_end f) = refl
suffixes_none b p s t u v e (suffixes_next x a c h m q) = absurd (both_ways (passes (one_of suffix_starters) (first (u ++ v))) e
    (ap (λ z. passes (one_of suffix_starters) (first (z ++ v))) q ∙ (ap (λ z. passes (one_of suffix_starters) (first z)) (append_assoc a c v) ∙ suffix_first x a (c ++ v) h)))

links_none : (m : ℕ) (xs : List Link) (u v : Items) → passes (one_of (operators (suc m))) (first (u ++ v)) ≡ false → IsLinks m xs u → u ≡ []
links_none m _ u v e links_end = refl
links_none m _ u v e (links_next x i a b t h r q) = absurd (both_ways (passes (one_of (operators (suc m))) (first (u ++ v))) e (front_passes (one_of (operators (suc m))) x i (a ++ b) u v t q))

-- ---- a name that stands alone

-- what shows that a name is the whole phrase: `)`, `,` or `=`
abbrev pub shutters : List Sort
shutters = a_symbol symbol.CloseParen ∷ a_symbol symbol.Comma ∷ a_symbol symbol.Assign ∷ []

operators_apart : (m : ℕ) → disjoint shutters (operators m) ≡ true
operators_apart zero = refl
operators_apart (suc zero) = refl
operators_apart (suc (suc zero)) = refl
operators_apart (suc (suc (suc zero))) = refl
operators_apart (suc (suc (suc (suc zero)))) = refl
operators_apart (suc (suc (suc (suc (suc zero))))) = refl
operators_apart (suc (suc (suc (suc (suc (suc zero)))))) = refl
operators_apart (suc (suc (suc (suc (suc (suc (suc zero))))))) = refl
operators_apart (suc (suc (suc (suc (suc (suc (suc (suc zero)))))))) = refl
operators_apart (suc (suc (suc (suc (suc (suc (suc (suc (suc m))))))))) = refl

prefixes_named : (m : ℕ) → disjoint (a_name ∷ []) (prefixes m) ≡ true
prefixes_named zero = refl
prefixes_named (suc zero) = refl
prefixes_named (suc (suc zero)) = refl
prefixes_named (suc (suc (suc zero))) = refl
prefixes_named (suc (suc (suc (suc zero)))) = refl
prefixes_named (suc (suc (suc (suc (suc zero))))) = refl
prefixes_named (suc (suc (suc (suc (suc (suc zero)))))) = refl
prefixes_named (suc (suc (suc (suc (suc (suc (suc m))))))) = refl

-- one item, and then what shuts
abbrev pub Alone : Items → Type 0
Alone u = (x : Item) × (u ≡ x ∷ [])

regroup : (test : Option Item → Bool) (i : ℕ) (w u v z : Items) → w ≡ u ++ v → test (at i (w ++ z)) ≡ true → test (at i (u ++ (v ++ z))) ≡ true
regroup test i w u v z e h = ap (λ s. test (at i s)) (sym (append_assoc u v z) ∙ ap (λ s. s ++ z) (sym e)) ∙ h

primary_name : (t : Tree) (u z : Items) → passes is_name (at 0 (u ++ z)) ≡ true → IsPrimary t u → Alone u
primary_name _ u z e (a_literal x t) = (x, t.1)
primary_name _ u z e (a_text x i r t h s) = absurd (may_apart (a_head ∷ []) (a_name ∷ []) (first (u ++ z)) refl (front_passes is_head x i r u z t s) e)
primary_name _ u z e (a_paren x y i r j t h c s) = absurd (may_apart (a_symbol symbol.OpenParen ∷ []) (a_name ∷ []) (first (u ++ z)) refl (front_passes (is_symbol symbol.OpenParen) x i (r ++ j) u z t s) e)
primary_name _ u z e (an_array x i r t h s) = absurd (may_apart (a_symbol symbol.OpenBracket ∷ []) (a_name ∷ []) (first (u ++ z)) refl (front_passes (is_symbol symbol.OpenBracket) x i r u z t s) e)
primary_name _ u z e (a_record x i r t h s) = absurd (may_apart (a_symbol symbol.OpenBrace ∷ []) (a_name ∷ []) (first (u ++ z)) refl (front_passes (is_symbol symbol.OpenBrace) x i r u z t s) e)

-- after one item alone
pub second_of : (u v : Items) → Alone u → at 1 (u ++ v) ≡ first v
second_of u v a = ap (λ s. at 1 (s ++ v)) a.1

alone_join : (w u v : Items) → w ≡ u ++ v → v ≡ [] → Alone u → Alone w
alone_join w u v e none a = (a.0, e ∙ ap (λ s. u ++ s) none ∙ append-nil u ∙ a.1)

level_name : (m : ℕ) (t : Tree) (u z : Items) → passes is_name (at 0 (u ++ z)) ≡ true → passes (one_of shutters) (at 1 (u ++ z)) ≡ true → IsLevel m t u → Alone u
level_name _ t u z e f (at_postfix (a_postfix {s = s} a b p q eq)) =
    let one = primary_name s a (b ++ z) (regroup (passes is_name) 0 u a b z eq e) p in
    let next = sym (ap (passes (one_of shutters)) (second_of a (b ++ z) one)) ∙ regroup (passes (one_of shutters)) 1 u a b z eq f in
    alone_join u a b eq (suffixes_none false _ s t b z (may_not shutters suffix_starters (first (b ++ z)) refl next) q) one
level_name _ _ u z e f (at_prefix {m = m} x i r t h s) = absurd (may_apart (a_name ∷ []) (prefixes (suc m)) (first (u ++ z)) (prefixes_named (suc m)) e (front_passes (one_of (prefixes (suc m))) x i r u z t s))
level_name _ _ u z e f (at_run {m = m} {t = t} {xs = xs} a b h q eq) =
    let one = level_name m t a (b ++ z) (regroup (passes is_name) 0 u a b z eq e) (regroup (passes (one_of shutters)) 1 u a b z eq f) h in
    let next = sym (ap (passes (one_of shutters)) (second_of a (b ++ z) one)) ∙ regroup (passes (one_of shutters)) 1 u a b z eq f in
    alone_join u a b eq (links_none m xs b z (may_not shutters (operators (suc m)) (first (b ++ z)) (operators_apart (suc m)) next) q) one

-- an expression that begins with a name and is shut after it is that name
pub expr_name : (t : Tree) (u z : Items) → passes is_name (at 0 (u ++ z)) ≡ true → passes (one_of shutters) (at 1 (u ++ z)) ≡ true → IsExpr t u → Alone u
expr_name _ u z e f (by_choice x y zz i a j b k c t p s q r n eq) = absurd (may_apart (a_word word.If ∷ []) (a_name ∷ []) (first (u ++ z)) refl (front_passes (is_word word.If) x i (a ++ (j ++ (b ++ (k ++ c)))) u z t eq) e)
expr_name _ u z e f (by_function (a_function x y i a j b t p s q eq)) = absurd (may_apart (a_symbol symbol.OpenParen ∷ []) (a_name ∷ []) (first (u ++ z)) refl (front_passes (is_symbol symbol.OpenParen) x i (a ++ (j ++ b)) u z t eq) e)
expr_name t u z e f (by_level h) = level_name 8 t u z e f h

-- ---- what begins a function

abbrev pub opens : Item → Bool
opens = is_symbol symbol.OpenParen

abbrev pub closes : Item → Bool
closes = is_symbol symbol.CloseParen

abbrev pub parts_from : Item → Bool
parts_from = is_symbol symbol.Comma

abbrev pub assigns : Item → Bool
assigns = is_symbol symbol.Assign

abbrev pub leads : Item → Bool
leads = is_symbol symbol.Arrow

-- after `( name`, the `(` and the name being i items before
abbrev pub SeenAfter : ℕ → Items → Type 0
SeenAfter i w = (passes parts_from (at i w) ≡ true) ⊎ ((passes assigns (at i w) ≡ true) ⊎ ((passes closes (at i w) ≡ true) × (passes leads (at (suc i) w) ≡ true)))

abbrev pub SeenIn : ℕ → Items → Type 0
SeenIn i w = (passes closes (at i w) ≡ true) ⊎ ((passes is_name (at i w) ≡ true) × SeenAfter (suc i) w)

abbrev pub Seen : Items → Type 0
Seen w = (passes opens (at 0 w) ≡ true) × SeenIn 1 w

after_into : (m a d l : Bool) → (m ≡ true) ⊎ ((a ≡ true) ⊎ ((d ≡ true) × (l ≡ true))) → (m || (a || (d && l))) ≡ true
after_into m a d l (inl h) = or_left m (a || (d && l)) h
after_into m a d l (inr (inl h)) = or_right m (a || (d && l)) (or_left a (d && l) h)
after_into m a d l (inr (inr h)) = or_right m (a || (d && l)) (or_right a (d && l) (and_from d l h.0 h.1))

after_back : (m a d l : Bool) → (m || (a || (d && l))) ≡ true → (m ≡ true) ⊎ ((a ≡ true) ⊎ ((d ≡ true) × (l ≡ true)))
after_back m a d l e = ⊎_elim (λ h. inl h) (λ h. inr (⊎_elim (λ g. inl g) (λ g. inr (and_parts d l g)) (or_cases a (d && l) h))) (or_cases m (a || (d && l)) e)

in_into : (c n r : Bool) → (c ≡ true) ⊎ ((n ≡ true) × (r ≡ true)) → (c || (n && r)) ≡ true
in_into c n r (inl h) = or_left c (n && r) h
in_into c n r (inr h) = or_right c (n && r) (and_from n r h.0 h.1)

in_back : (c n r : Bool) → (c || (n && r)) ≡ true → (c ≡ true) ⊎ ((n ≡ true) × (r ≡ true))
in_back c n r e = ⊎_elim (λ h. inl h) (λ h. inr (and_parts n r h)) (or_cases c (n && r) e)

-- the test of what stands after `( name`
abbrev after_test : Items → Bool
after_test w = passes parts_from (at 2 w) || (passes assigns (at 2 w) || (passes closes (at 2 w) && passes leads (at 3 w)))

pub seen_into : (w : Items) → Seen w → sees_function w ≡ true
unfolding sees_function sees
seen_into w s = and_from (passes opens (at 0 w)) (passes closes (at 1 w) || (passes is_name (at 1 w) && after_test w)) s.0
    (in_into (passes closes (at 1 w)) (passes is_name (at 1 w)) (after_test w)
    (⊎_elim (λ h. inl h) (λ h. inr (h.0, after_into (passes parts_from (at 2 w)) (passes assigns (at 2 w)) (passes closes (at 2 w)) (passes leads (at 3 w)) h.1)) s.1))

pub seen_back : (w : Items) → sees_function w ≡ true → Seen w
unfolding sees_function sees
seen_back w e =
    let p = and_parts (passes opens (at 0 w)) (passes closes (at 1 w) || (passes is_name (at 1 w) && after_test w)) e in (
      p.0,
      ⊎_elim (λ h. inl h) (λ h. inr (h.0, after_back (passes parts_from (at 2 w)) (passes assigns (at 2 w)) (passes closes (at 2 w)) (passes leads (at 3 w)) h.1))
          (in_back (passes closes (at 1 w)) (passes is_name (at 1 w)) (after_test w) p.1),
    )

-- seen one place further
seen_shift : (i : ℕ) (w s : Items) → ((j : ℕ) → at (suc j) w ≡ at j s) → SeenIn i s → SeenIn (suc i) w
seen_shift i w s e h = ⊎_elim (λ g. inl (ap (passes closes) (e i) ∙ g))
    (λ g. inr (
      ap (passes is_name) (e i) ∙ g.0,
      ⊎_elim (λ f. inl (ap (passes parts_from) (e (suc i)) ∙ f))
          (λ f. inr (⊎_elim (λ d. inl (ap (passes assigns) (e (suc i)) ∙ d)) (λ d. inr (ap (passes closes) (e (suc i)) ∙ d.0, ap (passes leads) (e (suc (suc i))) ∙ d.1)) f)) g.1,
    )) h

-- and one place before
seen_unshift : (i : ℕ) (w s : Items) → ((j : ℕ) → at (suc j) w ≡ at j s) → SeenIn (suc i) w → SeenIn i s
seen_unshift i w s e h = ⊎_elim (λ g. inl (ap (passes closes) (sym (e i)) ∙ g))
    (λ g. inr (
      ap (passes is_name) (sym (e i)) ∙ g.0,
      ⊎_elim (λ f. inl (ap (passes parts_from) (sym (e (suc i))) ∙ f))
          (λ f. inr (⊎_elim (λ d. inl (ap (passes assigns) (sym (e (suc i))) ∙ d)) (λ d. inr (ap (passes closes) (sym (e (suc i))) ∙ d.0, ap (passes leads) (sym (e (suc (suc i)))) ∙ d.1)) f)) g.1,
    )) h

-- parameters before a `=>`
after_seen : (d : Default) (ps : Params) (a b s : Items) → IsDefault d a → IsMoreParams ps b → passes leads (first s) ≡ true → SeenAfter 0 ((a ++ b) ++ s)
after_seen _ _ _ b s no_default (param_last y t) e = inr (inr (front_passes closes y b [] b s t (sym (append-nil b)), ap (passes leads) (at_behind 0 closes y b [] b s t (sym (append-nil b))) ∙ e))
after_seen _ ps _ b s no_default (param_comma y i u t h q) e = inl (front_passes parts_from y i u b s t q)
after_seen _ ps a b s (pipe_default x y i j t h q) m e = inr (inl (ap (λ z. passes assigns (first z)) (append_assoc a b s) ∙ front_passes assigns x i j a (b ++ s) t q))
after_seen _ ps a b s (value_default x i u t h q) m e = inr (inl (ap (λ z. passes assigns (first z)) (append_assoc a b s) ∙ front_passes assigns x i u a (b ++ s) t q))

params_seen : (ps : Params) (a s : Items) → IsParams ps a → passes leads (first s) ≡ true → SeenIn 0 (a ++ s)
params_seen _ a s (params_end x t) e = inl (front_passes closes x a [] a s t (sym (append-nil a)))
params_seen _ a s (params_next {d = d} {ps = ps} x i u v t h m q) e = inr (front_passes is_name x i (u ++ v) a s t q, after_shift (after_seen d ps u v s h m e))
  where
    step : (j : ℕ) → at (suc j) (a ++ s) ≡ at j ((u ++ v) ++ s)
    step j = at_behind j is_name x i (u ++ v) a s t q

    after_shift : SeenAfter 0 ((u ++ v) ++ s) → SeenAfter 1 (a ++ s)
    after_shift h = ⊎_elim (λ f. inl (ap (passes parts_from) (step 0) ∙ f))
        (λ f. inr (⊎_elim (λ d. inl (ap (passes assigns) (step 0) ∙ d)) (λ d. inr (ap (passes closes) (step 0) ∙ d.0, ap (passes leads) (step 1) ∙ d.1)) f)) h

pub function_seen : (t : Tree) (u z : Items) → IsFunction t u → Seen (u ++ z)
function_seen _ u z (a_function {ps = ps} x y i a j b t h s m q) = (
  front_passes opens x i (a ++ (j ++ b)) u z t q,
  seen_shift 0 (u ++ z) (a ++ ((j ++ b) ++ z)) (λ n. at_behind n opens x i (a ++ (j ++ b)) u z t q ∙ ap (at n) (append_assoc a (j ++ b) z))
      (params_seen ps a ((j ++ b) ++ z) h (front_passes leads y j b (j ++ b) z s refl)),
)

-- ---- a phrase of a line isn't seen as one, where no `=>` follows it

seen_shut : (w : Items) → SeenAfter 1 w → passes (one_of shutters) (at 1 w) ≡ true
seen_shut w h = ⊎_elim (λ g. may_within (a_symbol symbol.Comma ∷ []) shutters (at 1 w) refl g)
    (λ g. ⊎_elim (λ f. may_within (a_symbol symbol.Assign ∷ []) shutters (at 1 w) refl f) (λ f. may_within (a_symbol symbol.CloseParen ∷ []) shutters (at 1 w) refl f.0) g) h

-- what stands in parentheses isn't seen as parameters
inside_shut : (e : Tree) (y : Item) (r j z : Items) → IsExpr e r → IsTok closes y j → passes leads (first z) ≡ false → SeenIn 0 (r ++ (j ++ z)) → ⊥
inside_shut e y r j z n c no_arrow (inl h) = may_apart (a_word word.If ∷ starters 8) (a_symbol symbol.CloseParen ∷ []) (first (r ++ (j ++ z))) refl (expr_first e r (j ++ z) n) h
inside_shut e y r j z n c no_arrow (inr h) =
    let one = expr_name e r (j ++ z) h.0 (seen_shut (r ++ (j ++ z)) h.1) n in
    let next : (k : ℕ) → at (suc k) (r ++ (j ++ z)) ≡ at k (j ++ z) = λ k. ap first (drop_more k (r ++ (j ++ z))) ∙ ap (λ s. at k (drop 1 (s ++ (j ++ z)))) one.1 in
    let closed = front_passes closes y j [] j z c (sym (append-nil j)) in
    ⊎_elim (λ g. may_apart (a_symbol symbol.Comma ∷ []) (a_symbol symbol.CloseParen ∷ []) (first (j ++ z)) refl (ap (passes parts_from) (sym (next 0)) ∙ g) closed)
    (λ g. ⊎_elim (λ f. may_apart (a_symbol symbol.Assign ∷ []) (a_symbol symbol.CloseParen ∷ []) (first (j ++ z)) refl (ap (passes assigns) (sym (next 0)) ∙ f) closed)
    (λ f. both_ways (passes leads (first z)) no_arrow (ap (passes leads) (sym (at_behind 0 closes y j [] j z c (sym (append-nil j))) ∙ sym (next 1)) ∙ f.1)) g) h.1

primary_shut : (t : Tree) (u z : Items) → IsPrimary t u → passes leads (first z) ≡ false → Seen (u ++ z) → ⊥
primary_shut _ u z (a_literal x t) e s = may_apart literals (a_symbol symbol.OpenParen ∷ []) (first (u ++ z)) refl (front_passes is_literal x u [] u z t (sym (append-nil u))) s.0
primary_shut _ u z (a_text x i r t h q) e s = may_apart (a_head ∷ []) (a_symbol symbol.OpenParen ∷ []) (first (u ++ z)) refl (front_passes is_head x i r u z t q) s.0
primary_shut _ u z (a_paren {e = a} x y i r j t h c q) e s = inside_shut a y r j z h c e
    (seen_unshift 0 (u ++ z) (r ++ (j ++ z)) (λ n. at_behind n opens x i (r ++ j) u z t q ∙ ap (at n) (append_assoc r j z)) s.1)
primary_shut _ u z (an_array x i r t h q) e s = may_apart (a_symbol symbol.OpenBracket ∷ []) (a_symbol symbol.OpenParen ∷ []) (first (u ++ z)) refl (front_passes (is_symbol symbol.OpenBracket) x i r u z t q) s.0
primary_shut _ u z (a_record x i r t h q) e s = may_apart (a_symbol symbol.OpenBrace ∷ []) (a_symbol symbol.OpenParen ∷ []) (first (u ++ z)) refl (front_passes (is_symbol symbol.OpenBrace) x i r u z t q) s.0

suffixes_lead : (b : Bool) (p : Place) (s t : Tree) (u z : Items) → IsSuffixes b p s t u → passes leads (first z) ≡ false → passes leads (first (u ++ z)) ≡ false
suffixes_lead b p s _ _ z (suffixes_end f) e = e
suffixes_lead b p s t u z (suffixes_next x a c h m q) e = may_not suffix_starters (a_symbol symbol.Arrow ∷ []) (first (u ++ z)) refl
    (ap (λ w. passes (one_of suffix_starters) (first (w ++ z))) q ∙ (ap (λ w. passes (one_of suffix_starters) (first w)) (append_assoc a c z) ∙ suffix_first x a (c ++ z) h))

no_arrows : (m : ℕ) → disjoint (operators m) (a_symbol symbol.Arrow ∷ []) ≡ true
no_arrows zero = refl
no_arrows (suc zero) = refl
no_arrows (suc (suc zero)) = refl
no_arrows (suc (suc (suc zero))) = refl
no_arrows (suc (suc (suc (suc zero)))) = refl
no_arrows (suc (suc (suc (suc (suc zero))))) = refl
no_arrows (suc (suc (suc (suc (suc (suc zero)))))) = refl
no_arrows (suc (suc (suc (suc (suc (suc (suc zero))))))) = refl
no_arrows (suc (suc (suc (suc (suc (suc (suc (suc zero)))))))) = refl
no_arrows (suc (suc (suc (suc (suc (suc (suc (suc (suc m))))))))) = refl

links_lead : (m : ℕ) (xs : List Link) (u z : Items) → IsLinks m xs u → passes leads (first z) ≡ false → passes leads (first (u ++ z)) ≡ false
links_lead m _ _ z links_end e = e
links_lead m _ u z (links_next x i a b t h r q) e = may_not (operators (suc m)) (a_symbol symbol.Arrow ∷ []) (first (u ++ z)) (no_arrows (suc m)) (front_passes (one_of (operators (suc m))) x i (a ++ b) u z t q)

pub no_parens : (m : ℕ) → disjoint (prefixes m) (a_symbol symbol.OpenParen ∷ []) ≡ true
no_parens zero = refl
no_parens (suc zero) = refl
no_parens (suc (suc zero)) = refl
no_parens (suc (suc (suc zero))) = refl
no_parens (suc (suc (suc (suc zero)))) = refl
no_parens (suc (suc (suc (suc (suc zero))))) = refl
no_parens (suc (suc (suc (suc (suc (suc zero)))))) = refl
no_parens (suc (suc (suc (suc (suc (suc (suc m))))))) = refl

seen_regroup : (u a b z : Items) → u ≡ a ++ b → Seen (u ++ z) → Seen (a ++ (b ++ z))
seen_regroup u a b z q s = subst Seen (ap (λ w. w ++ z) q ∙ append_assoc a b z) s

pub level_shut : (m : ℕ) (t : Tree) (u z : Items) → IsLevel m t u → passes leads (first z) ≡ false → Seen (u ++ z) → ⊥
level_shut _ t u z (at_postfix (a_postfix {s = a} b c p r q)) e s = primary_shut a b (c ++ z) p (suffixes_lead false _ a t c z r e) (seen_regroup u b c z q s)
level_shut _ _ u z (at_prefix {m = m} x i r t h q) e s = may_apart (prefixes (suc m)) (a_symbol symbol.OpenParen ∷ []) (first (u ++ z)) (no_parens (suc m)) (front_passes (one_of (prefixes (suc m))) x i r u z t q) s.0
level_shut _ _ u z (at_run {m = m} {t = t} {xs = xs} b c h r q) e s = level_shut m t b (c ++ z) h (links_lead m xs c z r e) (seen_regroup u b c z q s)

-- A token and then a phrase, an expression and then what ends it; and where no reading can begin.
use Rattle.std.proofs.Common.{◌≡◌, ℕ, ◌≤◌, ◌<◌, Bool, true, false, List, [], ◌∷◌, ◌++◌, length, Option, None, Some, sym, refl, ap, ◌∙◌, subst, arith}
use Rattle.fx_ast.specs.Tree.{Tree}
use Rattle.fx_scan.specs.declared.symbols.Symbol.TheVariants as symbol
use Rattle.fx_scan.specs.declared.words.Word.TheVariants as word
use Rattle.fx_parse.specs.declared.item.Item.{Item}
use Rattle.fx_parse.specs.Items.{Items, Sort, a_name, a_mid, a_tail, a_word, a_symbol, first, passes, one_of}
use Rattle.fx_parse.specs.Grammar.{IsTok, IsExpr}
use Rattle.fx_parse.specs.Readings.{Out, Bad, both, token}
use Rattle.fx_parse.proofs.phrases.Says.{Says, Fine, any_stop, says_token}
use Rattle.fx_parse.proofs.phrases.Both.{Pair, OkPair, says_both}
use Rattle.fx_parse.proofs.phrases.Stops.{Low, forbidden, stops, may_follow, tok_shorter, not_longer}

-- some phrase, and some phrase that fits
abbrev pub Some_of : {B : Type 0} → (B → Items → Type 0) → Type 0
Some_of {B} M = (v : Items) × (b : B) × M b v

abbrev pub Low_of : {B : Type 0} → (B → Items → Type 0) → (B → Type 0) → Type 0
Low_of {B} M ok = (v : Items) × (b : B) × M b v × ok b

abbrev pub any_of : {B : Type 0} (M : B → Items → Type 0) (ok : B → Type 0) → Low_of M ok → Some_of M
any_of M ok low = (low.0, low.1, low.2)

-- some phrase that the item begins
abbrev pub Begun : {B : Type 0} → (B → Items → Type 0) → Item → Type 0
Begun {B} M x = (v : Items) × (b : B) × M b (x ∷ v)

-- a token, and then a phrase that may hang on it
pub says_then : {B : Type 0} (test : Item → Bool) (y : Item) → test y ≡ true → (M : Item → B → Items → Type 0) (okM : Item → B → Type 0) (stop : Option Item → Bool)
    → ((x : Item) → Low_of (M x) (okM x)) → (g : Item → Items → Out B) (w : Items) → ((x : Item) (r : Items) → test x ≡ true → length r < length w → Says (M x) (okM x) stop r (g x r))
    → Says (Pair (IsTok test) M) (OkPair Fine okM) stop w (both (token test) g w)
says_then test y some M okM stop low g w next = says_both (IsTok test) M Fine okM any_stop stop
    (record { follow = λ t b v z m s. refl; some = λ t u n o. low t; any = λ t. any_of (M t) (okM t) (low t) })
    w (token test w) g (says_token test y some w) (λ t r s. next t r s.phrase.0 (let long = tok_shorter test t s.u r w s.phrase s.split in omega arith))

-- what may stand after an expression within brackets, a block, a choice or a text
abbrev pub enders : List Sort
enders = a_mid ∷ a_tail ∷ a_name ∷ a_symbol symbol.CloseParen ∷ a_symbol symbol.CloseBracket ∷ a_symbol symbol.CloseBrace ∷ a_symbol symbol.Comma
    ∷ a_word word.Return ∷ a_word word.Then ∷ a_word word.Else ∷ []

-- what reads expressions of at most k levels
abbrev pub Reads : ℕ → (Items → Out Tree) → Type 0
Reads k inner = 1 ≤ k → (w : Items) → Says IsExpr (Low k) (stops 8) w (inner w)

-- an expression, and then a phrase that begins with what may end it
pub says_ended : {B : Type 0} (k : ℕ) (inner : Items → Out Tree) → Reads k inner → 1 ≤ k → (stop : Option Item → Bool)
    → (M : B → Items → Type 0) (okM : B → Type 0) → ((b : B) (v z : Items) → M b v → passes (one_of enders) (first (v ++ z)) ≡ true)
    → Low_of M okM → (g : Tree → Items → Out B) (w : Items) → ((e : Tree) (r : Items) → length r ≤ length w → Says M okM stop r (g e r))
    → Says (Pair IsExpr (λ e. M)) (OkPair (Low k) (λ e. okM)) stop w (both inner g w)
says_ended k inner reads some stop M okM begin low g w next = says_both IsExpr (λ e. M) (Low k) (λ e. okM) (stops 8) stop
    (record { follow = λ t b v z m s. may_follow enders (forbidden 8) (first (v ++ z)) refl (begin b v z m); some = λ t u n o. low; any = λ t. any_of M okM low })
    w (inner w) g (reads some w) (λ t r s. next t r (not_longer s.u r w s.split))

-- ---- where a reading can't begin

nil_front : (u v c : Items) → u ++ v ≡ c → first c ≡ None → u ≡ []
nil_front [] v c e f = refl
nil_front (x ∷ u) v c e f = absurd (let h : Some x ≡ None = ap first e ∙ f in cc)

-- at the end, where no phrase is empty
pub says_nothing : {A : Type 0} (N : A → Items → Type 0) (ok : A → Type 0) (stop : Option Item → Bool) → Low_of N ok → ((t : A) → N t [] → ⊥)
    → Says N ok stop [] (Bad false [])
says_nothing N ok stop low none = record {
  u = [];
  split = refl;
  begun = low;
  goes_on = λ d. absurd (let h : false ≡ true = d in cc);
  no_other = λ c v u' t' ef st ph eq g. none t' (subst (λ z. N t' z) (nil_front u' v c eq ef) ph);
}

-- where each phrase that begins so has too many levels
pub says_deep : {A : Type 0} (N : A → Items → Type 0) (ok : A → Type 0) (stop : Option Item → Bool) → Low_of N ok → (test : Item → Bool)
    → ((x : Item) → test x ≡ true → Begun N x)
    → ((t : A) (u v : Items) → passes test (first (u ++ v)) ≡ true → N t u → ok t → ⊥)
    → (w : Items) → passes test (first w) ≡ true → Says N ok stop w (Bad true w)
says_deep N ok stop low test some none [] e = absurd (let h : false ≡ true = e in cc)
says_deep N ok stop low test some none (x ∷ w) e = record {
  u = [];
  split = refl;
  begun = low;
  goes_on = λ d. (x, w, (some x e).0, (some x e).1, refl, (some x e).2);
  no_other = λ c v u' t' ef st ph eq g. none t' u' v (ap (passes test) (ap first eq ∙ ef) ∙ e) ph (g refl);
}

-- where no level is left, and each phrase that doesn't end at once begins so and has too many levels
pub says_bare : {A : Type 0} (N : A → Items → Type 0) (ok : A → Type 0) (stop : Option Item → Bool) → Low_of N ok → (test : Item → Bool) (w : Items)
    → ((x : Item) → test x ≡ true → Begun N x)
    → ((t : A) (u v : Items) → first (u ++ v) ≡ first w → N t u → (passes test (first (u ++ v)) ≡ true) × (ok t → ⊥)) → Says N ok stop w (Bad (passes test (first w)) w)
says_bare {A = A} N ok stop low test w some none = record {
  u = [];
  split = refl;
  begun = low;
  goes_on = goes w;
  no_other = λ c v u' t' ef st ph eq g.
      let h = none t' u' v (ap first eq ∙ ef) ph in
      h.1 (g (ap (passes test) (sym ef ∙ ap first (sym eq)) ∙ h.0));
}
  where
    goes : (w : Items) → passes test (first w) ≡ true → (x : Item) × (z : Items) × (c : Items) × (t : A) × (w ≡ x ∷ z) × N t (x ∷ c)
    goes [] h = absurd (let f : false ≡ true = h in cc)
    goes (x ∷ z) h = let p = some x h in (x, z, p.0, p.1, refl, p.2)

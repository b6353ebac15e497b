-- What a reading of items says: what it read is the only phrase there, or no phrase goes on where it refuses.
--
-- Both are said for every list that goes on as the items do up to the next one, so that they speak of beginnings.
use Rattle.std.proofs.Common.{◌≡◌, ℕ, zero, suc, ◌≤◌, Bool, true, false, cond, [], ◌∷◌, ◌++◌, length, take, Option, None, Some, sym, refl, ap, ◌∙◌, subst, arith}
use Rattle.fx_parse.specs.declared.item.Item.{Item}
use Rattle.fx_parse.specs.Items.{Items, first}
use Rattle.fx_parse.specs.Grammar.{IsTok}
use Rattle.fx_parse.specs.Readings.{Out, Got, Bad, token}

-- u is a phrase, before r, and nothing else is one there, whatever follows the next item
pub record IsRead {A : Type 0} (N : A → Items → Type 0) (ok : A → Type 0) (stop : Option Item → Bool) (w : Items) (t : A) (r : Items) : Type 0 where
  pub u : Items
  pub split : w ≡ u ++ r
  pub phrase : N t u
  pub fits : ok t
  pub only : (c v u' : Items) (t' : A) → first c ≡ first r → stop (first v) ≡ true → N t' u' → u' ++ v ≡ u ++ c → (t' ≡ t) × (u' ≡ u)

-- u begins a phrase, and with the next item it begins none; deep where it begins one that doesn't fit
pub record IsRefused {A : Type 0} (N : A → Items → Type 0) (ok : A → Type 0) (stop : Option Item → Bool) (w : Items) (deep : Bool) (r : Items) : Type 0 where
  pub u : Items
  pub split : w ≡ u ++ r
  pub begun : (c : Items) × (t : A) × N t (u ++ c) × ok t
  pub goes_on : deep ≡ true → (x : Item) × (z : Items) × (c : Items) × (t : A) × (r ≡ x ∷ z) × N t (u ++ (x ∷ c))
  pub no_other : (c v u' : Items) (t' : A) → first c ≡ first r → stop (first v) ≡ true → N t' u' → u' ++ v ≡ u ++ c → (deep ≡ true → ok t') → ⊥

abbrev pub Says : {A : Type 0} → (A → Items → Type 0) → (A → Type 0) → (Option Item → Bool) → Items → Out A → Type 0
Says N ok stop w (Got t r) = IsRead N ok stop w t r
Says N ok stop w (Bad d r) = IsRefused N ok stop w d r

-- ---- lists

pub first_join : (u c r : Items) → first c ≡ first r → first (u ++ c) ≡ first (u ++ r)
first_join [] c r e = e
first_join (x ∷ u) c r e = refl

pub cancel : (u v z : Items) → u ++ v ≡ u ++ z → v ≡ z
cancel [] v z e = e
cancel (x ∷ u) v z e = cancel u v z (let h : x ∷ (u ++ v) ≡ x ∷ (u ++ z) = e in cc)

pub front_join : (j : ℕ) (u c r : Items) → j ≤ length u → first c ≡ first r → take (suc j) (u ++ c) ≡ take (suc j) (u ++ r)
front_join j [] [] [] le e = refl
front_join j [] [] (y ∷ r) le e = absurd (let h : None ≡ Some y = e in cc)
front_join j [] (x ∷ c) [] le e = absurd (let h : Some x ≡ None = e in cc)
front_join zero [] (x ∷ c) (y ∷ r) le e = let h : Some x ≡ Some y = e in let g : x ≡ y = cc in ap (λ z. z ∷ []) g
front_join (suc j) [] (x ∷ c) (y ∷ r) le e = absurd (let h : suc j ≤ 0 = le in omega arith)
front_join zero (x ∷ u) c r le e = refl
front_join (suc j) (x ∷ u) c r le e = ap (λ z. x ∷ z) (front_join j u c r (let h : suc j ≤ length (x ∷ u) = le in omega arith) e)

-- ---- one token

abbrev pub Fine : {A : Type 0} → A → Type 0
Fine t = Unit {0}

abbrev pub any_stop : Option Item → Bool
any_stop o = true

token_at : (test : Item → Bool) (y x : Item) (w : Items) → test y ≡ true → (b : Bool) → test x ≡ b
    → Says (IsTok test) Fine any_stop (x ∷ w) (cond b (Got x w) (Bad false (x ∷ w)))
token_at test y x w some true e = record {
  u = x ∷ [];
  split = refl;
  phrase = (e, refl);
  fits = tt;
  only = λ c v u' t' ef st ph eq. let h : t' ∷ v ≡ x ∷ c = subst (λ z. z ++ v ≡ x ∷ c) ph.1 eq in
      let g : t' ≡ x = cc in (g, ph.1 ∙ ap (λ z. z ∷ []) g);
}
token_at test y x w some false e = record {
  u = [];
  split = refl;
  begun = (y ∷ [], y, (some, refl), tt);
  goes_on = λ d. absurd (let h : false ≡ true = d in cc);
  no_other = λ c v u' t' ef st ph eq g. let h : t' ∷ v ≡ c = subst (λ z. z ++ v ≡ c) ph.1 eq in
      let k : Some t' ≡ Some x = ap first h ∙ ef in
      let i : t' ≡ x = cc in
      let f : true ≡ false = sym ph.0 ∙ (ap test i ∙ e) in cc;
}

-- some item passes
pub says_token : (test : Item → Bool) (y : Item) → test y ≡ true → (w : Items) → Says (IsTok test) Fine any_stop w (token test w)
says_token test y some [] = record {
  u = [];
  split = refl;
  begun = (y ∷ [], y, (some, refl), tt);
  goes_on = λ d. absurd (let h : false ≡ true = d in cc);
  no_other = λ c v u' t' ef st ph eq g. let h : t' ∷ v ≡ c = subst (λ z. z ++ v ≡ c) ph.1 eq in
      let k : Some t' ≡ None = ap first h ∙ ef in cc;
}
says_token test y some (x ∷ w) = token_at test y x w some (test x) refl

-- An alternative: phrases of a larger language that their first items tell apart.
use Rattle.std.proofs.Common.{◌≡◌, ℕ, suc, ◌+◌, ◌≤◌, Bool, true, [], ◌∷◌, ◌++◌, length, take, Option, None, Some, sym, refl, ap, ◌∙◌, subst, ap₂, ◌⊎◌, inl, inr, ⊎_elim, append_assoc, append-nil, arith, length-append}
use Rattle.fx_parse.specs.declared.item.Item.{Item}
use Rattle.fx_parse.specs.Items.{Items, first}
use Rattle.fx_parse.specs.Readings.{Out, Got, Bad, mapped}
use Rattle.fx_parse.proofs.phrases.Says.{Says, first_join, front_join}

abbrev pub rest_of : {A : Type 0} → Out A → Items
rest_of (Got t r) = r
rest_of (Bad d r) = r

-- at least j items were read
abbrev pub Used : {A : Type 0} → ℕ → Items → Out A → Type 0
Used j w o = j + length (rest_of o) ≤ length w

pub used_none : {A : Type 0} (N : A → Items → Type 0) (ok : A → Type 0) (stop : Option Item → Bool) (w : Items) (o : Out A) → Says N ok stop w o → Used 0 w o
used_none N ok stop w (Got t r) s = let h : length w ≡ length s.u + length r = ap length s.split ∙ length-append s.u r in omega arith
used_none N ok stop w (Bad d r) s = let h : length w ≡ length s.u + length r = ap length s.split ∙ length-append s.u r in omega arith

used_split : (j : ℕ) (w u r : Items) → w ≡ u ++ r → j + length r ≤ length w → j ≤ length u
used_split j w u r e le = let h : length w ≡ length u + length r = ap length e ∙ length-append u r in omega arith

-- f makes the phrases that begin as w does, in its first j + 1 items
pub record IsFar {A B : Type 0} (N : A → Items → Type 0) (N' : B → Items → Type 0) (ok : A → Type 0) (ok' : B → Type 0) (stop : Option Item → Bool) (f : A → B) (j : ℕ) (w : Items) : Type 0 where
  pub into : (t : A) (u : Items) → N t u → N' (f t) u
  pub back : (t' : B) (u v : Items) → take (suc j) (u ++ v) ≡ take (suc j) w → stop (first v) ≡ true → N' t' u → (t : A) × (t' ≡ f t) × N t u
  pub fit : (t : A) (u : Items) → N t u → ok t → ok' (f t)
  pub unfit : (t : A) (u : Items) → N t u → ok' (f t) → ok t

pub says_far : {A B : Type 0} (N : A → Items → Type 0) (N' : B → Items → Type 0) (ok : A → Type 0) (ok' : B → Type 0) (stop : Option Item → Bool)
    (f : A → B) (j : ℕ) (w : Items) → IsFar N N' ok ok' stop f j w → (o : Out A) → Says N ok stop w o → Used j w o → Says N' ok' stop w (mapped f o)
says_far {A = A} N N' ok ok' stop f j w E (Got t r) s used = record {
  u = s.u;
  split = s.split;
  phrase = E.into t s.u s.phrase;
  fits = E.fit t s.u s.phrase s.fits;
  only = λ c v u' t' e st ph eq.
      let b : (x : A) × (t' ≡ f x) × N x u' = E.back t' u' v
      (ap (take (suc j)) eq ∙ (front_join j s.u c r (used_split j w s.u r s.split used) e ∙ ap (take (suc j)) (sym s.split))) st ph in
      let k : (b.0 ≡ t) × (u' ≡ s.u) = s.only c v u' b.0 e st b.2 eq in
      (b.1 ∙ ap f k.0, k.1);
}
says_far {A = A} N N' ok ok' stop f j w E (Bad d r) s used = record {
  u = s.u;
  split = s.split;
  begun = (s.begun.0, f s.begun.1, E.into s.begun.1 (s.u ++ s.begun.0) s.begun.2, E.fit s.begun.1 (s.u ++ s.begun.0) s.begun.2 s.begun.3);
  goes_on = λ deep. let g : (x : Item) × (y : Items) × (c : Items) × (a : A) × (r ≡ x ∷ y) × N a (s.u ++ (x ∷ c)) = s.goes_on deep in
      (g.0, g.1, g.2, f g.3, g.4, E.into g.3 (s.u ++ (g.0 ∷ g.2)) g.5);
  no_other = λ c v u' t' e st ph eq low.
      let b : (x : A) × (t' ≡ f x) × N x u' = E.back t' u' v
      (ap (take (suc j)) eq ∙ (front_join j s.u c r (used_split j w s.u r s.split used) e ∙ ap (take (suc j)) (sym s.split))) st ph in
      s.no_other c v u' b.0 e st b.2 eq (λ deep. E.unfit b.0 u' b.2 (subst ok' b.1 (low deep)));
}

-- ---- told apart by the first item

pub record IsMapped {A B : Type 0} (N : A → Items → Type 0) (N' : B → Items → Type 0) (ok : A → Type 0) (ok' : B → Type 0) (stop : Option Item → Bool) (f : A → B) (w : Items) : Type 0 where
  pub into : (t : A) (u : Items) → N t u → N' (f t) u
  pub back : (t' : B) (u v : Items) → first (u ++ v) ≡ first w → stop (first v) ≡ true → N' t' u → (t : A) × (t' ≡ f t) × N t u
  pub fit : (t : A) (u : Items) → N t u → ok t → ok' (f t)
  pub unfit : (t : A) (u : Items) → N t u → ok' (f t) → ok t

first_of_front : (u w : Items) → take 1 u ≡ take 1 w → first u ≡ first w
first_of_front [] [] e = refl
first_of_front [] (y ∷ w) e = absurd (let h : [] ≡ y ∷ [] = e in cc)
first_of_front (x ∷ u) [] e = absurd (let h : x ∷ [] ≡ [] = e in cc)
first_of_front (x ∷ u) (y ∷ w) e = let h : x ∷ [] ≡ y ∷ [] = e in let k : x ≡ y = cc in ap Some k

pub says_mapped : {A B : Type 0} (N : A → Items → Type 0) (N' : B → Items → Type 0) (ok : A → Type 0) (ok' : B → Type 0) (stop : Option Item → Bool)
    (f : A → B) (w : Items) → IsMapped N N' ok ok' stop f w → (o : Out A) → Says N ok stop w o → Says N' ok' stop w (mapped f o)
says_mapped N N' ok ok' stop f w E o s = says_far N N' ok ok' stop f 0 w
    (record { into = E.into; back = λ t' u v e st n. E.back t' u v (first_of_front (u ++ v) w e) st n; fit = E.fit; unfit = E.unfit })
    o s (used_none N ok stop w o s)

-- ---- the same where f holds what w begins with, and so makes phrases only of what begins as w does

pub record IsPlaced {A B : Type 0} (N : A → Items → Type 0) (N' : B → Items → Type 0) (ok : A → Type 0) (ok' : B → Type 0) (stop : Option Item → Bool) (f : A → B) (w : Items) : Type 0 where
  pub into : (t : A) (u v : Items) → first (u ++ v) ≡ first w → N t u → N' (f t) u
  pub back : (t' : B) (u v : Items) → first (u ++ v) ≡ first w → stop (first v) ≡ true → N' t' u → (t : A) × (t' ≡ f t) × N t u
  pub fit : (t : A) (u : Items) → N t u → ok t → ok' (f t)
  pub unfit : (t : A) (u : Items) → N t u → ok' (f t) → ok t
  -- some phrase that fits
  pub some : (c : Items) × (t : B) × N' t c × ok' t

placed_begun : {A B : Type 0} (N : A → Items → Type 0) (N' : B → Items → Type 0) (ok : A → Type 0) (ok' : B → Type 0) (stop : Option Item → Bool)
    (f : A → B) (w : Items) → IsPlaced N N' ok ok' stop f w → (u r c : Items) (t : A) → w ≡ u ++ r → N t (u ++ c) → ok t → (c' : Items) × (t' : B) × N' t' (u ++ c') × ok' t'
placed_begun N N' ok ok' stop f w E [] r c t e n o = E.some
placed_begun N N' ok ok' stop f w E (x ∷ u) r c t e n o = (c, f t, E.into t (x ∷ (u ++ c)) [] (ap first (sym e)) n, E.fit t (x ∷ (u ++ c)) n o)

pub says_placed : {A B : Type 0} (N : A → Items → Type 0) (N' : B → Items → Type 0) (ok : A → Type 0) (ok' : B → Type 0) (stop : Option Item → Bool)
    (f : A → B) (w : Items) → IsPlaced N N' ok ok' stop f w → (o : Out A) → Says N ok stop w o → Says N' ok' stop w (mapped f o)
says_placed {A = A} N N' ok ok' stop f w E (Got t r) s = record {
  u = s.u;
  split = s.split;
  phrase = E.into t s.u r (ap first (sym s.split)) s.phrase;
  fits = E.fit t s.u s.phrase s.fits;
  only = λ c v u' t' e st ph eq.
      let b : (x : A) × (t' ≡ f x) × N x u' = E.back t' u' v (ap first eq ∙ (first_join s.u c r e ∙ ap first (sym s.split))) st ph in
      let k : (b.0 ≡ t) × (u' ≡ s.u) = s.only c v u' b.0 e st b.2 eq in
      (b.1 ∙ ap f k.0, k.1);
}
says_placed {A = A} N N' ok ok' stop f w E (Bad d r) s = record {
  u = s.u;
  split = s.split;
  begun = placed_begun N N' ok ok' stop f w E s.u r s.begun.0 s.begun.1 s.split s.begun.2 s.begun.3;
  goes_on = λ deep. let g : (x : Item) × (y : Items) × (c : Items) × (a : A) × (r ≡ x ∷ y) × N a (s.u ++ (x ∷ c)) = s.goes_on deep in (
    g.0,
    g.1,
    g.2,
    f g.3,
    g.4,
    E.into g.3 (s.u ++ (g.0 ∷ g.2)) []
        (ap first (append-nil (s.u ++ (g.0 ∷ g.2))) ∙ (first_join s.u (g.0 ∷ g.2) r (sym (ap first g.4)) ∙ ap first (sym s.split))) g.5,
  );
  no_other = λ c v u' t' e st ph eq low.
      let b : (x : A) × (t' ≡ f x) × N x u' = E.back t' u' v (ap first eq ∙ (first_join s.u c r e ∙ ap first (sym s.split))) st ph in
      s.no_other c v u' b.0 e st b.2 eq (λ deep. E.unfit b.0 u' b.2 (subst ok' b.1 (low deep)));
}

-- ---- a reading gets past items that begin a phrase that fits

reach : (u p r s : Items) → p ++ s ≡ u ++ r → (length p ≤ length u) ⊎ ((x : Item) × (z : Items) × (p ≡ u ++ (x ∷ z)) × (first r ≡ Some x))
reach u [] r s e = inl (omega arith)
reach [] (x ∷ p) r s e = inr (x, p, refl, ap first (sym e))
reach (y ∷ u) (x ∷ p) r s e =
    let h : x ∷ (p ++ s) ≡ y ∷ (u ++ r) = e in
    let k : x ≡ y = cc in
    let l : p ++ s ≡ u ++ r = cc in
    ⊎_elim (λ le. inl (let le' : length p ≤ length u = le in omega arith))
    (λ g. inr (g.0, g.1, ap₂ (λ a b. a ∷ b) k g.2, g.3)) (reach u p r s l)

used_at_least : (j : ℕ) (w u r : Items) → w ≡ u ++ r → j ≤ length u → j + length r ≤ length w
used_at_least j w u r e le = let h : length w ≡ length u + length r = ap length e ∙ length-append u r in omega arith

longer : (p q u z : Items) (x : Item) → p ≡ u ++ (x ∷ z) → p ++ q ≡ u → ⊥
longer p q u z x e f =
    let h : length p ≡ length u + length (x ∷ z) = ap length e ∙ length-append u (x ∷ z) in
    let k : length p + length q ≡ length u = sym (length-append p q) ∙ ap length f in
    let l : length (x ∷ z) ≡ suc (length z) = refl in
    omega arith

pub used_by : {A : Type 0} (N : A → Items → Type 0) (ok : A → Type 0) (stop : Option Item → Bool) → stop None ≡ true → (p s q : Items) (t : A) → N t (p ++ q)
    → ok t → (o : Out A) → Says N ok stop (p ++ s) o → Used (length p) (p ++ s) o
used_by N ok stop ends p s q t n fits (Got t' r) z = ⊎_elim (λ le. used_at_least (length p) (p ++ s) z.u r z.split le)
    (λ g. absurd (longer p q z.u g.1 g.0 g.2
    (z.only (g.0 ∷ (g.1 ++ q)) [] (p ++ q) t (sym g.3) ends n (append-nil (p ++ q) ∙ (ap (λ x. x ++ q) g.2 ∙ append_assoc z.u (g.0 ∷ g.1) q))).1))
    (reach z.u p r s z.split)
used_by N ok stop ends p s q t n fits (Bad d r) z = ⊎_elim (λ le. used_at_least (length p) (p ++ s) z.u r z.split le)
    (λ g. absurd (z.no_other (g.0 ∷ (g.1 ++ q)) [] (p ++ q) t (sym g.3) ends n (append-nil (p ++ q) ∙ (ap (λ x. x ++ q) g.2 ∙ append_assoc z.u (g.0 ∷ g.1) q)) (λ deep. fits)))
    (reach z.u p r s z.split)

-- ---- phrases that begin as w does

abbrev pub Kept : {A : Type 0} → (A → Items → Type 0) → Items → A → Items → Type 0
Kept N w t u = N t u × (first u ≡ first w)

first_left : (u c r w : Items) → w ≡ u ++ r → 1 ≤ length u → first (u ++ c) ≡ first w
first_left [] c r w e le = absurd (let h : 1 ≤ 0 = le in omega arith)
first_left (x ∷ u) c r w e le = ap first (sym e)

pub says_kept : {A : Type 0} (N : A → Items → Type 0) (ok : A → Type 0) (stop : Option Item → Bool) (w : Items) (o : Out A) → Says N ok stop w o → Used 1 w o
    → Says (Kept N w) ok stop w o
says_kept N ok stop w (Got t r) s used = record {
  u = s.u;
  split = s.split;
  phrase = (s.phrase, ap first (sym (append-nil s.u)) ∙ first_left s.u [] r w s.split (used_split 1 w s.u r s.split used));
  fits = s.fits;
  only = λ c v u' t' e st ph eq. s.only c v u' t' e st ph.0 eq;
}
says_kept {A = A} N ok stop w (Bad d r) s used = record {
  u = s.u;
  split = s.split;
  begun = (s.begun.0, s.begun.1, (s.begun.2, first_left s.u s.begun.0 r w s.split (used_split 1 w s.u r s.split used)), s.begun.3);
  goes_on = λ deep. let g : (x : Item) × (y : Items) × (c : Items) × (a : A) × (r ≡ x ∷ y) × N a (s.u ++ (x ∷ c)) = s.goes_on deep in
      (g.0, g.1, g.2, g.3, g.4, (g.5, first_left s.u (g.0 ∷ g.2) r w s.split (used_split 1 w s.u r s.split used)));
  no_other = λ c v u' t' e st ph eq low. s.no_other c v u' t' e st ph.0 eq low;
}

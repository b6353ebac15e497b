-- One reading after another, and the same phrases in two languages.
use Rattle.std.proofs.Common.{◌≡◌, Bool, true, ◌∷◌, ◌++◌, Option, sym, refl, ap, ◌∙◌, subst, ap₂, append_assoc}
use Rattle.fx_parse.specs.declared.item.Item.{Item}
use Rattle.fx_parse.specs.Items.{Items, first}
use Rattle.fx_parse.specs.Readings.{Out, Got, Bad, mapped, go_on}
use Rattle.fx_parse.proofs.phrases.Says.{IsRead, Says, first_join, cancel}

abbrev pub Pair : {A B : Type 0} → (A → Items → Type 0) → (A → B → Items → Type 0) → A × B → Items → Type 0
Pair N M p w = (u : Items) × (v : Items) × N p.0 u × M p.0 p.1 v × (w ≡ u ++ v)

abbrev pub OkPair : {A B : Type 0} → (A → Type 0) → (A → B → Type 0) → A × B → Type 0
OkPair okN okM p = okN p.0 × okM p.0 p.1

-- what may follow the first, and how the second may go on
pub record IsFollowed {A B : Type 0} (N : A → Items → Type 0) (M : A → B → Items → Type 0) (okN : A → Type 0) (okM : A → B → Type 0) (stopN stopM : Option Item → Bool) : Type 0 where
  pub follow : (t : A) (b : B) (v z : Items) → M t b v → stopM (first z) ≡ true → stopN (first (v ++ z)) ≡ true
  pub some : (t : A) (u : Items) → N t u → okN t → (v : Items) × (b : B) × M t b v × okM t b
  pub any : (t : A) → (v : Items) × (b : B) × M t b v

module _ {A B : Type 0} (N : A → Items → Type 0) (M : A → B → Items → Type 0) (okN : A → Type 0) (okM : A → B → Type 0) (stopN stopM : Option Item → Bool) (F : IsFollowed N M okN okM stopN stopM) (w : Items) where
  split_first : (t : A) (r : Items) (s : IsRead N okN stopN w t r) (c v u' : Items) (p : A × B) → first c ≡ first r → stopM (first v) ≡ true
      → (q : Pair N M p u') → u' ++ v ≡ s.u ++ c → (p.0 ≡ t) × (q.0 ≡ s.u) × (q.1 ++ v ≡ c)
  split_first t r s c v u' p e st q eq =
      let spelt : q.0 ++ (q.1 ++ v) ≡ s.u ++ c = sym (append_assoc q.0 q.1 v) ∙ (ap (λ x. x ++ v) (sym q.4) ∙ eq) in
      let h : (p.0 ≡ t) × (q.0 ≡ s.u) = s.only c (q.1 ++ v) q.0 p.0 e (F.follow p.0 p.1 q.1 v q.3 st) q.2 spelt in
      (h.0, h.1, cancel s.u (q.1 ++ v) c (subst (λ x. x ++ (q.1 ++ v) ≡ s.u ++ c) h.1 spelt))

  second : (t : A) (r : Items) (s : IsRead N okN stopN w t r) (p : Out B) → Says (M t) (okM t) stopM r p
      → Says (Pair N M) (OkPair okN okM) stopM w (mapped (λ b. (t, b)) p)
  second t r s (Got b q) z = record {
    u = s.u ++ z.u;
    split = s.split ∙ (ap (λ x. s.u ++ x) z.split ∙ sym (append_assoc s.u z.u q));
    phrase = (s.u, z.u, s.phrase, z.phrase, refl);
    fits = (s.fits, z.fits);
    only = λ c v u' p e st ph eq.
        let k : (p.0 ≡ t) × (ph.0 ≡ s.u) × (ph.1 ++ v ≡ z.u ++ c) = split_first t r s (z.u ++ c) v u' p (first_join z.u c q e ∙ ap first (sym z.split)) st ph (eq ∙ append_assoc s.u z.u c) in
        let l : (p.1 ≡ b) × (ph.1 ≡ z.u) = z.only c v ph.1 p.1 e st (subst (λ x. M x p.1 ph.1) k.0 ph.3) k.2 in
        (ap₂ {C = A × B} (λ x y. (x, y)) k.0 l.0, ph.4 ∙ ap₂ (λ x y. x ++ y) k.1 l.1);
  }
  second t r s (Bad d q) z = record {
    u = s.u ++ z.u;
    split = s.split ∙ (ap (λ x. s.u ++ x) z.split ∙ sym (append_assoc s.u z.u q));
    begun = (z.begun.0, (t, z.begun.1), (s.u, z.u ++ z.begun.0, s.phrase, z.begun.2, append_assoc s.u z.u z.begun.0), (s.fits, z.begun.3));
    goes_on = λ deep. let g : (x : Item) × (y : Items) × (c : Items) × (b : B) × (q ≡ x ∷ y) × M t b (z.u ++ (x ∷ c)) = z.goes_on deep in
        (g.0, g.1, g.2, (t, g.3), g.4, (s.u, z.u ++ (g.0 ∷ g.2), s.phrase, g.5, append_assoc s.u z.u (g.0 ∷ g.2)));
    no_other = λ c v u' p e st ph eq low.
        let k : (p.0 ≡ t) × (ph.0 ≡ s.u) × (ph.1 ++ v ≡ z.u ++ c) = split_first t r s (z.u ++ c) v u' p (first_join z.u c q e ∙ ap first (sym z.split)) st ph (eq ∙ append_assoc s.u z.u c) in
        z.no_other c v ph.1 p.1 e st (subst (λ x. M x p.1 ph.1) k.0 ph.3) k.2 (λ deep. subst (λ x. okM x p.1) k.0 (low deep).1);
  }

  pub says_both : (o : Out A) (g : A → Items → Out B) → Says N okN stopN w o
      → ((t : A) (r : Items) → IsRead N okN stopN w t r → Says (M t) (okM t) stopM r (g t r))
      → Says (Pair N M) (OkPair okN okM) stopM w (go_on o (λ t r. mapped (λ b. (t, b)) (g t r)))
  says_both (Got t r) g s next = second t r s (g t r) (next t r s)
  says_both (Bad d r) g s next = record {
    u = s.u;
    split = s.split;
    begun = let f : (v : Items) × (b : B) × M s.begun.1 b v × okM s.begun.1 b = F.some s.begun.1 (s.u ++ s.begun.0) s.begun.2 s.begun.3 in
        (s.begun.0 ++ f.0, (s.begun.1, f.1), (s.u ++ s.begun.0, f.0, s.begun.2, f.2, sym (append_assoc s.u s.begun.0 f.0)), (s.begun.3, f.3));
    goes_on = λ deep. let g : (x : Item) × (y : Items) × (c : Items) × (a : A) × (r ≡ x ∷ y) × N a (s.u ++ (x ∷ c)) = s.goes_on deep in
        let f : (v : Items) × (b : B) × M g.3 b v = F.any g.3 in
        (g.0, g.1, g.2 ++ f.0, (g.3, f.1), g.4, (s.u ++ (g.0 ∷ g.2), f.0, g.5, f.2, sym (append_assoc s.u (g.0 ∷ g.2) f.0)));
    no_other = λ c v u' p e st ph eq low.
        s.no_other c (ph.1 ++ v) ph.0 p.0 e (F.follow p.0 p.1 ph.1 v ph.3 st) ph.2
        (sym (append_assoc ph.0 ph.1 v) ∙ (ap (λ x. x ++ v) (sym ph.4) ∙ eq)) (λ deep. (low deep).0);
  }

-- ---- the same phrases, fits and ends, said in another way

pub record IsSame {A : Type 0} (N N' : A → Items → Type 0) (ok ok' : A → Type 0) (stop stop' : Option Item → Bool) : Type 0 where
  pub into : (t : A) (u : Items) → N t u → N' t u
  pub back : (t : A) (u : Items) → N' t u → N t u
  pub fit : (t : A) → ok t → ok' t
  pub unfit : (t : A) → ok' t → ok t
  pub ends : (x : Option Item) → stop' x ≡ true → stop x ≡ true

pub says_same : {A : Type 0} (N N' : A → Items → Type 0) (ok ok' : A → Type 0) (stop stop' : Option Item → Bool) → IsSame N N' ok ok' stop stop'
    → (w : Items) (o : Out A) → Says N ok stop w o → Says N' ok' stop' w o
says_same {A = A} N N' ok ok' stop stop' E w (Got t r) s = record {
  u = s.u;
  split = s.split;
  phrase = E.into t s.u s.phrase;
  fits = E.fit t s.fits;
  only = λ c v u' t' e st ph eq. s.only c v u' t' e (E.ends (first v) st) (E.back t' u' ph) eq;
}
says_same {A = A} N N' ok ok' stop stop' E w (Bad d r) s = record {
  u = s.u;
  split = s.split;
  begun = (s.begun.0, s.begun.1, E.into s.begun.1 (s.u ++ s.begun.0) s.begun.2, E.fit s.begun.1 s.begun.3);
  goes_on = λ deep. let g : (x : Item) × (y : Items) × (c : Items) × (a : A) × (r ≡ x ∷ y) × N a (s.u ++ (x ∷ c)) = s.goes_on deep in
      (g.0, g.1, g.2, g.3, g.4, E.into g.3 (s.u ++ (g.0 ∷ g.2)) g.5);
  no_other = λ c v u' t' e st ph eq low. s.no_other c v u' t' e (E.ends (first v) st) (E.back t' u' ph) eq (λ deep. E.unfit t' (low deep));
}

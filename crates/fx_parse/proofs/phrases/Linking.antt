-- Links after an operand: operators with operands, or what follows a primary.
use Rattle.std.proofs.Common.{◌≡◌, ℕ, zero, suc, ◌+◌, ◌≤◌, Bool, true, false, cond, [], ◌∷◌, ◌++◌, length, Option, None, Some, sym, refl, ap, ◌∙◌, subst, ◌⊎◌, ⊎_elim, append_assoc, arith, length-append}
use Rattle.fx_parse.specs.declared.item.Item.{Item}
use Rattle.fx_parse.specs.Items.{Items, first, passes}
use Rattle.fx_parse.specs.Readings.{Got, Bad, mapped, both, Chaining, finish, links}
use Rattle.fx_parse.proofs.phrases.Says.{Says}
use Rattle.fx_parse.proofs.phrases.Both.{Pair, OkPair, says_both}
use Rattle.fx_parse.proofs.phrases.Far.{says_mapped, used_by, Kept, says_kept}

-- what is a link (L), what links make of a state (R), and when they fit
pub record IsLinking {S B C : Type 0} (K : Chaining S B C) (L : B → Items → Type 0) (R : S → C → Items → Type 0) (okS : S → Type 0) (okL : B → Type 0) (okR : S → C → Type 0) (stopL stop : Option Item → Bool) : Type 0 where
  pub done : (s : S) → K.final s ≡ true → R s (K.end s) []
  pub more : (s : S) (b : B) (c : C) (u v : Items) → L b u → R (K.step s b) c v → R s (K.join b c) (u ++ v)
  pub inverse : (s : S) (c : C) (u : Items) → R s c u → ((K.final s ≡ true) × (c ≡ K.end s) × (u ≡ [])) ⊎ ((p : B × C) × (c ≡ K.join p.0 p.1) × Pair L (λ b. R (K.step s b)) p u)
  pub begins : (b : B) (u v : Items) → L b u → passes K.is_link (first (u ++ v)) ≡ true
  -- what begins a link ends one; what ends them all ends one, and begins none
  pub link_stops : (x : Item) → K.is_link x ≡ true → stopL (Some x) ≡ true
  pub end_stops : (x : Option Item) → stop x ≡ true → stopL x ≡ true
  pub end_none : (x : Option Item) → stop x ≡ true → passes K.is_link x ≡ false
  pub none_stops : stopL None ≡ true
  pub end_fits : (s : S) → okS s → K.final s ≡ true → okR s (K.end s)
  pub low_rest : (s : S) → okS s → (u : Items) × (c : C) × R s c u × okR s c
  pub some_rest : (s : S) → (u : Items) × (c : C) × R s c u
  pub low_link : (s : S) (x : Item) → okS s → K.is_link x ≡ true → K.room s x ≡ true → (u : Items) × (b : B) × L b (x ∷ u) × okL b
  pub some_link : (x : Item) → K.is_link x ≡ true → (u : Items) × (b : B) × L b (x ∷ u)
  pub step_fits : (s : S) (b : B) (u : Items) → okS s → passes (K.room s) (first u) ≡ true → L b u → okL b → okS (K.step s b)
  pub join_fits : (s : S) (b : B) (c : C) (x : Item) → okS s → K.is_link x ≡ true → K.room s x ≡ true → okL b → okR (K.step s b) c → okR s (K.join b c)
  pub fits_join : (s : S) (b : B) (c : C) (u v : Items) → L b u → R (K.step s b) c v → okR s (K.join b c) → okL b × okR (K.step s b) c
  pub no_room : (s : S) (b : B) (c : C) (u v z : Items) → okS s → passes (K.room s) (first (u ++ v)) ≡ false → L b u → R (K.step s b) c z → okR s (K.join b c) → ⊥

not_both : (b : Bool) → b ≡ true → b ≡ false → ⊥
not_both b e f = let h : true ≡ false = sym e ∙ f in cc

module _ {S B C : Type 0} (K : Chaining S B C) (L : B → Items → Type 0) (R : S → C → Items → Type 0) (okS : S → Type 0) (okL : B → Type 0) (okR : S → C → Type 0) (stopL stop : Option Item → Bool)
    (E : IsLinking K L R okS okL okR stopL stop) where
  -- no phrase of links begins with a link here
  only_end : (s : S) (w c v u : Items) (t : C) → passes K.is_link (first w) ≡ false → first c ≡ first w → R s t u → u ++ v ≡ c
      → (K.final s ≡ true) × (t ≡ K.end s) × (u ≡ [])
  only_end s w c v u t e f n eq = ⊎_elim (λ g. g)
      (λ g. let p : Pair L (λ b. R (K.step s b)) g.0 u = g.2 in
      absurd (not_both (passes K.is_link (first w))
      (ap (passes K.is_link) (sym f ∙ (ap first (sym eq) ∙ ap first (ap (λ z. z ++ v) p.4)))
      ∙ (subst (λ z. passes K.is_link (first z) ≡ true) (sym (assoc p.0 p.1 v)) (E.begins g.0.0 p.0 (p.1 ++ v) p.2))) e))
      (E.inverse s t u n)
    where
      assoc : (a b d : Items) → (a ++ b) ++ d ≡ a ++ (b ++ d)
      assoc a b d = append_assoc a b d

  says_finish : (s : S) (w : Items) → okS s → passes K.is_link (first w) ≡ false → (b : Bool) → K.final s ≡ b
      → Says (R s) (okR s) stop w (cond b (Got (K.end s) w) (Bad false w))
  says_finish s w fits e true f = record {
    u = [];
    split = refl;
    phrase = E.done s f;
    fits = E.end_fits s fits f;
    only = λ c v u' t' ef st ph eq. let g : (K.final s ≡ true) × (t' ≡ K.end s) × (u' ≡ []) = only_end s w c v u' t' e ef ph eq in (g.1, g.2);
  }
  says_finish s w fits e false f = record {
    u = [];
    split = refl;
    begun = E.low_rest s fits;
    goes_on = λ d. absurd (let h : false ≡ true = d in cc);
    no_other = λ c v u' t' ef st ph eq low. not_both (K.final s) (only_end s w c v u' t' e ef ph eq).0 f;
  }

  -- what begins with a link is no end
  only_link : (s : S) (w c v u : Items) (t : C) → passes K.is_link (first w) ≡ true → first c ≡ first w → stop (first v) ≡ true → R s t u → u ++ v ≡ c
      → (p : B × C) × (t ≡ K.join p.0 p.1) × Pair L (λ b. R (K.step s b)) p u
  only_link s w c v u t e f st n eq = ⊎_elim
      (λ g. absurd (not_both (passes K.is_link (first w)) e
      (ap (passes K.is_link) (sym f ∙ (ap first (sym eq) ∙ ap (λ z. first (z ++ v)) g.2)) ∙ E.end_none (first v) st)))
      (λ g. g)
      (E.inverse s t u n)

  says_full : (s : S) (w : Items) → okS s → passes K.is_link (first w) ≡ true → passes (K.room s) (first w) ≡ false → Says (R s) (okR s) stop w (Bad true w)
  says_full s [] fits e f = absurd (let h : false ≡ true = e in cc)
  says_full s (x ∷ z) fits e f = record {
    u = [];
    split = refl;
    begun = E.low_rest s fits;
    goes_on = λ d. let a : (u : Items) × (b : B) × L b (x ∷ u) = E.some_link x e in
        let r : (u : Items) × (c : C) × R (K.step s a.1) c u = E.some_rest (K.step s a.1) in
        (x, z, a.0 ++ r.0, K.join a.1 r.1, refl, E.more s a.1 r.1 (x ∷ a.0) r.0 a.2 r.2);
    no_other = λ c v u' t' ef st ph eq low.
        let g : (p : B × C) × (t' ≡ K.join p.0 p.1) × Pair L (λ b. R (K.step s b)) p u' = only_link s (x ∷ z) c v u' t' e ef st ph eq in
        let p : Pair L (λ b. R (K.step s b)) g.0 u' = g.2 in
        let front : first (p.0 ++ (p.1 ++ v)) ≡ Some x = ap first (sym (append_assoc p.0 p.1 v)) ∙ (ap (λ y. first (y ++ v)) (sym p.4) ∙ (ap first eq ∙ ef)) in
        E.no_room s g.0.0 g.0.1 p.0 (p.1 ++ v) p.1 fits (ap (passes (K.room s)) front ∙ f) p.2 p.3 (subst (okR s) g.1 (low refl));
  }

  says_more : (s : S) (n : ℕ) (x : Item) (z : Items) → okS s → K.is_link x ≡ true → K.room s x ≡ true
      → Says L okL stopL (x ∷ z) (K.link (x ∷ z))
      → ((b : B) (r : Items) → okS (K.step s b) → length r ≤ length z → Says (R (K.step s b)) (okR (K.step s b)) stop r (links K n (K.step s b) r))
      → Says (R s) (okR s) stop (x ∷ z) (mapped (λ p. K.join p.0 p.1) (both K.link (λ b r. links K n (K.step s b) r) (x ∷ z)))
  says_more s n x z fits e f link_says next =
      says_mapped (Pair (Kept L (x ∷ z)) (λ b. R (K.step s b))) (R s) (OkPair okL (λ b. okR (K.step s b))) (okR s) stop (λ p. K.join p.0 p.1) (x ∷ z)
      (record {
        into = λ p u q. subst (R s (K.join p.0 p.1)) (sym q.4) (E.more s p.0 p.1 q.0 q.1 q.2.0 q.3);
        back = λ t' u v ef st ph. let g : (p : B × C) × (t' ≡ K.join p.0 p.1) × Pair L (λ b. R (K.step s b)) p u = only_link s (x ∷ z) (u ++ v) v u t' e ef st ph refl in
            let q : Pair L (λ b. R (K.step s b)) g.0 u = g.2 in
            (g.0, g.1, (q.0, q.1, (q.2, kept_first g.0.0 q.0 q.1 u v q.2 q.4 ef), q.3, q.4));
        fit = λ p u q o. E.join_fits s p.0 p.1 x fits e f o.0 o.1;
        unfit = λ p u q o. E.fits_join s p.0 p.1 q.0 q.1 q.2.0 q.3 o;
      })
      (both K.link (λ b r. links K n (K.step s b) r) (x ∷ z))
      (says_both (Kept L (x ∷ z)) (λ b. R (K.step s b)) okL (λ b. okR (K.step s b)) stopL stop
      (record {
        follow = λ b c v y ph st. follows b c v y ph st;
        some = λ b u ph o. E.low_rest (K.step s b) (E.step_fits s b u fits (ap (passes (K.room s)) ph.1 ∙ f) ph.0 o);
        any = λ b. E.some_rest (K.step s b);
      })
      (x ∷ z) (K.link (x ∷ z)) (λ b r. links K n (K.step s b) r)
      kept
      (λ b r i. next b r (E.step_fits s b i.u fits (ap (passes (K.room s)) i.phrase.1 ∙ f) i.phrase.0 i.fits) (shorter i.u r i.split i.phrase.1)))
    where
      kept : Says (Kept L (x ∷ z)) okL stopL (x ∷ z) (K.link (x ∷ z))
      kept = let l : (u : Items) × (b : B) × L b (x ∷ u) × okL b = E.low_link s x fits e f in
          says_kept L okL stopL (x ∷ z) (K.link (x ∷ z)) link_says
          (used_by L okL stopL E.none_stops (x ∷ []) z l.0 l.1 l.2 l.3 (K.link (x ∷ z)) link_says)

      kept_first : (b : B) (a d u v : Items) → L b a → u ≡ a ++ d → first (u ++ v) ≡ Some x → first a ≡ Some x
      kept_first b [] d u v l eq ef = absurd (not_both (passes K.is_link (first [])) (E.begins b [] [] l) refl)
      kept_first b (y ∷ a) d u v l eq ef = ap (λ q. first (q ++ v)) (sym eq) ∙ ef

      stops_first : (a : Items) → passes K.is_link (first a) ≡ true → stopL (first a) ≡ true
      stops_first [] h = absurd (let g : false ≡ true = h in cc)
      stops_first (y ∷ a) h = E.link_stops y h

      follows : (b : B) (c : C) (v y : Items) → R (K.step s b) c v → stop (first y) ≡ true → stopL (first (v ++ y)) ≡ true
      follows b c v y ph st = ⊎_elim
          (λ g. subst (λ q. stopL (first (q ++ y)) ≡ true) (sym g.2) (E.end_stops (first y) st))
          (λ g. let q : Pair L (λ a. R (K.step (K.step s b) a)) g.0 v = g.2 in
          subst (λ a. stopL (first (a ++ y)) ≡ true) (sym q.4)
          (subst (λ a. stopL (first a) ≡ true) (sym (append_assoc q.0 q.1 y)) (stops_first (q.0 ++ (q.1 ++ y)) (E.begins g.0.0 q.0 (q.1 ++ y) q.2))))
          (E.inverse (K.step s b) c v ph)

      shorter : (u r : Items) → x ∷ z ≡ u ++ r → first u ≡ Some x → length r ≤ length z
      shorter [] r eq ef = absurd (let g : None ≡ Some x = ef in cc)
      shorter (y ∷ u) r eq ef = let h : length (x ∷ z) ≡ suc (length u) + length r = ap length eq ∙ length-append (y ∷ u) r in
          let k : length (x ∷ z) ≡ suc (length z) = refl in omega arith

  says_room : (s : S) (n : ℕ) (w : Items) → okS s → passes K.is_link (first w) ≡ true → length w ≤ suc n
      → (passes (K.room s) (first w) ≡ true → Says L okL stopL w (K.link w))
      → ((b : B) (r : Items) → okS (K.step s b) → length r ≤ n → Says (R (K.step s b)) (okR (K.step s b)) stop r (links K n (K.step s b) r))
      → (b : Bool) → passes (K.room s) (first w) ≡ b
      → Says (R s) (okR s) stop w (cond b (mapped (λ p. K.join p.0 p.1) (both K.link (λ b r. links K n (K.step s b) r) w)) (Bad true w))
  says_room s n [] fits e le link_says next b f = absurd (let h : false ≡ true = e in cc)
  says_room s n (x ∷ z) fits e le link_says next true f = says_more s n x z fits e f (link_says f)
      (λ b r o lr. next b r o (let h : length (x ∷ z) ≡ suc (length z) = refl in omega arith))
  says_room s n (x ∷ z) fits e le link_says next false f = says_full s (x ∷ z) fits e f

  says_test : (s : S) (n : ℕ) (w : Items) → okS s → length w ≤ suc n
      → (passes K.is_link (first w) ≡ true → passes (K.room s) (first w) ≡ true → Says L okL stopL w (K.link w))
      → ((b : B) (r : Items) → okS (K.step s b) → length r ≤ n → Says (R (K.step s b)) (okR (K.step s b)) stop r (links K n (K.step s b) r))
      → (b : Bool) → passes K.is_link (first w) ≡ b
      → Says (R s) (okR s) stop w (cond b (cond (passes (K.room s) (first w)) (mapped (λ p. K.join p.0 p.1) (both K.link (λ b r. links K n (K.step s b) r) w)) (Bad true w)) (finish K s w))
  says_test s n w fits le link_says next true e = says_room s n w fits e le (link_says e) next (passes (K.room s) (first w)) refl
  says_test s n w fits le link_says next false e = says_finish s w fits e (K.final s) refl

  pub says_links : (link_says : (s : S) (w : Items) → okS s → passes K.is_link (first w) ≡ true → passes (K.room s) (first w) ≡ true → Says L okL stopL w (K.link w))
      → (n : ℕ) (s : S) (w : Items) → okS s → length w ≤ n → Says (R s) (okR s) stop w (links K n s w)
  says_links link_says zero s [] fits le = says_finish s [] fits refl (K.final s) refl
  says_links link_says zero s (x ∷ w) fits le = absurd (let h : length (x ∷ w) ≤ 0 = le in let k : length (x ∷ w) ≡ suc (length w) = refl in omega arith)
  says_links link_says (suc n) s w fits le = says_test s n w fits le (link_says s w fits) (λ b r o lr. says_links link_says n (K.step s b) r o lr) (passes K.is_link (first w)) refl

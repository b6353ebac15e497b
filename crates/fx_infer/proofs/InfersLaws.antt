-- Inference of one thing after another.
use Rattle.std.proofs.Common.{◌≡◌, ◌↔◌, refl, sym, ap, subst, ◌∙◌, ℕ, ◌≤◌, arith}
use Rattle.fx_types.specs.Agree.{Agree}
use Rattle.fx_types.specs.Instance.{Solution}
use Rattle.fx_types.proofs.AgreeLaws.{agree_less}
use Rattle.fx_unify.specs.declared.bindings.Bindings.{Bindings}
use Rattle.fx_unify.specs.Solutions.{Solves, next_of}
use Rattle.fx_unify.specs.Work.{Within}
use Rattle.fx_infer.specs.Infers.{Infers, Asks, HasNone}

pub agree_then : (n m : ℕ) (s q o : Solution) → n ≤ m → Agree n s q → Agree m q o → Agree n s o
agree_then n m s q o le first second = λ i lt. (
  (first i lt).0 ∙ (second i (omega arith)).0,
  (first i lt).1 ∙ (second i (omega arith)).1,
  (first i lt).2 ∙ (second i (omega arith)).2,
)

-- the question doesn't read numbers from n on
abbrev pub Reads : {R : Type 0} → ℕ → (Solution → R → Type 0) → Type 0
Reads {R = R} n T = (s q : Solution) → Agree n s q → (r : R) → T s r → T q r

-- two questions one after another, the second about what was found by the first
module _ {R P : Type 0} (T : Solution → R → Type 0) (U : R → Solution → P → Type 0) (old mid new : Bindings) (f : Solution → R) (g : Solution → P) where
  pub both : Infers T old mid f → Infers (λ s p. U (f s) s p) mid new g → ((r : R) → Reads (next_of old) (U r))
      → Infers {R = R × P} (λ s x. T s x.0 × U x.0 s x.1) old new (λ s. (f s, g s))
  both one two reads = record {
    more = (let a : next_of old ≤ next_of mid = one.more in let b : next_of mid ≤ next_of new = two.more in omega arith);
    below = λ s q agree. (λ i. (one.below s q (agree_less (next_of new) (next_of mid) s q agree two.more) i, two.below s q agree i));
    keeps = λ s h. one.keeps s (two.keeps s h);
    sound = λ s h. (one.sound s (two.keeps s h), two.sound s h);
    complete = complete;
  }
    where
      complete : (s : Solution) → Solves s old → Within s → (x : R × P) → T s x.0 × U x.0 s x.1
          → (q : Solution) × Agree (next_of old) s q × Solves q new × Within q × ((f q, g q) ≡ x)
      complete s h within x t =
          let a : (q : Solution) × Agree (next_of old) s q × Solves q mid × Within q × (f q ≡ x.0) = one.complete s h within x.0 t.0 in
          let u : U (f a.0) a.0 x.1 = subst (λ r. U r a.0 x.1) (sym a.4) (reads x.0 s a.0 a.1 x.1 t.1) in
          let b : (q : Solution) × Agree (next_of mid) a.0 q × Solves q new × Within q × (g q ≡ x.1) = two.complete a.0 a.2 a.3 x.1 u in
          let found : f b.0 ≡ x.0 = sym (one.below a.0 b.0 b.1) ∙ a.4 in (
            b.0,
            agree_then (next_of old) (next_of mid) s a.0 b.0 one.more a.1 b.1,
            b.2,
            b.3,
            λ i. (found i, b.4 i),
          )

  -- where the first has results and the second has none, both together have none
  pub none_second : Infers T old mid f → HasNone (λ s p. U (f s) s p) mid → ((r : R) → Reads (next_of old) (U r)) → HasNone {R = R × P} (λ s x. T s x.0 × U x.0 s x.1) old
  none_second one none reads = λ s h within x t.
      (let a : (q : Solution) × Agree (next_of old) s q × Solves q mid × Within q × (f q ≡ x.0) = one.complete s h within x.0 t.0 in
      none a.0 a.2 a.3 x.1 (subst (λ r. U r a.0 x.1) (sym a.4) (reads x.0 s a.0 a.1 x.1 t.1)))

  pub none_first : HasNone T old → HasNone {R = R × P} (λ s x. T s x.0 × U x.0 s x.1) old
  none_first none = λ s h within x t. none s h within x.0 t.0

-- the same found for another question, whose results are those of the first, seen through `see`
module _ {R P : Type 0} (T : Solution → R → Type 0) (U : Solution → P → Type 0) (see : Solution → R → P) where
  pub seen_as : (old new : Bindings) (f : Solution → R) → Infers T old new f → ((s q : Solution) → Agree (next_of old) s q → (r : R) → see s r ≡ see q r)
      → ((s : Solution) (r : R) → T s r → U s (see s r)) → ((s : Solution) (p : P) → U s p → (r : R) × T s r × (see s r ≡ p)) → Infers U old new (λ s. see s (f s))
  seen_as old new f one reads there back = record {
    more = one.more;
    below = λ s q agree. reads s q (agree_less (next_of new) (next_of old) s q agree one.more) (f s) ∙ ap (see q) (one.below s q agree);
    keeps = one.keeps;
    sound = λ s h. there s (f s) (one.sound s h);
    complete = λ s h within p u.
        (let r : (r : R) × T s r × (see s r ≡ p) = back s p u in
        let a : (q : Solution) × Agree (next_of old) s q × Solves q new × Within q × (f q ≡ r.0) = one.complete s h within r.0 r.1 in
        (a.0, a.1, a.2, a.3, ap (see a.0) a.4 ∙ sym (reads s a.0 a.1 r.0) ∙ r.2));
  }

  pub none_seen : (old : Bindings) → HasNone T old → ((s : Solution) (p : P) → U s p → (r : R) × T s r × (see s r ≡ p)) → HasNone U old
  none_seen old none back = λ s h within p u. (let r : (r : R) × T s r × (see s r ≡ p) = back s p u in none s h within r.0 r.1)

-- what is asked of the bindings, without a result
pub asked : (C : Solution → Type 0) (old new : Bindings) → next_of old ≤ next_of new → ((s : Solution) → Solves s new ↔ (Solves s old × C s)) → Asks C old new
asked C old new le is = record {
  more = le;
  below = λ s q agree. refl;
  keeps = λ s h. ((is s).0 h).0;
  sound = λ s h. ((is s).0 h).1;
  complete = λ s h within r c. (s, (λ i lt. (refl, refl, refl)), (is s).1 (h, c), within, refl);
}

-- nothing is asked
pub same : {R : Type 0} (T : Solution → R → Type 0) (b : Bindings) (r : R) → ((s : Solution) → T s r) → ((s : Solution) (p : R) → T s p → r ≡ p) → Infers T b b (λ s. r)
same T b r is one = record {
  more = (let le : next_of b ≤ next_of b = omega arith in le);
  below = λ s q agree. refl;
  keeps = λ s h. h;
  sound = λ s h. is s;
  complete = λ s h within p t. (s, (λ i lt. (refl, refl, refl)), h, within, one s p t);
}

-- the same, where solutions of the old bindings alone count
module _ {R P : Type 0} (T : Solution → R → Type 0) (U : Solution → P → Type 0) (see : Solution → R → P) where
  pub seen_where : (old new : Bindings) (f : Solution → R) → Infers T old new f → ((s q : Solution) → Agree (next_of old) s q → (r : R) → see s r ≡ see q r)
      → ((s : Solution) (r : R) → Solves s old → T s r → U s (see s r)) → ((s : Solution) (p : P) → Solves s old → U s p → (r : R) × T s r × (see s r ≡ p)) → Infers U old new (λ s. see s (f s))
  seen_where old new f one reads there back = record {
    more = one.more;
    below = λ s q agree. reads s q (agree_less (next_of new) (next_of old) s q agree one.more) (f s) ∙ ap (see q) (one.below s q agree);
    keeps = one.keeps;
    sound = λ s h. there s (f s) (one.keeps s h) (one.sound s h);
    complete = λ s h within p u.
        (let r : (r : R) × T s r × (see s r ≡ p) = back s p h u in
        let a : (q : Solution) × Agree (next_of old) s q × Solves q new × Within q × (f q ≡ r.0) = one.complete s h within r.0 r.1 in
        (a.0, a.1, a.2, a.3, ap (see a.0) a.4 ∙ sym (reads s a.0 a.1 r.0) ∙ r.2));
  }

-- what is asked first, and a question behind it, are one question where both together say the same
pub asked_first : {R : Type 0} (S : Solution → Type 0) (G C : Solution → R → Type 0) (old mid new : Bindings) (f : Solution → R) → ((s : Solution) → Solves s mid ↔ (Solves s old × S s)) → next_of old ≤ next_of mid
    → Infers G mid new f → Reads (next_of old) G → ((s : Solution) (r : R) → Solves s old → C s r ↔ (S s × G s r)) → Infers C old new f
asked_first S G C old mid new f is le h reads same =
    seen_where (λ s x. S s × G s x.1) C (λ s x. x.1) old new (λ s. (tt, f s)) (both (λ s u. S s) (λ u s r. G s r) old mid new (λ s. tt) f (asked S old mid le is) h (λ u. reads))
    (λ s q agree x. refl) (λ s x h k. (same s x.1 h).1 k) (λ s r h c. ((tt, r), (same s r h).0 c, refl))

-- the same question in other words

pub instead : {R : Type 0} (T U : Solution → R → Type 0) (old new : Bindings) (f : Solution → R) → ((s : Solution) (r : R) → T s r ↔ U s r) → Infers T old new f → Infers U old new f
instead T U old new f same h = seen_as T U (λ s r. r) old new f h (λ s q agree r. refl) (λ s r t. (same s r).0 t) (λ s r u. (r, (same s r).1 u, refl))

pub none_instead : {R : Type 0} (T U : Solution → R → Type 0) (old : Bindings) → ((s : Solution) (r : R) → T s r ↔ U s r) → HasNone T old → HasNone U old
none_instead T U old same none = λ s h within r u. none s h within r ((same s r).1 u)

-- Counts that are kept.
use Rattle.std.proofs.Common.{◌≡◌, ◌≢◌, ◌⊎◌, inl, inr, refl, sym, ap, subst, ◌∙◌, ℕ, zero, suc, ◌≤◌, ◌<◌, false, List, [], ◌∷◌, Option, None, Some, option_map, MatchOption, get_or, Result, Ok, Err, arith}
use Rattle.std.proofs.Math.ListN.{set}
use Rattle.fx_types.specs.declared.term.Ty.{Ty}
use Rattle.fx_types.specs.declared.term.Ty.TheVariants as ty
use Rattle.fx_types.specs.Term.{type_variable}
use Rattle.fx_types.specs.Ground.{g_is}
use Rattle.fx_types.specs.Instance.{Solution, ground}
use Rattle.fx_types.specs.Shape.{term}
use Rattle.fx_types.specs.Size.{Pipes}
use Rattle.fx_types.proofs.ShapeLaws.{term_variable}
use Rattle.fx_unify.specs.declared.counts.Counts as counts
use Rattle.fx_unify.specs.declared.fault.UnifyFault.{UnifyFault}
use Rattle.fx_unify.specs.declared.fault.UnifyFault.TheVariants as fault
use Rattle.fx_unify.specs.declared.sorts.Sorts as sorts
use Rattle.fx_unify.specs.declared.store.Store as stores
use Rattle.fx_unify.specs.Counted.{Counted, HasNodes}
use Rattle.fx_unify.specs.Least.{Leads}
use Rattle.fx_unify.specs.Measure.{least, Admits, Measured, Measuring}
use Rattle.fx_unify.specs.Part.{p_is, value, type_node, Solved}
use Rattle.fx_unify.specs.Sorts.{plain_values, plainest_of, set_at}
use Rattle.fx_unify.specs.Store.{entry}
use Rattle.fx_unify.proofs.CountLaws.{plainest_formed, plainest_one}
use Rattle.fx_unify.proofs.LeastLaws.{bound_step, free_type, led, bound_measured}
use Rattle.fx_unify.proofs.MeasureLaws.{no_room, one_node, restated_measure}
use Rattle.fx_unify.proofs.StoreLaws.{some_is, none_some}
use Rattle.fx_types.proofs.Choices.{never}

-- after a write each place has what was written, or what it had
pub written : {A : Type 0} (xs : List A) (i j : ℕ) (a d : A) → ((j ≡ i) × (get_or (set xs i a) j d ≡ a)) ⊎ (get_or (set xs i a) j d ≡ get_or xs j d)
written [] i j a d = inr refl
written (x ∷ xs) zero zero a d = inl (refl, refl)
written (x ∷ xs) zero (suc j) a d = inr refl
written (x ∷ xs) (suc i) zero a d = inr refl
written (x ∷ xs) (suc i) (suc j) a d = go (written xs i j a d)
  where
    go : ((j ≡ i) × (get_or (set xs i a) j d ≡ a)) ⊎ (get_or (set xs i a) j d ≡ get_or xs j d)
        → ((suc j ≡ suc i) × (get_or (set xs i a) j d ≡ a)) ⊎ (get_or (set xs i a) j d ≡ get_or xs j d)
    go (inl h) = inl (ap suc h.0, h.1)
    go (inr h) = inr h

pub after_is : (st : stores.Store) (v : ℕ) (t : Ty) (o : Option ℕ) → get_or st.types.items v None ≡ Some t → MatchOption o (Unit {0}) (λ w. term t ≡ type_variable w)
    → MatchOption o (Unit {0}) (λ w. entry st (type_node v) ≡ Some (p_is (type_variable w)))
after_is st v t None at h = tt
after_is st v t (Some w) at h = ap (option_map (λ u. p_is (term u))) at ∙ ap (λ x. Some (p_is x)) h

module _ (st : stores.Store) (ks : List sorts.Sorts) where
  pub none_counted : (c : counts.Counts) → ((v : ℕ) → get_or c.types.items v None ≡ None) → ((r : ℕ) → get_or c.rows.items r false ≡ false) → Counted st ks c
  unfolding Counted
  none_counted c h k = (λ v n e. none_some n (get_or c.types.items v None) (h v) e, λ r e. never (get_or c.rows.items r false) e (k r))

  pub one_counted : (c d : counts.Counts) (v n : ℕ) → Counted st ks c → HasNodes st ks v n → d.types.items ≡ set c.types.items v (Some n) → d.rows ≡ c.rows → Counted st ks d
  unfolding Counted
  one_counted c d v n h nodes is rows = (λ w m e. number w m e (written c.types.items v w (Some n) None), λ r e. h.1 r (ap (λ x. get_or x.items r false) (sym rows) ∙ e))
    where
      number : (w m : ℕ) → get_or d.types.items w None ≡ Some m
          → ((w ≡ v) × (get_or (set c.types.items v (Some n)) w None ≡ Some n)) ⊎ (get_or (set c.types.items v (Some n)) w None ≡ get_or c.types.items w None) → HasNodes st ks w m
      number w m e (inl x) = subst (λ k. HasNodes st ks w k) (some_is n m (sym x.1 ∙ ap (λ xs. get_or xs w None) (sym is) ∙ e)) (subst (λ u. HasNodes st ks u n) (sym x.0) nodes)
      number w m e (inr x) = h.0 w m (sym x ∙ ap (λ xs. get_or xs w None) (sym is) ∙ e)

  pub nodes_before : (c : counts.Counts) (v w n : ℕ) (o : Option ℕ) → Counted st ks c → o ≡ get_or c.types.items w None → o ≡ Some n
      → Leads (entry st) (p_is (type_variable v)) (p_is (type_variable w))
      → ((s : Solution) → Solved s (entry st) → value s (p_is (type_variable w)) ≡ value s (p_is (type_variable v))) → HasNodes st ks v n
  unfolding Counted
  nodes_before c v w n o h at is way same =
      (led st ks Pipes (p_is (type_variable v)) (p_is (type_variable w)) way same (Ok n) n (h.0 w n (sym at ∙ is), omega arith)).0

  pub nodes_after : (v w n : ℕ) → entry st (type_node v) ≡ Some (p_is (type_variable w)) → HasNodes st ks v n → HasNodes st ks w n
  nodes_after v w n e h = (
    h.0,
    (h.1.0, λ i le. sym (bound_step st (p_is (type_variable v)) (p_is (type_variable w)) e (plain_values ks) i) ∙ h.1.1 (suc i) (omega arith)),
    h.2,
    h.3,
    λ s among m c. h.4 s among m (subst (λ g. Pipes g m) (sym (among.0 (type_node v) (p_is (type_variable w)) e)) c),
  )

  -- the count of a variable as an answer

  pub nodes_fit : (v n room : ℕ) → HasNodes st ks v n → n ≤ room → Measuring (Ok n) (least st ks) (Admits st ks) Pipes (λ s. g_is (s.type_of v)) room
  nodes_fit v n room h le = (h, le)

  pub nodes_over : (v n room : ℕ) → HasNodes st ks v n → room < n → Measuring (Err fault.Clash) (least st ks) (Admits st ks) Pipes (λ s. g_is (s.type_of v)) room
  nodes_over v n room h lt s among formed c = let few : n ≤ room = h.4 s among room c in absurd (omega arith)

  module _ (t : Ty) (v : ℕ) (e : t ≡ ty.Var v) where
    is_variable : (s : Solution) → g_is (ground s (term t)) ≡ g_is (s.type_of v)
    is_variable s = ap (λ x. g_is (ground s x)) (ap term e ∙ term_variable v)

    pub as_type : (n : ℕ) → HasNodes st ks v n → Measured (least st ks) (Admits st ks) Pipes (λ s. g_is (ground s (term t))) n
    as_type n h = (restated_measure (least st ks) (Admits st ks) Pipes (λ s. g_is (ground s (term t))) (λ s. g_is (s.type_of v)) is_variable (Ok n) n (h, omega arith)).0

    pub as_variable : (n : ℕ) → Measured (least st ks) (Admits st ks) Pipes (λ s. g_is (ground s (term t))) n → HasNodes st ks v n
    as_variable n h = (restated_measure (least st ks) (Admits st ks) Pipes (λ s. g_is (s.type_of v)) (λ s. g_is (ground s (term t))) (λ s. sym (is_variable s)) (Ok n) n (h, omega arith)).0

    pub kept_as_type : (o : Option ℕ) → MatchOption o (Unit {0}) (λ n. HasNodes st ks v n)
        → MatchOption o (Unit {0}) (λ n. Measured (least st ks) (Admits st ks) Pipes (λ s. g_is (ground s (term t))) n)
    kept_as_type None h = tt
    kept_as_type (Some n) h = as_type n h

  pub type_over : (t : Ty) (n room : ℕ) → Measured (least st ks) (Admits st ks) Pipes (λ s. g_is (ground s (term t))) n → room < n
      → Measuring (Err fault.Clash) (least st ks) (Admits st ks) Pipes (λ s. g_is (ground s (term t))) room
  type_over t n room h lt s among formed c = let few : n ≤ room = h.4 s among room c in absurd (omega arith)

  pub bound_counts : (v : ℕ) (t : Ty) (r : Result ℕ UnifyFault) (room : ℕ) → get_or st.types.items v None ≡ Some t
      → Measuring r (least st ks) (Admits st ks) Pipes (λ s. g_is (ground s (term t))) room → Measuring r (least st ks) (Admits st ks) Pipes (λ s. g_is (s.type_of v)) room
  bound_counts v t r room at h = bound_measured st ks Pipes (p_is (type_variable v)) (p_is (term t)) (ap (option_map (λ u. p_is (term u))) at) r room h

  pub free_counts : (v room : ℕ) → get_or st.types.items v None ≡ None → room ≢ 0 → Measuring (Ok 1) (least st ks) (Admits st ks) Pipes (λ s. g_is (s.type_of v)) room
  free_counts v room free some = (
    one_node (least st ks) (Admits st ks) (λ s. s.type_of v) (plainest_of (set_at ks v))
        (λ i. free_type (entry st) (plain_values ks) v i (ap (option_map (λ u. p_is (term u))) free)) (plainest_formed (set_at ks v)) (plainest_one (set_at ks v)),
    omega arith,
  )

  pub free_no_room : (v room : ℕ) → room ≡ 0 → Measuring (Err fault.Clash) (least st ks) (Admits st ks) Pipes (λ s. g_is (s.type_of v)) room
  free_no_room v room e = no_room (least st ks) (Admits st ks) (λ s. s.type_of v) room e

-- Type variables that become one.
use Rattle.std.proofs.Common.{◌≡◌, ◌↔◌, ◌⊎◌, inl, inr, sym, ap, subst, ◌∙◌, refl, ℕ, ◌==◌, get_or, Option, None, Some, MatchOption, option_map, eqb-true, eq-eqb}
use Rattle.std.specs.Prelude.{if◌then◌else◌}
use Rattle.fx_types.specs.declared.term.Ty.{Ty}
use Rattle.fx_types.specs.declared.term.Ty.TheVariants as ty
use Rattle.fx_types.specs.Term.{type_variable}
use Rattle.fx_types.specs.Instance.{Solution}
use Rattle.fx_types.specs.Shape.{term}
use Rattle.fx_types.proofs.ShapeLaws.{term_variable}
use Rattle.fx_types.proofs.Choices.{chosen, passed, by_cases}
use Rattle.fx_unify.specs.declared.store.Store as stores
use Rattle.fx_unify.specs.Part.{Part, p_is, part, value, Variable, type_node, field_node, slot_node, as_part, Entries, Solved}
use Rattle.fx_unify.specs.Store.{entry}
use Rattle.fx_unify.specs.Work.{Hold, Holds}
use Rattle.fx_unify.proofs.StoreLaws.{some_is, slots_same, type_bound}

-- what leads to a variable
abbrev pub LeadsTo : stores.Store → Part → ℕ → Type 0
LeadsTo st p n = (s : Solution) → Solved s (entry st) → value s p ≡ value s (p_is (type_variable n))

pub led_before : (st : stores.Store) (p q : Part) → ((s : Solution) → Solved s (entry st) → value s q ≡ value s p) → (o : Option ℕ)
    → MatchOption o (Unit {0}) (LeadsTo st q) → MatchOption o (Unit {0}) (LeadsTo st p)
led_before st p q same None h = tt
led_before st p q same (Some n) h = λ s solved. sym (same s solved) ∙ h s solved

-- one variable gets another entry, and what it had is to be equal to it

replaced_solves : (e e' : Entries) (x : Variable) (p q : Part) → e x ≡ Some p → e' x ≡ Some q → ((y : Variable) → (y ≡ x) ⊎ (e' y ≡ e y))
    → (s : Solution) → (Solved s e' × (value s p ≡ value s q)) ↔ (Solved s e × (value s (as_part x) ≡ value s q))
replaced_solves e e' x p q was new others s = (λ h. (λ y r at. before h y r at (others y), h.0 x q new), λ h. (λ y r at. after h y r at (others y), sym (h.0 x p was) ∙ h.1))
  where
    before : Solved s e' × (value s p ≡ value s q) → (y : Variable) (r : Part) → e y ≡ Some r → (y ≡ x) ⊎ (e' y ≡ e y) → value s (as_part y) ≡ value s r
    before h y r at (inl same) = ap (λ z. value s (as_part z)) same ∙ h.0 x q new ∙ sym h.1 ∙ ap (value s) (some_is p r (sym was ∙ ap e (sym same) ∙ at))
    before h y r at (inr old) = h.0 y r (old ∙ at)

    after : Solved s e × (value s (as_part x) ≡ value s q) → (y : Variable) (r : Part) → e' y ≡ Some r → (y ≡ x) ⊎ (e' y ≡ e y) → value s (as_part y) ≡ value s r
    after h y r at (inl same) = ap (λ z. value s (as_part z)) same ∙ h.1 ∙ ap (value s) (some_is q r (sym new ∙ ap e' (sym same) ∙ at))
    after h y r at (inr old) = h.0 y r (sym old ∙ at)

-- two type variables are one from now on

module _ (st st' : stores.Store) (n m : ℕ) (v : Ty) (is : v ≡ ty.Var m) (fields : st'.fields ≡ st.fields) (slots : st'.slots ≡ st.slots) (apart : st'.apart ≡ st.apart) (rests : st'.rests ≡ st.rests)
    (put : (k : ℕ) → get_or st'.types.items k None ≡ (if k == n then Some v else get_or st.types.items k None)) where
  abbrev Joined : Solution → Type 0
  Joined s = value s (p_is (type_variable n)) ≡ value s (p_is (type_variable m))

  to_variable : term v ≡ type_variable m
  to_variable = ap term is ∙ term_variable m

  pub joined_free : st'.work ≡ st.work → get_or st.types.items n None ≡ None → (s : Solution) → Holds s st' ↔ (Holds s st × Joined s)
  joined_free work free s =
      subst (λ t. Holds s st' ↔ (Holds s st × (value s (p_is (type_variable n)) ≡ value s (p_is t)))) to_variable
      (type_bound st st' n v fields slots apart rests work put (ap (option_map (λ t. p_is (term t))) free) s)

  pub joined_bound : (t : Ty) → get_or st.types.items n None ≡ Some t
      → ((s : Solution) → Hold s st'.work.items ↔ (Hold s st.work.items × (value s (p_is (term t)) ≡ value s (p_is (term v))))) → (s : Solution) → Holds s st' ↔ (Holds s st × Joined s)
  joined_bound t was work s = (
    λ h. (let w = (work s).0 h.1 in let k = both.0 (h.0, w.1) in ((k.0, w.0), subst (λ x. value s (p_is (type_variable n)) ≡ value s (p_is x)) to_variable k.1)),
    λ h. (let k = both.1 (h.0.0, subst (λ x. value s (p_is (type_variable n)) ≡ value s (p_is x)) (sym to_variable) h.1) in (k.0, (work s).1 (h.0.1, k.1))),
  )
    where
      others : (y : Variable) → (y ≡ type_node n) ⊎ (entry st' y ≡ entry st y)
      others (type_node k) =
          by_cases (k == n) (λ e. inl (ap type_node (eqb-true k n e)))
          (λ e. inr (ap (option_map (λ u. p_is (term u))) (put k ∙ passed (k == n) (Some v) (get_or st.types.items k None) e)))
      others (field_node k) = inr (ap (λ w. option_map part (get_or w.items k None)) fields)
      others (slot_node r l) = inr (slots_same st st' slots apart rests r l)

      both : (Solved s (entry st') × (value s (p_is (term t)) ≡ value s (p_is (term v)))) ↔ (Solved s (entry st) × (value s (p_is (type_variable n)) ≡ value s (p_is (term v))))
      both =
          replaced_solves (entry st) (entry st') (type_node n) (p_is (term t)) (p_is (term v)) (ap (option_map (λ u. p_is (term u))) was)
          (ap (option_map (λ u. p_is (term u))) (put n ∙ chosen (n == n) (Some v) (get_or st.types.items n None) (eq-eqb n n refl))) others s

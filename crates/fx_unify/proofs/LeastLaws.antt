-- The steps of the least solution.
use Rattle.std.proofs.Common.{◌≡◌, refl, sym, ap, subst, ◌∙◌, ℕ, zero, suc, ◌+◌, ◌-◌, ◌≤◌, true, false, List, Option, None, Some, get_or, Result, Ok, Err, option_map, MatchOption, arith}
use Rattle.fx_types.specs.declared.term.Ty.{Ty}
use Rattle.fx_types.specs.declared.term.Ty.TheVariants as ty
use Rattle.fx_types.specs.Term.{Label, type_variable}
use Rattle.fx_types.specs.Ground.{Ground, GroundField, g_is, listed, IsWellFormedField}
use Rattle.fx_types.specs.Instance.{Solution}
use Rattle.fx_types.specs.Shape.{term}
use Rattle.fx_types.proofs.ShapeLaws.{term_variable}
use Rattle.fx_unify.specs.declared.fault.UnifyFault.{UnifyFault}
use Rattle.fx_unify.specs.declared.fault.UnifyFault.TheVariants as fault
use Rattle.fx_unify.specs.declared.sorts.Sorts as sorts
use Rattle.fx_unify.specs.declared.store.Root as roots
use Rattle.fx_unify.specs.declared.store.Root.TheVariants as root
use Rattle.fx_unify.specs.declared.store.Store as stores
use Rattle.fx_unify.specs.Least.{type_or, value_or, steps, Leads, RowLeads}
use Rattle.fx_unify.specs.Measure.{least, Admits, Settles, Measuring}
use Rattle.fx_unify.specs.Part.{Part, p_is, p_field, p_slot, value, Entries, type_node, field_node, slot_node, Solved}
use Rattle.fx_unify.specs.Sorts.{plain_values}
use Rattle.fx_unify.specs.Store.{entry, bound_to, root_at, rest_of, AreKept}
use Rattle.fx_unify.proofs.StoreLaws.{some_is, none_some, off_kept, followed, stepped}
use Rattle.fx_unify.specs.View.{field_bound_to}
use Rattle.fx_unify.proofs.LabelLaws.{not_before}

typed_step : (o : Option Ty) (t : Ground) (s : Solution) (q : Part) → option_map (λ u. p_is (term u)) o ≡ Some q
    → g_is (type_or t (value_or (g_is t) s (option_map (λ u. p_is (term u)) o))) ≡ value s q
typed_step None t s q e = none_some q None refl e
typed_step (Some u) t s q e = ap (value s) (some_is (p_is (term u)) q e)

-- a bound variable has the step before of what it is bound to
pub bound_step : (st : stores.Store) (p q : Part) → bound_to (entry st) p ≡ Some q → (plain : Solution) (n : ℕ)
    → value (steps (entry st) plain (suc n)) p ≡ value (steps (entry st) plain n) q
bound_step st (p_field m) q e plain n = ap (value_or (plain.field_of m) (steps (entry st) plain n)) e
bound_step st (p_slot r l) q e plain n = ap (value_or (plain.row_of r l) (steps (entry st) plain n)) e
bound_step st (p_is (type_variable m)) q e plain n = typed_step (get_or st.types.items m None) (plain.type_of m) (steps (entry st) plain n) q e
bound_step st _ q e plain n = none_some q None refl e

pub free_type : (e : Entries) (plain : Solution) (m n : ℕ) → e (type_node m) ≡ None → (steps e plain n).type_of m ≡ plain.type_of m
free_type e plain m zero h = refl
free_type e plain m (suc n) h = ap (λ o. type_or (plain.type_of m) (value_or (g_is (plain.type_of m)) (steps e plain n) o)) h

pub free_field : (e : Entries) (plain : Solution) (m n : ℕ) → e (field_node m) ≡ None → (steps e plain n).field_of m ≡ plain.field_of m
free_field e plain m zero h = refl
free_field e plain m (suc n) h = ap (λ o. value_or (plain.field_of m) (steps e plain n) o) h

pub free_slot : (e : Entries) (plain : Solution) (r : ℕ) (l : Label) (n : ℕ) → e (slot_node r l) ≡ None → (steps e plain n).row_of r l ≡ plain.row_of r l
free_slot e plain r l zero h = refl
free_slot e plain r l (suc n) h = ap (λ o. value_or (plain.row_of r l) (steps e plain n) o) h

pub leads_nowhere : (e : Entries) (p : Part) → Leads e p p
leads_nowhere e p = (0, λ plain n. (let same : n + 0 ≡ n = omega arith in ap (λ i. value (steps e plain i) p) same))

pub leads_on : (st : stores.Store) (p q r : Part) → Leads (entry st) p q → bound_to (entry st) q ≡ Some r → Leads (entry st) p r
leads_on st p q r h e =
    (suc h.0, λ plain n. (let same : n + suc h.0 ≡ suc n + h.0 = omega arith in ap (λ i. value (steps (entry st) plain i) p) same ∙ h.1 plain (suc n) ∙ bound_step st q r e plain n))

pub field_bound : (e : Entries) (p q : Part) → field_bound_to e p ≡ Some q → bound_to e p ≡ Some q
field_bound e (p_field n) q h = h
field_bound e (p_slot r l) q h = h
field_bound e _ q h = none_some q None refl h

-- what is measured of the end of a way is measured of its start
pub settled_before : (e : Entries) (plain : Solution) (f g : Solution → GroundField) (d : ℕ) → ((n : ℕ) → f (steps e plain (n + d)) ≡ g (steps e plain n)) → (x : GroundField)
    → Settles (steps e plain) g x → Settles (steps e plain) f x
settled_before e plain f g d way x h =
    (h.0 + d, λ n le. (let same : n ≡ n - d + d = omega arith in let from : h.0 ≤ n - d = omega arith in ap (λ i. f (steps e plain i)) same ∙ way (n - d) ∙ h.1 (n - d) from))

pub measured_before : (st : stores.Store) (ks : List sorts.Sorts) (C : GroundField → ℕ → Type 0) (f g : Solution → GroundField) (d : ℕ)
    → ((n : ℕ) → f (least st ks (n + d)) ≡ g (least st ks n)) → ((s : Solution) → Solved s (entry st) → g s ≡ f s) → (r : Result ℕ UnifyFault) (room : ℕ)
    → Measuring r (least st ks) (Admits st ks) C g room → Measuring r (least st ks) (Admits st ks) C f room
measured_before st ks C f g d way same (Ok n) room h = (
  (h.0.0, settled_before (entry st) (plain_values ks) f g d way h.0.0 h.0.1, h.0.2, h.0.3, λ s among m c. h.0.4 s among m (subst (λ x. C x m) (sym (same s among.0)) c)),
  h.1,
)
measured_before st ks C f g d way same (Err fault.Clash) room h =
    λ s among formed c. h s among (subst IsWellFormedField (sym (same s among.0)) formed) (subst (λ x. C x room) (sym (same s among.0)) c)
measured_before st ks C f g d way same (Err fault.Memory) room h = tt

pub led : (st : stores.Store) (ks : List sorts.Sorts) (C : GroundField → ℕ → Type 0) (p q : Part) → Leads (entry st) p q → ((s : Solution) → Solved s (entry st) → value s q ≡ value s p)
    → (r : Result ℕ UnifyFault) (room : ℕ) → Measuring r (least st ks) (Admits st ks) C (λ s. value s q) room → Measuring r (least st ks) (Admits st ks) C (λ s. value s p) room
led st ks C p q way same r room h = measured_before st ks C (λ s. value s p) (λ s. value s q) way.0 (λ n. way.1 (plain_values ks) n) same r room h

pub bound_measured : (st : stores.Store) (ks : List sorts.Sorts) (C : GroundField → ℕ → Type 0) (p q : Part) → bound_to (entry st) p ≡ Some q → (r : Result ℕ UnifyFault) (room : ℕ)
    → Measuring r (least st ks) (Admits st ks) C (λ s. value s q) room → Measuring r (least st ks) (Admits st ks) C (λ s. value s p) room
bound_measured st ks C p q e r room h =
    measured_before st ks C (λ s. value s p) (λ s. value s q) 1
    (λ i. (let next : i + 1 ≡ suc i = omega arith in ap (λ j. value (least st ks j) p) next ∙ bound_step st p q e (plain_values ks) i))
    (λ s solved. sym (stepped (entry st) p q e s solved)) r room h

-- the same for rows, off labels of which there are more and more

abbrev pub Rests : stores.Store → List Label → ℕ → ℕ → Type 0
Rests st ls r q = ((s : Solution) → Solved s (entry st) → (l : Label) → listed l ls ≡ false → s.row_of q l ≡ s.row_of r l) × RowLeads st ls r (root.Var q)

pub rests_nowhere : (st : stores.Store) (ls : List Label) (r : ℕ) → Rests st ls r r
rests_nowhere st ls r = (λ s solved l off. refl, (0, λ plain n l off. (let same : n + 0 ≡ n = omega arith in ap (λ i. (steps (entry st) plain i).row_of r l) same)))

pub rests_at : (st : stores.Store) (ls ms : List Label) (r q : ℕ) → Rests st ls r q → ((l : Label) → listed l ls ≡ true → listed l ms ≡ true) → Rests st ms r q
rests_at st ls ms r q h more =
    (λ s solved l off. h.0 s solved l (not_before ls ms l more off), (h.1.0, λ plain n l off. h.1.1 plain n l (not_before ls ms l more off)))

-- on to what the rest of the row is bound to
pub rests_on : (st : stores.Store) (ls ms : List Label) (r q : ℕ) (o : roots.Root) → Rests st ls r q → ((l : Label) → listed l ls ≡ true → listed l ms ≡ true) → AreKept st q ms
    → rest_of st q ≡ Some o → ((s : Solution) → Solved s (entry st) → (l : Label) → listed l ms ≡ false → value s (root_at l o) ≡ s.row_of r l) × RowLeads st ms r o
rests_on st ls ms r q o h more kept e = (
  λ s solved l off. sym (followed st q o e s solved l (kept l off).0 (kept l off).1) ∙ h.0 s solved l (not_before ls ms l more off),
  (
    suc h.1.0,
    λ plain n l off. (let same : n + suc h.1.0 ≡ suc n + h.1.0 = omega arith in
        ap (λ i. (steps (entry st) plain i).row_of r l) same ∙ h.1.1 plain (suc n) l (not_before ls ms l more off)
        ∙ bound_step st (p_slot q l) (root_at l o) (off_kept st q l (kept l off).0 (kept l off).1 ∙ ap (option_map (root_at l)) e) plain n),
  ),
)

-- what a type variable is bound to, by reference
pub type_after : {B : Type 0} (seen : B → Ty) (st : stores.Store) (t : Ty) (n : ℕ) (items : List (Option Ty)) (o : Option B) → t ≡ ty.Var n → items ≡ st.types.items
    → MatchOption o (get_or items n None ≡ None) (λ u. get_or items n None ≡ Some (seen u))
    → MatchOption o (bound_to (entry st) (p_is (term t)) ≡ None) (λ u. bound_to (entry st) (p_is (term t)) ≡ Some (p_is (term (seen u))))
type_after {B = B} seen st t n items o e same h = go o h
  where
    at : bound_to (entry st) (p_is (term t)) ≡ option_map (λ u. p_is (term u)) (get_or items n None)
    at = ap (λ y. bound_to (entry st) (p_is y)) (ap term e ∙ term_variable n) ∙ ap (λ is. option_map (λ u. p_is (term u)) (get_or is n None)) (sym same)

    go : (o : Option B) → MatchOption o (get_or items n None ≡ None) (λ u. get_or items n None ≡ Some (seen u))
        → MatchOption o (bound_to (entry st) (p_is (term t)) ≡ None) (λ u. bound_to (entry st) (p_is (term t)) ≡ Some (p_is (term (seen u))))
    go None h = at ∙ ap (option_map (λ u. p_is (term u))) h
    go (Some u) h = at ∙ ap (option_map (λ u. p_is (term u))) h

-- The use of a built-in's scheme: its variables get numbers that nothing else has.
use Rattle.std.proofs.Common.{◌≡◌, ◌↔◌, inl, refl, sym, ap, subst, ◌∙◌, ℕ, ◌≤◌, Bool, true, false, ◌||◌, ◌==◌, eq-eqb, eqb-true, List, [], ◌∷◌}
use mathlib.Core.Bool.{true≢false}
use Rattle.fx_types.specs.Agree.{Agree}
use Rattle.fx_types.specs.Ground.{Ground, GroundField, g_absent, g_is}
use Rattle.fx_types.specs.Instance.{Solution, ground, ground_labels}
use Rattle.fx_types.specs.Kinds.{IsAmong}
use Rattle.fx_types.specs.Raised.{from, spliced}
use Rattle.fx_types.specs.Size.{IsType}
use Rattle.fx_types.specs.Term.{Label}
use Rattle.fx_types.proofs.PartLaws.{IsTypeField}
use Rattle.fx_types.proofs.RaisedLaws.{spliced_agrees, from_spliced}
use Rattle.fx_unify.specs.declared.bindings.Bindings.{Bindings}
use Rattle.fx_unify.specs.Part.{Variable, type_node, field_node, slot_node, as_part, value}
use Rattle.fx_unify.specs.Seen.{sees, sees_labels, kept_at}
use Rattle.fx_unify.specs.Solutions.{Solves, next_of}
use Rattle.fx_unify.specs.Work.{Within}
use Rattle.fx_unify.proofs.AskLaws.{unrestricted}
use Rattle.fx_unify.proofs.SeenLaws.{or_left, or_right, split, same_term, same_labels, seen_part, seen_labels, Rest, rest_or, rest_term, rest_labels, AllSeen, kept_within, kept_value}
use Rattle.fx_unify.proofs.WithinLaws.{spliced_within, scalar_type}
use Rattle.fx_schemes.specs.declared.builtin_type.KindBound as bounds
use Rattle.fx_schemes.specs.Line.{Line}
use Rattle.fx_schemes.specs.Scheme.{Scheme, Keeps, instance}
use Rattle.fx_infer.specs.Arguments.{IsTypeOrAbsent}
use Rattle.fx_infer.specs.Infers.{Infers}
use Rattle.fx_infer.specs.Uses.{IsUse}

-- the variables that a scheme shows, and those with a bound

abbrev is_bound : Variable → List bounds.KindBound → Bool
is_bound (type_node n) [] = false
is_bound (type_node n) (k ∷ ks) = (n == k.var) || is_bound (type_node n) ks
is_bound _ ks = false

abbrev in_scheme : Scheme → Variable → Bool
in_scheme x v = sees v x.type || (sees_labels v [] x.optional || is_bound v x.kinds)

field_type : (g : GroundField) → IsTypeOrAbsent g → IsTypeField g
field_type g_absent h = (tt, tt)
field_type (g_is t) h = h

bound_type : (s : Solution) (ks : List bounds.KindBound) → Keeps s ks → (v : Variable) → is_bound v ks ≡ true → IsTypeField (value s (as_part v))
bound_type s [] h (type_node n) e = absurd (true≢false (sym e))
bound_type s (k ∷ ks) h (type_node n) e =
    split (n == k.var) (is_bound (type_node n) ks) e (λ d. subst (λ m. IsType (s.type_of m)) (sym (eqb-true n k.var d)) (scalar_type k.kinds k.span (s.type_of k.var) h.0)) (λ d. bound_type s ks h.1 (type_node n) d)
bound_type s ks h (field_node n) e = absurd (true≢false (sym e))
bound_type s ks h (slot_node r l) e = absurd (true≢false (sym e))

no_bound : (s : Solution) (r : ℕ) (ks : List bounds.KindBound) → Rest s r (λ l. is_bound (slot_node r l) ks)
no_bound s r ks = inl (λ l. refl)

module _ (x : Scheme) (w : Solution) (keeps : Keeps w x.kinds) (type : IsType (ground w x.type)) (optional : (l : Label) → IsTypeOrAbsent (ground_labels w x.optional l)) where
  all_seen : AllSeen (in_scheme x) w
  all_seen = (
    λ v e.
        split (sees v x.type) (sees_labels v [] x.optional || is_bound v x.kinds) e (λ d. seen_part w x.type type v d)
        (λ d. split (sees_labels v [] x.optional) (is_bound v x.kinds) d (λ c. seen_labels w [] x.optional (λ l off. field_type (ground_labels w x.optional l) (optional l)) v c)
        (λ c. bound_type w x.kinds keeps v c)),
    λ r.
        rest_or w r (λ l. sees (slot_node r l) x.type) (λ l. sees_labels (slot_node r l) [] x.optional || is_bound (slot_node r l) x.kinds) (rest_term w r x.type type)
        (rest_or w r (λ l. sees_labels (slot_node r l) [] x.optional) (λ l. is_bound (slot_node r l) x.kinds)
        (rest_labels w r [] x.optional (λ l off. field_type (ground_labels w x.optional l) (optional l))) (no_bound w r x.kinds)),
  )

  abbrev kept : Solution
  kept = kept_at (in_scheme x) w

  kept_is_within : Within kept
  kept_is_within = kept_within (in_scheme x) w all_seen

  same_type : ground kept x.type ≡ ground w x.type
  same_type = same_term kept w x.type (λ v e. kept_value (in_scheme x) w v (or_left (sees v x.type) (sees_labels v [] x.optional || is_bound v x.kinds) e))

  same_optional : ground_labels kept x.optional ≡ ground_labels w x.optional
  same_optional = λ i l.
      same_labels kept w [] x.optional
      (λ v e. kept_value (in_scheme x) w v (or_right (sees v x.type) (sees_labels v [] x.optional || is_bound v x.kinds) (or_left (sees_labels v [] x.optional) (is_bound v x.kinds) e))) l refl i

  same_bound : (n : ℕ) → is_bound (type_node n) x.kinds ≡ true → kept.type_of n ≡ w.type_of n
  same_bound n e =
      let is : g_is (kept.type_of n) ≡ g_is (w.type_of n) =
      kept_value (in_scheme x) w (type_node n)
      (or_right (sees (type_node n) x.type) (sees_labels (type_node n) [] x.optional || is_bound (type_node n) x.kinds) (or_right (sees_labels (type_node n) [] x.optional) (is_bound (type_node n) x.kinds) e)) in
      one_type (kept.type_of n) (w.type_of n) is
    where
      one_type : (t u : Ground) → g_is t ≡ g_is u → t ≡ u
      one_type t u e = cc

  still_kept : (ks : List bounds.KindBound) → ((n : ℕ) → is_bound (type_node n) ks ≡ true → is_bound (type_node n) x.kinds ≡ true) → Keeps w ks → Keeps kept ks
  still_kept [] more h = tt
  still_kept (k ∷ ks) more h = (
    subst (IsAmong k.kinds k.span) (sym (same_bound k.var (more k.var (or_left (k.var == k.var) (is_bound (type_node k.var) ks) (eq-eqb k.var k.var refl))))) h.0,
    still_kept ks (λ n e. more n (or_right (n == k.var) (is_bound (type_node n) ks) e)) h.1,
  )

  pub kept_use : Keeps kept x.kinds × (instance kept x ≡ instance w x)
  kept_use = (
    still_kept x.kinds (λ n e. e) keeps,
    λ i. record { labels = x.labels; type = same_type i; optional = same_optional i; pipe_label = x.pipe_label },
  )

-- Where the new bindings ask of the numbers from m on what the scheme asks, and that its types are types, they make
-- every line of the scheme that has types.
pub use_asked : (x : Scheme) (old new : Bindings) (m : ℕ) → m ≡ next_of old → next_of old ≤ next_of new
    → ((s q : Solution) → Agree (next_of new) s q → instance (from m s) x ≡ instance (from m q) x)
    → ((s : Solution) → Solves s new ↔ (Solves s old × (Keeps (from m s) x.kinds × IsType (ground (from m s) x.type) × ((l : Label) → IsTypeOrAbsent (ground_labels (from m s) x.optional l)))))
    → Infers (λ s L. IsUse x L) old new (λ s. instance (from m s) x)
use_asked x old new m first le below asked = record {
  more = le;
  below = below;
  keeps = λ s h. ((asked s).0 h).0;
  sound = λ s h. (let a = ((asked s).0 h).1 in ((from m s, a.0, refl), a.1, a.2));
  complete = complete;
}
  where
    made : (s w : Solution) → Keeps w x.kinds × IsType (ground w x.type) × ((l : Label) → IsTypeOrAbsent (ground_labels w x.optional l)) → Within w → Solves s old → Within s
        → (q : Solution) × Agree (next_of old) s q × Solves q new × Within q × (instance (from m q) x ≡ instance w x)
    made s w a small h within =
        let q : Solution = spliced m s w in
        let is : from m q ≡ w = from_spliced m s w in
        let agree : Agree (next_of old) s q = subst (λ n. Agree n s q) first (spliced_agrees m s w) in (
          q,
          agree,
          (asked q).1 (unrestricted old s q agree h, subst (λ v. Keeps v x.kinds × IsType (ground v x.type) × ((l : Label) → IsTypeOrAbsent (ground_labels v x.optional l))) (sym is) a),
          spliced_within m s w within small,
          ap (λ v. instance v x) is,
        )

    complete : (s : Solution) → Solves s old → Within s → (L : Line) → IsUse x L → (q : Solution) × Agree (next_of old) s q × Solves q new × Within q × (instance (from m q) x ≡ L)
    complete s h within L taken =
        let w : Solution = taken.0.0 in
        let keeps : Keeps w x.kinds = taken.0.1 in
        let is : L ≡ instance w x = taken.0.2 in
        let type : IsType (ground w x.type) = subst (λ K. IsType K.type) is taken.1 in
        let optional : (l : Label) → IsTypeOrAbsent (ground_labels w x.optional l) = subst (λ K. (l : Label) → IsTypeOrAbsent (K.optional l)) is taken.2 in
        let other : Keeps (kept_at (in_scheme x) w) x.kinds × (instance (kept_at (in_scheme x) w) x ≡ instance w x) = kept_use x w keeps type optional in
        let types : IsType (ground (kept_at (in_scheme x) w) x.type) = subst (λ K. IsType K.type) (sym other.1) type in
        let optionals : (l : Label) → IsTypeOrAbsent (ground_labels (kept_at (in_scheme x) w) x.optional l) = subst (λ K. (l : Label) → IsTypeOrAbsent (K.optional l)) (sym other.1) optional in
        let found : (q : Solution) × Agree (next_of old) s q × Solves q new × Within q × (instance (from m q) x ≡ instance (kept_at (in_scheme x) w) x) =
        made s (kept_at (in_scheme x) w) (other.0, types, optionals) (kept_is_within x w keeps type optional) h within in
        (found.0, found.1, found.2, found.3, found.4 ∙ other.1 ∙ sym is)

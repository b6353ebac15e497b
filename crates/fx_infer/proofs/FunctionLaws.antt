-- Parameters that are declared one after another, against the types that each has.
use Rattle.std.proofs.Common.{◌≡◌, ◌↔◌, refl, sym, ap, subst, ◌∙◌, ℕ, zero, suc, Bool, true, false, ◌||◌, List, [], ◌∷◌, ◌++◌, map, take}
use Rattle.std.specs.Prelude.{if◌then◌else◌}
use Rattle.fx_base.specs.Text.{same_text}
use Rattle.fx_ast.specs.Shape.{OfParam, params_of}
use Rattle.fx_ast.specs.Tree.{Default, required, by_pipe, by_value, Params, no_params, more_params}
use Rattle.fx_types.specs.Ground.{Ground, GroundField, g_int, g_absent, g_is, listed}
use Rattle.fx_types.specs.Size.{IsType}
use Rattle.fx_types.specs.Term.{Label}
use Rattle.fx_types.proofs.Choices.{chosen, passed, never, by_cases, either_also}
use Rattle.fx_types.proofs.RowSums.{same_is, same_itself}
use Rattle.fx_schemes.specs.Builtins.{differ}
use Rattle.fx_infer.specs.Ask.{Scope}
use Rattle.fx_infer.specs.Environment.{params_env}
use Rattle.fx_infer.specs.Functions.{Inside, or_field, grown, Grows}
use Rattle.fx_infer.specs.Parameters.{is_required, piped, first, field_if, input_of}
use Rattle.fx_infer.specs.Typing.{has_params, has_default}

or_nothing : (f : GroundField) → or_field f g_absent ≡ f
or_nothing g_absent = refl
or_nothing (g_is t) = refl

or_first : (f : GroundField) (t : Ground) (g : GroundField) → or_field f (g_is t) ≡ or_field (or_field f (g_is t)) g
or_first g_absent t g = refl
or_first (g_is u) t g = refl

or_more : (f : GroundField) (c d : Bool) (u v : Ground) → (c ≡ true → v ≡ u) → or_field f (field_if (c || d) v) ≡ or_field (or_field f (field_if c u)) (field_if d v)
or_more g_absent true d u v same = ap g_is (same refl)
or_more g_absent false d u v same = refl
or_more (g_is t) c d u v same = refl

-- what the parameters make of a, where P gives them their types
abbrev pub after : Params → (Label → Ground) → Inside → Inside
after ps P a = (params_env ps P a.0, (λ l. or_field (a.1 l) (field_if (is_required l ps) (P l))), or_field a.2 (input_of (first (piped ps)) P))

after_none : (P : Label → Ground) (a : Inside) → after no_params P a ≡ a
after_none P a = λ i. (a.0, (λ l. or_nothing (a.1 l) i), or_nothing a.2 i)

after_next : (x : Label) (d : Default) (ps : Params) (P : Label → Ground) (a : Inside) → after (more_params x d ps) P a ≡ after ps P (grown x d (P x) a)
after_next x required ps P a = λ i. (
  params_env ps P (grown x required (P x) a).0,
  (λ l. or_more (a.1 l) (same_text l x) (is_required l ps) (P x) (P l) (λ e. ap P (same_is l x e)) i),
  or_field a.2 (input_of (first (piped ps)) P),
)
after_next x by_pipe ps P a = λ i. (
  params_env ps P (grown x by_pipe (P x) a).0,
  (λ l. or_field (a.1 l) (field_if (is_required l ps) (P l))),
  or_first a.2 (P x) (input_of (first (piped ps)) P) i,
)
after_next x (by_value e) ps P a = refl

abbrev pub names_in : List OfParam → List Label
names_in ps = map (λ p. p.label) ps

-- types that agree on the parameters
module _ (S : Scope) (P Q : Label → Ground) where
  params_agree : (ps : List OfParam) → ((l : Label) → listed l (names_in ps) ≡ true → P l ≡ Q l) → has_params (params_of ps) S P → has_params (params_of ps) S Q
  params_agree [] same h = tt
  params_agree (p ∷ ps) same h =
      let here : P p.label ≡ Q p.label = same p.label (chosen (same_text p.label p.label) true (listed p.label (names_in ps)) (same_itself p.label)) in
      (subst IsType here h.0, subst (has_default p.default S) here h.1, params_agree ps (λ l on. same l (either_also (same_text l p.label) (listed l (names_in ps)) on)) h.2)

  after_agree : (ps : List OfParam) (a : Inside) → ((l : Label) → listed l (names_in ps) ≡ true → P l ≡ Q l) → after (params_of ps) P a ≡ after (params_of ps) Q a
  after_agree [] a same = after_none P a ∙ sym (after_none Q a)
  after_agree (p ∷ ps) a same =
      let here : P p.label ≡ Q p.label = same p.label (chosen (same_text p.label p.label) true (listed p.label (names_in ps)) (same_itself p.label)) in
      after_next p.label p.default (params_of ps) P a
      ∙ ap (λ u. after (params_of ps) P (grown p.label p.default u a)) here
      ∙ after_agree ps (grown p.label p.default (Q p.label) a) (λ l on. same l (either_also (same_text l p.label) (listed l (names_in ps)) on))
      ∙ sym (after_next p.label p.default (params_of ps) Q a)

module _ (S : Scope) where
  pub params_grow : (ps : List OfParam) (P : Label → Ground) (a b : Inside) → has_params (params_of ps) S P → b ≡ after (params_of ps) P a → Grows S ps a b
  params_grow [] P a b h is = sym (is ∙ after_none P a)
  params_grow (p ∷ ps) P a b h is = (P p.label, h.0, h.1, params_grow ps P (grown p.label p.default (P p.label) a) b h.2 (is ∙ after_next p.label p.default (params_of ps) P a))

  abbrev Grown : List OfParam → Inside → Inside → Type 0
  Grown ps a b = (P : Label → Ground) × has_params (params_of ps) S P × (b ≡ after (params_of ps) P a)

  one_more : (p : OfParam) (ps : List OfParam) (a b : Inside) (u : Ground) → listed p.label (names_in ps) ≡ false → IsType u → has_default p.default S u → Grown ps (grown p.label p.default u a) b → Grown (p ∷ ps) a b
  one_more p ps a b u off type default h =
      let Q : Label → Ground = λ l. if same_text l p.label then u else h.0 l in
      let here : Q p.label ≡ u = chosen (same_text p.label p.label) u (h.0 p.label) (same_itself p.label) in
      let same : (l : Label) → listed l (names_in ps) ≡ true → h.0 l ≡ Q l =
      λ l on. by_cases (same_text l p.label)
      (λ t. never (listed p.label (names_in ps)) (subst (λ y. listed y (names_in ps) ≡ true) (same_is l p.label t) on) off)
      (λ f. sym (passed (same_text l p.label) u (h.0 l) f)) in (
        Q,
        (subst IsType (sym here) type, subst (has_default p.default S) (sym here) default, params_agree S h.0 Q ps same h.1),
        h.2 ∙ after_agree S h.0 Q ps (grown p.label p.default u a) same ∙ ap (λ v. after (params_of ps) Q (grown p.label p.default v a)) (sym here) ∙ sym (after_next p.label p.default (params_of ps) Q a),
      )

  pub grows_params : (ps : List OfParam) (a b : Inside) → differ (names_in ps) ≡ true → Grows S ps a b → Grown ps a b
  grows_params [] a b once h = ((λ l. g_int), tt, sym h ∙ sym (after_none (λ l. g_int) a))
  grows_params (p ∷ ps) a b once h =
      by_cases (listed p.label (names_in ps))
      (λ t. never false (sym (chosen (listed p.label (names_in ps)) false (differ (names_in ps)) t) ∙ once) refl)
      (λ f. one_more p ps a b h.0 f h.1 h.2 (grows_params ps (grown p.label p.default h.0 a) b (sym (passed (listed p.label (names_in ps)) false (differ (names_in ps)) f) ∙ once) h.3))

  pub grows_more : (ps : List OfParam) (p : OfParam) (a c : Inside) → Grows S (ps ++ p ∷ []) a c ↔ ((b : Inside) × Grows S ps a b × Grows S (p ∷ []) b c)
  grows_more [] p a c = (λ h. (a, refl, h), λ h. subst (λ b. Grows S (p ∷ []) b c) (sym h.1) h.2)
  grows_more (d ∷ ps) p a c = (
    λ h. (let k : (b : Inside) × Grows S ps (grown d.label d.default h.0 a) b × Grows S (p ∷ []) b c = (grows_more ps p (grown d.label d.default h.0 a) c).0 h.3 in (k.0, (h.0, h.1, h.2, k.1), k.2)),
    λ h. (h.1.0, h.1.1, h.1.2, (grows_more ps p (grown d.label d.default h.1.0 a) c).1 (h.0, h.1.3, h.2)),
  )

  pub grows_part : (ps : List OfParam) (a c : Inside) (n : ℕ) → Grows S ps a c → (b : Inside) × Grows S (take n ps) a b
  grows_part ps a c zero h = (a, refl)
  grows_part [] a c (suc n) h = (a, refl)
  grows_part (d ∷ ps) a c (suc n) h = (let k : (b : Inside) × Grows S (take n ps) (grown d.label d.default h.0 a) b = grows_part ps (grown d.label d.default h.0 a) c n h.3 in (k.0, (h.0, h.1, h.2, k.1)))

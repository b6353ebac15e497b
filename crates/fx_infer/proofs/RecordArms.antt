-- Inference of records from that of their properties and of the row behind them.
use Rattle.std.proofs.Common.{◌≡◌, ◌↔◌, refl, sym, ap, subst, ◌∙◌, ℕ, zero, suc, ◌+◌, ◌≤◌, ◌<◌, true, false, List, [], ◌∷◌, ◌++◌, map, take, length, get_or, Option, None, Some}
use Rattle.std.proofs.lemmas.List.{map_more}
use mathlib.Core.Bool.{true≢false}
use Rattle.fx_base.specs.Text.{same_text}
use Rattle.fx_ast.specs.Shape.{OfProp, tree_of, prop, props_of}
use Rattle.fx_ast.specs.Tree.{rec, name}
use Rattle.fx_ast.specs.declared.expr.Prop.{Prop}
use Rattle.fx_ast.proofs.ListLaws.{props_there}
use Rattle.fx_ast.proofs.ShapeLaws.{prop_is}
use Rattle.fx_types.specs.Ground.{Ground, GroundRow, g_rec, g_absent, g_is, listed}
use Rattle.fx_types.specs.Instance.{Solution, ground, ground_fields}
use Rattle.fx_types.specs.Shape.{entry_term, fields_of}
use Rattle.fx_types.specs.Size.{IsType}
use Rattle.fx_types.specs.Term.{Label, Term, is}
use Rattle.fx_types.specs.declared.term.LabelField.{LabelField}
use Rattle.fx_types.proofs.Choices.{chosen, passed, never, by_cases, either_also, neither}
use Rattle.fx_types.proofs.Lists.{take_all}
use Rattle.fx_types.proofs.RowSums.{same_is, same_itself}
use Rattle.fx_schemes.specs.Builtins.{differ}
use Rattle.fx_schemes.specs.Line.{put}
use Rattle.fx_unify.specs.declared.bindings.Bindings.{Bindings}
use Rattle.fx_unify.specs.Solutions.{next_of}
use Rattle.fx_infer.specs.declared.scope.Name.{Name}
use Rattle.fx_infer.specs.Ask.{type_is, Scope}
use Rattle.fx_infer.specs.Arguments.{Elsewhere}
use Rattle.fx_infer.specs.Environment.{scope}
use Rattle.fx_infer.specs.Infers.{Infers, HasNone}
use Rattle.fx_infer.specs.Names.{env_under, NamesBelow, TypeOf, ShapeOf}
use Rattle.fx_infer.specs.Parameters.{prop_names}
use Rattle.fx_infer.specs.Records.{labels_on, Makes, MakesOf, BaseOf}
use Rattle.fx_infer.specs.Typing.{has, has_props}
use Rattle.fx_infer.proofs.ArmLaws.{type_reads}
use Rattle.fx_infer.proofs.InfersLaws.{Reads, both, none_second, same, seen_as}
use Rattle.fx_infer.proofs.RowLaws.{fields_last}
use Rattle.fx_infer.proofs.TypingLaws.{name_type}

-- one property more

makes_more : (S : Scope) (ps : List OfProp) (p : OfProp) (F : GroundRow → GroundRow)
    → Makes S (ps ++ p ∷ []) F ↔ ((G : GroundRow → GroundRow) × (u : Ground) × Makes S ps G × has p.value S (type_is u) × (F ≡ (λ r. G (put p.label u r))))
makes_more S [] p F = (
  λ h. (h.1, h.0, h.3, h.2, h.4 ∙ (λ i r. put p.label h.0 (h.3 i r)) ∙ (λ i r. sym h.3 i (put p.label h.0 r))),
  λ h. (h.1, h.0, h.3, h.2, h.4 ∙ (λ i r. h.2 i (put p.label h.1 r)) ∙ (λ i r. put p.label h.1 (sym h.2 i r))),
)
makes_more S (d ∷ ps) p F = (
  λ h. (let k : (G : GroundRow → GroundRow) × (u : Ground) × Makes S ps G × has p.value S (type_is u) × (h.1 ≡ (λ r. G (put p.label u r))) = (makes_more S ps p h.1).0 h.3 in
      ((λ r. put d.label h.0 (k.0 r)), k.1, (h.0, k.0, h.2, k.2, refl), k.3, h.4 ∙ (λ i r. put d.label h.0 (k.4 i r)))),
  λ h. (h.2.0, (λ r. h.2.1 (put p.label h.1 r)), h.2.2, (makes_more S ps p (λ r. h.2.1 (put p.label h.1 r))).1 (h.2.1, h.1, h.2.3, h.3, refl), h.4 ∙ (λ i r. h.2.4 i (put p.label h.1 r))),
)

makes_next : (S : Scope) (ps : List Prop) (i : ℕ) (p : Prop) (F : GroundRow → GroundRow) → i < length ps → p ≡ get_or ps i p
    → Makes S (map prop (take (i + 1) ps)) F ↔ ((G : GroundRow → GroundRow) × (u : Ground) × Makes S (map prop (take i ps)) G × has (tree_of p.value) S (type_is u) × (F ≡ (λ r. G (put p.label u r))))
makes_next S ps i p F lt at =
    let q : OfProp = record { label = p.label; value = tree_of p.value } in
    let last : map prop (take (i + 1) ps) ≡ map prop (take i ps) ++ q ∷ [] = map_more prop ps i p lt ∙ ap (λ o. map prop (take i ps) ++ o ∷ []) (ap prop (sym at) ∙ prop_is p) in
    subst (λ os. Makes S os F ↔ ((G : GroundRow → GroundRow) × (u : Ground) × Makes S (map prop (take i ps)) G × has (tree_of p.value) S (type_is u) × (F ≡ (λ r. G (put p.label u r))))) (sym last)
    (makes_more S (map prop (take i ps)) q F)

makes_part : (S : Scope) (ps : List Prop) (i : ℕ) (F : GroundRow → GroundRow) → Makes S (map prop ps) F → (G : GroundRow → GroundRow) × Makes S (map prop (take i ps)) G
makes_part S ps zero F h = ((λ r. r), refl)
makes_part S [] (suc i) F h = ((λ r. r), refl)
makes_part S (d ∷ ps) (suc i) F h = (let k : (G : GroundRow → GroundRow) × Makes S (map prop (take i ps)) G = makes_part S ps i h.1 h.3 in ((λ r. put (prop d).label h.0 (k.0 r)), (h.0, k.0, h.2, k.1, refl)))

-- what the properties make, against what each has

abbrev labels_in : List OfProp → List Label
labels_in ps = map (λ p. p.label) ps

makes_off : (S : Scope) (ps : List OfProp) (F : GroundRow → GroundRow) → Makes S ps F → (r : GroundRow) (l : Label) → listed l (labels_in ps) ≡ false → F r l ≡ r l
makes_off S [] F h r l off = λ i. h i r l
makes_off S (d ∷ ps) F h r l off =
    let apart : (same_text l d.label ≡ false) × (listed l (labels_in ps) ≡ false) = neither (same_text l d.label) (listed l (labels_in ps)) off in
    (λ i. h.4 i r l) ∙ passed (same_text l d.label) (g_is h.0) (h.1 r l) apart.0 ∙ makes_off S ps h.1 h.3 r l apart.1

makes_props : (S : Scope) (ps : List OfProp) (F : GroundRow → GroundRow) (p r : GroundRow) → differ (labels_in ps) ≡ true → Makes S ps F → ((l : Label) → listed l (labels_in ps) ≡ true → r l ≡ F p l) → has_props (props_of ps) S r
makes_props S [] F p r once h same = tt
makes_props S (d ∷ ps) F p r once h same =
    by_cases (listed d.label (labels_in ps))
    (λ t. never false (sym (chosen (listed d.label (labels_in ps)) false (differ (labels_in ps)) t) ∙ once) refl)
    (λ f. let rest : differ (labels_in ps) ≡ true = sym (passed (listed d.label (labels_in ps)) false (differ (labels_in ps)) f) ∙ once in
    let here : r d.label ≡ g_is h.0 =
    same d.label (chosen (same_text d.label d.label) true (listed d.label (labels_in ps)) (same_itself d.label)) ∙ (λ i. h.4 i p d.label) ∙ chosen (same_text d.label d.label) (g_is h.0) (h.1 p d.label) (same_itself d.label) in (
      (h.0, here, h.2),
      makes_props S ps h.1 p r rest h.3
          (λ l on. same l (either_also (same_text l d.label) (listed l (labels_in ps)) on) ∙ (λ i. h.4 i p l)
          ∙ by_cases (same_text l d.label) (λ t. never (listed d.label (labels_in ps)) (subst (λ y. listed y (labels_in ps) ≡ true) (same_is l d.label t) on) f) (λ g. passed (same_text l d.label) (g_is h.0) (h.1 p l) g)),
    ))

props_make : (S : Scope) (ps : List OfProp) (r : GroundRow) → has_props (props_of ps) S r → (F : GroundRow → GroundRow) × Makes S ps F × ((p : GroundRow) (l : Label) → listed l (labels_in ps) ≡ true → r l ≡ F p l)
props_make S [] r h = ((λ q. q), refl, λ p l on. never false on refl)
props_make S (d ∷ ps) r h =
    let k : (F : GroundRow → GroundRow) × Makes S ps F × ((p : GroundRow) (l : Label) → listed l (labels_in ps) ≡ true → r l ≡ F p l) = props_make S ps r h.1 in (
      (λ q. put d.label h.0.0 (k.0 q)),
      (h.0.0, k.0, h.0.2, k.1, refl),
      λ p l on. by_cases (same_text l d.label)
          (λ t. ap r (same_is l d.label t) ∙ h.0.1 ∙ sym (chosen (same_text l d.label) (g_is h.0.0) (k.0 p l) t))
          (λ f. k.2 p l (sym (passed (same_text l d.label) true (listed l (labels_in ps)) f) ∙ on) ∙ sym (passed (same_text l d.label) (g_is h.0.0) (k.0 p l) f)),
    )

labels_same : (ps : List Prop) → labels_in (map prop ps) ≡ labels_on ps
labels_same [] = refl
labels_same (p ∷ ps) = (λ i. (prop_is p i).label ∷ labels_same ps i)

names_are : (ps : List Prop) → prop_names (props_of (map prop ps)) ≡ labels_on ps
names_are ps = ap labels_in (props_there (map prop ps)) ∙ labels_same ps

module _ (S : Scope) (ps : List Prop) (once : differ (labels_on ps) ≡ true) where
  listed_names : (l : Label) → listed l (prop_names (props_of (map prop ps))) ≡ listed l (labels_in (map prop ps))
  listed_names l = ap (λ ls. listed l (labels_in ls)) (props_there (map prop ps))

  pub row_props : (r p : GroundRow) → (has_props (props_of (map prop ps)) S r × Elsewhere (props_of (map prop ps)) r p) ↔ ((F : GroundRow → GroundRow) × Makes S (map prop ps) F × (r ≡ F p))
  row_props r p = (there, back)
    where
      there : has_props (props_of (map prop ps)) S r × Elsewhere (props_of (map prop ps)) r p → (F : GroundRow → GroundRow) × Makes S (map prop ps) F × (r ≡ F p)
      there h =
          let k : (F : GroundRow → GroundRow) × Makes S (map prop ps) F × ((q : GroundRow) (l : Label) → listed l (labels_in (map prop ps)) ≡ true → r l ≡ F q l) = props_make S (map prop ps) r h.0 in
          let each : (l : Label) → r l ≡ k.0 p l =
          λ l. by_cases (listed l (labels_in (map prop ps))) (λ t. k.2 p l t) (λ f. h.1 l (listed_names l ∙ f) ∙ sym (makes_off S (map prop ps) k.0 k.1 p l f)) in
          (k.0, k.1, λ i l. each l i)

      back : (F : GroundRow → GroundRow) × Makes S (map prop ps) F × (r ≡ F p) → has_props (props_of (map prop ps)) S r × Elsewhere (props_of (map prop ps)) r p
      back h = (
        makes_props S (map prop ps) h.0 p r (ap differ (labels_same ps) ∙ once) h.1 (λ l on i. h.2 i l),
        λ l off. (λ i. h.2 i l) ∙ makes_off S (map prop ps) h.0 h.1 p l (sym (listed_names l) ∙ off),
      )

-- a record

pub record_is : (ns : List Name) (base : Option Label) (ps : List Prop) → differ (labels_on ps) ≡ true → (s : Solution) (t : Ground)
    → ShapeOf ns (rec base (props_of (map prop ps))) s t ↔ ((p : GroundRow) × (F : GroundRow → GroundRow) × BaseOf ns base s p × MakesOf ns ps s F × (IsType t × (t ≡ g_rec (F p))))
record_is ns None ps once s t = (
  λ h. (let k : (F : GroundRow → GroundRow) × Makes (scope (env_under s ns)) (map prop ps) F × (h.1.0 ≡ F (λ l. g_absent)) = (row_props (scope (env_under s ns)) ps once h.1.0 (λ l. g_absent)).0 (h.1.3, h.1.4) in
      ((λ l. g_absent), k.0, refl, k.1, (h.0, h.1.1 ∙ ap g_rec k.2))),
  λ h. (let k : has_props (props_of (map prop ps)) (scope (env_under s ns)) (h.1 h.0) × Elsewhere (props_of (map prop ps)) (h.1 h.0) h.0 = (row_props (scope (env_under s ns)) ps once (h.1 h.0) h.0).1 (h.1, h.3, refl) in
      (h.4.0, (h.1 h.0, h.4.1, ap differ (names_are ps) ∙ once, k.0, λ l off. k.1 l off ∙ (λ i. h.2 i l)))),
)
record_is ns (Some x) ps once s t = (
  λ h. (let k : (F : GroundRow → GroundRow) × Makes (scope (env_under s ns)) (map prop ps) F × (h.1.0 ≡ F h.1.1) = (row_props (scope (env_under s ns)) ps once h.1.0 h.1.1).0 (h.1.5, h.1.6) in
      (h.1.1, k.0, (name_type (env_under s ns) x (g_rec h.1.1) h.1.4, h.1.4), k.1, (h.0, h.1.2 ∙ ap g_rec k.2))),
  λ h. (let k : has_props (props_of (map prop ps)) (scope (env_under s ns)) (h.1 h.0) × Elsewhere (props_of (map prop ps)) (h.1 h.0) h.0 = (row_props (scope (env_under s ns)) ps once (h.1 h.0) h.0).1 (h.1, h.3, refl) in
      (h.4.0, (h.1 h.0, h.0, h.4.1, ap differ (names_are ps) ∙ once, h.2.1, k.0, k.1))),
)

pub no_record : (ns : List Name) (base : Option Label) (ps : List Prop) (b : Bindings) → differ (labels_on ps) ≡ false → HasNone (ShapeOf ns (rec base (props_of (map prop ps)))) b
no_record ns None ps b twice = λ s h within t c. true≢false (sym c.1.2 ∙ ap differ (names_are ps) ∙ twice)
no_record ns (Some x) ps b twice = λ s h within t c. true≢false (sym c.1.3 ∙ ap differ (names_are ps) ∙ twice)

pub base_is : (ns : List Name) (x : Label) (s : Solution) (r : GroundRow) → BaseOf ns (Some x) s r ↔ ((u : Ground) × ShapeOf ns (name x) s u × (u ≡ g_rec r))
base_is ns x s r = (λ h. (g_rec r, h, refl), λ h. subst (ShapeOf ns (name x) s) h.2 h.1)

-- the properties, one after another

pub makes_reads : (n : ℕ) (ns : List Name) (ps : List Prop) → NamesBelow n ns → Reads n (MakesOf ns ps)
makes_reads n ns ps below = λ s q agree F h. subst (λ env. Makes (scope env) (map prop ps) F) (below s q agree) h

module _ (ns : List Name) (ps : List Prop) (old : Bindings) (names : NamesBelow (next_of old) ns) where
  pub fields_start : (fs : List LabelField) → fs ≡ [] → Infers (MakesOf ns (take 0 ps)) old old (λ s. ground_fields s (fields_of (map entry_term fs)))
  fields_start fs empty =
      subst (λ es. Infers (MakesOf ns (take 0 ps)) old old (λ s. ground_fields s (fields_of (map entry_term es)))) (sym empty)
      (same (MakesOf ns (take 0 ps)) old (λ r. r) (λ s. refl) (λ s F h. sym h))

  module _ (now : Bindings) (fs : List LabelField) (i : ℕ) (p : Prop) (lt : i < length ps) (at : p ≡ get_or ps i p) (before : Infers (MakesOf ns (take i ps)) old now (λ s. ground_fields s (fields_of (map entry_term fs)))) where
    pub fields_grow : (new : Bindings) (t : Term) (e : LabelField) (es : List LabelField) → Infers (TypeOf ns p.value) now new (λ s. ground s t) → entry_term e ≡ record { label = p.label; field = is t } → es ≡ fs ++ e ∷ []
        → Infers (MakesOf ns (take (i + 1) ps)) old new (λ s. ground_fields s (fields_of (map entry_term es)))
    fields_grow new t e es one entry pushed =
        subst (λ ds. Infers (MakesOf ns (take (i + 1) ps)) old new (λ s. ground_fields s (fields_of (map entry_term ds)))) (sym pushed)
        (subst (Infers (MakesOf ns (take (i + 1) ps)) old new) (λ j s r l. sym (fields_last s fs e p.label t entry r l) j)
        (seen_as (λ s x. MakesOf ns (take i ps) s x.0 × TypeOf ns p.value s x.1) (MakesOf ns (take (i + 1) ps)) (λ s x r. x.0 (put p.label x.1 r)) old new (λ s. (ground_fields s (fields_of (map entry_term fs)), ground s t))
        (both (MakesOf ns (take i ps)) (λ F s u. TypeOf ns p.value s u) old now new (λ s. ground_fields s (fields_of (map entry_term fs))) (λ s. ground s t) before one (λ F. type_reads (next_of old) ns p.value names))
        (λ s q agree x. refl)
        (λ s x h. (makes_next (scope (env_under s ns)) ps i p (λ r. x.0 (put p.label x.1 r)) lt at).1 (x.0, x.1, h.0, h.1, refl))
        (λ s F h. (let k : (G : GroundRow → GroundRow) × (u : Ground) × Makes (scope (env_under s ns)) (map prop (take i ps)) G × TypeOf ns p.value s u × (F ≡ (λ r. G (put p.label u r))) =
        (makes_next (scope (env_under s ns)) ps i p F lt at).0 h in ((k.0, k.1), (k.2, k.3), sym k.4)))))

    pub no_field : HasNone (TypeOf ns p.value) now → HasNone (MakesOf ns ps) old
    no_field none = λ s h within F c.
        (let part : (G : GroundRow → GroundRow) × Makes (scope (env_under s ns)) (map prop (take (i + 1) ps)) G = makes_part (scope (env_under s ns)) ps (i + 1) F c in
        let k : (G : GroundRow → GroundRow) × (u : Ground) × Makes (scope (env_under s ns)) (map prop (take i ps)) G × TypeOf ns p.value s u × (part.0 ≡ (λ r. G (put p.label u r))) =
        (makes_next (scope (env_under s ns)) ps i p part.0 lt at).0 part.1 in
        none_second (MakesOf ns (take i ps)) (λ G q u. TypeOf ns p.value q u) old now now (λ q. ground_fields q (fields_of (map entry_term fs))) (λ q. k.1) before none (λ G. type_reads (next_of old) ns p.value names) s h within
        (k.0, k.1) (k.2, k.3))

  pub fields_all : (now : Bindings) (f : Solution → GroundRow → GroundRow) (i : ℕ) → length ps ≤ i → Infers (MakesOf ns (take i ps)) old now f → Infers (MakesOf ns ps) old now f
  fields_all now f i le h = subst (λ qs. Infers (MakesOf ns qs) old now f) (take_all ps i le) h

-- Inference of texts from that of their parts.
use Rattle.std.proofs.Common.{◌≡◌, ◌↔◌, refl, sym, ap, subst, ◌∙◌, ℕ, zero, suc, ◌+◌, ◌≤◌, ◌<◌, List, [], ◌∷◌, ◌++◌, map, take, length, get_or, arith}
use Rattle.std.proofs.lemmas.List.{map_more, take-map}
use Rattle.fx_ast.specs.Tree.{text}
use Rattle.fx_ast.specs.Shape.{OfPart, a_piece, a_hole, tree_of, part, parts_of}
use Rattle.fx_ast.specs.declared.expr.Expr.{Expr}
use Rattle.fx_ast.specs.declared.expr.Part.{Part}
use Rattle.fx_types.specs.Ground.{Ground, g_text}
use Rattle.fx_types.specs.Instance.{Solution}
use Rattle.fx_types.specs.Size.{IsType}
use Rattle.fx_types.specs.Term.{Label}
use Rattle.fx_types.proofs.Lists.{take_all}
use Rattle.fx_schemes.specs.Line.{IsKind}
use Rattle.fx_unify.specs.declared.bindings.Bindings.{Bindings}
use Rattle.fx_unify.specs.Solutions.{next_of}
use Rattle.fx_infer.specs.declared.scope.Name.{Name}
use Rattle.fx_infer.specs.Ask.{Scope}
use Rattle.fx_infer.specs.Environment.{scope}
use Rattle.fx_infer.specs.Infers.{Infers, Asks, HasNone}
use Rattle.fx_infer.specs.Names.{env_under, NamesBelow, TypeOf, ShapeOf}
use Rattle.fx_infer.specs.Texts.{PartOf}
use Rattle.fx_infer.specs.Typing.{has_parts}
use Rattle.fx_infer.proofs.ArmLaws.{one_part, none_part}
use Rattle.fx_infer.proofs.InfersLaws.{Reads, asked, both, none_second, seen_as}

-- a part

hole_is : (ns : List Name) (p : Part) (e : Expr) → part p ≡ a_hole (tree_of e) → (s : Solution) → PartOf ns p s ↔ ((u : Ground) × TypeOf ns e s u × IsKind u)
hole_is ns p e is s = (
  λ h. (let k : has_parts (parts_of (a_hole (tree_of e) ∷ [])) (scope (env_under s ns)) = subst (λ o. has_parts (parts_of (o ∷ [])) (scope (env_under s ns))) is h in (k.0.0, k.0.2, k.0.1)),
  λ h. subst (λ o. has_parts (parts_of (o ∷ [])) (scope (env_under s ns))) (sym is) ((h.0, h.2, h.1), tt),
)

pub hole_found : (ns : List Name) (p : Part) (e : Expr) (old mid new : Bindings) (f : Solution → Ground) → part p ≡ a_hole (tree_of e) → Infers (TypeOf ns e) old mid f → Asks (λ s. IsKind (f s)) mid new → Asks (PartOf ns p) old new
hole_found ns p e old mid new f is one kind = one_part (TypeOf ns e) (λ u r. IsKind u) (λ s r. PartOf ns p s) old (λ s r. hole_is ns p e is s) mid new f (λ s. tt) one kind

pub no_hole : (ns : List Name) (p : Part) (e : Expr) (old : Bindings) → part p ≡ a_hole (tree_of e) → HasNone (TypeOf ns e) old → HasNone {R = Unit {0}} (λ s r. PartOf ns p s) old
no_hole ns p e old is none = none_part (TypeOf ns e) (λ u r. IsKind u) (λ s r. PartOf ns p s) old (λ s r. hole_is ns p e is s) none

pub piece_found : (ns : List Name) (p : Part) (x : Label) (b : Bindings) → part p ≡ a_piece x → Asks (PartOf ns p) b b
piece_found ns p x b is =
    asked (PartOf ns p) b b (let le : next_of b ≤ next_of b = omega arith in le) (λ s. (λ h. (h, subst (λ o. has_parts (parts_of (o ∷ [])) (scope (env_under s ns))) (sym is) tt), λ h. h.0))

-- parts, one after another

abbrev pub TextOf : List Name → List Part → Solution → Type 0
TextOf ns ps s = has_parts (parts_of (map part ps)) (scope (env_under s ns))

parts_split : (S : Scope) (ps : List OfPart) (p : OfPart) → has_parts (parts_of (ps ++ p ∷ [])) S ↔ (has_parts (parts_of ps) S × has_parts (parts_of (p ∷ [])) S)
parts_split S [] p = (λ h. (tt, h), λ h. h.1)
parts_split S (a_piece x ∷ ps) p = parts_split S ps p
parts_split S (a_hole e ∷ ps) p = (
  λ h. (let k : has_parts (parts_of ps) S × has_parts (parts_of (p ∷ [])) S = (parts_split S ps p).0 h.1 in ((h.0, k.0), k.1)),
  λ h. (h.0.0, (parts_split S ps p).1 (h.0.1, h.1)),
)

parts_taken : (S : Scope) (os : List OfPart) (i : ℕ) → has_parts (parts_of os) S → has_parts (parts_of (take i os)) S
parts_taken S os zero h = tt
parts_taken S [] (suc i) h = tt
parts_taken S (a_piece x ∷ os) (suc i) h = parts_taken S os i h
parts_taken S (a_hole e ∷ os) (suc i) h = (h.0, parts_taken S os i h.1)

parts_reads : (n : ℕ) (ns : List Name) (os : List OfPart) → NamesBelow n ns → Reads {R = Unit {0}} n (λ s u. has_parts (parts_of os) (scope (env_under s ns)))
parts_reads n ns os below = λ s q agree u h. subst (λ env. has_parts (parts_of os) (scope env)) (below s q agree) h

module _ (ns : List Name) (ps : List Part) (old : Bindings) (names : NamesBelow (next_of old) ns) where
  pub text_start : Asks (TextOf ns (take 0 ps)) old old
  text_start = asked (TextOf ns (take 0 ps)) old old (let le : next_of old ≤ next_of old = omega arith in le) (λ s. (λ h. (h, tt), λ h. h.0))

  parts_next : (i : ℕ) (p : Part) → i < length ps → p ≡ get_or ps i p → (s : Solution) → TextOf ns (take (i + 1) ps) s ↔ (TextOf ns (take i ps) s × PartOf ns p s)
  parts_next i p lt at s =
      let last : map part (take (i + 1) ps) ≡ map part (take i ps) ++ part p ∷ [] = map_more part ps i p lt ∙ ap (λ o. map part (take i ps) ++ part o ∷ []) (sym at) in
      subst (λ os. has_parts (parts_of os) (scope (env_under s ns)) ↔ (TextOf ns (take i ps) s × PartOf ns p s)) (sym last) (parts_split (scope (env_under s ns)) (map part (take i ps)) (part p))

  module _ (now : Bindings) (i : ℕ) (p : Part) (lt : i < length ps) (at : p ≡ get_or ps i p) (before : Asks (TextOf ns (take i ps)) old now) where
    pub text_grow : (new : Bindings) → Asks (PartOf ns p) now new → Asks (TextOf ns (take (i + 1) ps)) old new
    text_grow new one =
        seen_as (λ s x. TextOf ns (take i ps) s × PartOf ns p s) (λ s u. TextOf ns (take (i + 1) ps) s) (λ s x. tt) old new (λ s. (tt, tt))
        (both (λ s u. TextOf ns (take i ps) s) (λ r s u. PartOf ns p s) old now new (λ s. tt) (λ s. tt) before one (λ r. parts_reads (next_of old) ns (part p ∷ []) names))
        (λ s q agree x. refl) (λ s x h. (parts_next i p lt at s).1 h) (λ s u h. ((tt, tt), (parts_next i p lt at s).0 h, refl))

    pub no_part : HasNone {R = Unit {0}} (λ s u. PartOf ns p s) now → HasNone (ShapeOf ns (text (parts_of (map part ps)))) old
    no_part none = λ s h within t c.
        (let start : TextOf ns (take (i + 1) ps) s = subst (λ os. has_parts (parts_of os) (scope (env_under s ns))) (take-map part (i + 1) ps) (parts_taken (scope (env_under s ns)) (map part ps) (i + 1) c.1.1) in
        none_second (λ s u. TextOf ns (take i ps) s) (λ r s u. PartOf ns p s) old now now (λ s. tt) (λ s. tt) before none (λ r. parts_reads (next_of old) ns (part p ∷ []) names) s h within (tt, tt) ((parts_next i p lt at s).0 start))

  pub text_found : (now new : Bindings) (i : ℕ) (g : Solution → Ground) → length ps ≤ i → Asks (TextOf ns (take i ps)) old now → Infers (λ s t. IsType t × (t ≡ g_text)) now new g → Infers (ShapeOf ns (text (parts_of (map part ps)))) old new g
  text_found now new i g le before type =
      one_part {P = Unit {0}} (λ s u. TextOf ns ps s) (λ u t. IsType t × (t ≡ g_text)) (ShapeOf ns (text (parts_of (map part ps)))) old (λ s t. (λ h. (tt, h.1.1, (h.0, h.1.0)), λ h. (h.2.0, (h.2.1, h.1)))) now new (λ s. tt) g
      (subst (λ qs. Asks (TextOf ns qs) old now) (take_all ps i le) before) type

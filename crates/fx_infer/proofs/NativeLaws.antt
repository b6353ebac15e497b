-- Types of built-ins as values, and of variables, as inference.
use Rattle.std.proofs.Common.{◌≡◌, ◌↔◌, refl, sym, ap, subst, ◌∙◌, ℕ, ◌≤◌, max, [], Option, None, Some, arith}
use Rattle.std.specs.Prelude.{option_map}
use Rattle.fx_types.specs.Ground.{Ground}
use Rattle.fx_types.specs.Instance.{Solution, ground}
use Rattle.fx_types.specs.Numbers.{numbers, numbers_labels}
use Rattle.fx_types.specs.Size.{IsType}
use Rattle.fx_types.specs.Term.{Label, Term, no_labels}
use Rattle.fx_types.proofs.AgreeLaws.{agree_term}
use Rattle.fx_schemes.specs.declared.list.Builtin.{Builtin}
use Rattle.fx_schemes.specs.declared.name.BuiltinId.{BuiltinId}
use Rattle.fx_schemes.specs.Builtins.{IsLine}
use Rattle.fx_schemes.specs.Names.{IsId, builtin_of, id_of}
use Rattle.fx_schemes.specs.Line.{Line}
use Rattle.fx_schemes.specs.Scheme.{Scheme, IsSchemeOf, instance, numbers_of, numbers_bounds}
use Rattle.fx_unify.specs.declared.bindings.Bindings.{Bindings}
use Rattle.fx_unify.specs.Solutions.{Solves, next_of}
use Rattle.fx_infer.specs.Infers.{Infers, HasNone}
use Rattle.fx_infer.specs.Ask.{type_is}
use Rattle.fx_infer.specs.Native.{IsValueOf, native}
use Rattle.fx_infer.specs.Uses.{IsUse}
use Rattle.fx_infer.proofs.InfersLaws.{seen_as}

pub variable_asked : (old new : Bindings) (t : Term) (n : ℕ) → ((s : Solution) → ground s t ≡ s.type_of n) → ((s : Solution) → Solves s new ↔ (Solves s old × IsType (ground s t))) → next_of new ≡ max (next_of old) (numbers t)
    → Infers (λ s g. IsType g × (g ≡ s.type_of n)) old new (λ s. ground s t)
variable_asked old new t n is fits next = record {
  more = omega arith;
  below = λ s q agree. agree_term (next_of new) s q agree t (omega arith);
  keeps = λ s h. ((fits s).0 h).0;
  sound = λ s h. (((fits s).0 h).1, is s);
  complete = λ s h within g d. (s, (λ i lt. (refl, refl, refl)), (fits s).1 (h, subst IsType (d.1 ∙ sym (is s)) d.0), within, is s ∙ sym d.1);
}

-- a built-in as a value: its scheme without what may be left out
abbrev pub as_value : Scheme → Scheme
as_value x = record { vars = x.vars; type = x.type; optional = no_labels; pipe_label = x.pipe_label; labels = x.labels; kinds = x.kinds }

pub value_numbered : (D : Line → Type 0) (x : Scheme) → IsSchemeOf D x → numbers_of (as_value x) ≤ x.vars
value_numbered D x h =
    let all : max (numbers x.type) (max (numbers_labels x.optional) (numbers_bounds x.kinds)) ≤ x.vars = h.numbered in
    let le : max (numbers x.type) (max 0 (numbers_bounds x.kinds)) ≤ x.vars = omega arith in
    le

pub value_found : (b : Builtin) (x : Scheme) (old new : Bindings) (f : Solution → Line) → IsSchemeOf (IsLine b []) x → Infers (λ s L. IsUse (as_value x) L) old new f
    → Infers (λ s t. IsType t × (IsType t × IsValueOf b t)) old new (λ s. (f s).type)
value_found b x old new f is h =
    seen_as (λ s L. IsUse (as_value x) L) (λ s t. IsType t × (IsType t × IsValueOf b t)) (λ s L. L.type) old new f h (λ s q agree L. refl)
    (λ s L u. (u.1, (u.1, (instance u.0.0 x, (is.lines (instance u.0.0 x)).0 (u.0.0, u.0.1, refl), sym (ap (λ K. K.type) u.0.2)))))
    (λ s t h. (let k = (is.lines h.1.1.0).1 h.1.1.1 in
    let same : (instance k.0 x).type ≡ t = sym (ap (λ K. K.type) k.2) ∙ h.1.1.2 in
    (instance k.0 (as_value x), ((k.0, k.1, refl), subst IsType (sym same) h.0, λ l. tt), same)))

pub no_value : (b : Builtin) (old : Bindings) → ((L : Line) → IsLine b [] L → ⊥) → HasNone (λ s t. IsType t × (IsType t × IsValueOf b t)) old
no_value b old none = λ s h within t c. none c.1.1.0 c.1.1.1

-- the built-in of a name

pub found_builtin : (o : Option Builtin) (id : BuiltinId) → option_map id_of o ≡ Some id → (b : Builtin) × (o ≡ Some b) × IsId id b
found_builtin None id h = absurd (no_id id h)
  where
    no_id : (id : BuiltinId) → ◌≡◌ {A = Option BuiltinId} None (Some id) → ⊥
    no_id id e = cc
found_builtin (Some b) id h = let same : id_of b ≡ id = cc in (b, refl, ap (λ i. i.number) same)

pub native_is : (path x : Label) (b : Builtin) → builtin_of path x ≡ Some b → ◌≡◌ {A = Solution → Ground → Type 0} (λ s t. IsType t × (IsType t × IsValueOf b t)) (λ s t. IsType t × native (builtin_of path x) (type_is t))
native_is path x b is = λ i s t. IsType t × native (sym is i) (type_is t)

-- Calls of values and of built-ins, as inference.
use Rattle.std.proofs.Common.{◌≡◌, ◌↔◌, refl, sym, ap, subst, ◌∙◌, ℕ, true, false, List, [], map, Option, None, Some}
use mathlib.Core.Bool.{true≢false}
use Rattle.std.specs.Prelude.{option_map}
use Rattle.fx_types.specs.Ground.{Ground, GroundField, GroundRow, g_absent, g_is}
use Rattle.fx_types.specs.Instance.{Solution, ground, ground_labels, ground_pipe}
use Rattle.fx_types.specs.Shape.{term, pipe_of}
use Rattle.fx_types.specs.declared.term.LabelTy.{LabelTy}
use Rattle.fx_types.specs.declared.term.Ty.{Ty}
use Rattle.fx_types.proofs.AgreeLaws.{agree_less}
use Rattle.fx_types.specs.Term.{Term, Pipe, no_pipe}
use Rattle.fx_schemes.specs.declared.list.Builtin.{Builtin}
use Rattle.fx_schemes.specs.Builtins.{differ}
use Rattle.fx_schemes.specs.Given.{Given}
use Rattle.fx_schemes.specs.Line.{Line, value}
use Rattle.fx_unify.specs.declared.bindings.Bindings.{Bindings}
use Rattle.fx_unify.specs.Solutions.{Solves, next_of}
use Rattle.fx_ast.specs.declared.expr.Expr.{Expr}
use Rattle.fx_ast.specs.declared.expr.Prop.{Prop}
use Rattle.fx_ast.specs.Shape.{tree_of, prop, props_of}
use Rattle.fx_ast.specs.Tree.{tree, call, Props, no_props, more_props}
use Rattle.fx_infer.specs.declared.ask.Inferred.{Inferred}
use Rattle.fx_infer.specs.declared.lines.LineTy.{LineTy}
use Rattle.fx_infer.specs.declared.scope.Name.{Name}
use Rattle.fx_infer.specs.Arguments.{Elsewhere, Called, IsLineAt}
use Rattle.fx_infer.specs.Ask.{type_is, Answers, IsFunction}
use Rattle.fx_infer.specs.Callees.{IsNative, IsValue, ArgsOf, CallOf, ValueCallOf, NativeCallOf, PipedOf, PipeBelow}
use Rattle.fx_infer.specs.Calls.{IsCalled, IsApart}
use Rattle.fx_infer.specs.Environment.{scope}
use Rattle.fx_infer.specs.Finds.{Finds, line_under}
use Rattle.fx_infer.specs.Infers.{Infers, HasNone, IsBelow, AreBelow}
use Rattle.fx_infer.specs.Lists.{labels_in}
use Rattle.fx_infer.specs.Names.{env_under, NamesBelow, TypeOf, ShapeOf}
use Rattle.fx_infer.specs.Parameters.{prop_names}
use Rattle.fx_infer.specs.Rules.{Gives}
use Rattle.fx_infer.specs.Typing.{callee, has_args, has_pipe}
use Rattle.fx_infer.specs.Uses.{IsTypedLine}
use Rattle.fx_infer.specs.Words.{words_of_call}
use Rattle.fx_infer.proofs.ApartLaws.{builtin_apart}
use Rattle.fx_infer.proofs.CalleeLaws.{callee_types}
use Rattle.fx_infer.proofs.CallLaws.{value_called, value_piped}
use Rattle.fx_infer.proofs.InfersLaws.{Reads, both, none_second, seen_as}

-- a question, the arguments, and a rule on both
module _ {R : Type 0} (T : Solution → R → Type 0) (A : Solution → GroundRow → Type 0) (U : R → GroundRow → Solution → Ground → Type 0) (C : Solution → Ground → Type 0) (old : Bindings) (a_reads : Reads (next_of old) A)
    (u_reads : (x : R) (r : GroundRow) → Reads (next_of old) (U x r)) (is : (s : Solution) (t : Ground) → C s t ↔ ((x : R) × (r : GroundRow) × T s x × A s r × U x r s t)) where
  pub three_found : (one two new : Bindings) (f : Solution → R) (g : Solution → GroundRow) (h : Solution → Ground) → Infers T old one f → Infers A one two g → Infers (λ s t. U (f s) (g s) s t) two new h → Infers C old new h
  three_found one two new f g h first second third =
      seen_as (λ s x. (T s x.0.0 × A s x.0.1) × U x.0.0 x.0.1 s x.1) C (λ s x. x.1) old new (λ s. ((f s, g s), h s))
      (both (λ s x. T s x.0 × A s x.1) (λ x s t. U x.0 x.1 s t) old two new (λ s. (f s, g s)) h (both T (λ x s r. A s r) old one two f g first second (λ x. a_reads)) third (λ x. u_reads x.0 x.1))
      (λ s q agree x. refl) (λ s x k. (is s x.1).1 (x.0.0, x.0.1, k.0.0, k.0.1, k.1))
      (λ s t c. (let k = (is s t).0 c in (((k.0, k.1), t), ((k.2, k.3), k.4), refl)))

  pub three_first : HasNone T old → HasNone C old
  three_first none = λ s h within t c. (let k = (is s t).0 c in none s h within k.0 k.2)

  pub three_second : (one : Bindings) (f : Solution → R) → Infers T old one f → HasNone A one → HasNone C old
  three_second one f first none = λ s h within t c.
      (let k = (is s t).0 c in none_second T (λ x s r. A s r) old one one f (λ q l. g_absent) first none (λ x. a_reads) s h within (k.0, k.1) (k.2, k.3))

  pub three_third : (one two : Bindings) (f : Solution → R) (g : Solution → GroundRow) → Infers T old one f → Infers A one two g → HasNone (λ s t. U (f s) (g s) s t) two → HasNone C old
  three_third one two f g first second none = λ s h within t c.
      (let k = (is s t).0 c in
      none_second (λ s x. T s x.0 × A s x.1) (λ x s t. U x.0 x.1 s t) old two two (λ s. (f s, g s)) (λ q. t) (both T (λ x s r. A s r) old one two f g first second (λ x. a_reads)) none (λ x. u_reads x.0 x.1) s h within
      ((k.0, k.1), t) ((k.2, k.3), k.4))

-- a value, as a line

gives_function : (u : Ground) (r : GroundRow) (g : GroundField) (t : Ground) → Gives u r g t → IsFunction u
gives_function u r g t h = subst IsFunction (sym h.1) tt

line_function : (L : Line) (g : GroundField) (r : GroundRow) (t : Ground) → IsCalled g r L t → IsFunction L.type
line_function L g_absent r t h = subst IsFunction (sym h.1.2) tt
line_function L (g_is w) r t h = subst IsFunction (sym h.1.1) tt

called_gives : (u : Ground) (g : GroundField) (r : GroundRow) (t : Ground) → IsCalled g r (value u) t ↔ Gives u r g t
called_gives u g_absent r t = (λ h. (h.0, (value_called u r t).0 h.1), λ h. (h.0, (value_called u r t).1 h.1))
called_gives u (g_is w) r t = (λ h. (h.0, (value_piped u w r t).0 h.1), λ h. (h.0, (value_piped u w r t).1 h.1))

no_words : (ps : Props) → words_of_call None ps ≡ Some []
no_words no_props = refl
no_words (more_props x e ps) = no_words ps

module _ (C : Answers) (ps : Props) (Has : Option Builtin → GroundRow → Type 0) (g : GroundField) (t : Ground) (once : differ (prop_names ps) ≡ true) where
  value_calls : IsValue C → Called C ps Has (λ r L. IsCalled g r L t) ↔ ((u : Ground) × (r : GroundRow) × C (type_is u) × (Has None r × Elsewhere ps r (λ l. g_absent)) × Gives u r g t)
  value_calls is = (
    λ h. to h.0 h.1 h.2 h.3 h.6 h.7 h.8 h.9,
    λ k. (None, [], value k.0, k.1, once, no_words ps, (is.lines (value k.0)).1 (k.0, refl, gives_function k.0 k.1 g t k.4, k.2), k.3.0, k.3.1, (called_gives k.0 g k.1 t).1 k.4),
  )
    where
      to : (b : Option Builtin) (w : Given) (L : Line) (r : GroundRow) → IsLineAt C b w L → Has b r → Elsewhere ps r (λ l. g_absent) → IsCalled g r L t
          → (u : Ground) × (r : GroundRow) × C (type_is u) × (Has None r × Elsewhere ps r (λ l. g_absent)) × Gives u r g t
      to None w L r line has else takes =
          let k = (is.lines L).0 line in (k.0, r, k.3, (has, else), (called_gives k.0 g r t).0 (subst (λ K. IsCalled g r K t) k.1 takes))
      to (Some b) w L r line has else takes = absurd (is.others b line.0)

  native_calls : (b : Builtin) → IsNative b C
      → ((w : Given) × (words_of_call (Some b) ps ≡ Some w) × ((L : Line) × (r : GroundRow) × IsTypedLine b w L × (Has (Some b) r × Elsewhere ps r (λ l. g_absent)) × IsCalled g r L t)) ↔ Called C ps Has (λ r L. IsCalled g r L t)
  native_calls b is = (
    λ k. (Some b, k.0, k.2.0, k.2.1, once, k.1, (is.itself, k.2.2.0, line_function k.2.0 g k.2.1 t k.2.4, k.2.2.1.0, k.2.2.1.1), k.2.3.0, k.2.3.1, k.2.4),
    λ h. to h.0 h.1 h.2 h.3 h.5 h.6 h.7 h.8 h.9,
  )
    where
      to : (d : Option Builtin) (v : Given) (L : Line) (r : GroundRow) → words_of_call d ps ≡ Some v → IsLineAt C d v L → Has d r → Elsewhere ps r (λ l. g_absent) → IsCalled g r L t
          → (w : Given) × (words_of_call (Some b) ps ≡ Some w) × ((L : Line) × (r : GroundRow) × IsTypedLine b w L × (Has (Some b) r × Elsewhere ps r (λ l. g_absent)) × IsCalled g r L t)
      to None v L r said line has else takes = absurd (is.lines L line)
      to (Some d) v L r said line has else takes =
          let back : d ≡ b = sym (is.only d line.0) in
          (v, subst (λ x. words_of_call (Some x) ps ≡ Some v) back said, (L, r, subst (λ x. IsTypedLine x v L) back (line.1, (line.3, line.4)), (subst (λ x. Has (Some x) r) back has, else), takes))

-- calls among names

same_given : (a c : Given) → ◌≡◌ {A = Option Given} (Some a) (Some c) → a ≡ c
same_given a c e = cc

args_reads : (b : Option Builtin) (n : ℕ) (ns : List Name) (ps : List Prop) → NamesBelow n ns → Reads n (ArgsOf b ns ps)
args_reads b n ns ps below = λ s q agree r h. (subst (λ env. has_args (props_of (map prop ps)) (scope env) b r) (below s q agree) h.0, h.1)

pub not_once : (ns : List Name) (e : Expr) (ps : List Prop) (p : Pipe) (old : Bindings) → differ (prop_names (props_of (map prop ps))) ≡ false → HasNone (CallOf ns e ps p) old
not_once ns e ps p old twice = λ s h within t c. true≢false (sym c.4 ∙ twice)

module _ (ns : List Name) (e : Expr) (ps : List Prop) (p : Pipe) (once : differ (prop_names (props_of (map prop ps))) ≡ true) (s : Solution) (t : Ground) where
  pub as_value : IsValue (callee (tree_of e) (scope (env_under s ns))) → ValueCallOf ns e ps p s t ↔ CallOf ns e ps p s t
  as_value is =
      let same = value_calls (callee (tree_of e) (scope (env_under s ns))) (props_of (map prop ps)) (has_args (props_of (map prop ps)) (scope (env_under s ns))) (ground_pipe s p) t once is in (
        λ k. same.1 (k.0, k.1, (callee_types (tree_of e) (scope (env_under s ns)) k.0 is.types).1 k.2, k.3, k.4),
        λ h. (let k = same.0 h in (k.0, k.1, (callee_types (tree_of e) (scope (env_under s ns)) k.0 is.types).0 k.2, k.3, k.4)),
      )

  pub as_native : (b : Builtin) → IsNative b (callee (tree_of e) (scope (env_under s ns))) → NativeCallOf b ns ps p s t ↔ CallOf ns e ps p s t
  as_native b is = native_calls (callee (tree_of e) (scope (env_under s ns))) (props_of (map prop ps)) (has_args (props_of (map prop ps)) (scope (env_under s ns))) (ground_pipe s p) t once b is

module _ (ns : List Name) (ps : List Prop) (p : Pipe) (old : Bindings) (names : NamesBelow (next_of old) ns) (below : PipeBelow (next_of old) p) where
  -- a value

  gives_reads : (u : Ground) (r : GroundRow) → Reads (next_of old) (λ s t. Gives u r (ground_pipe s p) t)
  gives_reads u r = λ s q agree t h. subst (λ f. Gives u r f t) (below s q agree) h

  module _ (e : Expr) where
    pub value_found : (one two new : Bindings) (f : Solution → Ground) (g : Solution → GroundRow) (h : Solution → Ground) → Infers (TypeOf ns e) old one f → Infers (ArgsOf None ns ps) one two g
        → Infers (λ s t. Gives (f s) (g s) (ground_pipe s p) t) two new h → Infers (ValueCallOf ns e ps p) old new h
    value_found = three_found (TypeOf ns e) (ArgsOf None ns ps) (λ u r s t. Gives u r (ground_pipe s p) t) (ValueCallOf ns e ps p) old (args_reads None (next_of old) ns ps names) gives_reads (λ s t. (λ c. c, λ c. c))

    pub value_none : HasNone (TypeOf ns e) old → HasNone (ValueCallOf ns e ps p) old
    value_none = three_first (TypeOf ns e) (ArgsOf None ns ps) (λ u r s t. Gives u r (ground_pipe s p) t) (ValueCallOf ns e ps p) old (args_reads None (next_of old) ns ps names) gives_reads (λ s t. (λ c. c, λ c. c))

    pub value_args_none : (one : Bindings) (f : Solution → Ground) → Infers (TypeOf ns e) old one f → HasNone (ArgsOf None ns ps) one → HasNone (ValueCallOf ns e ps p) old
    value_args_none = three_second (TypeOf ns e) (ArgsOf None ns ps) (λ u r s t. Gives u r (ground_pipe s p) t) (ValueCallOf ns e ps p) old (args_reads None (next_of old) ns ps names) gives_reads (λ s t. (λ c. c, λ c. c))

  -- a built-in

  pub native_wordless : (b : Builtin) → words_of_call (Some b) (props_of (map prop ps)) ≡ None → HasNone (NativeCallOf b ns ps p) old
  native_wordless b none = λ s h within t c. some_none c.0 (sym none ∙ c.1)
    where
      some_none : (w : Given) → ◌≡◌ {A = Option Given} None (Some w) → ⊥
      some_none w e = cc

  module _ (b : Builtin) (w : Given) (words : words_of_call (Some b) (props_of (map prop ps)) ≡ Some w) where
    abbrev Lines : Solution → Ground → Type 0
    Lines s t = (L : Line) × (r : GroundRow) × IsTypedLine b w L × ArgsOf (Some b) ns ps s r × IsCalled (ground_pipe s p) r L t

    native_is : (s : Solution) (t : Ground) → NativeCallOf b ns ps p s t ↔ Lines s t
    native_is s t = (λ c. (c.2.0, c.2.1, subst (λ v. IsTypedLine b v c.2.0) (same_given c.0 w (sym c.1 ∙ words)) c.2.2, c.2.3, c.2.4), λ k. (w, words, k))

    called_reads : (L : Line) (r : GroundRow) → Reads (next_of old) (λ s t. IsCalled (ground_pipe s p) r L t)
    called_reads L r = λ s q agree t h. subst (λ f. IsCalled f r L t) (below s q agree) h

    pub native_no_line : HasNone (λ s L. IsTypedLine b w L) old → HasNone (NativeCallOf b ns ps p) old
    native_no_line = three_first (λ s L. IsTypedLine b w L) (ArgsOf (Some b) ns ps) (λ L r s t. IsCalled (ground_pipe s p) r L t) (NativeCallOf b ns ps p) old (args_reads (Some b) (next_of old) ns ps names) called_reads native_is

    pub native_args_none : (one : Bindings) (f : Solution → Line) → Infers (λ s L. IsTypedLine b w L) old one f → HasNone (ArgsOf (Some b) ns ps) one → HasNone (NativeCallOf b ns ps p) old
    native_args_none = three_second (λ s L. IsTypedLine b w L) (ArgsOf (Some b) ns ps) (λ L r s t. IsCalled (ground_pipe s p) r L t) (NativeCallOf b ns ps p) old (args_reads (Some b) (next_of old) ns ps names) called_reads native_is

    -- what the line gives, or that it gives nothing
    pub native_found : (one two : Bindings) (f : Solution → Line) (g : Solution → GroundRow) (o : Option Inferred) → Infers (λ s L. IsTypedLine b w L) old one f → Infers (ArgsOf (Some b) ns ps) one two g
        → Finds (λ s t. IsCalled (ground_pipe s p) (g s) (f s) t) two o → Finds (NativeCallOf b ns ps p) old o
    native_found one two f g None first second none =
        three_third (λ s L. IsTypedLine b w L) (ArgsOf (Some b) ns ps) (λ L r s t. IsCalled (ground_pipe s p) r L t) (NativeCallOf b ns ps p) old (args_reads (Some b) (next_of old) ns ps names) called_reads native_is
        one two f g first second none
    native_found one two f g (Some x) first second third =
        three_found (λ s L. IsTypedLine b w L) (ArgsOf (Some b) ns ps) (λ L r s t. IsCalled (ground_pipe s p) r L t) (NativeCallOf b ns ps p) old (args_reads (Some b) (next_of old) ns ps names) called_reads native_is
        one two x.bindings f g (λ s. ground s (term x.ty)) first second third

-- what a line of a built-in, and arguments, owe to a call by the line

pub lines_apart : (b : Builtin) (w : Given) (old one two : Bindings) (x : LineTy) (A : Solution → GroundRow → Type 0) (g : Solution → GroundRow) → Infers (λ s L. IsTypedLine b w L) old one (λ s. line_under s x) → Infers A one two g
    → (s : Solution) → Solves s two → IsApart (line_under s x)
lines_apart b w old one two x A g first second s h = builtin_apart b w (line_under s x) (first.sound s (second.keeps s h)).0

pub line_below : (T : Solution → Line → Type 0) (old one two : Bindings) (x : LineTy) (A : Solution → GroundRow → Type 0) (g : Solution → GroundRow) → Infers T old one (λ s. line_under s x) → Infers A one two g → IsBelow (next_of two) (term x.ty)
line_below T old one two x A g first second s q agree = ap (λ L. L.type) (first.below s q (agree_less (next_of two) (next_of one) s q agree second.more))

pub optional_below : (T : Solution → Line → Type 0) (old one two : Bindings) (x : LineTy) (A : Solution → GroundRow → Type 0) (g : Solution → GroundRow) → Infers T old one (λ s. line_under s x) → Infers A one two g
    → AreBelow (next_of two) (labels_in x.optional) no_pipe
optional_below T old one two x A g first second s q agree = (ap (λ L. L.optional) (first.below s q (agree_less (next_of two) (next_of one) s q agree second.more)), refl)

pub given_below : {R : Type 0} (T : Solution → R → Type 0) (old one two : Bindings) (f : Solution → R) (A : Solution → GroundRow → Type 0) (es : List LabelTy) (p : Pipe) → Infers T old one f → Infers A one two (λ s. ground_labels s (labels_in es))
    → PipeBelow (next_of old) p → AreBelow (next_of two) (labels_in es) p
given_below T old one two f A es p first second below s q agree = (
  second.below s q agree,
  below s q (agree_less (next_of one) (next_of old) s q (agree_less (next_of two) (next_of one) s q agree second.more) first.more),
)

pub term_below : (T : Solution → Ground → Type 0) (old one two : Bindings) (w : Term) (A : Solution → GroundRow → Type 0) (g : Solution → GroundRow) → Infers T old one (λ s. ground s w) → Infers A one two g → IsBelow (next_of two) w
term_below T old one two w A g first second s q agree = first.below s q (agree_less (next_of two) (next_of one) s q agree second.more)

-- a call without a pipe, and one behind it

pub plain_call : (ns : List Name) (e : Expr) (ps : List Prop) (s : Solution) (t : Ground) → CallOf ns e ps no_pipe s t ↔ ShapeOf ns (call (tree_of e) (props_of (map prop ps))) s t
plain_call ns e ps s t = (
  λ c. (c.9.0, (c.0, c.1, c.2, c.3, c.4, c.5, c.6, c.7, c.8, c.9.1)),
  λ h. (let c = h.1 in (c.0, c.1, c.2, c.3, c.4, c.5, c.6, c.7, c.8, (h.0, c.9))),
)

pub piped_call : (ns : List Name) (x e : Expr) (ps : List Prop) (w : Ty) → tree_of x ≡ tree x.place (call (tree_of e) (props_of (map prop ps))) → (s : Solution) (t : Ground)
    → CallOf ns e ps (pipe_of (option_map term (Some w))) s t ↔ PipedOf ns x s (ground s (term w)) t
piped_call ns x e ps w is s t = (
  λ c. subst (λ y. has_pipe y (scope (env_under s ns)) (ground s (term w)) t) (sym is) (c.9.0, (c.0, c.1, c.2, c.3, c.4, c.5, c.6, c.7, c.8, c.9.1)),
  λ h. (let k = subst (λ y. has_pipe y (scope (env_under s ns)) (ground s (term w)) t) is h in (k.1.0, k.1.1, k.1.2, k.1.3, k.1.4, k.1.5, k.1.6, k.1.7, k.1.8, (k.0, k.1.9))),
)

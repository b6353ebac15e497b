-- Schemes and the lines that are their instances.
use Rattle.std.proofs.Common.{◌≡◌, ◌∙◌, Bool, refl, sym, ap, subst, ℕ, zero, suc, List, [], ◌∷◌, ◌++◌, true, Option, None, Some, ◌↔◌, ◌≤◌, Result, Ok, Err}
use Rattle.std.specs.Prelude.{IfOk, option_map, codes}
use Rattle.fx_types.specs.Term.{Label, Term, fun, stream, by_pipe, row_variable, default}
use Rattle.fx_types.specs.Shape.{OfLabel, labels_of}
use Rattle.fx_types.specs.Ground.{Ground, GroundRow, g_int, g_absent}
use Rattle.fx_types.specs.Instance.{Solution, ground, plainest}
use Rattle.fx_types.specs.Size.{IsType}
use Rattle.fx_schemes.specs.declared.builtin_type.BuiltinType as types
use Rattle.fx_schemes.specs.Given.{Given, text_at}
use Rattle.fx_schemes.specs.Line.{Line}
use Rattle.fx_schemes.specs.declared.simple.Simple as simples
use Rattle.fx_schemes.specs.declared.plan.Variables as plans
use Rattle.fx_schemes.specs.declared.simple.Bound.TheVariants as bound
use Rattle.fx_schemes.specs.Plan.{labelled, cell_field, call_scheme, Cell, Param, labels_in, fields_in, bounds_of}
use Rattle.fx_schemes.specs.declared.simple.Bound as kinds
use Rattle.fx_schemes.proofs.FormLaws.{plain_type}
use Rattle.fx_schemes.proofs.Sizes.{tidy, most}
use Rattle.fx_schemes.specs.Scheme.{Scheme, shown, instance, Keeps, IsInstance, numbers_of, IsSchemeOf, Says}

-- by a solution that keeps the bounds, and a term whose plainest instance is the type that it gives
pub built_by : (X : Scheme) (D : Line → Type 0) → numbers_of X ≤ X.vars → (s : Solution) → Keeps s X.kinds
    → (t : Term) → tidy t ≡ true → most t ≤ 4096 → ground plainest t ≡ ground s X.type
    → ((L : Line) → IsInstance X L ↔ D L) → IsSchemeOf D X
built_by X D numbered s keeps t tidied few same lines = record {
  numbered = numbered;
  lines = lines;
  some = (instance s X, (lines (instance s X)).0 (s, keeps, refl), subst IsType same (plain_type t tidied few));
}

pub built : (X : Scheme) (D : Line → Type 0) → numbers_of X ≤ X.vars → tidy X.type ≡ true → most X.type ≤ 4096 → Keeps plainest X.kinds
    → ((L : Line) → IsInstance X L ↔ D L) → IsSchemeOf D X
built X D numbered tidied few keeps lines = built_by X D numbered plainest keeps X.type tidied few refl lines

-- from streams of R with the asked cells to streams of R with the made ones
abbrev pub over_tables : List Label → List Param → List Param → ℕ → kinds.Bound → List Cell → List Cell → Scheme
over_tables ls ps os n b asked made = record {
  vars = n;
  type = fun (labels_in ps) (by_pipe (stream (fields_in asked) (row_variable 0))) (stream (fields_in (made ++ asked)) (row_variable 0));
  optional = labels_in os;
  pipe_label = Some (codes "tables");
  labels = ls;
  kinds = bounds_of b;
}

-- to streams of a row with the made cells, and the same at all other labels
abbrev pub closed_tables : List Label → List Param → List Param → ℕ → kinds.Bound → List Cell → List Cell → Option simples.Simple → Scheme
closed_tables ls ps os n b asked made other = record {
  vars = n;
  type = fun (labels_in ps) (by_pipe (stream (fields_in asked) (row_variable 0))) (stream (fields_in made) (default (cell_field other)));
  optional = labels_in os;
  pipe_label = Some (codes "tables");
  labels = ls;
  kinds = bounds_of b;
}

pub same_over : (ls : List Label) (ps os : List Param) (v w : plans.Variables) (a b m n : List Cell) → v ≡ w → a ≡ b → m ≡ n
    → over_tables ls ps os v.count v.bound a m ≡ over_tables ls ps os w.count w.bound b n
same_over ls ps os v w a b m n d e h =
    ap (λ z. over_tables ls ps os z.count z.bound a m) d ∙ ap (λ z. over_tables ls ps os w.count w.bound z m) e ∙ ap (over_tables ls ps os w.count w.bound b) h

pub same_closed : (ls : List Label) (ps os : List Param) (f : Option simples.Simple) (v w : plans.Variables) (a b m n : List Cell) → v ≡ w → a ≡ b → m ≡ n
    → closed_tables ls ps os v.count v.bound a m f ≡ closed_tables ls ps os w.count w.bound b n f
same_closed ls ps os f v w a b m n d e h =
    ap (λ z. closed_tables ls ps os z.count z.bound a m f) d
    ∙ ap (λ z. closed_tables ls ps os w.count w.bound z m f) e
    ∙ ap (λ z. closed_tables ls ps os w.count w.bound b z f) h

-- a solution of one type and two rows
abbrev pub row_at : GroundRow → GroundRow → GroundRow → ℕ → GroundRow
row_at a b c zero = a
row_at a b c (suc zero) = b
row_at a b c _ = c

abbrev pub type_at : Ground → Ground → ℕ → Ground
type_at t u zero = t
type_at t u _ = u

abbrev pub rows_solution : GroundRow → GroundRow → GroundRow → Solution
rows_solution r q s = record { type_of = λ n. g_int; field_of = λ n. g_absent; row_of = row_at r q s }

abbrev pub solution : Ground → GroundRow → Solution
solution t r = record { type_of = λ n. t; field_of = λ n. g_absent; row_of = λ n. r }

pub by_option : {A : Type 0} {P : Type 0} (o : Option A) → (o ≡ None → P) → ((a : A) → o ≡ Some a → P) → P
by_option None f g = f refl
by_option (Some a) f g = g a refl

-- from plain data to what code answers
pub by_data : {E : Type 0} (D : Line → Type 0) (result : Result (Option types.BuiltinType) E) (X : Option Scheme)
    → IfOk result (λ o. option_map shown o ≡ X) → Says D X → IfOk result (λ o. Says D (option_map shown o))
by_data D (Ok o) X e h = subst (Says D) (sym e) h
by_data D (Err fault) X e h = tt

pub no_word : {A : Type 0} (o : Option A) (x : A) → o ≡ None → o ≡ Some x → ⊥
no_word o x n h = cc

pub same_word : {A : Type 0} (o : Option A) (x y : A) → o ≡ Some x → o ≡ Some y → x ≡ y
same_word o x y h k = cc

abbrev pub OfWord : Given → Label → Option Label → (Label → Line → Type 0) → Line → Type 0
OfWord w a d At L = (x : Label) × (text_at w a d ≡ Some x) × At x L

-- what hangs on a word, at the word that is there
pub of_some : {A : Type 0} (o : Option A) (At : A → Line → Type 0) (x : A) → o ≡ Some x
    → (X : Scheme) → IsSchemeOf (At x) X → IsSchemeOf (λ L. (y : A) × (o ≡ Some y) × At y L) X
of_some o At x e X h = record {
  numbered = h.numbered;
  lines = λ L. (
    λ i. (x, e, (h.lines L).0 i),
    λ i. (h.lines L).1 (subst (λ y. At y L) (same_word o i.0 x i.1 e) i.2),
  );
  some = (h.some.0, (x, e, h.some.1), h.some.2);
}

pub of_word : (w : Given) (a : Label) (d : Option Label) (At : Label → Line → Type 0) (x : Label) → text_at w a d ≡ Some x
    → (X : Scheme) → IsSchemeOf (At x) X → IsSchemeOf (OfWord w a d At) X
of_word w a d At x e X h = of_some (text_at w a d) At x e X h

-- the same, where the lines hang on a word of the call
pub by_word : {E : Type 0} (result : Result (Option types.BuiltinType) E) (o : Option Scheme) (w : Given) (a : Label) (d : Option Label)
    (At : Label → Line → Type 0) (X : Label → Scheme) → ((x : Label) → IsSchemeOf (At x) (X x))
    → IfOk result (λ t. option_map shown t ≡ o)
    → (text_at w a d ≡ None → o ≡ None) → ((x : Label) → text_at w a d ≡ Some x → o ≡ Some (X x))
    → IfOk result (λ t. Says (λ L. (x : Label) × (text_at w a d ≡ Some x) × At x L) (option_map shown t))
by_word result o w a d At X laws e none some =
    by_data (OfWord w a d At) result o e (by_option (text_at w a d)
    (λ n. subst (Says (OfWord w a d At)) (sym (none n)) (λ L h. absurd (no_word (text_at w a d) h.0 n h.1)))
    (λ x n. subst (Says (OfWord w a d At)) (sym (some x n)) (of_word w a d At x n (X x) (laws x))))

pub by_scheme : {E : Type 0} (D : Line → Type 0) (result : Result types.BuiltinType E) (X : Scheme)
    → IfOk result (λ t. shown t ≡ X) → IsSchemeOf D X → IfOk result (λ t. IsSchemeOf D (shown t))
by_scheme D (Ok t) X e h = subst (IsSchemeOf D) (sym e) h
by_scheme D (Err fault) X e h = tt

-- a scheme whose one line hangs on no variable
pub fixed : (X : Scheme) (K : Line) → numbers_of X ≤ X.vars → tidy X.type ≡ true → most X.type ≤ 4096 → ((s : Solution) → Keeps s X.kinds)
    → ((s : Solution) → instance s X ≡ K) → IsSchemeOf (λ L. L ≡ K) X
fixed X K numbered tidied few keeps same =
    built X (λ L. L ≡ K) numbered tidied few (keeps plainest) (λ L. (
      λ i. i.2 ∙ same i.0,
      λ e. (plainest, keeps plainest, e ∙ sym (same plainest)),
    ))

-- the same as by_word, where the lines hang on two words
pub by_words : {E : Type 0} (result : Result (Option types.BuiltinType) E) (o : Option Scheme) (w : Given) (a : Label) (d : Option Label) (b : Label) (e : Option Label)
    (At : Label → Label → Line → Type 0) (X : Label → Label → Scheme) → ((x y : Label) → IsSchemeOf (At x y) (X x y))
    → IfOk result (λ t. option_map shown t ≡ o)
    → (text_at w a d ≡ None → o ≡ None) → ((x : Label) → text_at w a d ≡ Some x → text_at w b e ≡ None → o ≡ None)
    → ((x y : Label) → text_at w a d ≡ Some x → text_at w b e ≡ Some y → o ≡ Some (X x y))
    → IfOk result (λ t. Says (OfWord w a d (λ x. OfWord w b e (At x))) (option_map shown t))
by_words result o w a d b e At X laws is none none_then some =
    by_data (OfWord w a d (λ x. OfWord w b e (At x))) result o is (by_option (text_at w a d)
    (λ n. subst (Says (OfWord w a d (λ x. OfWord w b e (At x)))) (sym (none n)) (λ L h. absurd (no_word (text_at w a d) h.0 n h.1)))
    (λ x n. by_option (text_at w b e)
    (λ m. subst (Says (OfWord w a d (λ x. OfWord w b e (At x)))) (sym (none_then x n m)) (λ L h. absurd (no_word (text_at w b e) h.2.0 m h.2.1)))
    (λ y m. subst (Says (OfWord w a d (λ x. OfWord w b e (At x)))) (sym (some x y n m))
    (of_word w a d (λ x. OfWord w b e (At x)) x n (X x y) (of_word w b e (At x) y m (X x y) (laws x y))))))

-- equal parts make equal schemes

pub same_call : (v : plans.Variables) (a b : List OfLabel) (t u : Term) → a ≡ b → t ≡ u → call_scheme (labels_of a) t v ≡ call_scheme (labels_of b) u v
same_call v a b t u e h = ap (λ z. call_scheme (labels_of z) t v) e ∙ ap (λ z. call_scheme (labels_of b) z v) h

abbrev pub free : ℕ → plans.Variables
free n = record { count = n; bound = bound.Free }

abbrev pub plain_piped : Label → List Label → List Param → plans.Variables → Term → List OfLabel → Term → Scheme
plain_piped x ls os v i a t =
    record { vars = v.count; type = fun (labels_of a) (by_pipe i) t; optional = labels_in os; pipe_label = Some x; labels = ls; kinds = bounds_of v.bound }

pub same_piped : (x : Label) (ls : List Label) (os : List Param) (v : plans.Variables) (i j : Term) (a b : List OfLabel) (t u : Term)
    → i ≡ j → a ≡ b → t ≡ u → plain_piped x ls os v i a t ≡ plain_piped x ls os v j b u
same_piped x ls os v i j a b t u d e h =
    ap (λ z. plain_piped x ls os v z a t) d ∙ ap (λ z. plain_piped x ls os v j z t) e ∙ ap (λ z. plain_piped x ls os v j b z) h

pub same_more : (x : Label) (a b : List OfLabel) (t u : Term) → a ≡ b → t ≡ u → a ++ labelled x t ∷ [] ≡ b ++ labelled x u ∷ []
same_more x a b t u e h = ap (λ z. z ++ labelled x t ∷ []) e ∙ ap (λ z. b ++ labelled x z ∷ []) h

-- where the lines hang on a test
pub tested : (c : Bool) (At : Line → Type 0) (X : Scheme) → c ≡ true → IsSchemeOf At X → IsSchemeOf (λ L. (c ≡ true) × At L) X
tested c At X e h = record {
  numbered = h.numbered;
  lines = λ L. (λ i. (e, (h.lines L).0 i), λ i. (h.lines L).1 i.1);
  some = (h.some.0, (e, h.some.1), h.some.2);
}

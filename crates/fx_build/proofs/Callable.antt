-- What may be called, is called and piped into safely, over built-ins whose calls are safe.
use Rattle.std.proofs.Common.{◌≡◌, refl, sym, ap, subst, ◌∙◌, inl, inr, ◌⊎◌, ℕ, zero, suc, ℤ, [], Some, None, IsTrue}
use Rattle.std.specs.Prelude.{Option}
use mathlib.Core.Bool.{false≢true}
use Rattle.fx_base.specs.declared.place.Place.{Place}
use Rattle.fx_ops.specs.Whole.{in_64_bits}
use Rattle.fx_types.specs.Term.{Label}
use Rattle.fx_types.specs.Ground.{Ground, GroundField, GroundRow, g_fun, g_absent, g_is}
use Rattle.fx_types.specs.Size.{IsType}
use Rattle.fx_schemes.specs.Builtins.{IsLine}
use Rattle.fx_schemes.specs.Given.{Given}
use Rattle.fx_schemes.specs.Line.{Line, value}
use Rattle.fx_schemes.specs.Signature.{form_of}
use Rattle.fx_schemes.specs.declared.list.Builtin.{Builtin}
use Rattle.fx_ast.specs.Tree.{Props}
use Rattle.fx_meaning.specs.declared.native.Native.{Native}
use Rattle.fx_meaning.specs.declared.setting.Setting.{Setting}
use Rattle.fx_meaning.specs.Meaning.{Calls, Tests, applied_to, entered, nested, piped_to}
use Rattle.fx_meaning.specs.Native.{native_builtin, value_of}
use Rattle.fx_meaning.specs.Value.{Val, cell, span, pattern, array, rec, closure, native, in_package, stream, shown, Slots, look, push}
use Rattle.fx_infer.specs.Arguments.{IsCall, IsLineAt, IsPipe}
use Rattle.fx_infer.specs.Ask.{IsFunction}
use Rattle.fx_infer.specs.Parameters.{line_of, type_of}
use Rattle.fx_build.specs.Fit.{fits, with_input}
use Rattle.fx_build.specs.Safe.{IsSafe}
use Rattle.fx_plan.specs.Said.{said_in}
use Rattle.fx_build.proofs.Applied.{AllSuit, CallsAreSafe, call_along, call_suits, literal_called, literal_piped, pipe_along, piped_runs, pushed_at}
use Rattle.fx_build.proofs.ArgLaws.{IsGiven, given_fits}
use Rattle.fx_build.proofs.Entered.{TreesFit, entered_safe}
use Rattle.fx_build.proofs.FoldLaws.{words_said}
use Rattle.fx_build.proofs.NameLaws.{HasLine, IsBuilt, Obeys, is_built}
use Rattle.fx_build.proofs.NativeLaws.{pipe_facts, pipe_label_is, says_nothing}
use Rattle.fx_plan.proofs.SaidLaws.{said_push}
use Rattle.fx_build.proofs.ParamLaws.{Suits, absent_suits, suits, takes_row}
use Rattle.fx_build.proofs.SafeLaws.{safe_later}
use Rattle.fx_build.proofs.Sound.{tree_fits}

-- a built-in by itself, called with the words of a line and with arguments for all else that it takes
abbrev pub NativeRuns : Calls → Native → Type 0
NativeRuns calls g =
    (place : Place) (moment : ℤ) (w : Given) (L : Line) (needs : GroundRow) (input : GroundField) (t : Ground) (args : Slots) → IsTrue (in_64_bits moment)
    → IsLine (native_builtin g) w L → IsType L.type → L.type ≡ g_fun needs input t → said_in (Some (native_builtin g)) args ≡ Some w
    → ((l : Label) → form_of (native_builtin g) l ≡ None → Suits (look l args) (with_input L.pipe_label input needs l) (L.optional l))
    → IsSafe (λ v. fits v t) (applied_to calls place moment args (native g))

-- a function as a value is a literal or a built-in, each with a line of its type
abbrev pub IsNativeAt : Val → Line → Type 0
IsNativeAt v L = (g : Native) × (v ≡ native g) × IsLine (native_builtin g) [] L

abbrev pub HasALine : Val → Ground → Type 0
HasALine v t = (L : Line) × (L.type ≡ t) × IsType L.type × (HasLine v L ⊎ IsNativeAt v L)

pub lined : (v : Val) (needs : GroundRow) (input : GroundField) (t : Ground) → fits v (g_fun needs input t) → HasALine v (g_fun needs input t)
lined (closure ps lets e captured setting) needs input t h =
    let k = h.1.1 in
    let is : IsType (type_of ps k.0 k.1) = subst IsType (sym k.2) h.1.0 in
    (line_of ps k.0 k.1, k.2, is, inl (h.0, (k.0, k.1, refl, is, k.3), h.2))
lined (native g) needs input t h = (h.1.0, h.1.2, subst IsType (sym h.1.2) h.0, inr (g, refl, h.1.1))
lined (cell a) needs input t h = absurd (false≢true h)
lined (span d) needs input t h = absurd h
lined (pattern n) needs input t h = absurd h
lined (array vs) needs input t h = absurd h
lined (rec fields) needs input t h = absurd h
lined (in_package p) needs input t h = absurd h
lined (stream c) needs input t h = absurd h
lined (shown a p c) needs input t h = absurd h

-- where nothing more is allowed, what else is allowed doesn't matter
allowed : (needs optional : GroundField) (o : Option Val) → Suits o needs g_absent → Suits o needs optional
allowed (g_is t) optional (Some v) h = h
allowed (g_is t) optional None h = h
allowed g_absent optional (Some v) h = absurd h
allowed g_absent optional None h = tt

module _ (calls : Calls) (safe : CallsAreSafe calls) (runs : (g : Native) → NativeRuns calls g)
    (place : Place) (moment : ℤ) (within : IsTrue (in_64_bits moment)) where
  -- ---- calls

  line_called : (v : Val) (L : Line) (needs : GroundRow) (input : GroundField) (t : Ground) (args : Slots) → L.type ≡ g_fun needs input t → IsType L.type
      → HasLine v L ⊎ IsNativeAt v L → AllSuit L needs input args → IsSafe (λ y. fits y t) (applied_to calls place moment args v)
  line_called (closure ps lets e captured setting) L needs input t args type is (inl h) suit =
      literal_called calls safe place moment ps lets e captured args setting h.0 h.1.0 h.1.1 t L needs input h.1.2 type h.1.4 h.2 suit
  line_called v L needs input t args type is (inr h) suit =
      subst (λ y. IsSafe (λ z. fits z t) (applied_to calls place moment args y)) (sym h.1)
      (runs h.0 place moment [] L needs input t args within h.2 is type (says_nothing (native_builtin h.0) [] L needs input t h.2 type args suit) (λ l none. suit l))
  line_called (cell a) L needs input t args type is (inl h) suit = absurd h
  line_called (span d) L needs input t args type is (inl h) suit = absurd h
  line_called (pattern n) L needs input t args type is (inl h) suit = absurd h
  line_called (array vs) L needs input t args type is (inl h) suit = absurd h
  line_called (rec fields) L needs input t args type is (inl h) suit = absurd h
  line_called (native g) L needs input t args type is (inl h) suit = absurd h
  line_called (in_package p) L needs input t args type is (inl h) suit = absurd h
  line_called (stream c) L needs input t args type is (inl h) suit = absurd h
  line_called (shown a p c) L needs input t args type is (inl h) suit = absurd h

  unnamed_called : (ps : Props) (w : Given) (L : Line) (r : GroundRow) (t : Ground) (v : Val) (args : Slots) → HasLine v L ⊎ IsNativeAt v L → IsType L.type → IsGiven None ps w r args → IsCall r L t
      → IsSafe (λ y. fits y t) (applied_to calls place moment args v)
  unnamed_called ps w L r t v args h is given called =
      line_called v L called.0 called.1 t args called.2 is h (call_suits L called.0 r called.1 called.3 given)

  has_line_type : (v : Val) (L : Line) → HasLine v L → IsType L.type
  has_line_type (closure ps lets e captured setting) L h = h.1.3
  has_line_type (cell a) L h = absurd h
  has_line_type (span d) L h = absurd h
  has_line_type (pattern n) L h = absurd h
  has_line_type (array vs) L h = absurd h
  has_line_type (rec fields) L h = absurd h
  has_line_type (native g) L h = absurd h
  has_line_type (in_package p) L h = absurd h
  has_line_type (stream c) L h = absurd h
  has_line_type (shown a p c) L h = absurd h

  -- by its type
  value_called : (ps : Props) (w : Given) (L : Line) (r : GroundRow) (t u : Ground) (v : Val) (args : Slots) → L ≡ value u → fits v u → IsGiven None ps w r args → IsCall r L t
      → IsSafe (λ y. fits y t) (applied_to calls place moment args v)
  value_called ps w L r t u v args line fit given called =
      let type : u ≡ g_fun called.0 called.1 t = sym (ap (λ l. l.type) line) ∙ called.2 in
      let k = lined v called.0 called.1 t (subst (fits v) type fit) in
      unnamed_called ps w k.0 r t v args k.3 k.2 given (call_along u k.0 r t (k.1 ∙ sym type) (subst (λ l. IsCall r l t) line called))

  by_itself : (p : Option Label) (needs : GroundRow) (optional : GroundField) (o : Option Val) (l : Label) → Suits o (needs l) g_absent → Suits o (with_input p g_absent needs l) optional
  by_itself None needs optional o l h = allowed (needs l) optional o h
  by_itself (Some x) needs optional o l h = allowed (needs l) optional o h

  -- a function as a value, with values for all that its type takes
  pub function_applied : (v : Val) (needs : GroundRow) (t : Ground) (args : Slots) → fits v (g_fun needs g_absent t) → ((l : Label) → Suits (look l args) (needs l) g_absent)
      → IsSafe (λ y. fits y t) (applied_to calls place moment args v)
  function_applied v needs t args fit suit =
      let k = lined v needs g_absent t fit in
      line_called v k.0 needs g_absent t args k.1 k.2 k.3 (λ l. by_itself k.0.pipe_label needs (k.0.optional l) (look l args) l (suit l))

  -- a built-in by its name
  truth_or_native : (x : Builtin) (w : Given) (L : Line) (v : Val) → IsBuilt x → IsLineAt (Obeys v) (Some x) w L → (g : Native) × (v ≡ native g) × (native_builtin g ≡ x)
  truth_or_native x w L v (inl k) h = absurd (subst IsFunction (k.2 w L h.1) h.2)
  truth_or_native x w L v (inr k) h = (k.0, h.0 ∙ ap value_of k.1, k.2)

  pub applied : (b : Option Builtin) (ps : Props) (w : Given) (L : Line) (r : GroundRow) (t : Ground) (v : Val) (args : Slots)
      → IsLineAt (Obeys v) b w L → IsGiven b ps w r args → IsCall r L t → IsType t → IsSafe (λ x. fits x t) (applied_to calls place moment args v)
  applied None ps w L r t v args (inl h) given called is = value_called ps w L r t h.0 v args h.1 h.3 given called
  applied None ps w L r t v args (inr h) given called is = unnamed_called ps w L r t v args (inl h) (has_line_type v L h) given called
  applied (Some x) ps w L r t v args h given called is =
      let n = truth_or_native x w L v (is_built x) h in
      subst (λ y. IsSafe (λ z. fits z t) (applied_to calls place moment args y)) (sym n.1)
      (runs n.0 place moment w L called.0 called.1 t args within (subst (λ y. IsLine y w L) (sym n.2) h.1) h.3 called.2
      (subst (λ y. said_in (Some y) args ≡ Some w) (sym n.2) (words_said x w L ps r args h.1 given))
      (λ l none. suits (with_input L.pipe_label called.1 called.0 l) (L.optional l) (r l) (look l args) (takes_row L.pipe_label called.1 called.0 L.optional r called.3 l)
      (given_fits given l (subst (λ y. form_of y l ≡ None) n.2 none))))

  -- ---- pipes

  native_piped : (g : Native) (w : Given) (L : Line) (needs : GroundRow) (u t : Ground) (input : Val) (args : Slots) → IsLine (native_builtin g) w L → IsType L.type
      → L.type ≡ g_fun needs (g_is u) t → fits input u → ((l : Label) → form_of (native_builtin g) l ≡ None → Suits (look l args) (needs l) (L.optional l))
      → ((p : Label) → L.pipe_label ≡ Some p → form_of (native_builtin g) p ≡ None → said_in (Some (native_builtin g)) (push args p input) ≡ Some w)
      → IsSafe (λ y. fits y t) (piped_to calls place moment args input (native g))
  native_piped g w L needs u t input args line is type fit suit says =
      let k = pipe_facts (native_builtin g) w L needs (g_is u) t line type u refl in
      let pipe : L.pipe_label ≡ Some k.0 = pipe_label_is (native_builtin g) w L needs (g_is u) t line type ∙ k.1 in
      piped_runs calls place moment t (native g) input args k.0 k.1
      (absent_suits (look k.0 args) (subst (Suits (look k.0 args) g_absent) k.3 (subst (λ f. Suits (look k.0 args) f (L.optional k.0)) k.2 (suit k.0 k.4))))
      (runs g place moment w L needs (g_is u) t (push args k.0 input) within line is type (says k.0 pipe k.4)
      (λ l none. pushed_at L needs u args k.0 input l pipe fit (suit l none)))

  line_piped : (v : Val) (L : Line) (needs : GroundRow) (u t : Ground) (input : Val) (args : Slots) → L.type ≡ g_fun needs (g_is u) t → IsType L.type
      → HasLine v L ⊎ IsNativeAt v L → fits input u → ((l : Label) → Suits (look l args) (needs l) (L.optional l)) → IsSafe (λ y. fits y t) (piped_to calls place moment args input v)
  line_piped (closure ps lets e captured setting) L needs u t input args type is (inl h) fit suit =
      literal_piped calls safe place moment ps lets e captured args setting h.0 h.1.0 h.1.1 u t L needs input h.1.2 type h.1.4 h.2 fit suit
  line_piped v L needs u t input args type is (inr h) fit suit =
      subst (λ y. IsSafe (λ z. fits z t) (piped_to calls place moment args input y)) (sym h.1)
      (native_piped h.0 [] L needs u t input args h.2 is type fit (λ l none. suit l)
      (λ p pipe none. says_nothing (native_builtin h.0) [] L needs (g_is u) t h.2 type (push args p input) (λ l. pushed_at L needs u args p input l pipe fit (suit l))))
  line_piped (cell a) L needs u t input args type is (inl h) fit suit = absurd h
  line_piped (span d) L needs u t input args type is (inl h) fit suit = absurd h
  line_piped (pattern n) L needs u t input args type is (inl h) fit suit = absurd h
  line_piped (array vs) L needs u t input args type is (inl h) fit suit = absurd h
  line_piped (rec fields) L needs u t input args type is (inl h) fit suit = absurd h
  line_piped (native g) L needs u t input args type is (inl h) fit suit = absurd h
  line_piped (in_package p) L needs u t input args type is (inl h) fit suit = absurd h
  line_piped (stream c) L needs u t input args type is (inl h) fit suit = absurd h
  line_piped (shown a p c) L needs u t input args type is (inl h) fit suit = absurd h

  unnamed_piped : (ps : Props) (w : Given) (L : Line) (r : GroundRow) (u t : Ground) (v input : Val) (args : Slots) → HasLine v L ⊎ IsNativeAt v L → IsType L.type → IsGiven None ps w r args
      → fits input u → IsPipe u r L t → IsSafe (λ y. fits y t) (piped_to calls place moment args input v)
  unnamed_piped ps w L r u t v input args h is given fit called =
      line_piped v L called.0 u t input args called.1 is h fit (λ l. suits (called.0 l) (L.optional l) (r l) (look l args) (called.2 l) (given_fits given l refl))

  value_piped_safe : (ps : Props) (w : Given) (L : Line) (r : GroundRow) (u t k : Ground) (v input : Val) (args : Slots) → L ≡ value k → fits v k → IsGiven None ps w r args
      → fits input u → IsPipe u r L t → IsSafe (λ y. fits y t) (piped_to calls place moment args input v)
  value_piped_safe ps w L r u t k v input args line fit_v given fit called =
      let type : k ≡ g_fun called.0 (g_is u) t = sym (ap (λ l. l.type) line) ∙ called.1 in
      let m = lined v called.0 (g_is u) t (subst (fits v) type fit_v) in
      unnamed_piped ps w m.0 r u t v input args m.3 m.2 given fit (pipe_along k m.0 r u t (m.1 ∙ sym type) (subst (λ l. IsPipe u r l t) line called))

  pub piped : (b : Option Builtin) (ps : Props) (w : Given) (L : Line) (r : GroundRow) (u t : Ground) (v input : Val) (args : Slots)
      → IsLineAt (Obeys v) b w L → IsGiven b ps w r args → fits input u → IsPipe u r L t → IsType t → IsSafe (λ x. fits x t) (piped_to calls place moment args input v)
  piped None ps w L r u t v input args (inl h) given fit called is = value_piped_safe ps w L r u t h.0 v input args h.1 h.3 given fit called
  piped None ps w L r u t v input args (inr h) given fit called is = unnamed_piped ps w L r u t v input args (inl h) (has_line_type v L h) given fit called
  piped (Some x) ps w L r u t v input args h given fit called is =
      let n = truth_or_native x w L v (is_built x) h in
      subst (λ y. IsSafe (λ z. fits z t) (piped_to calls place moment args input y)) (sym n.1)
      (native_piped n.0 w L called.0 u t input args (subst (λ y. IsLine y w L) (sym n.2) h.1) h.3 called.1 fit
      (λ l none. suits (called.0 l) (L.optional l) (r l) (look l args) (called.2 l) (given_fits given l (subst (λ y. form_of y l ≡ None) n.2 none)))
      (λ p pipe none. said_push (native_builtin n.0) args p input none ∙ subst (λ y. said_in (Some y) args ≡ Some w) (sym n.2) (words_said x w L ps r args h.1 given)))

-- ---- all calls of literals, however deep they nest

module _ (test : Tests) (runs : (calls : Calls) (g : Native) → NativeRuns calls g) where
  pub trees_fit : (calls : Calls) → CallsAreSafe calls → (setting : Setting) (moment : IsTrue (in_64_bits setting.moment)) → TreesFit test calls setting moment
  trees_fit calls safe setting moment env slots =
      tree_fits test calls setting moment env slots
      (λ place b ps w L r t v args. applied calls safe (runs calls) place setting.moment moment b ps w L r t v args)
      (λ place b ps w L r u t v input args. piped calls safe (runs calls) place setting.moment moment b ps w L r u t v input args)

  pub nested_safe : (n : ℕ) → CallsAreSafe (nested test n)
  nested_safe zero ps lets e captured args setting env P t h met served = tt
  nested_safe (suc n) ps lets e captured args setting env P t h met served =
      safe_later (λ v. fits v t) 1 (entered test (nested test n) setting ps lets e captured args)
      (entered_safe test (nested test n) setting met.0 (trees_fit (nested test n) (nested_safe n) setting met.0) ps lets e captured args env P t h met.1 served)

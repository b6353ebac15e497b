-- What is typed isn't stuck, and its value fits, over calls that are so.
use Rattle.std.proofs.Common.{◌≡◌, refl, sym, subst, ◌∙◌, inl, inr, Bool, true, false, ◌||◌, List, [], Some, None, ℕ, IsTrue}
use Rattle.std.specs.Prelude.{if◌then◌else◌, Option, option_map}
use Rattle.std.proofs.lemmas.Bool.{and_from, or_left, or_right}
use Rattle.std.proofs.lemmas.Cmp.{nat_eq_equiv}
use Rattle.fx_base.specs.declared.place.Place.{Place}
use Rattle.fx_value.specs.Ends.{End}
use Rattle.fx_value.specs.declared.scalar.Scalar.TheVariants as scalar
use Rattle.fx_ops.specs.Whole.{in_64_bits}
use Rattle.fx_types.specs.Term.{Label}
use Rattle.fx_types.specs.Ground.{Ground, GroundRow, g_int, g_text, g_array, g_bool, g_rec, g_absent, g_is}
use Rattle.fx_types.specs.Size.{IsType}
use Rattle.fx_schemes.specs.Builtins.{differ}
use Rattle.fx_schemes.specs.Given.{Given}
use Rattle.fx_schemes.specs.Line.{Line}
use Rattle.fx_schemes.specs.Names.{builtin_of}
use Rattle.fx_schemes.specs.declared.form.Form.{Form}
use Rattle.fx_schemes.specs.declared.list.Builtin.{Builtin}
use Rattle.fx_ast.specs.Free.{Need, name_of, pattern_at, free, free_shape, free_fun, free_trees, free_parts, free_props, free_links}
use Rattle.fx_ast.specs.Places.{first_place}
use Rattle.fx_ast.specs.Tree.{Tree, tree, Shape, int, time, span, text, pattern, name, paren, array, rec, fun, call, pipe, member, index, chain, prefix, if_then, Trees, no_trees, more_trees, Parts, no_parts, piece, hole, Props, no_props, more_props, Params, Links, no_links, more_links}
use Rattle.fx_meaning.specs.declared.setting.Setting.{Setting}
use Rattle.fx_meaning.specs.Ends.{◌>>=◌, pure, found}
use Rattle.fx_meaning.specs.Forms.{cell_in, fields_in, truth_in}
use Rattle.fx_meaning.specs.Meaning.{Calls, Tests, applied_to, piped_to, means, means_shape, means_trees, means_props, means_pipes, means_pipe, means_parts, means_links, named}
use Rattle.fx_meaning.specs.Native.{built_of, path_of, value_if}
use Rattle.fx_meaning.specs.Operators.{behind, decides, member_of, operate, or_null, printed}
use Rattle.fx_meaning.specs.Value as value
use Rattle.fx_meaning.specs.Value.{Val, closure, in_package, Vals, no_vals, more_vals, Slots, no_slots, more_slots, look, keep, push, push_val}
use Rattle.fx_infer.specs.Arguments.{Elsewhere, IsCall, IsLineAt, IsPipe}
use Rattle.fx_infer.specs.Ask.{Ask, type_is, line_is, builtin_is, package_is, Answers}
use Rattle.fx_infer.specs.Environment.{Env, scope}
use Rattle.fx_infer.specs.Native.{in_package as has_in_package}
use Rattle.fx_infer.specs.Parameters.{prop_names}
use Rattle.fx_infer.specs.Typing.{at_form, callee, has, has_args, has_items, has_links, has_parts, has_pipe, has_pipes, has_shape}
use Rattle.fx_schemes.specs.Written.{form_at}
use Rattle.fx_infer.specs.Words.{IsInForce, and_words, words_of_call}
use Rattle.fx_build.specs.Bound.{find, Literal, literal, no_literal, literal_of, literal_in}
use Rattle.fx_build.specs.Fit.{fits, holds, each_fits, keeps_at, IsMet, IsUnbound, RecordFits}
use Rattle.fx_build.specs.Safe.{IsSafe}
use Rattle.fx_build.proofs.ArgLaws.{ArgIs, AreArgs, FieldAt, IsGiven, field_out, no_words, props_args, set_fields, words_behind}
use Rattle.fx_build.proofs.KindLaws.{fits_test, of_record}
use Rattle.fx_build.proofs.NameLaws.{AsLiteral, Obeys, as_literal, closure_obeys, named_obeys, native_obeys}
use Rattle.fx_build.proofs.OperatorLaws.{cell_in_safe, decided, indexed_safe, operate_safe, prefixed_safe, text_safe, truth_safe}
use Rattle.fx_build.proofs.SafeLaws.{safe_as, safe_then}
use Rattle.fx_plan.proofs.SlotLaws.{joined, joined_none, joined_push, look_keep, same_itself}
use Rattle.fx_build.proofs.SlotLaws.{AtSlot, keeps_in, keeps_out}
use Rattle.fx_build.proofs.WordLaws.{Says, first_rest, word_safe}

pushed_fits : (vs : Vals) (v : Val) (t : Ground) → each_fits vs t → fits v t → each_fits (push_val vs v) t
pushed_fits no_vals v t h fit = (fit, tt)
pushed_fits (more_vals w vs) v t h fit = (h.0, pushed_fits vs v t h.1 fit)

member_fits : (o : Option Val) (t : Ground) → FieldAt (g_is t) o → fits (or_null o) t
member_fits None t h = h
member_fits (Some v) t h = h

branch_safe : (yes : Bool) (t : Ground) (a b : End Val) → IsSafe (λ v. fits v t) a → IsSafe (λ v. fits v t) b → IsSafe (λ v. fits v t) (if yes then a else b)
branch_safe true t a b h k = h
branch_safe false t a b h k = k

decided_safe : (c : Bool) (v : Val) (P : Val → Type 0) (e : End Val) → (c ≡ true → P v) → IsSafe P e → IsSafe P (if c then pure v else e)
decided_safe true v P e h k = h refl
decided_safe false v P e h k = k

module _ (test : Tests) (calls : Calls) (setting : Setting) (moment : IsTrue (in_64_bits setting.moment)) (env : Env) (slots : Slots) where
  abbrev pub AllMet : (Need → Bool) → Type 0
  AllMet needs = (n : Need) → needs n ≡ true → IsMet (keeps_at slots) setting env n

  left : (f g : Need → Bool) → AllMet (λ n. f n || g n) → AllMet f
  left f g met n h = met n (or_left (f n) (g n) h)

  right : (f g : Need → Bool) → AllMet (λ n. f n || g n) → AllMet g
  right f g met n h = met n (or_right (f n) (g n) h)

  -- ---- literals

  abbrev pub Made : Literal → End Val → (Need → Bool) → Type 0
  Made (literal ps lets e) end needs =
      (end ≡ pure (closure ps lets e (keep (λ x. free_fun ps lets e (name_of x)) slots) setting)) × ((n : Need) → free_fun ps lets e n ≡ true → needs n ≡ true)
  Made no_literal end needs = Unit {0}

  mutual
    pub literal_made : (e : Tree) → Made (literal_of e) (means test calls setting e slots) (free e)
    literal_made (tree place s) = shape_made place s

    shape_made : (place : Place) (s : Shape) → Made (literal_in s) (means_shape test calls setting place s slots) (free_shape place s)
    shape_made place (fun ps lets e) = (refl, λ n h. h)
    shape_made place (paren e) = literal_made e
    shape_made place _ = tt

  pub closure_holds : (ps : Params) (lets : Props) (e : Tree) → AllMet (free_fun ps lets e)
      → holds (closure ps lets e (keep (λ x. free_fun ps lets e (name_of x)) slots) setting) env
  closure_holds ps lets e met = (moment, captured)
    where
      captured : (n : Need) → free_fun ps lets e n ≡ true → IsMet (keeps_at (keep (λ x. free_fun ps lets e (name_of x)) slots)) setting env n
      captured (name_of x) h =
          let b = find x env in
          keeps_in (keep (λ y. free_fun ps lets e (name_of y)) slots) x b (IsUnbound b)
          (subst (λ o. AtSlot o b (IsUnbound b)) (sym (look_keep (λ y. free_fun ps lets e (name_of y)) slots x h)) (keeps_out slots x b (IsUnbound b) (met (name_of x) h)))
      captured (pattern_at place) h = met (pattern_at place) h

  obeys_by : (l : Literal) (end : End Val) (needs : Need → Bool) (A : Answers) (q : Ask) → Made l end needs → AllMet needs
      → ((t : Ground) → A (type_is t) → IsSafe (λ v. fits v t) end) → AsLiteral l (scope env) A q → IsSafe (λ v. Obeys v q) end
  obeys_by (literal ps lets e) end needs A q made met fit h =
      subst (IsSafe (λ v. Obeys v q)) (sym made.0)
      (closure_obeys ps lets e (keep (λ x. free_fun ps lets e (name_of x)) slots) setting env q h (closure_holds ps lets e (λ n k. met n (made.1 n k))))
  obeys_by no_literal end needs A (type_is t) made met fit h = fit t h
  obeys_by no_literal end needs A (line_is L) made met fit h = safe_as (λ v. fits v h.0) (λ v. Obeys v (line_is L)) end (λ v k. inl (h.0, h.1, h.2, k)) (fit h.0 h.3)
  obeys_by no_literal end needs A (builtin_is x) made met fit h = absurd h
  obeys_by no_literal end needs A (package_is path) made met fit h = absurd h

  -- an expression whose value fits its types answers all its questions
  pub tree_obeys : (e : Tree) (q : Ask) → AllMet (free e) → ((t : Ground) → has e (scope env) (type_is t) → IsSafe (λ v. fits v t) (means test calls setting e slots))
      → has e (scope env) q → IsSafe (λ v. Obeys v q) (means test calls setting e slots)
  tree_obeys e q met fit h =
      obeys_by (literal_of e) (means test calls setting e slots) (free e) (has e (scope env)) q (literal_made e) met fit (as_literal e (scope env) q h)

  -- ---- names of packages, and callees

  package_obeys : (e : Tree) (x : Label) (q : Ask) → AllMet (free e) → has_in_package e x (scope env) q
      → IsSafe (λ v. Obeys v q) (means test calls setting e slots >>= (λ v. member_of v x))
  package_obeys (tree place (name y)) x q met h =
      safe_then (λ v. Obeys v (package_is h.0)) (λ v. Obeys v q) (found (named y slots)) _ (named_obeys slots env y (package_is h.0) (met (name_of y) (same_itself y)) h.1)
      (λ v k.
      (let n = native_obeys (builtin_of (path_of k.0) x) q (rw k.1 h.2) in
      subst (λ w. IsSafe (λ v. Obeys v q) (member_of w x)) (sym k.2) (subst (λ o. IsSafe (λ v. Obeys v q) (found (value_if (option_map built_of o)))) (sym n.1) n.2)))
  package_obeys _ x q met h = absurd h

  pub callee_obeys : (e : Tree) (q : Ask) → AllMet (free e) → ((t : Ground) → has e (scope env) (type_is t) → IsSafe (λ v. fits v t) (means test calls setting e slots))
      → callee e (scope env) q → IsSafe (λ v. Obeys v q) (means test calls setting e slots)
  callee_obeys (tree place (name x)) q met fit h = named_obeys slots env x q (met (name_of x) (same_itself x)) h
  callee_obeys (tree place (member e x)) q met fit (inl h) = package_obeys e x q met h
  callee_obeys (tree place (member e x)) q met fit (inr h) = tree_obeys (tree place (member e x)) q met fit h
  callee_obeys e q met fit h = tree_obeys e q met fit h

  line_safe : (e : Tree) (b : Option Builtin) (w : Given) (L : Line) → AllMet (free e)
      → ((t : Ground) → has e (scope env) (type_is t) → IsSafe (λ v. fits v t) (means test calls setting e slots))
      → IsLineAt (callee e (scope env)) b w L → IsSafe (λ v. IsLineAt (Obeys v) b w L) (means test calls setting e slots)
  line_safe e None w L met fit h = callee_obeys e (line_is L) met fit h
  line_safe e (Some x) w L met fit h =
      safe_as (λ v. Obeys v (builtin_is x)) (λ v. IsLineAt (Obeys v) (Some x) w L) (means test calls setting e slots) (λ v k. (k, h.1, h.2, h.3, h.4))
      (callee_obeys e (builtin_is x) met fit h.0)

  -- one argument
  arg_safe : (f : Option Form) (x : Label) (e : Tree) (r : GroundRow) (rest : Option Given) (w : Given) → and_words f x e rest ≡ Some w → AllMet (free e)
      → ((t : Ground) → has e (scope env) (type_is t) → IsSafe (λ v. fits v t) (means test calls setting e slots))
      → at_form f ((t : Ground) × (r x ≡ g_is t) × has e (scope env) (type_is t)) (λ k. (r x ≡ g_absent) × IsInForce k e (scope env))
      → IsSafe (ArgIs f x e r) (means test calls setting e slots)
  arg_safe None x e r rest w words met fit h = safe_as (λ v. fits v h.0) (ArgIs None x e r) (means test calls setting e slots) (λ v k. (h.0, h.1, k)) (fit h.0 h.2)
  arg_safe (Some f) x e r rest w words met fit h =
      let k = first_rest _ rest w words in
      safe_as (Says f x k.0) (ArgIs (Some f) x e r) (means test calls setting e slots) (λ v says. (h.0, (k.0, k.2, says)))
      (word_safe test calls setting slots f x e k.0 env k.2 h.1 (λ y free. met (name_of y) free))

  all_given : (ps : Props) (b : Option Builtin) (w : Given) (r : GroundRow) (end : End Slots) → differ (prop_names ps) ≡ true → words_of_call b ps ≡ Some w → Elsewhere ps r (λ l. g_absent)
      → IsSafe (λ out. (new : Slots) × (out ≡ new) × AreArgs b ps r new) end → IsSafe (IsGiven b ps w r) end
  all_given ps b w r end once words rest h =
      safe_as (λ out. (new : Slots) × (out ≡ new) × AreArgs b ps r new) (IsGiven b ps w r) end
      (λ out k. record { once = once; words = words; elsewhere = rest; each = subst (AreArgs b ps r) (sym k.1) k.2 }) h

  -- ---- expressions

  -- a value that may be called by the line takes what the line takes, and gives what it gives
  abbrev pub AppliesSafely : Type 0
  AppliesSafely =
      (place : Place) (b : Option Builtin) (ps : Props) (w : Given) (L : Line) (r : GroundRow) (t : Ground) (v : Val) (args : Slots)
      → IsLineAt (Obeys v) b w L → IsGiven b ps w r args → IsCall r L t → IsType t → IsSafe (λ x. fits x t) (applied_to calls place setting.moment args v)

  abbrev pub PipesSafely : Type 0
  PipesSafely =
      (place : Place) (b : Option Builtin) (ps : Props) (w : Given) (L : Line) (r : GroundRow) (u t : Ground) (v input : Val) (args : Slots)
      → IsLineAt (Obeys v) b w L → IsGiven b ps w r args → fits input u → IsPipe u r L t → IsType t
      → IsSafe (λ x. fits x t) (piped_to calls place setting.moment args input v)

  module _ (applied : AppliesSafely) (piped : PipesSafely) where
    mutual
      pub tree_fits : (e : Tree) (t : Ground) → AllMet (free e) → has e (scope env) (type_is t) → IsSafe (λ v. fits v t) (means test calls setting e slots)
      tree_fits (tree place s) t met h = shape_fits place s t met h

      shape_fits : (place : Place) (s : Shape) (t : Ground) → AllMet (free_shape place s) → has_shape s (scope env) (type_is t)
          → IsSafe (λ v. fits v t) (means_shape test calls setting place s slots)
      shape_fits place (int n) t met h = subst (fits (value.cell (scalar.Int n))) (sym h.1.0) (fits_test n h.1.1)
      shape_fits place (time n) t met h = subst (fits (value.cell (scalar.Time n))) (sym h.1.0) (fits_test n h.1.1)
      shape_fits place (span d) t met h =
          subst (fits (value.span d)) (sym h.1.0)
          (and_from (in_64_bits d.months) (in_64_bits d.nanos) (fits_test d.months h.1.1) (fits_test d.nanos h.1.2))
      shape_fits place (text ps) t met h =
          subst (λ u. IsSafe (λ v. fits v u) (means_shape test calls setting place (text ps) slots)) (sym h.1.0)
          (safe_then (λ made. Unit {0}) (λ v. fits v g_text) (means_parts test calls setting ps slots (Some [])) _ (parts_safe ps (Some []) met h.1.1) (λ made k. text_safe place made))
      shape_fits place (pattern s) t met h =
          let k = met (pattern_at place) (nat_eq_equiv.refl place.at) in
          rw k.1 (subst (fits (value.pattern k.0)) (sym h.1) k.2)
      shape_fits place (name x) t met h = named_obeys slots env x (type_is t) (met (name_of x) (same_itself x)) h.1
      shape_fits place (paren e) t met h = tree_fits e t met h
      shape_fits place (array es) t met h =
          safe_then (λ vs. each_fits vs h.1.0) (λ v. fits v t) (means_trees test calls setting es slots no_vals) _ (items_fit es h.1.0 no_vals met tt h.1.2)
          (λ vs k. subst (fits (value.array vs)) (sym h.1.1) k)
      shape_fits place (rec None ps) t met h =
          let w = no_words ps in
          safe_then (λ out. (new : Slots) × (out ≡ joined no_slots new) × AreArgs None ps h.1.0 new) (λ v. fits v t) (means_props test calls setting ps slots no_slots) _
          (args_safe ps None h.1.0 w.0 no_slots w.1 met (props_args ps (scope env) h.1.0 h.1.3))
          (λ out k. subst (fits (value.rec out)) (sym h.1.1) (subst (λ s. RecordFits s (keeps_at s) (g_rec h.1.0)) (sym k.1) (set_fields ps h.1.0 (λ l. g_absent) no_slots k.0 k.2 h.1.4 (λ l. refl))))
      shape_fits place (rec (Some x) ps) t met h =
          let w = no_words ps in
          safe_then (λ out. RecordFits out (keeps_at out) (g_rec h.1.0)) (λ v. fits v t) _ _
          (safe_then (λ older. (l : Label) → FieldAt (h.1.1 l) (look l older)) (λ out. RecordFits out (keeps_at out) (g_rec h.1.0)) (found (named x slots) >>= fields_in) _
          (safe_then (λ v. fits v (g_rec h.1.1)) (λ older. (l : Label) → FieldAt (h.1.1 l) (look l older)) (found (named x slots)) _
          (named_obeys slots env x (type_is (g_rec h.1.1)) (met (name_of x) (or_left _ (free_props ps (name_of x)) (same_itself x))) h.1.4)
          (λ v k. of_record h.1.1 v (λ y. IsSafe (λ older. (l : Label) → FieldAt (h.1.1 l) (look l older)) (fields_in y)) k (λ fields fit l. field_out fields l (h.1.1 l) (fit l))))
          (λ older before. safe_as (λ out. (new : Slots) × (out ≡ joined older new) × AreArgs None ps h.1.0 new) (λ out. RecordFits out (keeps_at out) (g_rec h.1.0))
          (means_props test calls setting ps slots older)
          (λ out k. subst (λ s. RecordFits s (keeps_at s) (g_rec h.1.0)) (sym k.1) (set_fields ps h.1.0 h.1.1 older k.0 k.2 h.1.6 before))
          (args_safe ps None h.1.0 w.0 older w.1 (λ n free. met n (or_right _ (free_props ps n) free)) (props_args ps (scope env) h.1.0 h.1.5))))
          (λ out k. subst (fits (value.rec out)) (sym h.1.2) k)
      shape_fits place (fun ps lets e) t met h =
          closure_obeys ps lets e (keep (λ x. free_fun ps lets e (name_of x)) slots) setting env (type_is t) h (closure_holds ps lets e met)
      shape_fits place (call e ps) t met h =
          safe_then (λ v. IsLineAt (Obeys v) h.1.0 h.1.1 h.1.2) (λ v. fits v t) (means test calls setting e slots) _
          (line_safe e h.1.0 h.1.1 h.1.2 (left (free e) (free_props ps) met) (λ u k. tree_fits e u (left (free e) (free_props ps) met) k) h.1.6)
          (λ v line. safe_then (λ args. IsGiven h.1.0 ps h.1.1 h.1.3 args) (λ v. fits v t) (means_props test calls setting ps slots no_slots) _
          (all_given ps h.1.0 h.1.1 h.1.3 (means_props test calls setting ps slots no_slots) h.1.4 h.1.5 h.1.8 (args_safe ps h.1.0 h.1.3 h.1.1 no_slots h.1.5 (right (free e) (free_props ps) met) h.1.7))
          (λ args given. applied (first_place e) h.1.0 ps h.1.1 h.1.2 h.1.3 t v args line given h.1.9 h.0))
      shape_fits place (pipe e es) t met h =
          safe_then (λ v. fits v h.1.0) (λ v. fits v t) (means test calls setting e slots) _ (tree_fits e h.1.0 (left (free e) (free_trees es) met) h.1.1)
          (λ v fit. pipes_fit es h.1.0 t v (right (free e) (free_trees es) met) fit h.1.2)
      shape_fits place (member e x) t met (is, inl h) =
          safe_then (λ v. fits v (g_rec h.0)) (λ v. fits v t) (means test calls setting e slots) _ (tree_fits e (g_rec h.0) met h.1)
          (λ v k. of_record h.0 v (λ y. IsSafe (λ z. fits z t) (member_of y x)) k
          (λ fields fit. member_fits (look x fields) t (subst (λ f. FieldAt f (look x fields)) h.2 (field_out fields x (h.0 x) (fit x)))))
      shape_fits place (member e x) t met (is, inr h) = package_obeys e x (type_is t) met h
      shape_fits place (index e at) t met h =
          safe_then (λ v. fits v (g_array t)) (λ v. fits v t) (means test calls setting e slots) _ (tree_fits e (g_array t) (left (free e) (free at) met) h.1.0)
          (λ v fit_v. safe_then (λ w. fits w g_int) (λ v. fits v t) (means test calls setting at slots) _ (tree_fits at g_int (right (free e) (free at) met) h.1.1)
          (λ w fit_w. indexed_safe place t v w fit_v fit_w))
      shape_fits place (chain e ls) t met h =
          safe_then (λ v. fits v h.1.0) (λ v. fits v t) (means test calls setting e slots) _ (tree_fits e h.1.0 (left (free e) (free_links ls) met) h.1.1)
          (λ v fit. links_fit ls h.1.0 t v (right (free e) (free_links ls) met) fit h.1.2)
      shape_fits place (prefix sign e) t met h =
          safe_then (λ v. fits v h.1.0) (λ v. fits v t) (means test calls setting e slots) _ (tree_fits e h.1.0 met h.1.1)
          (λ v fit. prefixed_safe place sign v h.1.0 t h.1.2 fit)
      shape_fits place (if_then a b c) t met h =
          safe_then (λ yes. Unit {0}) (λ v. fits v t) (means test calls setting a slots >>= truth_in) _
          (safe_then (λ v. fits v g_bool) (λ yes. Unit {0}) (means test calls setting a slots) _ (tree_fits a g_bool (left (free a) (λ n. free b n || free c n) met) h.1.0) (λ v fit. truth_safe v fit))
          (λ yes k. branch_safe yes t (means test calls setting b slots) (means test calls setting c slots)
          (tree_fits b t (left (free b) (free c) (right (free a) (λ n. free b n || free c n) met)) h.1.1)
          (tree_fits c t (right (free b) (free c) (right (free a) (λ n. free b n || free c n) met)) h.1.2))

      items_fit : (es : Trees) (t : Ground) (vs : Vals) → AllMet (free_trees es) → each_fits vs t → has_items es (scope env) t
          → IsSafe (λ out. each_fits out t) (means_trees test calls setting es slots vs)
      items_fit no_trees t vs met before h = before
      items_fit (more_trees e es) t vs met before h =
          safe_then (λ v. fits v t) (λ out. each_fits out t) (means test calls setting e slots) _ (tree_fits e t (left (free e) (free_trees es) met) h.0)
          (λ v fit. items_fit es t (push_val vs v) (right (free e) (free_trees es) met) (pushed_fits vs v t before fit) h.1)

      -- fields and arguments, behind those that stand already
      args_safe : (ps : Props) (b : Option Builtin) (r : GroundRow) (w : Given) (older : Slots) → words_of_call b ps ≡ Some w → AllMet (free_props ps)
          → has_args ps (scope env) b r → IsSafe (λ out. (new : Slots) × (out ≡ joined older new) × AreArgs b ps r new) (means_props test calls setting ps slots older)
      args_safe no_props b r w older words met h = (no_slots, sym (joined_none older), tt)
      args_safe (more_props x e ps) b r w older words met h =
          let rest = words_behind (form_at b x) x e (words_of_call b ps) w words in
          safe_then (ArgIs (form_at b x) x e r) (λ out. (new : Slots) × (out ≡ joined older new) × AreArgs b (more_props x e ps) r new) (means test calls setting e slots) _
          (arg_safe (form_at b x) x e r (words_of_call b ps) w words (left (free e) (free_props ps) met) (λ t k. tree_fits e t (left (free e) (free_props ps) met) k) h.0)
          (λ v is. safe_as (λ out. (new : Slots) × (out ≡ joined (push older x v) new) × AreArgs b ps r new)
          (λ out. (new : Slots) × (out ≡ joined older new) × AreArgs b (more_props x e ps) r new) (means_props test calls setting ps slots (push older x v))
          (λ out k. (more_slots x v k.0, k.1 ∙ joined_push older x v k.0, (refl, is, k.2)))
          (args_safe ps b r rest.0 (push older x v) rest.1 (right (free e) (free_props ps) met) h.1))

      pipes_fit : (es : Trees) (u t : Ground) (v : Val) → AllMet (free_trees es) → fits v u → has_pipes es (scope env) u t
          → IsSafe (λ x. fits x t) (means_pipes test calls setting es slots v)
      pipes_fit no_trees u t v met fit h = subst (fits v) h fit
      pipes_fit (more_trees e es) u t v met fit h =
          safe_then (λ x. fits x h.0) (λ x. fits x t) (means_pipe test calls setting e slots v) _ (pipe_fits e u h.0 v (left (free e) (free_trees es) met) fit h.1)
          (λ x k. pipes_fit es h.0 t x (right (free e) (free_trees es) met) k h.2)

      pipe_fits : (e : Tree) (u t : Ground) (v : Val) → AllMet (free e) → fits v u → has_pipe e (scope env) u t → IsSafe (λ x. fits x t) (means_pipe test calls setting e slots v)
      pipe_fits (tree place (call e ps)) u t v met fit h =
          safe_then (λ f. IsLineAt (Obeys f) h.1.0 h.1.1 h.1.2) (λ x. fits x t) (means test calls setting e slots) _
          (line_safe e h.1.0 h.1.1 h.1.2 (left (free e) (free_props ps) met) (λ y k. tree_fits e y (left (free e) (free_props ps) met) k) h.1.6)
          (λ f line. safe_then (λ args. IsGiven h.1.0 ps h.1.1 h.1.3 args) (λ x. fits x t) (means_props test calls setting ps slots no_slots) _
          (all_given ps h.1.0 h.1.1 h.1.3 (means_props test calls setting ps slots no_slots) h.1.4 h.1.5 h.1.8 (args_safe ps h.1.0 h.1.3 h.1.1 no_slots h.1.5 (right (free e) (free_props ps) met) h.1.7))
          (λ args given. piped (first_place e) h.1.0 ps h.1.1 h.1.2 h.1.3 u t f v args line given fit h.1.9 h.0))
      pipe_fits (tree place _) u t v met fit h = absurd h

      parts_safe : (ps : Parts) (before : Option (List ℕ)) → AllMet (free_parts ps) → has_parts ps (scope env) → IsSafe (λ made. Unit {0}) (means_parts test calls setting ps slots before)
      parts_safe no_parts before met h = tt
      parts_safe (piece s ps) before met h = parts_safe ps (behind before (Some s)) met h
      parts_safe (hole e ps) before met h =
          safe_then (λ a. Unit {0}) (λ made. Unit {0}) (means test calls setting e slots >>= cell_in) _
          (safe_then (λ v. fits v h.0.0) (λ a. Unit {0}) (means test calls setting e slots) _ (tree_fits e h.0.0 (left (free e) (free_parts ps) met) h.0.2) (λ v fit. cell_in_safe v h.0.0 h.0.1 fit))
          (λ a k. parts_safe ps (behind before (printed a)) (right (free e) (free_parts ps) met) h.1)

      links_fit : (ls : Links) (u t : Ground) (v : Val) → AllMet (free_links ls) → fits v u → has_links ls (scope env) u t
          → IsSafe (λ x. fits x t) (means_links test calls setting ls slots v)
      links_fit no_links u t v met fit h = subst (fits v) h fit
      links_fit (more_links place op e ls) u t v met fit h =
          safe_then (λ x. fits x h.1) (λ x. fits x t) (if decides op v then pure v else (means test calls setting e slots >>= operate test place op v)) _
          (decided_safe (decides op v) v (λ x. fits x h.1) (means test calls setting e slots >>= operate test place op v) (λ d. decided op u h.0 h.1 v h.3 d fit)
          (safe_then (λ w. fits w h.0) (λ x. fits x h.1) (means test calls setting e slots) _ (tree_fits e h.0 (left (free e) (free_links ls) met) h.2)
          (λ w k. operate_safe test place u h.0 h.1 v w fit k op h.3)))
          (λ x k. links_fit ls h.1 t x (right (free e) (free_links ls) met) k h.4)

-- The value of a label argument says what the argument is written with.
use Rattle.std.proofs.Common.{◌≡◌, refl, sym, ap, ◌∙◌, append_assoc, append-nil, Bool, true, false, ◌++◌, List, [], ◌∷◌, Some, None}
use Rattle.std.specs.Prelude.{if◌then◌else◌, Option, Ok, Err, codes}
use Rattle.fx_base.specs.declared.fault.FaultKind.TheVariants.{TooLarge}
use Rattle.fx_base.specs.declared.place.Place.{Place}
use Rattle.fx_value.specs.declared.scalar.Scalar.TheVariants as scalar
use Rattle.fx_ops.specs.Limit.{is_short, limited}
use Rattle.fx_types.specs.Term.{Label}
use Rattle.fx_schemes.specs.declared.form.Form.{Form}
use Rattle.fx_schemes.specs.declared.form.Form.TheVariants as form
use Rattle.fx_schemes.specs.declared.given.LabelWords.{LabelWords}
use Rattle.fx_schemes.specs.declared.list.Builtin.{Builtin}
use Rattle.fx_schemes.specs.Names.{builtin_of}
use Rattle.fx_ast.specs.Free.{name_of, free}
use Rattle.fx_ast.specs.Tree.{Tree, tree, text, name, array, rec, Trees, no_trees, more_trees, no_parts, piece, Props, no_props, more_props}
use Rattle.fx_meaning.specs.declared.setting.Setting.{Setting}
use Rattle.fx_meaning.specs.Ends.{◌>>=◌, answered, cell_at, ranged, found}
use Rattle.fx_meaning.specs.Meaning.{Calls, Tests, means, means_trees, means_props, named}
use Rattle.fx_meaning.specs.Native.{built_of, value_of}
use Rattle.fx_meaning.specs.Value.{Val, cell, Vals, no_vals, more_vals, Slots, no_slots, more_slots, push, push_val}
use Rattle.fx_infer.specs.Ask.{builtin_is, Answers}
use Rattle.fx_infer.specs.Environment.{Env, scope}
use Rattle.fx_infer.specs.Native.{native}
use Rattle.fx_infer.specs.Parameters.{prop_names}
use Rattle.fx_infer.specs.Typing.{has}
use Rattle.fx_schemes.specs.Written.{with_first, words_at_label, one_word, many_words, new_words}
use Rattle.fx_infer.specs.Words.{plain_text, value_texts, said, IsInForce}
use Rattle.fx_infer.specs.Words as written
use Rattle.fx_build.specs.Bound.{Bound, unbound, typed, defined, packaged, find, Literal, literal, no_literal, literal_of}
use Rattle.fx_build.specs.Fit.{IsUnbound, keeps_at}
use Rattle.fx_build.specs.Safe.{IsSafe}
use Rattle.fx_plan.specs.Said.{text_in, item_texts, field_texts, labels_of, value_says}
use Rattle.fx_build.proofs.KindLaws.{cell_answered, checked}
use Rattle.fx_build.proofs.NameLaws.{AsLiteral, Obeys, answers, as_literal, named_obeys, scope_answers, unbound_itself}
use Rattle.fx_build.proofs.SafeLaws.{safe_later, safe_then, safe_as}
use Rattle.fx_plan.proofs.SlotLaws.{same_itself}

-- ---- lists of words

pub first_rest : {A : Type 0} (o : Option A) (p : Option (List A)) (xs : List A) → with_first o p ≡ Some xs
    → (x : A) × (ys : List A) × (o ≡ Some x) × (p ≡ Some ys) × (x ∷ ys ≡ xs)
first_rest None p xs e = absurd cc
first_rest (Some x) None xs e = absurd cc
first_rest (Some x) (Some ys) xs e = (x, ys, refl, refl, cc)

pushed_item : (vs : Vals) (v : Val) (xs : List Label) (x : Label) → item_texts vs ≡ Some xs → text_in v ≡ Some x → item_texts (push_val vs v) ≡ Some (xs ++ x ∷ [])
pushed_item no_vals v xs x e f = ap (λ o. with_first o (Some [])) f ∙ ap (λ ys. Some (ys ++ x ∷ [])) (let none : [] ≡ xs = cc in none)
pushed_item (more_vals w vs) v xs x e f =
    let k = first_rest (text_in w) (item_texts vs) xs e in
    ap (with_first (text_in w)) (pushed_item vs v k.1 x k.3 f) ∙ ap (λ o. with_first o (Some (k.1 ++ x ∷ []))) k.2 ∙ ap (λ ys. Some (ys ++ x ∷ [])) k.4

pushed_field : (fields : Slots) (l : Label) (v : Val) (xs : List Label) (x : Label) → field_texts fields ≡ Some xs → text_in v ≡ Some x
    → field_texts (push fields l v) ≡ Some (xs ++ x ∷ [])
pushed_field no_slots l v xs x e f = ap (λ o. with_first o (Some [])) f ∙ ap (λ ys. Some (ys ++ x ∷ [])) (let none : [] ≡ xs = cc in none)
pushed_field (more_slots y w fields) l v xs x e f =
    let k = first_rest (text_in w) (field_texts fields) xs e in
    ap (with_first (text_in w)) (pushed_field fields l v k.1 x k.3 f) ∙ ap (λ o. with_first o (Some (k.1 ++ x ∷ []))) k.2 ∙ ap (λ ys. Some (ys ++ x ∷ [])) k.4

pushed_label : (fields : Slots) (l : Label) (v : Val) → labels_of (push fields l v) ≡ labels_of fields ++ l ∷ []
pushed_label no_slots l v = refl
pushed_label (more_slots y w fields) l v = ap (λ ys. y ∷ ys) (pushed_label fields l v)

one_some : (x : Label) (o : Option Label) (g : LabelWords) → one_word x o ≡ Some g → (s : Label) × (o ≡ Some s)
one_some x None g e = absurd cc
one_some x (Some s) g e = (s, refl)

many_some : (x : Label) (o : Option (List Label)) (g : LabelWords) → many_words x o ≡ Some g → (ws : List Label) × (o ≡ Some ws)
many_some x None g e = absurd cc
many_some x (Some ws) g e = (ws, refl)

new_some : (x : Label) (olds : List Label) (o : Option (List Label)) (g : LabelWords) → new_words x olds o ≡ Some g → (ws : List Label) × (o ≡ Some ws)
new_some x olds None g e = absurd cc
new_some x olds (Some ws) g e = (ws, refl)

-- ---- the name of a built-in, which isn't shadowed

no_builtin : (l : Literal) (env : Env) (A : Answers) (x : Builtin) → AsLiteral l (scope env) A (builtin_is x) → ⊥
no_builtin (literal ps lets e) env A x h = h
no_builtin no_literal env A x h = h

is_in_force : (d : Bound) (y : Label) (x : Builtin) → (IsUnbound d → d ≡ unbound y) → answers d (builtin_is x) → builtin_of (codes "") y ≡ Some x
is_in_force (unbound z) y x itself h =
    let same : z ≡ y = cc (itself tt) in native_is (builtin_of (codes "") y) (subst_native same h)
  where
    native_is : (o : Option Builtin) → native o (builtin_is x) → o ≡ Some x
    native_is None h = absurd h
    native_is (Some w) h = ap Some h

    subst_native : z ≡ y → native (builtin_of (codes "") z) (builtin_is x) → native (builtin_of (codes "") y) (builtin_is x)
    subst_native e h = rw (sym e) h
is_in_force (typed t) y x itself h = absurd h
is_in_force (packaged path) y x itself h = absurd h
is_in_force (defined env e) y x itself h = absurd (no_builtin (literal_of e) env (has e (scope env)) x (as_literal e (scope env) (builtin_is x) h))

-- ---- evaluation

-- the value says the words; that of a name is the built-in of the name
abbrev pub Says : Form → Label → LabelWords → Val → Type 0
Says form.Text x g v = value_says form.Text x v ≡ Some g
Says form.Listed x g v = value_says form.Listed x v ≡ Some g
Says form.Texts x g v = value_says form.Texts x v ≡ Some g
Says form.Renames x g v = value_says form.Renames x v ≡ Some g
Says form.Name x g v = (y : Label) × (b : Builtin) × (words_at_label x (y ∷ []) [] ≡ g) × (builtin_of (codes "") y ≡ Some b) × (v ≡ value_of (built_of b))

limited_safe : (place : Place) (P : Val → Type 0) (s : Label) (c : Bool) → P (cell (scalar.Text s))
    → IsSafe P (answered place (if c then Ok (scalar.Text s) else Err TooLarge) >>= (λ a. cell_answered place (ranged a)))
limited_safe place P s true h = safe_later P 0 (cell_answered place (ranged (scalar.Text s))) (checked place P (is_short s) (scalar.Text s) TooLarge (λ e. h))
limited_safe place P s false h = tt

module _ (test : Tests) (calls : Calls) (setting : Setting) (slots : Slots) where
  text_word : (e : Tree) (s : Label) → plain_text e ≡ Some s → IsSafe (λ v. text_in v ≡ Some s) (means test calls setting e slots)
  text_word (tree place (text (piece k no_parts))) s e =
      safe_later (λ v. text_in v ≡ Some s) 0 (cell_at place (limited k)) (limited_safe place (λ v. text_in v ≡ Some s) k (is_short k) e)
  text_word _ s e = absurd cc

  items_words : (es : Trees) (vs : Vals) (ws before : List Label) → written.item_texts es ≡ Some ws → item_texts vs ≡ Some before
      → IsSafe (λ out. item_texts out ≡ Some (before ++ ws)) (means_trees test calls setting es slots vs)
  items_words no_trees vs ws before e f = f ∙ ap Some (sym (append-nil before) ∙ ap (λ ys. before ++ ys) (let none : [] ≡ ws = cc in none))
  items_words (more_trees e es) vs ws before h f =
      let k = first_rest (plain_text e) (written.item_texts es) ws h in
      safe_then (λ v. text_in v ≡ Some k.0) (λ out. item_texts out ≡ Some (before ++ ws)) (means test calls setting e slots) _ (text_word e k.0 k.2)
      (λ v is. safe_as (λ out. item_texts out ≡ Some ((before ++ k.0 ∷ []) ++ k.1)) (λ out. item_texts out ≡ Some (before ++ ws)) (means_trees test calls setting es slots (push_val vs v))
      (λ out m. m ∙ ap Some (append_assoc before (k.0 ∷ []) k.1 ∙ ap (λ ys. before ++ ys) k.4))
      (items_words es (push_val vs v) k.1 (before ++ k.0 ∷ []) k.3 (pushed_item vs v before k.0 f is)))

  fields_words : (ps : Props) (fields : Slots) (ws before : List Label) → value_texts ps ≡ Some ws → field_texts fields ≡ Some before
      → IsSafe (λ out. (field_texts out ≡ Some (before ++ ws)) × (labels_of out ≡ labels_of fields ++ prop_names ps)) (means_props test calls setting ps slots fields)
  fields_words no_props fields ws before e f = (
    f ∙ ap Some (sym (append-nil before) ∙ ap (λ ys. before ++ ys) (let none : [] ≡ ws = cc in none)),
    sym (append-nil (labels_of fields)),
  )
  fields_words (more_props x e ps) fields ws before h f =
      let k = first_rest (plain_text e) (value_texts ps) ws h in
      safe_then (λ v. text_in v ≡ Some k.0) (λ out. (field_texts out ≡ Some (before ++ ws)) × (labels_of out ≡ labels_of fields ++ (x ∷ prop_names ps)))
      (means test calls setting e slots) _ (text_word e k.0 k.2)
      (λ v is. safe_as
      (λ out. (field_texts out ≡ Some ((before ++ k.0 ∷ []) ++ k.1)) × (labels_of out ≡ labels_of (push fields x v) ++ prop_names ps))
      (λ out. (field_texts out ≡ Some (before ++ ws)) × (labels_of out ≡ labels_of fields ++ (x ∷ prop_names ps)))
      (means_props test calls setting ps slots (push fields x v))
      (λ out m. (
        m.0 ∙ ap Some (append_assoc before (k.0 ∷ []) k.1 ∙ ap (λ ys. before ++ ys) k.4),
        m.1 ∙ ap (λ ys. ys ++ prop_names ps) (pushed_label fields x v) ∙ append_assoc (labels_of fields) (x ∷ []) (prop_names ps),
      ))
      (fields_words ps (push fields x v) k.1 (before ++ k.0 ∷ []) k.3 (pushed_field fields x v before k.0 f is)))

  one_word_safe : (x : Label) (e : Tree) (g : LabelWords) → one_word x (plain_text e) ≡ Some g → IsSafe (λ v. one_word x (text_in v) ≡ Some g) (means test calls setting e slots)
  one_word_safe x e g h =
      let k = one_some x (plain_text e) g h in
      safe_as (λ v. text_in v ≡ Some k.0) (λ v. one_word x (text_in v) ≡ Some g) (means test calls setting e slots)
      (λ v is. ap (one_word x) (is ∙ sym k.1) ∙ h) (text_word e k.0 k.1)

  -- a label argument is evaluated, and its value says what it is written with
  pub word_safe : (f : Form) (x : Label) (e : Tree) (g : LabelWords) (env : Env) → said f x e ≡ Some g → IsInForce f e (scope env)
      → ((y : Label) → free e (name_of y) ≡ true → keeps_at slots y (find y env) (IsUnbound (find y env))) → IsSafe (Says f x g) (means test calls setting e slots)
  word_safe form.Text x e g env h force met = one_word_safe x e g h
  word_safe form.Listed x e g env h force met = one_word_safe x e g h
  word_safe form.Texts x (tree place (array es)) g env h force met =
      let k = many_some x (written.item_texts es) g h in
      safe_then (λ vs. item_texts vs ≡ Some k.0) (Says form.Texts x g) (means_trees test calls setting es slots no_vals) _
      (items_words es no_vals k.0 [] k.1 refl) (λ vs is. ap (many_words x) (is ∙ sym k.1) ∙ h)
  word_safe form.Texts x _ g env h force met = absurd cc
  word_safe form.Renames x (tree place (rec None ps)) g env h force met =
      let k = new_some x (prop_names ps) (value_texts ps) g h in
      safe_then (λ out. (field_texts out ≡ Some k.0) × (labels_of out ≡ prop_names ps)) (Says form.Renames x g) (means_props test calls setting ps slots no_slots) _
      (fields_words ps no_slots k.0 [] k.1 refl) (λ out is. ap (λ ys. new_words x ys (field_texts out)) is.1 ∙ ap (new_words x (prop_names ps)) (is.0 ∙ sym k.1) ∙ h)
  word_safe form.Renames x _ g env h force met = absurd cc
  word_safe form.Name x (tree place (name y)) g env h force met =
      safe_as (λ v. Obeys v (builtin_is force.0)) (Says form.Name x g) (found (named y slots))
      (λ v is. (y, force.0, cc, is_in_force (find y env) y force.0 (unbound_itself env y) (scope_answers env y (builtin_is force.0) force.1), is))
      (named_obeys slots env y (builtin_is force.0) (met y (same_itself y)) force.1)
  word_safe form.Name x _ g env h force met = absurd cc

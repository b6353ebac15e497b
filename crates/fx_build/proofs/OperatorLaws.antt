-- Operators and signs on operands of the types that they take.
use Rattle.std.proofs.Common.{◌≡◌, refl, sym, subst, ◌∙◌, inl, inr, Bool, true, false, ◌&&◌, ◌||◌, not, List, [], ◌∷◌, ◌++◌, ℕ, ℤ, ◌+ℤ◌, ◌-ℤ◌, ◌*ℤ◌, pos, negsuc, zero, suc, neg_ℤ, int_div, int_rem, Some, None, Ok, Err, ◌⊎◌, IsTrue, is_some}
use Rattle.std.specs.Prelude.{if◌then◌else◌, slice_get, Option}
use Rattle.std.specs.Ordering.{int_eq}
use Rattle.std.proofs.lemmas.Bool.{and_from, and_parts}
use mathlib.Core.Bool.{false≢true}
use Rattle.fx_ast.specs.declared.expr.Infix.{Infix}
use Rattle.fx_ast.specs.declared.expr.Infix.TheVariants as between
use Rattle.fx_ast.specs.declared.expr.Prefix.{Prefix}
use Rattle.fx_ast.specs.declared.expr.Prefix.TheVariants as sign
use Rattle.fx_base.specs.declared.fault.FaultKind.TheVariants.{Overflow, TooLarge, DivideByZero}
use Rattle.fx_base.specs.declared.place.Place.{Place}
use Rattle.fx_time.specs.declared.span.Span.{Span}
use Rattle.fx_value.specs.Ends.{End}
use Rattle.fx_value.specs.Scalar.{kind_of}
use Rattle.fx_value.specs.declared.scalar.Kind.{Kind}
use Rattle.fx_value.specs.declared.scalar.Kind.TheVariants as kind
use Rattle.fx_value.specs.declared.scalar.Scalar.{Scalar}
use Rattle.fx_value.specs.declared.scalar.Scalar.TheVariants as scalar
use Rattle.fx_ops.specs.Binary.{answer_kind, at_kinds, binary_of, is_like, is_taken, takes_kind, work_of, worked_at}
use Rattle.fx_ops.specs.Kinds.{is_kind, is_whole}
use Rattle.fx_ops.specs.Limit.{is_short, limited}
use Rattle.fx_ops.specs.Operand.{number, bytes}
use Rattle.fx_ops.specs.Whole.{in_64_bits, whole, quotient, remainder, negation}
use Rattle.fx_ops.specs.declared.operator.BinaryOp.{BinaryOp}
use Rattle.fx_ops.specs.declared.operator.BinaryOp.TheVariants as op
use Rattle.fx_types.specs.Ground.{Ground, g_array, g_bool, g_int, g_text, g_span, g_pattern}
use Rattle.fx_types.specs.Kinds.{of_kind, IsAmong}
use Rattle.fx_schemes.specs.Line.{IsKind}
use Rattle.fx_infer.specs.Operators.{Infixed, Prefixed}
use Rattle.fx_meaning.specs.Ends.{◌>>=◌, pure, answered}
use Rattle.fx_meaning.specs.Forms.{cell_in, flag_in, items_in, truth_in, val_list}
use Rattle.fx_meaning.specs.Operators.{indexed, item, item_or_fault, text_made, binary, of_cells, decides, exists, logic, joined, is_flag, is_known, matched, operate, opposite, prefixed}
use Rattle.fx_meaning.specs.Value.{Val, cell, span, pattern, array, Vals, no_vals, more_vals}
use Rattle.fx_build.specs.Fit.{each_fits, fits, is_cell, SpanFits}
use Rattle.fx_build.specs.Safe.{IsSafe}
use Rattle.fx_build.proofs.KindLaws.{Makes, cell_at_safe, of_cell, of_flag, of_array, of_int, of_text, of_span, of_pattern}
use Rattle.fx_build.proofs.SafeLaws.{safe_later, safe_then}

-- ---- the kinds of what operators make

pub limited_makes : (text : List ℕ) → Makes kind.Text (limited text)
limited_makes text = elim (is_short text) as (λ c. Makes kind.Text (if c then Ok (scalar.Text text) else Err TooLarge)) [ true ↦ refl | false ↦ tt ]

whole_makes : (n : ℤ) → Makes kind.Int (whole n)
whole_makes n = elim (in_64_bits n) as (λ c. Makes kind.Int (if c then Ok (scalar.Int n) else Err Overflow)) [ true ↦ refl | false ↦ tt ]

quotient_makes : (a b : ℤ) → Makes kind.Int (quotient a b)
quotient_makes a b = elim (int_eq b (pos 0)) as (λ c. Makes kind.Int (if c then Err DivideByZero else whole (int_div a b))) [ true ↦ tt | false ↦ whole_makes (int_div a b) ]

remainder_makes : (a b : ℤ) → Makes kind.Int (remainder a b)
remainder_makes a b = elim (int_eq b (pos 0)) as (λ c. Makes kind.Int (if c then Err DivideByZero else Ok (scalar.Int (int_rem a b)))) [ true ↦ tt | false ↦ refl ]

worked_makes : (which : BinaryOp) (k : Kind) (a b : Scalar) → Makes (answer_kind which k) (worked_at (work_of which k) a b)
worked_makes op.Add kind.Int a b = whole_makes (number a +ℤ number b)
worked_makes op.Add kind.Text a b = limited_makes (bytes a ++ bytes b)
worked_makes op.Sub kind.Int a b = whole_makes (number a -ℤ number b)
worked_makes op.Mul kind.Int a b = whole_makes (number a *ℤ number b)
worked_makes op.Div kind.Int a b = quotient_makes (number a) (number b)
worked_makes op.Rem kind.Int a b = remainder_makes (number a) (number b)
worked_makes op.Eq kind.Bool a b = refl
worked_makes op.Eq kind.Time a b = refl
worked_makes _ kind.Bool a b = refl
worked_makes _ kind.Int a b = refl
worked_makes _ kind.Text a b = refl
worked_makes _ kind.Time a b = refl

-- null, or of just the kind
pub kind_is : (a : Scalar) (k : Kind) → IsTrue (is_kind a k) → (kind_of a ≡ None) ⊎ (kind_of a ≡ Some k)
kind_is scalar.Null k h = inl refl
kind_is (scalar.Bool b) kind.Bool h = inr refl
kind_is (scalar.Int n) kind.Int h = inr refl
kind_is (scalar.Text s) kind.Text h = inr refl
kind_is (scalar.Time t) kind.Time h = inr refl
kind_is _ kind.Bool h = absurd (false≢true h)
kind_is _ kind.Int h = absurd (false≢true h)
kind_is _ kind.Text h = absurd (false≢true h)
kind_is _ kind.Time h = absurd (false≢true h)

at_kinds_makes : (which : BinaryOp) (k : Kind) (l m : Option Kind) (a b : Scalar) → (l ≡ None) ⊎ (l ≡ Some k)
    → Makes (answer_kind which k) (at_kinds which l m a b)
at_kinds_makes which k None m a b h = refl
at_kinds_makes which k (Some l) None a b h = refl
at_kinds_makes which k (Some l) (Some m) a b (inl e) = absurd cc
at_kinds_makes which k (Some l) (Some m) a b (inr e) =
    let same : l ≡ k = cc in subst (λ x. Makes (answer_kind which k) (worked_at (work_of which x) a b)) (sym same) (worked_makes which k a b)

-- the operator takes operands of a kind that it works on

abbrev Works : BinaryOp → Kind → Type 0
Works which k = IsTrue (is_some (work_of which k))

takes_it : (which : BinaryOp) (k : Kind) (l : Option Kind) → Works which k → (l ≡ None) ⊎ (l ≡ Some k) → takes_kind which l ≡ true
takes_it which k None works h = refl
takes_it which k (Some l) works (inl e) = absurd cc
takes_it which k (Some l) works (inr e) = let same : l ≡ k = cc in subst (λ x. is_some (work_of which x) ≡ true) (sym same) works

pub is_like_it : (k : Kind) (l : Option Kind) (b : Scalar) → (l ≡ None) ⊎ (l ≡ Some k) → IsTrue (is_kind b k) → is_like l b ≡ true
is_like_it k None b h is = refl
is_like_it k (Some l) b (inl e) is = absurd cc
is_like_it k (Some l) b (inr e) is = let same : l ≡ k = cc in subst (λ x. is_kind b x ≡ true) (sym same) is

of_cells_safe : (place : Place) (which : BinaryOp) (k : Kind) (a b : Scalar) → Works which k → IsTrue (is_kind a k) → IsTrue (is_kind b k)
    → IsSafe (λ v. fits v (of_kind (answer_kind which k))) (of_cells place which a b)
of_cells_safe place which k a b works is_a is_b =
    let left = kind_is a k is_a in
    let taken : is_taken which a b ≡ true =
    and_from (takes_kind which (kind_of a)) (takes_kind which (kind_of b) && is_like (kind_of a) b) (takes_it which k (kind_of a) works left)
    (and_from (takes_kind which (kind_of b)) (is_like (kind_of a) b) (takes_it which k (kind_of b) works (kind_is b k is_b)) (is_like_it k (kind_of a) b left is_b)) in
    rw taken
    (cell_at_safe place (answer_kind which k) (binary_of which a b) (at_kinds_makes which k (kind_of a) (kind_of b) a b left))

binary_safe : (place : Place) (which : BinaryOp) (k : Kind) (v w : Val) → Works which k → fits v (of_kind k) → fits w (of_kind k)
    → IsSafe (λ x. fits x (of_kind (answer_kind which k))) (binary place which v w)
binary_safe place which k v w works fit_v fit_w =
    of_cell k v (λ x. IsSafe (λ y. fits y (of_kind (answer_kind which k))) (binary place which x w)) fit_v
    (λ a is_a. of_cell k w (λ x. IsSafe (λ y. fits y (of_kind (answer_kind which k))) (binary place which (cell a) x)) fit_w
    (λ b is_b. safe_later (λ y. fits y (of_kind (answer_kind which k))) 0 (of_cells place which a b)
    (of_cells_safe place which k a b works (and_parts (is_kind a k) (is_whole a) is_a).0 (and_parts (is_kind b k) (is_whole b) is_b).0)))

-- ---- by the rules of typing

abbrev EachWorks : BinaryOp → List Kind → Type 0
EachWorks which [] = Unit {0}
EachWorks which (k ∷ ks) = Works which k × EachWorks which ks

abbrev compared : List Kind
compared = kind.Bool ∷ kind.Int ∷ kind.Text ∷ kind.Time ∷ []

abbrev ordered : List Kind
ordered = kind.Int ∷ kind.Text ∷ kind.Time ∷ []

-- the kind of the operands, or a duration where that is allowed
among_one : (which : BinaryOp) (ks : List Kind) (with_span : Bool) (u : Ground) (A : Type 0) → EachWorks which ks → IsAmong ks with_span u
    → ((k : Kind) → Works which k → u ≡ of_kind k → A) → (with_span ≡ true → u ≡ g_span → A) → A
among_one which [] with_span u A works h kinds spans = spans h.0 h.1
among_one which (k ∷ ks) with_span u A works (inl e) kinds spans = kinds k works.0 e
among_one which (k ∷ ks) with_span u A works (inr h) kinds spans = among_one which ks with_span u A works.1 h kinds spans

never_span : {A : Type 0} (u : Ground) → false ≡ true → u ≡ g_span → A
never_span u e f = absurd (false≢true e)

module _ (place : Place) (u x t : Ground) (v w : Val) (fit_v : fits v u) (fit_w : fits w x) where
  abbrev Gives_t : End Val → Type 0
  Gives_t = IsSafe (λ y. fits y t)

  at_kind : (which : BinaryOp) (k l : Kind) → Works which k → u ≡ of_kind k → x ≡ u → answer_kind which k ≡ l → t ≡ of_kind l → Gives_t (binary place which v w)
  at_kind which k l works of_u same made of_t =
      rw of_t
      (rw (sym made)
      (binary_safe place which k v w works (subst (fits v) of_u fit_v) (subst (fits w) of_u (subst (fits w) same fit_w))))

  tells : (which : BinaryOp) (ks : List Kind) → EachWorks which ks → ((k : Kind) → answer_kind which k ≡ kind.Bool) → IsAmong ks false u → x ≡ u → t ≡ g_bool → Gives_t (binary place which v w)
  tells which ks works made h same of_t =
      among_one which ks false u (Gives_t (binary place which v w)) works h (λ k works of_u. at_kind which k kind.Bool works of_u same (made k) of_t) (never_span u)

  keeps_kind : (which : BinaryOp) (ks : List Kind) → EachWorks which ks → ((k : Kind) → answer_kind which k ≡ k) → IsAmong ks false u → x ≡ u → t ≡ u → Gives_t (binary place which v w)
  keeps_kind which ks works made h same of_t =
      among_one which ks false u (Gives_t (binary place which v w)) works h (λ k works of_u. at_kind which k k works of_u same (made k) (of_t ∙ of_u)) (never_span u)

-- ---- Booleans

pub flag_safe : (v : Val) → fits v g_bool → IsSafe (λ a. Unit {0}) (flag_in v)
flag_safe v fit =
    of_cell kind.Bool v (λ x. IsSafe (λ a. Unit {0}) (flag_in x)) fit (λ a is. of_flag a (λ b. IsSafe (λ c. Unit {0}) (flag_in (cell b))) is tt (λ b. tt))

pub truth_safe : (v : Val) → fits v g_bool → IsSafe (λ yes. Unit {0}) (truth_in v)
truth_safe v fit = safe_then (λ a. Unit {0}) (λ yes. Unit {0}) (flag_in v) _ (flag_safe v fit) (λ a h. tt)

if_flag : (c d : Bool) (a b : Scalar) → IsTrue (is_cell (Some kind.Bool) a) → IsTrue (is_cell (Some kind.Bool) b)
    → IsTrue (is_cell (Some kind.Bool) (if c then a else (if d then b else scalar.Null)))
if_flag true d a b is_a is_b = is_a
if_flag false true a b is_a is_b = is_b
if_flag false false a b is_a is_b = refl

joined_flag : (decisive : Bool) (a b : Option Bool) → IsTrue (is_cell (Some kind.Bool) (joined decisive a b))
joined_flag decisive a b =
    if_flag (is_flag decisive a || is_flag decisive b) (is_known a && is_known b) (scalar.Bool decisive) (scalar.Bool (not decisive)) refl refl

logic_safe : (decisive : Bool) (v w : Val) → fits v g_bool → fits w g_bool → IsSafe (λ x. fits x g_bool) (logic decisive v w)
logic_safe decisive v w fit_v fit_w =
    safe_then (λ a. Unit {0}) (λ x. fits x g_bool) (flag_in v) _ (flag_safe v fit_v)
    (λ a h. safe_then (λ b. Unit {0}) (λ x. fits x g_bool) (flag_in w) _ (flag_safe w fit_w) (λ b k. joined_flag decisive a b))

-- ---- durations and patterns

only_bool : (u : Ground) (A : Type 0) → IsAmong (kind.Bool ∷ []) false u → (u ≡ g_bool → A) → A
only_bool u A (inl e) f = f e
only_bool u A (inr h) f = absurd (false≢true h.0)

spans_safe : (place : Place) (v w : Val) → fits v g_span → fits w g_span
    → IsSafe (λ x. fits x g_bool) (binary place op.Eq v w) × IsSafe (λ x. fits x g_bool) (binary place op.Ne v w)
spans_safe place v w fit_v fit_w =
    of_span v (λ x. IsSafe (λ y. fits y g_bool) (binary place op.Eq x w) × IsSafe (λ y. fits y g_bool) (binary place op.Ne x w)) fit_v
    (λ d is_d. of_span w (λ x. IsSafe (λ y. fits y g_bool) (binary place op.Eq (span d) x) × IsSafe (λ y. fits y g_bool) (binary place op.Ne (span d) x)) fit_w (λ e is_e. (refl, refl)))

matched_safe : (test : ℕ → List ℕ → Bool) (wanted : Bool) (v w : Val) → fits v g_text → fits w g_pattern → IsSafe (λ x. fits x g_bool) (matched test wanted v w)
matched_safe test wanted v w fit_v fit_w =
    of_cell kind.Text v (λ x. IsSafe (λ y. fits y g_bool) (matched test wanted x w)) fit_v
    (λ a is_a. of_pattern w (λ x. IsSafe (λ y. fits y g_bool) (matched test wanted (cell a) x)) fit_w
    (λ n. of_text a (λ b. IsSafe (λ y. fits y g_bool) (matched test wanted (cell b) (pattern n))) is_a refl (λ s. refl)))

-- ---- all operators

-- what `and` and `or` decide by their left operand has the type of their result
pub decided : (which : Infix) (u x t : Ground) (v : Val) → Infixed which u x t → IsTrue (decides which v) → fits v u → fits v t
decided between.Or u x t v h e fit = only_bool u (fits v t) h.0 (λ is. subst (fits v) (is ∙ sym h.2) fit)
decided between.And u x t v h e fit = only_bool u (fits v t) h.0 (λ is. subst (fits v) (is ∙ sym h.2) fit)
decided _ u x t v h e fit = absurd (false≢true e)

module _ (test : ℕ → List ℕ → Bool) (place : Place) (u x t : Ground) (v w : Val) (fit_v : fits v u) (fit_w : fits w x) where
  and_or : (decisive : Bool) → IsAmong (kind.Bool ∷ []) false u → x ≡ u → t ≡ g_bool → IsSafe (λ y. fits y t) (logic decisive v w)
  and_or decisive among same of_t =
      only_bool u (IsSafe (λ y. fits y t) (logic decisive v w)) among
      (λ is. rw of_t (logic_safe decisive v w (subst (fits v) is fit_v) (subst (fits w) (same ∙ is) fit_w)))

  equal : (which : BinaryOp) → EachWorks which compared → ((k : Kind) → answer_kind which k ≡ kind.Bool)
      → ((d e : Val) → fits d g_span → fits e g_span → IsSafe (λ y. fits y g_bool) (binary place which d e))
      → IsAmong compared true u → x ≡ u → t ≡ g_bool → IsSafe (λ y. fits y t) (binary place which v w)
  equal which works made spans among same of_t =
      among_one which compared true u (IsSafe (λ y. fits y t) (binary place which v w)) works among
      (λ k works of_u. at_kind place u x t v w fit_v fit_w which k kind.Bool works of_u same (made k) of_t)
      (λ e is. rw of_t (spans v w (subst (fits v) is fit_v) (subst (fits w) (same ∙ is) fit_w)))

  pub operate_safe : (which : Infix) → Infixed which u x t → IsSafe (λ y. fits y t) (operate test place which v w)
  operate_safe between.Or h = and_or true h.0 h.1 h.2
  operate_safe between.And h = and_or false h.0 h.1 h.2
  operate_safe between.Eq h = equal op.Eq (refl, (refl, (refl, (refl, tt)))) (λ k. refl) (λ d e fit_d fit_e. (spans_safe place d e fit_d fit_e).0) h.0 h.1 h.2
  operate_safe between.Ne h = equal op.Ne (refl, (refl, (refl, (refl, tt)))) (λ k. refl) (λ d e fit_d fit_e. (spans_safe place d e fit_d fit_e).1) h.0 h.1 h.2
  operate_safe between.Lt h = tells place u x t v w fit_v fit_w op.Lt ordered (refl, (refl, (refl, tt))) (λ k. refl) h.0 h.1 h.2
  operate_safe between.Le h = tells place u x t v w fit_v fit_w op.Le ordered (refl, (refl, (refl, tt))) (λ k. refl) h.0 h.1 h.2
  operate_safe between.Gt h = tells place u x t v w fit_v fit_w op.Gt ordered (refl, (refl, (refl, tt))) (λ k. refl) h.0 h.1 h.2
  operate_safe between.Ge h = tells place u x t v w fit_v fit_w op.Ge ordered (refl, (refl, (refl, tt))) (λ k. refl) h.0 h.1 h.2
  operate_safe between.Like h = rw h.2 (matched_safe test true v w (subst (fits v) h.0 fit_v) (subst (fits w) h.1 fit_w))
  operate_safe between.NotLike h = rw h.2 (matched_safe test false v w (subst (fits v) h.0 fit_v) (subst (fits w) h.1 fit_w))
  operate_safe between.Add h = keeps_kind place u x t v w fit_v fit_w op.Add (kind.Int ∷ kind.Text ∷ []) (refl, (refl, tt)) (λ k. refl) h.0 h.1 h.2
  operate_safe between.Sub h = keeps_kind place u x t v w fit_v fit_w op.Sub (kind.Int ∷ []) (refl, tt) (λ k. refl) h.0 h.1 h.2
  operate_safe between.Mul h = keeps_kind place u x t v w fit_v fit_w op.Mul (kind.Int ∷ []) (refl, tt) (λ k. refl) h.0 h.1 h.2
  operate_safe between.Div h = keeps_kind place u x t v w fit_v fit_w op.Div (kind.Int ∷ []) (refl, tt) (λ k. refl) h.0 h.1 h.2
  operate_safe between.Rem h = keeps_kind place u x t v w fit_v fit_w op.Rem (kind.Int ∷ []) (refl, tt) (λ k. refl) h.0 h.1 h.2

-- ---- signs, `not` and `exists`

sign_cell : (place : Place) (sign : Prefix) (v : Val) (u : Ground)
    → (fits v g_int → IsSafe (λ x. fits x g_int) (prefixed place sign v)) → (fits v g_span → IsSafe (λ x. fits x g_span) (prefixed place sign v))
    → (t : Ground) → IsAmong (kind.Int ∷ []) true u → t ≡ u → fits v u → IsSafe (λ x. fits x t) (prefixed place sign v)
sign_cell place sign v u ints spans t (inl is) same fit = rw (same ∙ is) (ints (subst (fits v) is fit))
sign_cell place sign v u ints spans t (inr h) same fit = rw (same ∙ h.1) (spans (subst (fits v) h.1 fit))

plus_int : (place : Place) (v : Val) → fits v g_int → IsSafe (λ x. fits x g_int) (prefixed place sign.Plus v)
plus_int place v fit =
    of_cell kind.Int v (λ x. IsSafe (λ y. fits y g_int) (prefixed place sign.Plus x)) fit
    (λ a is. of_int a (λ b. IsSafe (λ y. fits y g_int) (prefixed place sign.Plus (cell b))) is refl (λ n within. within))

plus_span : (place : Place) (v : Val) → fits v g_span → IsSafe (λ x. fits x g_span) (prefixed place sign.Plus v)
plus_span place v fit = of_span v (λ x. IsSafe (λ y. fits y g_span) (prefixed place sign.Plus x)) fit (λ d is. is)

minus_int : (place : Place) (v : Val) → fits v g_int → IsSafe (λ x. fits x g_int) (prefixed place sign.Minus v)
minus_int place v fit =
    of_cell kind.Int v (λ x. IsSafe (λ y. fits y g_int) (prefixed place sign.Minus x)) fit
    (λ a is. of_int a (λ b. IsSafe (λ y. fits y g_int) (prefixed place sign.Minus (cell b))) is
    (cell_at_safe place kind.Int (negation scalar.Null) refl) (λ n within. cell_at_safe place kind.Int (negation (scalar.Int n)) (whole_makes (neg_ℤ n))))

negated_span : (place : Place) (c : Bool) (d : Span) → (c ≡ true → SpanFits d g_span)
    → IsSafe (λ x. fits x g_span) (answered place (if c then Ok d else Err Overflow) >>= (λ e. pure (span e)))
negated_span place true d h = h refl
negated_span place false d h = tt

minus_spans : (place : Place) (v : Val) → fits v g_span → IsSafe (λ x. fits x g_span) (prefixed place sign.Minus v)
minus_spans place v fit =
    of_span v (λ x. IsSafe (λ y. fits y g_span) (prefixed place sign.Minus x)) fit
    (λ d is. negated_span place (in_64_bits (neg_ℤ d.months) && in_64_bits (neg_ℤ d.nanos)) (record { months = neg_ℤ d.months; nanos = neg_ℤ d.nanos }) (λ e. e))

opposite_flag : (a : Option Bool) → IsTrue (is_cell (Some kind.Bool) (opposite a))
opposite_flag None = refl
opposite_flag (Some b) = refl

not_safe : (place : Place) (v : Val) → fits v g_bool → IsSafe (λ x. fits x g_bool) (prefixed place sign.Not v)
not_safe place v fit = safe_then (λ a. Unit {0}) (λ x. fits x g_bool) (flag_in v) _ (flag_safe v fit) (λ a h. opposite_flag a)

exists_safe : (ks : List Kind) (v : Val) (u : Ground) → IsAmong ks false u → fits v u → IsSafe (λ x. fits x g_bool) (exists v)
exists_safe [] v u h fit = absurd (false≢true h.0)
exists_safe (k ∷ ks) v u (inl is) fit = of_cell k v (λ x. IsSafe (λ y. fits y g_bool) (exists x)) (subst (fits v) is fit) (λ a h. refl)
exists_safe (k ∷ ks) v u (inr h) fit = exists_safe ks v u h fit

pub prefixed_safe : (place : Place) (which : Prefix) (v : Val) (u t : Ground) → Prefixed which u t → fits v u → IsSafe (λ x. fits x t) (prefixed place which v)
prefixed_safe place sign.Plus v u t h fit = sign_cell place sign.Plus v u (plus_int place v) (plus_span place v) t h.0 h.1 fit
prefixed_safe place sign.Minus v u t h fit = sign_cell place sign.Minus v u (minus_int place v) (minus_spans place v) t h.0 h.1 fit
prefixed_safe place sign.Not v u t h fit = only_bool u _ h.0 (λ is. rw h.1 (not_safe place v (subst (fits v) is fit)))
prefixed_safe place sign.Exists v u t h fit = rw h.1 (exists_safe compared v u h.0 fit)

-- ---- texts and items

cell_among : (ks : List Kind) (v : Val) (u : Ground) → IsAmong ks false u → fits v u → IsSafe (λ a. Unit {0}) (cell_in v)
cell_among [] v u h fit = absurd (false≢true h.0)
cell_among (k ∷ ks) v u (inl is) fit = of_cell k v (λ x. IsSafe (λ a. Unit {0}) (cell_in x)) (subst (fits v) is fit) (λ a h. tt)
cell_among (k ∷ ks) v u (inr h) fit = cell_among ks v u h fit

-- what is put into a text is a scalar
pub cell_in_safe : (v : Val) (u : Ground) → IsKind u → fits v u → IsSafe (λ a. Unit {0}) (cell_in v)
cell_in_safe v u h fit = cell_among compared v u h fit

pub text_safe : (place : Place) (made : Option (List ℕ)) → IsSafe (λ v. fits v g_text) (text_made place made)
text_safe place (Some text) = cell_at_safe place kind.Text (limited text) (limited_makes text)
text_safe place None = refl

item_safe : (place : Place) (t : Ground) (vs : Vals) (n : ℕ) → each_fits vs t → IsSafe (λ v. fits v t) (answered place (item_or_fault (slice_get (val_list vs) n)))
item_safe place t no_vals n h = tt
item_safe place t (more_vals v vs) zero h = h.0
item_safe place t (more_vals v vs) (suc n) h = item_safe place t vs n h.1

int_item_safe : (place : Place) (t : Ground) (vs : Vals) (n : ℤ) → each_fits vs t → IsSafe (λ v. fits v t) (answered place (item vs n))
int_item_safe place t vs (pos n) h = item_safe place t vs n h
int_item_safe place t vs (negsuc n) h = tt

pub indexed_safe : (place : Place) (t : Ground) (v w : Val) → fits v (g_array t) → fits w g_int
    → IsSafe (λ x. fits x t) (items_in v >>= (λ vs. cell_in w >>= indexed place vs))
indexed_safe place t v w fit_v fit_w =
    of_array t v (λ x. IsSafe (λ y. fits y t) (items_in x >>= (λ vs. cell_in w >>= indexed place vs))) fit_v
    (λ vs each. of_cell kind.Int w (λ x. IsSafe (λ y. fits y t) (items_in (array vs) >>= (λ vs. cell_in x >>= indexed place vs))) fit_w
    (λ a is. safe_later (λ y. fits y t) 0 (pure a >>= indexed place vs) (safe_later (λ y. fits y t) 0 (indexed place vs a) (index_safe vs each a is))))
  where
    index_safe : (vs : Vals) → each_fits vs t → (a : Scalar) → IsTrue (is_cell (Some kind.Int) a) → IsSafe (λ y. fits y t) (indexed place vs a)
    index_safe vs each a is = of_int a (λ b. IsSafe (λ y. fits y t) (indexed place vs b)) is tt (λ n within. int_item_safe place t vs n each)

-- Calls of `contains` and `split` are safe.
use Rattle.std.proofs.Common.{◌≡◌, refl, sym, subst, inl, inr, ◌⊎◌, Bool, true, false, List, [], ◌∷◌, ℕ, Some, None, Ok, Err}
use Rattle.std.specs.Prelude.{if◌then◌else◌, codes, IsTrue, Option}
use Rattle.std.specs.List.{list_all}
use Rattle.std.proofs.lemmas.Bool.{and_from, and_parts}
use mathlib.Core.Bool.{false≢true}
use Rattle.fx_base.specs.declared.fault.FaultKind.TheVariants.{TooLarge}
use Rattle.fx_base.specs.declared.place.Place.{Place}
use Rattle.fx_value.specs.Ends.{Stuck}
use Rattle.fx_value.specs.Scalar.{kind_of}
use Rattle.fx_value.specs.declared.scalar.Kind.{Kind}
use Rattle.fx_value.specs.declared.scalar.Kind.TheVariants as kind
use Rattle.fx_value.specs.declared.scalar.Scalar.{Scalar}
use Rattle.fx_value.specs.declared.scalar.Scalar.TheVariants as scalar
use Rattle.fx_ops.specs.Binary.{is_like}
use Rattle.fx_ops.specs.Kinds.{is_kind, is_whole}
use Rattle.fx_ops.specs.Limit.{is_short}
use Rattle.fx_ops.specs.Parts.{parts}
use Rattle.fx_types.specs.Ground.{Ground, g_bool, g_text, g_array, g_absent, g_is}
use Rattle.fx_types.specs.Kinds.{IsAmong, of_kind}
use Rattle.fx_schemes.specs.Builtins.{IsLine}
use Rattle.fx_meaning.specs.declared.native.Native.TheVariants as n
use Rattle.fx_meaning.specs.Ends.{◌>>=◌, answered, pure}
use Rattle.fx_meaning.specs.Forms.{cell_of, items_of}
use Rattle.fx_meaning.specs.Meaning.{Calls}
use Rattle.fx_meaning.specs.Natives.{cells_in, contains, contains_of, is_in, split, split_by, split_null, split_of, texts_array, texts_made}
use Rattle.fx_meaning.specs.Value.{Slots, cell, look}
use Rattle.fx_build.specs.Fit.{each_fits, fits, is_cell}
use Rattle.fx_build.specs.Safe.{IsSafe}
use Rattle.fx_build.proofs.Callable.{NativeRuns}
use Rattle.fx_build.proofs.KindLaws.{of_text}
use Rattle.fx_build.proofs.OperatorLaws.{is_like_it, kind_is}
use Rattle.fx_build.proofs.ParamLaws.{Suits}
use Rattle.fx_build.proofs.PlainCalls.{IsAt, Lined, call_runs, cell_safe, cells_safe, items_safe}
use Rattle.fx_build.proofs.SafeLaws.{safe_then}

-- ---- `contains`

all_like : (k : Kind) (l : Option Kind) (items : List Scalar) → (l ≡ None) ⊎ (l ≡ Some k) → list_all (λ a. is_kind a k) items ≡ true → list_all (λ a. is_like l a) items ≡ true
all_like k l [] h e = refl
all_like k l (a ∷ items) h e =
    let both = and_parts (is_kind a k) (list_all (λ a. is_kind a k) items) e in
    and_from (is_like l a) (list_all (λ a. is_like l a) items) (is_like_it k l a h both.0) (all_like k l items h both.1)

told : (value : Scalar) (items : List Scalar) → fits (cell (is_in value items)) g_bool
told scalar.Null items = refl
told (scalar.Bool b) items = refl
told (scalar.Int n) items = refl
told (scalar.Text text) items = refl
told (scalar.Time t) items = refl

contains_safe : (k : Kind) (args : Slots) → IsAt args (codes "value") (of_kind k) → IsAt args (codes "set") (g_array (of_kind k)) → IsSafe (λ v. fits v g_bool) (contains_of args)
contains_safe k args value set =
    safe_then (λ a. IsTrue (is_cell (Some k) a)) (λ v. fits v g_bool) (cell_of (codes "value") args) (λ a. items_of (codes "set") args >>= (λ vs. cells_in vs >>= contains a))
    (cell_safe k args (codes "value") value)
    (λ a is. safe_then (λ vs. each_fits vs (of_kind k)) (λ v. fits v g_bool) (items_of (codes "set") args) (λ vs. cells_in vs >>= contains a) (items_safe (of_kind k) args (codes "set") set)
    (λ vs fit. safe_then (λ items. list_all (λ b. is_kind b k) items ≡ true) (λ v. fits v g_bool) (cells_in vs) (contains a) (cells_safe k vs fit)
    (λ items all. subst (λ c. IsSafe (λ v. fits v g_bool) (if c then pure (cell (is_in a items)) else Stuck))
    (sym (all_like k (kind_of a) items (kind_is a k (and_parts (is_kind a k) (is_whole a) is).0) all)) (told a items))))

among_safe : (ks : List Kind) (c : Ground) (args : Slots) → IsAmong ks false c → IsAt args (codes "value") c → IsAt args (codes "set") (g_array c) → IsSafe (λ v. fits v g_bool) (contains_of args)
among_safe [] c args h value set = absurd (false≢true h.0)
among_safe (k ∷ ks) c args (inl e) value set =
    contains_safe k args (subst (λ g. Suits (look (codes "value") args) (g_is g) g_absent) e value) (subst (λ g. Suits (look (codes "set") args) (g_is (g_array g)) g_absent) e set)
among_safe (k ∷ ks) c args (inr h) value set = among_safe ks c args h value set

contains_lined : Lined n.Contains
unfolding IsLine
contains_lined w L h = (
  (codes "value", h.0) ∷ (codes "set", g_array h.0) ∷ [],
  g_bool,
  h.2,
  λ place moment args within suit. among_safe (kind.Bool ∷ kind.Int ∷ kind.Text ∷ kind.Time ∷ []) h.0 args h.1 (suit (codes "value") refl) (suit (codes "set") refl),
)

pub contains_runs : (calls : Calls) → NativeRuns calls n.Contains
contains_runs calls = call_runs calls n.Contains contains_lined

-- ---- `split`

texts_fit : (ts : List (List ℕ)) → each_fits (texts_made ts) g_text
texts_fit [] = tt
texts_fit (t ∷ ts) = (refl, texts_fit ts)

parts_safe : (place : Place) (c : Bool) (ts : List (List ℕ)) → IsSafe (λ v. fits v (g_array g_text)) (answered place (if c then Ok ts else Err TooLarge) >>= texts_array)
parts_safe place true ts = texts_fit ts
parts_safe place false ts = tt

by_safe : (place : Place) (text : List ℕ) (by : Scalar) → IsTrue (is_cell (Some kind.Text) by) → IsSafe (λ v. fits v (g_array g_text)) (split_by place text by)
by_safe place text by is =
    of_text by (λ a. IsSafe (λ v. fits v (g_array g_text)) (split_by place text a)) is tt (λ s. parts_safe place (list_all is_short (parts s text)) (parts s text))

split_safe : (place : Place) (text by : Scalar) → IsTrue (is_cell (Some kind.Text) text) → IsTrue (is_cell (Some kind.Text) by) → IsSafe (λ v. fits v (g_array g_text)) (split place text by)
split_safe place text by is_text is_by =
    of_text text (λ a. IsSafe (λ v. fits v (g_array g_text)) (split place a by)) is_text
    (of_text by (λ a. IsSafe (λ v. fits v (g_array g_text)) (split_null a)) is_by tt (λ s. tt)) (λ s. by_safe place s by is_by)

split_answers : (place : Place) (args : Slots) → IsAt args (codes "v") g_text → IsAt args (codes "t") g_text → IsSafe (λ v. fits v (g_array g_text)) (split_of place args)
split_answers place args text by =
    safe_then (λ a. IsTrue (is_cell (Some kind.Text) a)) (λ v. fits v (g_array g_text)) (cell_of (codes "v") args) (λ a. cell_of (codes "t") args >>= split place a)
    (cell_safe kind.Text args (codes "v") text)
    (λ a is. safe_then (λ b. IsTrue (is_cell (Some kind.Text) b)) (λ v. fits v (g_array g_text)) (cell_of (codes "t") args) (split place a) (cell_safe kind.Text args (codes "t") by)
    (λ b is_b. split_safe place a b is is_b))

split_lined : Lined n.Split
unfolding IsLine
split_lined w L h =
    ((codes "v", g_text) ∷ (codes "t", g_text) ∷ [], g_array g_text, h, λ place moment args within suit. split_answers place args (suit (codes "v") refl) (suit (codes "t") refl))

pub split_runs : (calls : Calls) → NativeRuns calls n.Split
split_runs calls = call_runs calls n.Split split_lined

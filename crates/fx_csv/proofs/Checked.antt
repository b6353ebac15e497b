-- Tables that were looked through row by row.
use Rattle.std.proofs.Common.{◌≡◌, ℕ, ◌+◌, ◌-◌, ◌<◌, ◌≤◌, true, false, ◌||◌, List, [], ◌∷◌, length, map, get_or, Option, None, Some, below_more, refl, ap, sym, subst, ◌∙◌, arith}
use Rattle.std.specs.Prelude.{unwrap_or, is_some}
use Rattle.std.specs.Option.{option_or}
use Rattle.std.specs.List.{filter_map, list_all, list_any, AllByRecursion}
use Rattle.std.specs.List.Sorted.{IsStrictlySortedBy}
use Rattle.std.specs.Ordering.{eq_by_cmp}
use Rattle.std.specs.declared.cmp.Ordering.TheVariants.{Less}
use Rattle.std.specs.Cmp.{Equal-is}
use Rattle.std.specs.Cmp.Lexicographic.{nat_list_cmp_total}
use Rattle.std.specs.FinMap as map
use Rattle.std.proofs.lemmas.List.{get_or-map}
use Rattle.std.proofs.lemmas.Map.Keys.{sorted_from_all_adjacent}
use Rattle.fx_base.specs.Text.{text_cmp}
use Rattle.fx_value.specs.declared.scalar.Kind.{Kind}
use Rattle.fx_value.specs.declared.scalar.Kind.TheVariants as kind
use Rattle.fx_value.specs.declared.scalar.Scalar.{Scalar}
use Rattle.fx_value.specs.declared.scalar.Scalar.TheVariants as scalar
use Rattle.fx_value.specs.Scalar.{kind_of}
use Rattle.fx_data.specs.declared.key.KeyEntry.{KeyEntry}
use Rattle.fx_data.specs.declared.table.Table.{Table}
use Rattle.fx_csv.specs.Cells.{is_one_kind, same_kind}
use Rattle.fx_csv.specs.Printed.{pinned_value, value_at, HasOneKind}

abbrev Row : Type 0
Row = map.FinMap text_cmp Scalar

abbrev kind_at : Row → List ℕ → Option Kind
kind_at row label = kind_of (unwrap_or (map.get row label) scalar.Null)

-- ---- labels that rise

pub rises : (labels : List (List ℕ)) (i : ℕ) → length labels ≤ i
    → ((k : ℕ) → k < i → 0 < k → text_cmp (get_or labels (k - 1) []) (get_or labels k []) ≡ Less) → IsStrictlySortedBy text_cmp labels
rises labels i h each =
    sorted_from_all_adjacent nat_list_cmp_total labels [] (λ k below.
    let back : k + 1 - 1 ≡ k = omega arith in
    ap (λ n. text_cmp (get_or labels n []) (get_or labels (k + 1) [])) (sym back) ∙ each (k + 1) (omega arith) (omega arith))

pub rises_more : (es : List KeyEntry) (i : ℕ) (a b : KeyEntry) → 0 < i → i < length es → text_cmp (get_or es (i - 1) a).label (get_or es i b).label ≡ Less
    → ((k : ℕ) → k < i → 0 < k → text_cmp (get_or (map (λ e. e.label) es) (k - 1) []) (get_or (map (λ e. e.label) es) k []) ≡ Less)
    → (k : ℕ) → k < i + 1 → 0 < k → text_cmp (get_or (map (λ e. e.label) es) (k - 1) []) (get_or (map (λ e. e.label) es) k []) ≡ Less
rises_more es i a b some h here each =
    let below : i - 1 < length es = omega arith in
    below_more (λ k. 0 < k → text_cmp (get_or (map (λ e. e.label) es) (k - 1) []) (get_or (map (λ e. e.label) es) k []) ≡ Less) i each
    (λ _. (λ j. text_cmp (get_or-map (λ (e : KeyEntry). e.label) es (i - 1) a [] below j) (get_or-map (λ (e : KeyEntry). e.label) es i b [] h j)) ∙ here)

-- ---- rows with the kinds of another

module _ (P : List ℕ → Type 0) where
  found : (q : List ℕ) (ks : List (List ℕ)) → list_any (eq_by_cmp text_cmp q) ks ≡ true → AllByRecursion P ks → P q
  found q [] h all = cc h
  found q (k ∷ ks) h all =
      elim (eq_by_cmp text_cmp q k) as (λ b. eq_by_cmp text_cmp q k ≡ b → (b || list_any (eq_by_cmp text_cmp q) ks) ≡ true → P q) [
        | true ↦ λ e _. subst P (sym (map.slice_cmp-IsAntisymmetric map.nat_cmp-IsAntisymmetric q k ((Equal-is (text_cmp q k)).0 e))) all.0
        | false ↦ λ _ later. found q ks later all.1
      ] refl h

none_of : (row : Row) (label : List ℕ) → list_any (eq_by_cmp text_cmp label) (map.keys row) ≡ false → map.get row label ≡ None
none_of row label h =
    elim (map.get row label) as (λ o. is_some o ≡ false → o ≡ None) [
      | None ↦ λ _. refl
      | Some v ↦ λ e. cc e
    ] (map.contains_key-keys row label ∙ h)

-- kinds that are the same at the labels of one row are the same everywhere
pub everywhere : (a b : Row) → map.keys a ≡ map.keys b → AllByRecursion (λ label. kind_at a label ≡ kind_at b label) (map.keys a)
    → (label : List ℕ) → kind_at a label ≡ kind_at b label
everywhere a b same all label =
    let at = list_any (eq_by_cmp text_cmp label) (map.keys a) in
    elim at as (λ t. at ≡ t → kind_at a label ≡ kind_at b label) [
      | true ↦ λ e. found (λ label. kind_at a label ≡ kind_at b label) label (map.keys a) e all
      | false ↦ λ e.
          ap (λ o. kind_of (unwrap_or o scalar.Null)) (none_of a label e)
          ∙ ap (λ o. kind_of (unwrap_or o scalar.Null)) (sym (none_of b label (ap (list_any (eq_by_cmp text_cmp label)) (sym same) ∙ e)))
    ] refl

own_kind : (k : Kind) → same_kind k k ≡ true
own_kind kind.Bool = refl
own_kind kind.Int = refl
own_kind kind.Text = refl
own_kind kind.Time = refl

module _ (k : Option Kind) where
  abbrev Are : List Scalar → Type 0
  Are = AllByRecursion (λ v. kind_of v ≡ k)

no_kinds : (vs : List Scalar) → Are None vs → filter_map kind_of vs ≡ []
no_kinds [] h = refl
no_kinds (v ∷ vs) h = rw h.0 (no_kinds vs h.1)

like_first : (k : Kind) (vs : List Scalar) → Are (Some k) vs → list_all (same_kind k) (filter_map kind_of vs) ≡ true
like_first k [] h = refl
like_first k (v ∷ vs) h = rw (h.0, own_kind k) (like_first k vs h.1)

one_of_same : (k : Option Kind) (vs : List Scalar) → Are k vs → is_one_kind (filter_map kind_of vs) ≡ true
one_of_same None vs h = ap is_one_kind (no_kinds vs h)
one_of_same (Some k) [] h = refl
one_of_same (Some k) (v ∷ vs) h = rw h.0 (like_first k vs h.1)

like_value : (t : Table) (label : List ℕ) (a b : Row) → kind_at a label ≡ kind_at b label → kind_of (value_at t label b) ≡ kind_of (value_at t label a)
like_value t label a b h =
    elim (pinned_value t.key.entries label) as (λ o. kind_of (unwrap_or (option_or o (map.get b label)) scalar.Null) ≡ kind_of (unwrap_or (option_or o (map.get a label)) scalar.Null)) [
      | None ↦ sym h
      | Some v ↦ refl
    ]

like_values : (t : Table) (label : List ℕ) (a : Row) (rows : List Row) → AllByRecursion (λ row. (label : List ℕ) → kind_at a label ≡ kind_at row label) rows
    → Are (kind_of (value_at t label a)) (map (value_at t label) rows)
like_values t label a [] h = tt
like_values t label a (b ∷ rows) h = (like_value t label a b (h.0 label), like_values t label a rows h.1)

-- a table whose rows have the kinds of its first
pub one_kind : (t : Table) (first : Row) (others : List Row) → t.rows ≡ first ∷ others
    → AllByRecursion (λ row. (label : List ℕ) → kind_at first label ≡ kind_at row label) others → HasOneKind t
one_kind t first others is all label =
    ap (λ rows. is_one_kind (filter_map kind_of (map (value_at t label) rows))) is
    ∙ one_of_same (kind_of (value_at t label first)) (map (value_at t label) (first ∷ others))
    (refl, like_values t label first others all)

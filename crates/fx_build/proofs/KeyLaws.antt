-- Keys that fit.
use Rattle.std.proofs.Common.{◌≡◌, refl, sym, ap, subst, ◌∙◌, Bool, true, false, ◌&&◌, List, [], ◌∷◌, map, Some, T}
use Rattle.std.specs.Prelude.{cond, if◌then◌else◌, IsTrue}
use Rattle.std.specs.Cmp.{eq_by_cmp_equiv}
use Rattle.std.specs.Cmp.Lexicographic.{nat_list_cmp_total, same_text as equal_text}
use Rattle.std.specs.FinMap.{entries, entries_sorted, get, get-entries}
use Rattle.std.specs.FinMap.Entries.{below_all, by_order, find, is_sorted, put as put_entry}
use Rattle.std.specs.List.{AllByRecursion}
use Rattle.std.specs.List.Sorted.{IsStrictlySortedBy}
use Rattle.std.specs.Ordering.{eq_by_cmp, is_eq, is_lt}
use Rattle.std.specs.declared.cmp.Ordering.{Ordering}
use Rattle.std.specs.declared.cmp.Ordering.TheVariants.{Less, Equal, Greater}
use mathlib.Core.Bool.{false≢true}
use Rattle.fx_base.specs.Text.{same_text, text_cmp}
use Rattle.fx_value.proofs.Rows.{text_same}
use Rattle.fx_value.specs.declared.scalar.Scalar.{Scalar}
use Rattle.fx_types.proofs.Choices.{chosen, passed}
use Rattle.fx_types.specs.Ground.{Ground, GroundRow, g_is}
use Rattle.fx_types.specs.Term.{Label}
use Rattle.fx_data.proofs.Columns.{key_with_rises}
use Rattle.fx_data.proofs.Sorted.{keys_rise}
use Rattle.fx_data.specs.Columns.{entry_of, key_with, parts_of}
use Rattle.fx_data.specs.Shared.{column_entry}
use Rattle.fx_data.specs.Table.{HasKey, HasRisingLabels, shown}
use Rattle.fx_data.specs.declared.key.Key.{Key}
use Rattle.fx_data.specs.declared.key.KeyEntry.{KeyEntry}
use Rattle.fx_group.proofs.Unstuck.{each_of}
use Rattle.fx_schemes.specs.Line.{put}
use Rattle.fx_meaning.specs.Rows.{Row}
use Rattle.fx_plan.proofs.SlotLaws.{same_itself}
use Rattle.fx_build.specs.Fit.{column_kind, is_cell}
use Rattle.fx_build.specs.Rows.{EntryFits, KeyFits, RowFits, is_column_of}
use Rattle.fx_build.proofs.RowLaws.{tied}

-- ---- entries of a row

first : (a b : Bool) → T (a && b) → T a
first true b h = tt
first false b h = absurd h

second : (a b : Bool) → T (a && b) → T b
second true b h = h
second false b h = absurd h

not_tied : (o : Ordering) → T (is_lt o) → is_eq o ≡ false
not_tied Less h = refl
not_tied Equal h = absurd h
not_tied Greater h = absurd h

later_found : (e : Label × Scalar) (all es : List (Label × Scalar)) → T (below_all text_cmp e.0 es) → AllByRecursion (λ f. find text_cmp f.0 all ≡ Some f.1) es
    → AllByRecursion (λ f. find text_cmp f.0 (e ∷ all) ≡ Some f.1) es
later_found e all [] below h = tt
later_found e all (f ∷ es) below h = (
  ap (λ c. cond c (Some e.1) (find text_cmp f.0 all)) (tied f.0 e.0 ∙ apart (same_text f.0 e.0) refl) ∙ h.0,
  later_found e all es (second (is_lt (text_cmp e.0 f.0)) (below_all text_cmp e.0 es) below) h.1,
)
  where
    apart : (c : Bool) → c ≡ same_text f.0 e.0 → same_text f.0 e.0 ≡ false
    apart false k = sym k
    apart true k =
        let one = not_tied (text_cmp e.0 f.0) (first (is_lt (text_cmp e.0 f.0)) (below_all text_cmp e.0 es) below) in
        absurd (false≢true (sym one ∙ tied e.0 f.0 ∙ subst (λ z. same_text e.0 z ≡ true) (sym (equal_text f.0 e.0 k)) (same_itself e.0)))

all_found : (es : List (Label × Scalar)) → T (is_sorted text_cmp es) → AllByRecursion (λ e. find text_cmp e.0 es ≡ Some e.1) es
all_found [] h = tt
all_found (e ∷ es) h = (
  ap (λ c. cond c (Some e.1) (find text_cmp e.0 es)) (tied e.0 e.0 ∙ same_itself e.0),
  later_found e es es (first (below_all text_cmp e.0 es) (is_sorted text_cmp es) h) (all_found es (second (below_all text_cmp e.0 es) (is_sorted text_cmp es) h)),
)

pub entries_found : (row : Row) → AllByRecursion (λ e. get row e.0 ≡ Some e.1) (entries row)
entries_found row = each_of (λ e. find text_cmp e.0 (entries row) ≡ Some e.1) (λ e. get row e.0 ≡ Some e.1) (λ e h. get-entries row e.0 ∙ h) (entries row) (all_found (entries row) (entries_sorted row))

-- ---- keys of rows

-- the key of a row that fits
pub has_fits : (r : GroundRow) (es : List KeyEntry) (row : Row) → HasKey es row → RowFits r row → AllByRecursion (EntryFits r) es
has_fits r [] row h fit = tt
has_fits r (e ∷ es) row h fit = (subst (λ o. IsTrue (is_column_of (r e.label) o)) h.0 (fit e.label), has_fits r es row h.1 fit)

-- values of columns that it has
cells_have : (row : Row) (es : List (Label × Scalar)) → AllByRecursion (λ e. get row e.0 ≡ Some e.1) es → HasKey (map column_entry es) row
cells_have row [] h = tt
cells_have row (e ∷ es) h = (h.0, cells_have row es h.1)

labels_same : (es : List (Label × Scalar)) → map (λ e. e.label) (map column_entry es) ≡ map (λ e. e.0) es
labels_same [] = refl
labels_same (e ∷ es) = ap (λ ls. e.0 ∷ ls) (labels_same es)

-- the key of all columns of a row
pub columns_rise : (row : Row) → HasRisingLabels (record { entries = map column_entry (entries row) })
columns_rise row = subst (IsStrictlySortedBy text_cmp) (sym (labels_same (entries row))) (keys_rise text_cmp (entries row) (entries_sorted row))

pub columns_have : (row : Row) → HasKey (map column_entry (entries row)) row
columns_have row = cells_have row (entries row) (entries_found row)

-- ---- keys with one more column

-- labels by order from either side
pub tied_back : (x l : Label) → eq_by_cmp text_cmp x l ≡ same_text l x
tied_back x l = (eq_by_cmp_equiv nat_list_cmp_total).symm x l ∙ tied l x

module _ (x : Label) (value : Scalar) (P Q : KeyEntry → Type 0) (is : (l : Label) → same_text l x ≡ true → Q (record { label = l; value = value; pinned = false })) (others : (e : KeyEntry) → same_text e.label x ≡ false → P e → Q e) where
  others_all : (es : List KeyEntry) → AllByRecursion (λ q. text_cmp x q ≡ Less) (map (λ e. e.label) es) → AllByRecursion P es → AllByRecursion Q (map entry_of (map parts_of es))
  others_all [] above h = tt
  others_all (e ∷ es) above h = (others e (sym (tied_back x e.label) ∙ ap is_eq above.0) h.0, others_all es above.1 h.1)

  above_all : (l : Label) (ls : List Label) → text_cmp x l ≡ Less → AllByRecursion (λ q. text_cmp l q ≡ Less) ls → AllByRecursion (λ q. text_cmp x q ≡ Less) ls
  above_all l [] below h = tt
  above_all l (q ∷ ls) below h = (nat_list_cmp_total.trans x l q below h.0, above_all l ls below h.1)

  -- what is said of entries whose labels rise, with one of them put in
  pub entries_with : (es : List KeyEntry) → IsStrictlySortedBy text_cmp (map (λ e. e.label) es) → AllByRecursion P es → AllByRecursion Q (map entry_of (put_entry text_cmp x (value, false) (map parts_of es)))
  unfolding IsStrictlySortedBy
  entries_with [] rising h = (is x (same_itself x), tt)
  entries_with (e ∷ es) rising h =
      elim (text_cmp x e.label) as (λ o. text_cmp x e.label ≡ o
      → AllByRecursion Q (map entry_of (by_order o ((x, (value, false)) ∷ parts_of e ∷ map parts_of es) ((e.label, (value, false)) ∷ map parts_of es) (parts_of e ∷ put_entry text_cmp x (value, false) (map parts_of es))))) [
        | Less ↦ λ o. (is x (same_itself x), others_all (e ∷ es) (o, above_all e.label (map (λ d. d.label) es) o rising.0) h)
        | Equal ↦ λ o. (
          is e.label (sym (tied_back x e.label) ∙ ap is_eq o),
          others_all es (subst (λ l. AllByRecursion (λ q. text_cmp l q ≡ Less) (map (λ d. d.label) es)) (sym (text_same x e.label o)) rising.0) h.1,
        )
        | Greater ↦ λ o. (others e (sym (tied_back x e.label) ∙ ap is_eq o) h.0, entries_with es rising.1 h.1)
      ] refl

-- a column of the type t
pub key_with_fits : (r : GroundRow) (x : Label) (t : Ground) (value : Scalar) → IsTrue (is_cell (column_kind t) value) → (key : Key) → KeyFits r key → KeyFits (put x t r) (key_with key x value)
key_with_fits r x t value is key h = (
  key_with_rises key x value h.0,
  entries_with x value (EntryFits r) (EntryFits (put x t r)) (λ l same. subst (λ f. IsTrue (is_column_of f (Some value))) (sym (chosen (same_text l x) (g_is t) (r l) same)) is)
      (λ e off fit. subst (λ f. IsTrue (is_column_of f (shown e))) (sym (passed (same_text e.label x) (g_is t) (r e.label) off)) fit) key.entries h.0 h.1,
)

-- a column of its own type
pub again_key : (r : GroundRow) (x : Label) (t : Ground) (value : Scalar) → r x ≡ g_is t → IsTrue (is_cell (column_kind t) value) → (key : Key) → KeyFits r key → KeyFits r (key_with key x value)
again_key r x t value has is key h = subst (λ q. KeyFits q (key_with key x value)) same (key_with_fits r x t value is key h)
  where
    at : (l : Label) (c : Bool) → c ≡ same_text l x → (if c then g_is t else r l) ≡ r l
    at l true e = sym (ap r (equal_text l x e) ∙ has)
    at l false e = refl

    same : put x t r ≡ r
    same = λ i. λ l. (at l (same_text l x) refl) i

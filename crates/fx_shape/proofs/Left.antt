-- Tables without some of their columns.
use Rattle.std.proofs.Common.{◌≡◌, Bool, true, false, not, List, [], ◌∷◌, map, refl, sym, ap, subst, ◌∙◌}
use Rattle.std.specs.Prelude.{cond, None}
use Rattle.std.specs.declared.cmp.Ordering.TheVariants.{Less}
use Rattle.std.specs.Cmp.{Equal-is, tied_itself}
use Rattle.std.specs.Cmp.Lexicographic.{nat_list_cmp_total, same_text as equal_text}
use Rattle.std.specs.FinMap as fin
use Rattle.std.specs.FinMap.{FinMap}
use Rattle.std.specs.List.{AllByRecursion, filter}
use Rattle.std.specs.List.Sorted.{IsStrictlySortedBy}
use Rattle.std.specs.Ordering.{eq_by_cmp, is_eq}
use Rattle.std.proofs.lemmas.Cmp.{nat_list_eq_equiv}
use Rattle.fx_base.specs.Text.{same_text, text_cmp}
use Rattle.fx_value.proofs.Rows.{text_same}
use Rattle.fx_data.specs.declared.key.KeyEntry.{KeyEntry}
use Rattle.fx_data.specs.declared.table.Table.{Table}
use Rattle.fx_data.specs.Gathered.{grouped, gathered, table_of}
use Rattle.fx_data.specs.Key.{key_cmp}
use Rattle.fx_data.specs.Table.{HasKey, IsLawfulTable}
use Rattle.fx_group.specs.Answer.{Row}
use Rattle.fx_group.specs.Group.{is_listed}
use Rattle.fx_shape.specs.Columns.{Label}
use Rattle.fx_shape.specs.Keep.{columns_dropped, columns_kept, columns_left, table_left}

-- labels that tie are the same

pub tied : (a b : Label) → eq_by_cmp text_cmp a b ≡ same_text a b
tied a b = by (eq_by_cmp text_cmp a b) (same_text a b) refl refl
  where
    by : (c d : Bool) → c ≡ eq_by_cmp text_cmp a b → d ≡ same_text a b → c ≡ d
    by true true e k = refl
    by false false e k = refl
    by true false e k = sym (k ∙ subst (λ z. same_text a z ≡ true) (text_same a b ((Equal-is _).0 (sym e))) (nat_list_eq_equiv.refl a))
    by false true e k = e ∙ subst (λ z. eq_by_cmp text_cmp a z ≡ true) (equal_text a b k) (ap is_eq (tied_itself nat_list_cmp_total a))

pub get_left : (stays : Label → Bool) (row : Row) (q : Label) → fin.get (fin.retain_keys row stays) q ≡ cond (stays q) (fin.get row q) None
get_left stays row q = fin.get-retain_keys row stays q (λ x tie. ap stays (sym (text_same q x tie)))

-- ---- lawful tables

module _ (stays : KeyEntry → Bool) where
  above_left : (l : Label) (es : List KeyEntry) → AllByRecursion (λ q. text_cmp l q ≡ Less) (map (λ e. e.label) es)
      → AllByRecursion (λ q. text_cmp l q ≡ Less) (map (λ e. e.label) (filter stays es))
  above_left l [] h = tt
  above_left l (e ∷ es) h =
      elim (stays e) as (λ b. AllByRecursion (λ q. text_cmp l q ≡ Less) (map (λ e. e.label) (cond b (e ∷ filter stays es) (filter stays es)))) [
        | true ↦ (h.0, above_left l es h.1)
        | false ↦ above_left l es h.1
      ]

  -- some of the entries of a key
  pub rising_left : (es : List KeyEntry) → IsStrictlySortedBy text_cmp (map (λ e. e.label) es) → IsStrictlySortedBy text_cmp (map (λ e. e.label) (filter stays es))
  unfolding IsStrictlySortedBy
  rising_left [] h = tt
  rising_left (e ∷ es) h =
      elim (stays e) as (λ b. IsStrictlySortedBy text_cmp (map (λ e. e.label) (cond b (e ∷ filter stays es) (filter stays es)))) [
        | true ↦ (above_left e.label es h.0, rising_left es h.1)
        | false ↦ rising_left es h.1
      ]

module _ (stays : Label → Bool) where
  columns_stay : (row : Row) (es : List KeyEntry) → HasKey es row → HasKey (filter (λ (e : KeyEntry). stays e.label) es) (fin.retain_keys row stays)
  columns_stay row [] h = tt
  columns_stay row (e ∷ es) h = step (stays e.label) refl (columns_stay row es h.1)
    where
      step : (b : Bool) → b ≡ stays e.label → HasKey (filter (λ (e : KeyEntry). stays e.label) es) (fin.retain_keys row stays)
          → HasKey (cond b (e ∷ filter (λ (e : KeyEntry). stays e.label) es) (filter (λ (e : KeyEntry). stays e.label) es)) (fin.retain_keys row stays)
      step true is rest = (get_left stays row e.label ∙ ap (λ c. cond c (fin.get row e.label) None) (sym is) ∙ h.0, rest)
      step false is rest = rest

  rows_stay : (es : List KeyEntry) (rows : List Row) → AllByRecursion (HasKey es) rows → AllByRecursion (HasKey (filter (λ (e : KeyEntry). stays e.label) es)) (map (λ row. fin.retain_keys row stays) rows)
  rows_stay es [] h = tt
  rows_stay es (row ∷ rows) h = (columns_stay row es h.0, rows_stay es rows h.1)

  pub left_lawful : (t : Table) → IsLawfulTable t → IsLawfulTable (table_left stays t)
  left_lawful t h = record { rising = rising_left (λ e. stays e.label) t.key.entries h.rising; columns = rows_stay t.key.entries t.rows h.columns }

  -- runs of what is left of the tables are its tables
  pub left_is : (tables : List Table) (runs : FinMap key_cmp (List Row)) → runs ≡ grouped (map (table_left stays) tables) → map table_of (fin.entries runs) ≡ columns_left stays tables
  unfolding gathered
  left_is tables runs is = ap (λ (groups : FinMap key_cmp (List Row)). map table_of (fin.entries groups)) is

pub dropped_is : (columns : List Label) (tables : List Table) (runs : FinMap key_cmp (List Row)) → runs ≡ grouped (map (table_left (λ label. not (is_listed columns label))) tables)
    → map table_of (fin.entries runs) ≡ columns_dropped columns tables
unfolding columns_dropped
dropped_is columns tables runs is = left_is (λ label. not (is_listed columns label)) tables runs is

pub kept_is : (columns : List Label) (tables : List Table) (runs : FinMap key_cmp (List Row)) → runs ≡ grouped (map (table_left (is_listed columns)) tables)
    → map table_of (fin.entries runs) ≡ columns_kept columns tables
unfolding columns_kept
kept_is columns tables runs is = left_is (is_listed columns) tables runs is

-- Rows of one table that have one new key.
use Rattle.std.proofs.Common.{◌≡◌, Bool, true, false, T, ◌||◌, List, [], ◌∷◌, map, filter_map, refl, sym, ap, subst, ◌∙◌}
use Rattle.std.specs.Prelude.{slice_get, Option, None, Some}
use Rattle.std.specs.FinMap as fin
use Rattle.std.specs.List.{AllByRecursion, cons_option, list_any}
use Rattle.fx_base.specs.Text.{same_text}
use Rattle.fx_value.specs.declared.scalar.Scalar.{Scalar}
use Rattle.fx_data.specs.declared.key.Key.{Key}
use Rattle.fx_data.specs.declared.key.KeyEntry.{KeyEntry}
use Rattle.fx_data.specs.Regrouped.{after, alone, entry_after, joined, new_key}
use Rattle.fx_data.specs.Table.{HasKey, HasRisingLabels, IsLawfulTable, shown}
use Rattle.fx_data.proofs.Regrouped.{alone_lawful, joined_twice, key_kept, new_key_rises}
use Rattle.fx_group.specs.Answer.{Row}
use Rattle.fx_group.specs.Turned.{Groups, with_rows}
use Rattle.fx_shape.specs.Changed.{rows_after}
use Rattle.fx_shape.specs.Columns.{Label}
use Rattle.fx_shape.specs.Run.{keyed, HaveOneKey}

-- ---- one table of rows with one new key

module _ (key k : Key) where
  abbrev AllHave : List Row → Type 0
  AllHave = AllByRecursion (λ row. new_key key row ≡ k)

  one_run : (groups : Groups) (first : Row) (rows : List Row) → new_key key first ≡ k → AllHave rows
      → with_rows groups (keyed key (first ∷ rows)) ≡ joined groups (record { key = k; rows = first ∷ rows })
  one_run groups first [] same h = ap (λ (q : Key). joined groups (record { key = q; rows = first ∷ [] })) same
  one_run groups first (row ∷ rows) same h =
      one_run (joined groups (alone (record { key = key; row = first }))) row rows h.0 h.1
      ∙ ap (λ (q : Key). joined (joined groups (record { key = q; rows = first ∷ [] })) (record { key = k; rows = row ∷ rows })) same
      ∙ sym (joined_twice groups k (first ∷ []) (row ∷ rows))

  all_have : (rows : List Row) → HasRisingLabels key → AllHave rows → AllByRecursion (HasKey k.entries) rows
  all_have [] rising h = tt
  all_have (row ∷ rows) rising h = (subst (λ (q : Key). HasKey q.entries row) h.0 (alone_lawful key row rising).columns.0, all_have rows rising h.1)

module _ (key k : Key) (first : Row) (rows all : List Row) (is : all ≡ first ∷ rows) (rising : HasRisingLabels key) (one : HaveOneKey key all) (made : k ≡ new_key key first) where
  have : AllByRecursion (λ row. new_key key row ≡ k) rows
  have =
      let each : AllByRecursion (λ row. new_key key row ≡ new_key key first) rows = subst (HaveOneKey key) is one in
      subst (λ (q : Key). AllByRecursion (λ row. new_key key row ≡ q) rows) (sym made) each

  -- such rows as a table
  whole_lawful : IsLawfulTable (record { key = k; rows = all })
  whole_lawful =
      subst (λ (rs : List Row). IsLawfulTable (record { key = k; rows = rs })) (sym is)
      (record { rising = subst HasRisingLabels (sym made) (new_key_rises key first rising); columns = all_have key k (first ∷ rows) rising (sym made, have) })

  whole_joined : (groups : Groups) → joined groups (record { key = k; rows = all }) ≡ with_rows groups (keyed key all)
  whole_joined groups =
      ap (λ (rs : List Row). joined groups (record { key = k; rows = rs })) is
      ∙ sym (one_run key k groups first rows (sym made) have) ∙ ap (λ (rs : List Row). with_rows groups (keyed key rs)) (sym is)

pub lawful_by_first : (key k : Key) (first : Row) (all : List Row) → Some first ≡ slice_get all 0 → HasRisingLabels key → HaveOneKey key all → k ≡ new_key key first
    → IsLawfulTable (record { key = k; rows = all })
lawful_by_first key k first [] is rising one made = cc
lawful_by_first key k first (row ∷ rows) is rising one made =
    let same : row ≡ first = cc in whole_lawful key k first rows (row ∷ rows) (ap (λ (r : Row). r ∷ rows) same) rising one made

pub joined_by_first : (key k : Key) (first : Row) (all : List Row) (groups : Groups) → Some first ≡ slice_get all 0 → HasRisingLabels key → HaveOneKey key all → k ≡ new_key key first
    → joined groups (record { key = k; rows = all }) ≡ with_rows groups (keyed key all)
joined_by_first key k first [] groups is rising one made = cc
joined_by_first key k first (row ∷ rows) groups is rising one made =
    let same : row ≡ first = cc in whole_joined key k first rows (row ∷ rows) (ap (λ (r : Row). r ∷ rows) same) rising one made groups

pub nothing_by_first : (key : Key) (all : List Row) (groups : Groups) → None ≡ slice_get all 0 → groups ≡ with_rows groups (keyed key all)
nothing_by_first key [] groups is = refl
nothing_by_first key (row ∷ rows) groups is = cc

-- ---- which rows have one new key

-- all have the old one
pub kept_one : (key : Key) (rows : List Row) → AllByRecursion (HasKey key.entries) rows → HaveOneKey key rows
kept_one key [] h = tt
kept_one key (first ∷ rows) h = each rows h.1
  where
    each : (rs : List Row) → AllByRecursion (HasKey key.entries) rs → AllByRecursion (λ row. new_key key row ≡ new_key key first) rs
    each [] g = tt
    each (row ∷ rs) g = (key_kept key row g.0 ∙ sym (key_kept key first h.0), each rs g.1)

-- what a row has at a label after the change hangs on what it had there alone
pub record ByLabel (change : Row → Row) : Type 0 where
  pub at : Label → Option Scalar → Option Scalar
  pub is : (row : Row) (q : Label) → fin.get (change row) q ≡ at q (fin.get row q)

module _ (change : Row → Row) (by : ByLabel change) where
  after_shown : (e : KeyEntry) (row : Row) → fin.get row e.label ≡ shown e → after (change row) e ≡ entry_after e (by.at e.label (shown e))
  after_shown e row has = ap (entry_after e) (by.is row e.label ∙ ap (by.at e.label) has)

  alike : (es : List KeyEntry) (a b : Row) → HasKey es a → HasKey es b → filter_map (after (change a)) es ≡ filter_map (after (change b)) es
  alike [] a b h g = refl
  alike (e ∷ es) a b h g = λ i. cons_option ((after_shown e a h.0 ∙ sym (after_shown e b g.0)) i) (alike es a b h.1 g.1 i)

  alike_keys : (key : Key) (a b : Row) → HasKey key.entries a → HasKey key.entries b → new_key key (change a) ≡ new_key key (change b)
  unfolding new_key
  alike_keys key a b h g = λ i. record { entries = alike key.entries a b h g i }

  -- the rows of a lawful table have one new key after such a change
  pub changed_one : (key : Key) (rows : List Row) → AllByRecursion (HasKey key.entries) rows → HaveOneKey key (map change rows)
  changed_one key [] h = tt
  changed_one key (first ∷ rows) h = each rows h.1
    where
      each : (rs : List Row) → AllByRecursion (HasKey key.entries) rs → AllByRecursion (λ row. new_key key row ≡ new_key key (change first)) (map change rs)
      each [] g = tt
      each (row ∷ rs) g = (alike_keys key row first g.0 h.0, each rs g.1)

either_false : (a b : Bool) → (a || b) ≡ false → (a ≡ false) × (b ≡ false)
either_false true b h = absurd (subst T h tt)
either_false false b h = (refl, h)

-- a row that is changed at no label of its key keeps it
pub beside_key : (label : Label) (a b : Row) → ((q : Label) → same_text q label ≡ false → fin.get b q ≡ fin.get a q)
    → (es : List KeyEntry) → list_any (λ e. same_text e.label label) es ≡ false → HasKey es a → HasKey es b
beside_key label a b same [] no_label h = tt
beside_key label a b same (e ∷ es) no_label h =
    let apart = either_false (same_text e.label label) (list_any (λ (e : KeyEntry). same_text e.label label) es) no_label in
    (same e.label apart.0 ∙ h.0, beside_key label a b same es apart.1 h.1)

-- the changed rows under the key of their table
pub keyed_after : (key : Key) (change : Row → Row) (rows : List Row) → keyed key (map change rows) ≡ rows_after (λ k. k) change (record { key = key; rows = rows })
keyed_after key change [] = refl
keyed_after key change (row ∷ rows) = ap (λ rs. record { key = key; row = change row } ∷ rs) (keyed_after key change rows)

-- Tables that get new names one after another.
use Rattle.std.proofs.Common.{◌≡◌, ◌<◌, ◌≤◌, Bool, true, false, List, [], ◌∷◌, ◌++◌, length, map, refl, sym, ap, ◌∙◌, arith}
use Rattle.std.proofs.lemmas.List.{append-nil, map-append}
use Rattle.std.specs.Prelude.{cond, Option, Some}
use Rattle.std.specs.FinMap as fin
use Rattle.std.specs.List.{filter, flat_map}
use Rattle.std.specs.Option.{unwrap_or}
use Rattle.std.specs.Ordering.{eq_by_cmp}
use Rattle.fx_data.specs.Gathered.{gathered, table_of}
use Rattle.fx_data.specs.Key.{key_cmp}
use Rattle.fx_data.specs.Regrouped.{all_joined, alone, bare, joined}
use Rattle.fx_data.specs.Table.{HasRisingLabels, IsLawfulTable}
use Rattle.fx_data.specs.declared.key.Key.{Key}
use Rattle.fx_data.specs.declared.table.Table.{Table}
use Rattle.fx_data.proofs.Keys.{key_cmp_total, key_same}
use Rattle.fx_data.proofs.Regrouped.{get-joined, joined_empty}
use Rattle.fx_group.specs.Answer.{Row}
use Rattle.fx_group.specs.Turned.{Groups, with_rows}
use Rattle.fx_group.proofs.Turned.{joined_both}
use Rattle.fx_shape.specs.Changed.{all_moved, is_bare, rows_after}
use Rattle.fx_shape.specs.Run.{keyed}
use Rattle.fx_shape.specs.Renamed.{all_moved_to, table_moved, tables_moved}

-- ---- the moment of a table without rows

bare_at : (o : Option (List Row)) (a b : Bool) (ys : List Row)
    → cond b (Some (unwrap_or (cond a (Some (unwrap_or o [] ++ [])) o) [] ++ ys)) (cond a (Some (unwrap_or o [] ++ [])) o)
    ≡ cond a (Some (unwrap_or (cond b (Some (unwrap_or o [] ++ ys)) o) [] ++ [])) (cond b (Some (unwrap_or o [] ++ ys)) o)
bare_at o true true ys = ap (λ (rs : List Row). Some (rs ++ ys)) (append-nil (unwrap_or o [])) ∙ ap (λ (rs : List Row). Some rs) (sym (append-nil (unwrap_or o [] ++ ys)))
bare_at o true false ys = refl
bare_at o false true ys = refl
bare_at o false false ys = refl

bare_later : (groups : Groups) (k : Key) (t : Table) → joined (joined groups (bare k)) t ≡ joined (joined groups t) (bare k)
bare_later groups k t =
    fin.same_map key_cmp_total key_same _ _ (λ q.
    get-joined (joined groups (bare k)) t q
    ∙ ap (λ (o : Option (List Row)). cond (eq_by_cmp key_cmp q t.key) (Some (unwrap_or o [] ++ t.rows)) o) (get-joined groups (bare k) q)
    ∙ bare_at (fin.get groups q) (eq_by_cmp key_cmp q k) (eq_by_cmp key_cmp q t.key) t.rows
    ∙ ap (λ (o : Option (List Row)). cond (eq_by_cmp key_cmp q k) (Some (unwrap_or o [] ++ [])) o) (sym (get-joined groups t q))
    ∙ sym (get-joined (joined groups t) (bare k) q))

one_later : (groups : Groups) (k : Key) (ts : List Table) → all_joined (joined groups (bare k)) ts ≡ joined (all_joined groups ts) (bare k)
one_later groups k [] = refl
one_later groups k (t ∷ ts) = ap (λ g. all_joined g ts) (bare_later groups k t) ∙ one_later (joined groups t) k ts

-- ---- table after table

pub bare_by_length : (key : Key) (rows : List Row) → length rows < 1 → HasRisingLabels key → IsLawfulTable (record { key = key; rows = rows })
bare_by_length key [] none rising = record { rising = rising; columns = tt }
bare_by_length key (row ∷ rows) none rising = absurd (omega arith)

module _ (key : Key → Key) (row : Row → Row) where
  module _ (groups : Groups) (t : Table) (ts : List Table) where
    rows_ahead : List Table
    rows_ahead = map alone (flat_map (rows_after key row) ts)

    bare_ahead : List Table
    bare_ahead = map bare (map (λ t. key t.key) (filter is_bare ts))

    one_bare : t.rows ≡ [] → (all : List Table) → all ≡ rows_ahead → all_joined groups (all ++ bare (key t.key) ∷ bare_ahead) ≡ all_joined (joined groups (bare (key t.key))) (all ++ bare_ahead)
    one_bare none all is =
        joined_both groups all (bare (key t.key) ∷ bare_ahead) ∙ ap (λ (g : Groups). all_joined g bare_ahead) (sym (one_later groups (key t.key) all))
        ∙ sym (joined_both (joined groups (bare (key t.key))) all bare_ahead)

    one_with_rows : all_joined groups (map alone (rows_after key row t ++ flat_map (rows_after key row) ts) ++ bare_ahead) ≡ all_joined (with_rows groups (rows_after key row t)) (rows_ahead ++ bare_ahead)
    unfolding rows_ahead
    one_with_rows =
        joined_both groups (map alone (rows_after key row t ++ flat_map (rows_after key row) ts)) bare_ahead
        ∙ ap (λ (us : List Table). all_joined (all_joined groups us) bare_ahead) (map-append alone (rows_after key row t) (flat_map (rows_after key row) ts))
        ∙ ap (λ (g : Groups). all_joined g bare_ahead) (joined_both groups (map alone (rows_after key row t)) (map alone (flat_map (rows_after key row) ts)))
        ∙ sym (joined_both (with_rows groups (rows_after key row t)) (map alone (flat_map (rows_after key row) ts)) bare_ahead)

  pub table_ahead : (groups : Groups) (t : Table) (ts : List Table) → all_moved_to key row groups (t ∷ ts) ≡ all_moved_to key row (table_moved key row groups t) ts
  unfolding rows_ahead bare_ahead
  table_ahead groups t ts =
      elim t.rows as (λ rows. all_moved_to key row groups (record { key = t.key; rows = rows } ∷ ts) ≡ all_moved_to key row (table_moved key row groups (record { key = t.key; rows = rows })) ts) [
        | [] ↦ one_bare groups (record { key = t.key; rows = [] }) ts refl (map alone (flat_map (rows_after key row) ts)) refl
        | first ∷ rows ↦ one_with_rows groups (record { key = t.key; rows = first ∷ rows }) ts
      ]

  keyed_moved : (k : Key) (rows : List Row) → keyed (key k) (map row rows) ≡ rows_after key row (record { key = k; rows = rows })
  keyed_moved k [] = refl
  keyed_moved k (r ∷ rows) = ap (λ rs. record { key = key k; row = row r } ∷ rs) (keyed_moved k rows)

  pub with_some : (groups : Groups) (k : Key) (rows : List Row) → 1 ≤ length rows → with_rows groups (keyed (key k) (map row rows)) ≡ table_moved key row groups (record { key = k; rows = rows })
  with_some groups k [] some = absurd (omega arith)
  with_some groups k (r ∷ rows) some = ap (with_rows groups) (keyed_moved k (r ∷ rows))

  pub with_none : (groups : Groups) (k new : Key) (rows : List Row) → length rows < 1 → new ≡ key k
      → joined groups (record { key = new; rows = rows }) ≡ table_moved key row groups (record { key = k; rows = rows })
  with_none groups k new [] none is = ap (λ (q : Key). joined groups (bare q)) is
  with_none groups k new (r ∷ rows) none is = absurd (omega arith)

  pub moved_is : (tables : List Table) (runs : Groups) → runs ≡ tables_moved key row tables → map table_of (fin.entries runs) ≡ all_moved key row tables
  unfolding gathered
  moved_is tables runs is =
      ap (λ (groups : Groups). map table_of (fin.entries groups))
      (is ∙ joined_empty (map alone (flat_map (rows_after key row) tables) ++ map bare (map (λ t. key t.key) (filter is_bare tables))))

-- What is left of each table is what its rows make when they are set and regrouped.
use Rattle.std.proofs.Common.{◌≡◌, ◌≢◌, ℤ, Bool, true, false, List, [], ◌∷◌, ◌++◌, map, refl, sym, ap, subst, ◌∙◌}
use Rattle.std.proofs.lemmas.List.{append-nil, map-append}
use Rattle.std.specs.Prelude.{cond, Option, Some}
use Rattle.std.specs.Ordering.{eq_by_cmp}
use Rattle.std.specs.Option.{unwrap_or}
use Rattle.std.specs.List.{AllByRecursion, filter, flat_map}
use Rattle.std.specs.FinMap as fin
use Rattle.fx_value.specs.Ends.{Gives, Stuck}
use Rattle.fx_data.specs.Key.{key_cmp}
use Rattle.fx_data.specs.Regrouped.{joined, all_joined, alone, bare}
use Rattle.fx_data.specs.Table.{HasKey, IsLawfulTable}
use Rattle.fx_data.specs.declared.key.Key.{Key}
use Rattle.fx_data.specs.declared.table.Table.{Table}
use Rattle.fx_data.proofs.Gathered.{gathered_same}
use Rattle.fx_data.proofs.Keys.{key_cmp_total, key_same}
use Rattle.fx_data.proofs.Lawful.{fewer_lawful}
use Rattle.fx_data.proofs.Regrouped.{get-joined, joined_twice, joined_empty, key_kept}
use Rattle.fx_group.specs.Answer.{Row}
use Rattle.fx_group.specs.Bounds.{lies_between, table_left}
use Rattle.fx_group.specs.Range.{bounded, ranged, left_of}
use Rattle.fx_group.specs.RangeRows.{bounded_key, set_row, set_rows, bare_key, range_regrouped}
use Rattle.fx_group.specs.Turned.{Groups}
use Rattle.fx_group.proofs.Ranged.{ranged_plain, bounded_lawful, filter_all}
use Rattle.fx_group.proofs.Turned.{joined_both}

-- ---- the moment of tables without rows

bare_at : (o : Option (List Row)) (a b : Bool) (ys : List Row)
    → cond b (Some (unwrap_or (cond a (Some (unwrap_or o [] ++ [])) o) [] ++ ys)) (cond a (Some (unwrap_or o [] ++ [])) o)
    ≡ cond a (Some (unwrap_or (cond b (Some (unwrap_or o [] ++ ys)) o) [] ++ [])) (cond b (Some (unwrap_or o [] ++ ys)) o)
bare_at o true true ys = ap (λ (rs : List Row). Some (rs ++ ys)) (append-nil (unwrap_or o [])) ∙ ap (λ (rs : List Row). Some rs) (sym (append-nil (unwrap_or o [] ++ ys)))
bare_at o true false ys = refl
bare_at o false true ys = refl
bare_at o false false ys = refl

bare_later : (groups : Groups) (k : Key) (t : Table) → joined (joined groups (bare k)) t ≡ joined (joined groups t) (bare k)
bare_later groups k t =
    fin.same_map key_cmp_total key_same _ _ (λ q.
    get-joined (joined groups (bare k)) t q
    ∙ ap (λ (o : Option (List Row)). cond (eq_by_cmp key_cmp q t.key) (Some (unwrap_or o [] ++ t.rows)) o) (get-joined groups (bare k) q)
    ∙ bare_at (fin.get groups q) (eq_by_cmp key_cmp q k) (eq_by_cmp key_cmp q t.key) t.rows
    ∙ ap (λ (o : Option (List Row)). cond (eq_by_cmp key_cmp q k) (Some (unwrap_or o [] ++ [])) o) (sym (get-joined groups t q))
    ∙ sym (get-joined (joined groups t) (bare k) q))

one_later : (groups : Groups) (k : Key) (ts : List Table) → all_joined (joined groups (bare k)) ts ≡ joined (all_joined groups ts) (bare k)
one_later groups k [] = refl
one_later groups k (t ∷ ts) = ap (λ g. all_joined g ts) (bare_later groups k t) ∙ one_later (joined groups t) k ts

all_later : (groups : Groups) (ks : List Key) (ts : List Table) → all_joined (all_joined groups (map bare ks)) ts ≡ all_joined (all_joined groups ts) (map bare ks)
all_later groups [] ts = refl
all_later groups (k ∷ ks) ts = all_later (joined groups (bare k)) ks ts ∙ ap (λ g. all_joined g (map bare ks)) (one_later groups k ts)

-- ---- rows one after another

abbrev single : Key → Row → Table
single key row = record { key = key; rows = row ∷ [] }

one_by_one : (key : Key) (groups : Groups) (row : Row) (rows : List Row) → joined groups (record { key = key; rows = row ∷ rows }) ≡ all_joined groups (map (single key) (row ∷ rows))
one_by_one key groups row [] = refl
one_by_one key groups row (next ∷ rows) = joined_twice groups key (row ∷ []) (next ∷ rows) ∙ one_by_one key (joined groups (single key row)) next rows

module _ (start stop : ℤ) where
  abbrev both : Row → Row
  both row = (set_row start stop (record { entries = [] }) row).row

  twice_set : (key : Key) (rows : List Row) → (bounded start stop (record { key = key; rows = rows })).rows ≡ map both rows
  twice_set key [] = refl
  twice_set key (row ∷ rows) = ap (λ rs. both row ∷ rs) (twice_set key rows)

  -- each row keeps the key to which the labels were added
  singles : (key : Key) (rows : List Row) → AllByRecursion (HasKey (bounded_key start stop key).entries) (map both rows)
      → map alone (map (set_row start stop key) rows) ≡ map (single (bounded_key start stop key)) (map both rows)
  singles key [] h = refl
  singles key (row ∷ rows) h =
      (λ i. single (key_kept (bounded_key start stop key) (both row) h.0 i) (both row) ∷ map alone (map (set_row start stop key) rows))
      ∙ ap (λ ts. single (bounded_key start stop key) (both row) ∷ ts) (singles key rows h.1)

  kept_left : (groups : Groups) (key : Key) (row : Row) (had kept : List Row) → IsLawfulTable (record { key = key; rows = kept })
      → all_joined groups (map (bounded start stop) (left_of key (row ∷ had) kept)) ≡ all_joined groups (map alone (map (set_row start stop key) kept))
  kept_left groups key row had [] lawful = refl
  kept_left groups key row had (x ∷ xs) lawful =
      let columns = subst (AllByRecursion (HasKey (bounded_key start stop key).entries)) (twice_set key (x ∷ xs)) (bounded_lawful start stop (record { key = key; rows = x ∷ xs }) lawful).columns in
      ap (λ (rs : List Row). joined groups (record { key = bounded_key start stop key; rows = rs })) (twice_set key (x ∷ xs))
      ∙ one_by_one (bounded_key start stop key) groups (both x) (map both xs)
      ∙ ap (all_joined groups) (sym (singles key (x ∷ xs) columns))

  rows_left : (groups : Groups) (key : Key) (rows : List Row) → IsLawfulTable (record { key = key; rows = rows })
      → all_joined groups (map (bounded start stop) (left_of key rows (filter (lies_between start stop) rows)))
      ≡ all_joined (all_joined groups (map alone (map (set_row start stop key) (filter (lies_between start stop) rows)))) (map bare (bare_key start stop key rows))
  rows_left groups key [] lawful = refl
  rows_left groups key (row ∷ rows) lawful =
      kept_left groups key row rows (filter (lies_between start stop) (row ∷ rows))
      (fewer_lawful (record { key = key; rows = row ∷ rows }) (filter (lies_between start stop) (row ∷ rows)) lawful
      (filter_all (HasKey key.entries) (lies_between start stop) (row ∷ rows) lawful.columns))

  all_left : (groups : Groups) (tables : List Table) → AllByRecursion IsLawfulTable tables
      → all_joined groups (flat_map (table_left start stop) tables)
      ≡ all_joined (all_joined groups (map alone (flat_map (set_rows start stop) tables))) (map bare (flat_map (λ t. bare_key start stop t.key t.rows) tables))
  all_left groups [] lawful = refl
  all_left groups (t ∷ tables) lawful =
      let rows = map alone (set_rows start stop t) in
      let bares = bare_key start stop t.key t.rows in
      let later_rows = map alone (flat_map (set_rows start stop) tables) in
      let later_bares = flat_map (λ (u : Table). bare_key start stop u.key u.rows) tables in
      joined_both groups (table_left start stop t) (flat_map (table_left start stop) tables)
      ∙ ap (λ g. all_joined g (flat_map (table_left start stop) tables)) (rows_left groups t.key t.rows lawful.0)
      ∙ all_left (all_joined (all_joined groups rows) (map bare bares)) tables lawful.1
      ∙ ap (λ g. all_joined g (map bare later_bares)) (all_later (all_joined groups rows) bares later_rows)
      ∙ sym (joined_both (all_joined (all_joined groups rows) later_rows) (map bare bares) (map bare later_bares))
      ∙ ap (all_joined (all_joined (all_joined groups rows) later_rows)) (sym (map-append bare bares later_bares))
      ∙ ap (λ g. all_joined g (map bare (bares ++ later_bares))) (sym (joined_both groups rows later_rows) ∙ ap (all_joined groups) (sym (map-append alone (set_rows start stop t) (flat_map (set_rows start stop) tables))))

  -- a range is its rows, set and regrouped, and the keys of tables that had none
  pub range_regroups : (tables : List Table) → AllByRecursion IsLawfulTable tables → ranged start stop tables ≢ Stuck
      → ranged start stop tables ≡ Gives (range_regrouped start stop tables) 0
  range_regroups tables lawful unstuck =
      let rows = map alone (flat_map (set_rows start stop) tables) in
      let bares = map bare (flat_map (λ (t : Table). bare_key start stop t.key t.rows) tables) in
      ranged_plain start stop tables unstuck
      ∙ ap (λ (ts : List Table). Gives ts 0) (gathered_same (flat_map (table_left start stop) tables) (rows ++ bares)
      (sym (joined_empty (flat_map (table_left start stop) tables)) ∙ all_left fin.empty tables lawful ∙ sym (joined_both fin.empty rows bares) ∙ joined_empty (rows ++ bares)))

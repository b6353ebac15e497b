-- In a lawful table a key label has the key's value in each row.
use Rattle.std.proofs.Common.{◌≡◌, ℕ, true, false, ◌&&◌, List, [], ◌∷◌, ◌++◌, map, Option, None, Some, refl, ap, sym, ◌∙◌}
use Rattle.std.specs.Prelude.{if◌then◌else◌, unwrap_or}
use Rattle.std.specs.Fmt.{decimal}
use Rattle.std.specs.Option.{option_or}
use Rattle.std.specs.List.{flat_map, AllByRecursion}
use Rattle.std.specs.FinMap as map
use Rattle.std.specs.Cmp.Lexicographic.{bytes_decides}
use Rattle.fx_base.specs.Text.{text_cmp, same_text}
use Rattle.fx_value.specs.declared.scalar.Scalar.{Scalar}
use Rattle.fx_value.specs.declared.scalar.Scalar.TheVariants as scalar
use Rattle.fx_data.specs.declared.key.KeyEntry.{KeyEntry}
use Rattle.fx_data.specs.declared.table.Table.{Table}
use Rattle.fx_data.specs.Table.{HasKey}
use Rattle.fx_csv.specs.declared.column.Column.{Column}
use Rattle.fx_csv.specs.Cells.{scalar_text}
use Rattle.fx_csv.specs.Printed.{column_labels, pinned_value, row_record, value_at}
use Rattle.fx_csv.specs.Records.{record_bytes}
use Rattle.fx_csv.specs.Rows.{cell_for, cell_of, cell_text, key_value, record_of}

abbrev Row : Type 0
Row = map.FinMap text_cmp Scalar

-- a label that the row has is not pinned
not_pinned : (entries : List KeyEntry) (row : Row) (label : List ℕ) (v : Scalar) → HasKey entries row → map.get row label ≡ Some v
    → pinned_value entries label ≡ None
not_pinned [] row label v h there = refl
not_pinned (e ∷ rest) row label v h there =
    elim e.pinned as (λ p. e.pinned ≡ p → (if (p && same_text e.label label) then Some e.value else pinned_value rest label) ≡ None) [
      | true ↦ λ p. elim (same_text e.label label) as (λ s. same_text e.label label ≡ s → (if s then Some e.value else pinned_value rest label) ≡ None) [
        | true ↦ λ s.
            let here : map.get row e.label ≡ Some v = ap (map.get row) ((bytes_decides e.label label).0 s) ∙ there in
            let none : map.get row e.label ≡ None = h.0 ∙ ap (λ b. if b then None else Some e.value) p in
            absurd (cc (here, none))
        | false ↦ λ s. not_pinned rest row label v h.1 there
      ] refl
      | false ↦ λ p. not_pinned rest row label v h.1 there
    ] refl

abbrev shows : List KeyEntry → Row → List ℕ → Option Scalar → List ℕ
shows entries row label pinned = scalar_text (unwrap_or (option_or pinned (map.get row label)) scalar.Null)

cell_is : (entries : List KeyEntry) (row : Row) (label : List ℕ) → HasKey entries row
    → cell_text row (cell_of entries label) ≡ shows entries row label (pinned_value entries label)
cell_is [] row label h = refl
cell_is (e ∷ rest) row label h =
    elim (same_text e.label label) as (λ s. same_text e.label label ≡ s
    → cell_text row (cell_for (if s then Some e.value else key_value rest label) label)
    ≡ shows (e ∷ rest) row label (if (e.pinned && s) then Some e.value else pinned_value rest label)) [
      | true ↦ λ s.
          let same : e.label ≡ label = (bytes_decides e.label label).0 s in
          elim e.pinned as (λ p. e.pinned ≡ p → scalar_text e.value ≡ shows (e ∷ rest) row label (if (p && true) then Some e.value else pinned_value rest label)) [
            | true ↦ λ p. refl
            | false ↦ λ p.
                let there : map.get row label ≡ Some e.value = ap (map.get row) (sym same) ∙ h.0 ∙ ap (λ b. if b then None else Some e.value) p in
                let free : pinned_value rest label ≡ None = not_pinned rest row label e.value h.1 there in
                sym (ap (shows (e ∷ rest) row label) free ∙ ap (λ o. scalar_text (unwrap_or o scalar.Null)) there)
          ] refl
      | false ↦ λ s.
          elim e.pinned as (λ p. cell_text row (cell_of rest label) ≡ shows (e ∷ rest) row label (if (p && false) then Some e.value else pinned_value rest label)) [
            | true ↦ cell_is rest row label h.1
            | false ↦ cell_is rest row label h.1
          ]
    ] refl

cells_are : (t : Table) (row : Row) → HasKey t.key.entries row → (cs : List Column)
    → map (cell_text row) (map (λ c. cell_of t.key.entries c.label) cs) ≡ map (λ label. scalar_text (value_at t label row)) (map (λ c. c.label) cs)
cells_are t row h [] = refl
cells_are t row h (c ∷ cs) = λ i. cell_is t.key.entries row c.label h i ∷ cells_are t row h cs i

pub rows_are : (number : ℕ) (t : Table) (cs : List Column) → map (λ c. c.label) cs ≡ column_labels t → (rows : List Row) → AllByRecursion (HasKey t.key.entries) rows
    → flat_map (λ row. record_bytes (record_of number (map (λ c. cell_of t.key.entries c.label) cs) row)) rows ≡ flat_map record_bytes (map (row_record number t) rows)
rows_are number t cs labels [] h = refl
rows_are number t cs labels (row ∷ rows) h =
    let one : map (cell_text row) (map (λ c. cell_of t.key.entries c.label) cs) ≡ map (λ label. scalar_text (value_at t label row)) (column_labels t)
    = cells_are t row h.0 cs ∙ ap (map (λ label. scalar_text (value_at t label row))) labels in
    λ i. record_bytes ([] ∷ [] ∷ decimal number ∷ one i) ++ rows_are number t cs labels rows h.1 i

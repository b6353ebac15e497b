-- The head records, the rows and the empty line stand one behind the other.
use Rattle.std.proofs.Common.{◌≡◌, ◌∙◌, ℕ, List, ◌++◌, All, map, ap, sym, subst, append_assoc}
use Rattle.std.specs.List.{flat_map}
use Rattle.std.proofs.lemmas.List.Concat.{flat_map-append}
use Rattle.fx_csv.specs.Heads.{heads}
use Rattle.fx_csv.specs.Printed.{column_labels, row_records}
use Rattle.fx_csv.specs.Records.{line_end, record_bytes}
use Rattle.fx_csv.proofs.Numbered.{have_columns, heads_are}
use Rattle.fx_csv.proofs.print.print_block.Goals as goal

pub put_tables-requires-clause-labels : goal.put_tables-requires-clause-labels
put_tables-requires-clause-labels c =
    subst (λ cs. All (λ t. map (λ c. c.label) cs ≡ column_labels t) c.args.run.now) (sym c.requires.shape) (have_columns c.args.run.now c.requires.block)

joined : (out : List ℕ) (hs rs : List (List (List ℕ)))
    → ((out ++ flat_map record_bytes hs) ++ flat_map record_bytes rs) ++ line_end ≡ out ++ (flat_map record_bytes (hs ++ rs) ++ line_end)
joined out hs rs =
    append_assoc (out ++ flat_map record_bytes hs) (flat_map record_bytes rs) line_end
    ∙ append_assoc out (flat_map record_bytes hs) (flat_map record_bytes rs ++ line_end)
    ∙ ap (λ l. out ++ l) (sym (append_assoc (flat_map record_bytes hs) (flat_map record_bytes rs) line_end) ∙ ap (λ l. l ++ line_end) (sym (flat_map-append record_bytes hs rs)))

pub returns : goal.returns
returns c =
    let name = c.args.name.now in
    let run = c.args.run.now in
    let out = c.args.out.items in
    let hs = heads name c.args.columns.now in
    let rs = row_records c.args.number run in
    let one = c.in_ok-put_heads.ensures out c.start-writer.ensures in
    let begun = c.in_ok-text.ensures (out ++ flat_map record_bytes hs) one in
    c.in_ok-extend_from_slice.ensures.items
    ∙ ap (λ l. l ++ line_end) (c.in_ok-put_tables.ensures ∙ ap (λ l. l ++ flat_map record_bytes rs) begun)
    ∙ joined out hs rs
    ∙ ap (λ l. out ++ (flat_map record_bytes (l ++ rs) ++ line_end)) (ap (heads name) c.requires.shape ∙ heads_are name run c.requires.some)

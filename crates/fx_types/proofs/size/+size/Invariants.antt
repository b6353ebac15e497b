use Rattle.std.proofs.Common.{◌≡◌, ◌≤◌, ◌+◌, ◌-◌, ◌^◌, map, take, drop, []}
use Rattle.fx_types.specs.Nodes.{nodes_labels, nodes_fields, capped}
use Rattle.fx_types.specs.Shape.{label_term, entry_term, labels_of, fields_of}
use Rattle.fx_types.proofs.size.+size.Given as goal

abbrev pub invariant-labels_size-loop-i : goal.invariant-labels_size-loop-i
invariant-labels_size-loop-i l =
    (l.size ≤ 2 ^ 64 - 1)
    × (capped (l.size + nodes_labels (map (λ e. e.label) (take l.i l.entries)) (labels_of (map label_term (drop l.i l.entries))))
    ≡ capped (nodes_labels [] (labels_of (map label_term l.entries))))

abbrev pub invariant-fields_size-loop-i : goal.invariant-fields_size-loop-i
invariant-fields_size-loop-i l =
    (l.size ≤ 2 ^ 64 - 1)
    × (capped (l.size + nodes_fields (map (λ e. e.label) (take l.i l.entries)) (fields_of (map entry_term (drop l.i l.entries))))
    ≡ capped (nodes_fields [] (fields_of (map entry_term l.entries))))

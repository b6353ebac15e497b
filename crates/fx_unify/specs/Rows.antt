-- Rows of terms.
use Rattle.std.specs.Prelude.{◌≡◌, true, List, [], ◌∷◌, ◌++◌, map}
use Rattle.fx_types.specs.Term.{Label, is, Row}
use Rattle.fx_types.specs.declared.term.LabelField as entries
use Rattle.fx_types.specs.declared.term.LabelTy as labels
use Rattle.fx_types.specs.Shape.{OfField, term, entry_term, label_term, rest_term, fields_of, labels_of}
use Rattle.fx_types.specs.Ground.{GroundRow, listed}
use Rattle.fx_types.specs.Instance.{Solution, ground_fields, ground_labels, ground_tail}
use Rattle.fx_types.specs.Size.{AreDistinct}
use Rattle.fx_unify.specs.declared.pick.Entries as picks

abbrev pub ground_row : Solution → Row → GroundRow
ground_row s r = ground_fields s r.fields (ground_tail s r.rest)

abbrev pub ground_entries : Solution → picks.Entries → GroundRow
ground_entries s e = ground_fields s (fields_of (map entry_term e.fields.items)) (ground_tail s (rest_term e.rest))

-- a list of labels got more of them, none twice
abbrev pub Grows : List Label → List Label → Type 0
Grows ls ms = ((l : Label) → listed l ls ≡ true → listed l ms ≡ true) × (AreDistinct ls → AreDistinct ms)

-- the two rows have the same at each of the labels
abbrev pub SameAt : GroundRow → GroundRow → List Label → Type 0
SameAt r q [] = Unit {0}
SameAt r q (l ∷ ls) = (r l ≡ q l) × SameAt r q ls

-- the entry of a row that a required label is
abbrev pub as_field : labels.LabelTy → OfField
as_field e = record { label = e.label; field = is (term e.ty) }

-- the two lists of labels give the same at each label, whatever follows them
abbrev pub SameLabels : Solution → List labels.LabelTy → List labels.LabelTy → Type 0
SameLabels s xs ys = (zs : List labels.LabelTy) (l : Label) → ground_labels s (labels_of (map label_term (xs ++ zs))) l ≡ ground_labels s (labels_of (map label_term (ys ++ zs))) l

-- the same of fields, over each row
abbrev pub SameFields : Solution → List entries.LabelField → List entries.LabelField → Type 0
SameFields s xs ys =
    (zs : List entries.LabelField) (q : GroundRow) (l : Label) → ground_fields s (fields_of (map entry_term (xs ++ zs))) q l ≡ ground_fields s (fields_of (map entry_term (ys ++ zs))) q l

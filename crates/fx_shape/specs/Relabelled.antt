-- Maps whose labels go or get other names, in rows and in heads.
use Rattle.std.specs.Prelude.{Bool, Option, None, Some, fold, if◌then◌else◌}
use Rattle.std.specs.FinMap.{FinMap, empty, entries, get, insert, retain_keys}
use Rattle.fx_base.specs.Text.{text_cmp}
use Rattle.fx_shape.specs.Columns.{Label}

abbrev pub put_as : {A : Type 0} → (Label → Label) → FinMap text_cmp A → Label × A → FinMap text_cmp A
put_as name out e = insert out (name e.0) e.1

-- the labels that stay, each under its name; where two of them get one name, the greater one's value stands there
abbrev pub relabelled : {A : Type 0} → (Label → Bool) → (Label → Label) → FinMap text_cmp A → FinMap text_cmp A
relabelled stays name map = fold (put_as name) empty (entries (retain_keys map stays))

-- what one label of a map adds to this

abbrev pub put_there : {A : Type 0} → Option A → Label → FinMap text_cmp A → FinMap text_cmp A
put_there None label out = out
put_there (Some value) label out = insert out label value

abbrev pub put_label : {A : Type 0} → (Label → Bool) → (Label → Label) → FinMap text_cmp A → FinMap text_cmp A → Label → FinMap text_cmp A
put_label stays name map out label = if stays label then put_there (get map label) (name label) out else out

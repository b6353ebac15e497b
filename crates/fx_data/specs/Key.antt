-- The order of keys.
use Rattle.std.specs.declared.cmp.Ordering.{Ordering}
use Rattle.std.specs.Ordering.{bool_cmp, on, then_cmp}
use Rattle.std.specs.Cmp.Lexicographic.{slice_cmp}
use Rattle.fx_base.specs.Text.{text_cmp}
use Rattle.fx_value.specs.Scalar.{scalar_cmp}
use Rattle.fx_data.specs.declared.key.Key.{Key}
use Rattle.fx_data.specs.declared.key.KeyEntry.{KeyEntry}

-- the label by bytes, then the value, then unpinned before pinned
abbrev pub entry_cmp : KeyEntry → KeyEntry → Ordering
entry_cmp = then_cmp (on (λ e. e.label) text_cmp) (then_cmp (on (λ e. e.value) scalar_cmp) (on (λ e. e.pinned) bool_cmp))

-- entry by entry, and a proper prefix comes first
abbrev pub key_cmp : Key → Key → Ordering
key_cmp = on (λ k. k.entries) (slice_cmp entry_cmp)

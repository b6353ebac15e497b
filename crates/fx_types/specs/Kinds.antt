-- The types of kinds of values.
use Rattle.std.specs.Prelude.{◌≡◌, ◌⊎◌, Bool, true, List, [], ◌∷◌}
use Rattle.fx_value.specs.declared.scalar.Kind as kinds
use Rattle.fx_value.specs.declared.scalar.Kind.TheVariants as kind
use Rattle.fx_types.specs.Ground.{Ground, g_bool, g_int, g_text, g_time, g_span}

abbrev pub of_kind : kinds.Kind → Ground
of_kind kind.Bool = g_bool
of_kind kind.Int = g_int
of_kind kind.Text = g_text
of_kind kind.Time = g_time

-- one of the kinds, or a duration where `span` is true
abbrev pub IsAmong : List kinds.Kind → Bool → Ground → Type 0
IsAmong [] span g = (span ≡ true) × (g ≡ g_span)
IsAmong (k ∷ ks) span g = (g ≡ of_kind k) ⊎ IsAmong ks span g

-- Which types a type variable may have, and which of these is the plainest.
use Rattle.std.specs.Prelude.{◌≡◌, ℕ, Bool, true, false, List, slice_index_or, if◌then◌else◌}
use Rattle.fx_types.specs.Term.{Term, bool, int, text, time, type_variable}
use Rattle.fx_types.specs.Ground.{Ground, g_bool, g_int, g_text, g_time, g_span, g_pattern, g_absent, is_column}
use Rattle.fx_types.specs.Instance.{Solution}
use Rattle.fx_unify.specs.declared.sorts.Sorts as code

abbrev pub allows : code.Sorts → Ground → Bool
allows k g_bool = k.boolean
allows k g_int = k.integer
allows k g_text = k.text
allows k g_time = k.time
allows k g_span = k.span
allows k _ = k.other

-- a kind of columns where there is one
abbrev pub plainest_of : code.Sorts → Ground
plainest_of k =
    if k.integer then g_int else if k.boolean then g_bool else if k.text then g_text else if k.time then g_time else if k.span then g_span else g_pattern

abbrev pub every : code.Sorts
every = record { boolean = true; integer = true; text = true; time = true; span = true; other = true }

-- a number beyond the list may have every type
abbrev pub set_at : List code.Sorts → ℕ → code.Sorts
set_at ks n = slice_index_or ks n every

-- each type variable has a type that its set allows
abbrev pub Allowed : Solution → List code.Sorts → Type 0
Allowed s ks = (n : ℕ) → allows (set_at ks n) (s.type_of n) ≡ true

-- what free variables stand for in the least solution: a type of the set, Absent, rows of nothing but Absent
abbrev pub plain_values : List code.Sorts → Solution
plain_values ks = record { type_of = λ n. plainest_of (set_at ks n); field_of = λ n. g_absent; row_of = λ r l. g_absent }

-- a field of the type counts nothing in the least solution, where the type is no bound variable
abbrev pub is_light : List code.Sorts → Term → Bool
is_light ks bool = true
is_light ks int = true
is_light ks text = true
is_light ks time = true
is_light ks (type_variable n) = is_column (plainest_of (set_at ks n))
is_light ks _ = false

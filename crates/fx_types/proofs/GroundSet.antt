-- Between two ground types, or two fields, there is at most one equation.
use Rattle.std.proofs.Common.{◌≡◌, refl, ap, ℕ, arith}
use mathlib.Core.HLevel.{Stable-paths→set}
use Rattle.fx_types.specs.Ground.{Ground, GroundField, GroundRow, g_bool, g_int, g_text, g_time, g_span, g_pattern, g_done, g_array, g_fun, g_rec, g_stream, g_absent, g_is}

-- a number for each form

form : Ground → ℕ
form g_bool = 1
form g_int = 2
form g_text = 3
form g_time = 4
form g_span = 5
form g_pattern = 6
form g_done = 7
form (g_array t) = 8
form (g_fun r p t) = 9
form (g_rec r) = 10
form (g_stream r) = 11

is_there : GroundField → ℕ
is_there g_absent = 0
is_there (g_is t) = 1

-- the parts of each form

element_of : Ground → Ground
element_of (g_array t) = t
element_of t = t

row_of : GroundRow → Ground → GroundRow
row_of d (g_rec r) = r
row_of d (g_stream r) = r
row_of d (g_fun r p t) = r
row_of d _ = d

pipe_of : Ground → GroundField
pipe_of (g_fun r p t) = p
pipe_of _ = g_absent

result_of : Ground → Ground
result_of (g_fun r p t) = t
result_of t = t

type_in : Ground → GroundField → Ground
type_in d (g_is t) = t
type_in d g_absent = d

abbrev Not : Type 0 → Type 0
Not A = A → ⊥

differ : (t u : Ground) → Not (form t ≡ form u) → Not (t ≡ u)
differ t u h e = h (ap form e)

-- what can't be wrong is so
mutual
  unfolding form element_of row_of pipe_of result_of is_there type_in

  stable : (t u : Ground) → Not (Not (t ≡ u)) → t ≡ u
  stable g_bool g_bool h = refl
  stable g_int g_int h = refl
  stable g_text g_text h = refl
  stable g_time g_time h = refl
  stable g_span g_span h = refl
  stable g_pattern g_pattern h = refl
  stable g_done g_done h = refl
  stable (g_array t) (g_array u) h = ap g_array (stable t u (λ k. h (λ e. k (ap element_of e))))
  stable (g_fun r p t) (g_fun q o u) h =
      λ i. g_fun (λ l. stable_field (r l) (q l) (λ k. h (λ e. k (ap (λ g. row_of r g l) e))) i) (stable_field p o (λ k. h (λ e. k (ap pipe_of e))) i) (stable t u (λ k. h (λ e. k (ap result_of e))) i)
  stable (g_rec r) (g_rec q) h = λ i. g_rec (λ l. stable_field (r l) (q l) (λ k. h (λ e. k (ap (λ g. row_of r g l) e))) i)
  stable (g_stream r) (g_stream q) h = λ i. g_stream (λ l. stable_field (r l) (q l) (λ k. h (λ e. k (ap (λ g. row_of r g l) e))) i)
  stable t u h = absurd (h (differ t u (λ e. omega (arith, e))))

  stable_field : (f g : GroundField) → Not (Not (f ≡ g)) → f ≡ g
  stable_field g_absent g_absent h = refl
  stable_field (g_is t) (g_is u) h = ap g_is (stable t u (λ k. h (λ e. k (ap (type_in t) e))))
  stable_field f g h = absurd (h (λ e. (let same : is_there f ≡ is_there g = ap is_there e in omega arith)))

pub field_set : IsSet GroundField
field_set = Stable-paths→set stable_field

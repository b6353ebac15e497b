-- The parts of a type are types.
use Rattle.std.proofs.Common.{◌≡◌, refl, sym, ℕ, ◌+◌, ◌≤◌, true, [], ◌∷◌, arith}
use mathlib.Core.Bool.{true≢false}
use Rattle.fx_types.specs.Ground.{Ground, GroundField, GroundRow, g_bool, g_int, g_text, g_time, g_span, g_pattern, g_done, g_array, g_fun, g_rec, g_stream, g_absent, g_is, is_column, is_plain, IsWellFormedField}
use Rattle.fx_types.specs.Size.{AtMost, Weighs, Takes, Pipes, IsType, total}
use Rattle.fx_types.specs.Term.{Label}
use Rattle.fx_types.proofs.Choices.{by_cases}
use Rattle.fx_types.proofs.PlainLaws.{plain_formed}

pub more_nodes : (t : Ground) (a b : ℕ) → AtMost t a → a ≤ b → AtMost t b
more_nodes (g_array t) a b h le = (h.0, h.1, omega (arith, h.2))
more_nodes (g_fun r p t) a b h le = (h.0, h.1, h.2, h.3, h.4, h.5, λ ls d. (let few : total h.0 ls + h.1 + h.2 + 1 ≤ a = h.6 ls d in omega arith))
more_nodes (g_rec r) a b h le = (h.0, h.1, λ ls d. (let few : total h.0 ls + 1 ≤ a = h.2 ls d in omega arith))
more_nodes (g_stream r) a b h le = (h.0, h.1, λ ls d. (let few : total h.0 ls + 1 ≤ a = h.2 ls d in omega arith))
more_nodes g_bool a b h le = omega arith
more_nodes g_int a b h le = omega arith
more_nodes g_text a b h le = omega arith
more_nodes g_time a b h le = omega arith
more_nodes g_span a b h le = omega arith
more_nodes g_pattern a b h le = omega arith
more_nodes g_done a b h le = omega arith

-- a field of a type: what it has is a type
abbrev pub IsTypeField : GroundField → Type 0
IsTypeField g = IsWellFormedField g × Pipes g 4096

column_small : (t : Ground) → is_column t ≡ true → AtMost t 4096
column_small g_bool e = omega arith
column_small g_int e = omega arith
column_small g_text e = omega arith
column_small g_time e = omega arith
column_small _ e = absurd (true≢false (sym e))

plain_small : (g : GroundField) → is_plain g ≡ true → Pipes g 4096
plain_small g_absent e = tt
plain_small (g_is t) e = column_small t e

weighed_small : (g : GroundField) (n : ℕ) → Weighs g n → n ≤ 4096 → Pipes g 4096
weighed_small g_absent n h le = tt
weighed_small (g_is t) n h le =
    by_cases (is_column t) (column_small t) (λ e. (let few : (h e).0 + 1 ≤ n = (h e).2 in more_nodes t (h e).0 4096 (h e).1 (omega arith)))

taken_small : (g : GroundField) (n : ℕ) → Takes g n → n ≤ 4096 → Pipes g 4096
taken_small g_absent n h le = tt
taken_small (g_is t) n h le = let few : h.0 + 1 ≤ n = h.2 in more_nodes t h.0 4096 h.1 (omega arith)

piped_small : (g : GroundField) (n : ℕ) → Pipes g n → n ≤ 4096 → Pipes g 4096
piped_small g_absent n h le = tt
piped_small (g_is t) n h le = more_nodes t n 4096 h le

pub element_type : (t : Ground) → IsType (g_array t) → IsType t
element_type t h = let few : h.1.0 + 1 ≤ 4096 = h.1.2 in (h.0, more_nodes t h.1.0 4096 h.1.1 (omega arith))

pub record_field : (r : GroundRow) → IsType (g_rec r) → (l : Label) → IsTypeField (r l)
record_field r h l =
    let few : total h.1.0 (l ∷ []) + 1 ≤ 4096 = h.1.2 (l ∷ []) (refl, tt) in (h.0.1 l, weighed_small (r l) (h.1.0 l) (h.1.1 l) (omega arith))

pub stream_field : (r : GroundRow) → IsType (g_stream r) → (l : Label) → IsTypeField (r l)
stream_field r h l = (plain_formed (r l) (plain l), plain_small (r l) (plain l))
  where
    plain : (l : Label) → is_plain (r l) ≡ true
    plain l = h.0.1 l

module _ (r : GroundRow) (p : GroundField) (t : Ground) (h : IsType (g_fun r p t)) where
  pub label_type : (l : Label) → IsTypeField (r l)
  label_type l =
      let few : total h.1.0 (l ∷ []) + h.1.1 + h.1.2 + 1 ≤ 4096 = h.1.6 (l ∷ []) (refl, tt) in (h.0.1 l, taken_small (r l) (h.1.0 l) (h.1.3 l) (omega arith))

  pub pipe_type : IsTypeField p
  pipe_type = let few : total h.1.0 [] + h.1.1 + h.1.2 + 1 ≤ 4096 = h.1.6 [] tt in (h.0.2, piped_small p h.1.1 h.1.4 (omega arith))

  pub result_type : IsType t
  result_type = let few : total h.1.0 [] + h.1.1 + h.1.2 + 1 ≤ 4096 = h.1.6 [] tt in (h.0.3, more_nodes t h.1.2 4096 h.1.5 (omega arith))

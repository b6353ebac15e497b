-- Calls of functions that are values: they are given exactly what their types require.
use Rattle.std.proofs.Common.{◌≡◌, ◌↔◌, inl, inr, refl, sym, ap, ◌∙◌, None}
use Rattle.fx_types.specs.Ground.{Ground, GroundField, GroundRow, g_fun, g_absent, g_is}
use Rattle.fx_schemes.specs.Line.{value}
use Rattle.fx_infer.specs.Arguments.{Takes, TakesAll, TakesByLabel, IsCall, IsPipe}

takes_required : (f g : GroundField) → Takes f g_absent g → f ≡ g
takes_required (g_is t) g h = sym h
takes_required g_absent g (inl e) = sym e
takes_required g_absent g (inr e) = sym e

takes_same : (f : GroundField) → Takes f g_absent f
takes_same (g_is t) = refl
takes_same g_absent = inl refl

required : (needs given : GroundRow) → TakesAll needs (λ l. g_absent) given → needs ≡ given
required needs given h = λ i l. takes_required (needs l) (given l) (h l) i

call_of_value : (u : Ground) (needs given : GroundRow) (input : GroundField) (t : Ground) → u ≡ g_fun needs input t → TakesByLabel None input needs (λ l. g_absent) given
    → u ≡ g_fun given g_absent t
call_of_value u needs given g_absent t e h = e ∙ ap (λ r. g_fun r g_absent t) (required needs given h)
call_of_value u needs given (g_is w) t e h = absurd h

pub value_called : (u : Ground) (given : GroundRow) (t : Ground) → IsCall given (value u) t ↔ (u ≡ g_fun given g_absent t)
value_called u given t = (λ h. call_of_value u h.0 given h.1 t h.2 h.3, λ e. (given, g_absent, e, λ l. takes_same (given l)))

pub value_piped : (u w : Ground) (given : GroundRow) (t : Ground) → IsPipe w given (value u) t ↔ (u ≡ g_fun given (g_is w) t)
value_piped u w given t = (λ h. h.1 ∙ ap (λ r. g_fun r (g_is w) t) (required h.0 given h.2), λ e. (given, e, λ l. takes_same (given l)))

-- What the built-ins that make or show streams take and give.
use Rattle.std.proofs.Common.{◌≡◌, refl, sym, subst, List, [], ◌∷◌}
use Rattle.std.specs.Prelude.{codes}
use Rattle.fx_types.specs.Ground.{GroundField, GroundRow, g_text, g_done, g_array, g_fun, g_stream, g_is}
use Rattle.fx_types.specs.Term.{Label}
use Rattle.fx_schemes.specs.Builtins.{IsLine}
use Rattle.fx_schemes.specs.Given.{Given}
use Rattle.fx_schemes.specs.Line.{Line, from_tables}
use Rattle.fx_meaning.specs.declared.stream.StreamFn.{StreamFn}
use Rattle.fx_meaning.specs.declared.stream.StreamFn.TheVariants as s
use Rattle.fx_meaning.specs.Native.{stream_builtin}
use Rattle.fx_meaning.specs.Natives.{input_labels}
use Rattle.fx_build.specs.Fit.{with_input}

-- the row has a stream at each of the labels
abbrev pub AreStreams : List Label → GroundRow → Type 0
AreStreams [] needs = Unit {0}
AreStreams (x ∷ xs) needs = ((r : GroundRow) × (needs x ≡ g_is (g_stream r))) × AreStreams xs needs

-- `union` has its inputs in one array
abbrev pub HasInputs : StreamFn → GroundRow → Type 0
HasInputs s.Union needs = (r : GroundRow) × (needs (codes "tables") ≡ g_is (g_array (g_stream r)))
HasInputs g needs = AreStreams (input_labels g) needs

-- a function of streams and other arguments to a stream; `yield` alone gives none
abbrev pub MakesStream : StreamFn → Line → Type 0
MakesStream s.Yield L = (r : GroundRow) × (L ≡ from_tables r [] [] ((codes "name", g_text) ∷ []) g_done)
MakesStream g L =
    (needs : GroundRow) × (input : GroundField) × (r : GroundRow) × (L.type ≡ g_fun needs input (g_stream r)) × HasInputs g (with_input L.pipe_label input needs)

along : (g : StreamFn) {L K : Line} → L ≡ K → MakesStream g K → MakesStream g L
along g e h = subst (MakesStream g) (sym e) h

pub stream_lined : (g : StreamFn) (w : Given) (L : Line) → IsLine (stream_builtin g) w L → MakesStream g L
unfolding IsLine
stream_lined s.From w L h = along s.From h (_, _, _, refl, tt)
stream_lined s.Texts w L h = along s.Texts h (_, _, _, refl, tt)
stream_lined s.Bools w L h = along s.Bools h (_, _, _, refl, tt)
stream_lined s.ArrayFrom w L h = along s.ArrayFrom h.1 (_, _, _, refl, tt)
stream_lined s.Range w L h = along s.Range h.6 (_, _, _, refl, ((_, refl), tt))
stream_lined s.Filter w L h = along s.Filter h.1.1 (_, _, _, refl, ((_, refl), tt))
stream_lined s.Map w L h = along s.Map h.2 (_, _, _, refl, ((_, refl), tt))
stream_lined s.Group w L h = along s.Group h.1.2.2 (_, _, _, refl, ((_, refl), tt))
stream_lined s.Union w L h = along s.Union h.1 (_, _, _, refl, (_, refl))
stream_lined s.Window w L h = along s.Window h.2 (_, _, _, refl, ((_, refl), tt))
stream_lined s.AggregateWindow w L h = along s.AggregateWindow h.2.4 (_, _, _, refl, ((_, refl), tt))
stream_lined s.Reduce w L h = along s.Reduce h.2 (_, _, _, refl, ((_, refl), tt))
stream_lined s.Yield w L h = h
stream_lined s.Count w L h = along s.Count h.2.3 (_, _, _, refl, ((_, refl), tt))
stream_lined s.Sum w L h = along s.Sum h.2.3 (_, _, _, refl, ((_, refl), tt))
stream_lined s.Spread w L h = along s.Spread h.2.3 (_, _, _, refl, ((_, refl), tt))
stream_lined s.Distinct w L h = along s.Distinct h.2.3 (_, _, _, refl, ((_, refl), tt))
stream_lined s.Min w L h = along s.Min h.2.3 (_, _, _, refl, ((_, refl), tt))
stream_lined s.Max w L h = along s.Max h.2.3 (_, _, _, refl, ((_, refl), tt))
stream_lined s.First w L h = along s.First h.2.3 (_, _, _, refl, ((_, refl), tt))
stream_lined s.Last w L h = along s.Last h.2.3 (_, _, _, refl, ((_, refl), tt))
stream_lined s.Keep w L h = along s.Keep h.2.2 (_, _, _, refl, ((_, refl), tt))
stream_lined s.DropColumns w L h = along s.DropColumns h.2.1 (_, _, _, refl, ((_, refl), tt))
stream_lined s.Rename w L h = along s.Rename h.2.1.2 (_, _, _, refl, ((_, refl), tt))
stream_lined s.Duplicate w L h = along s.Duplicate h.2.2.4 (_, _, _, refl, ((_, refl), tt))
stream_lined s.Set w L h = along s.Set h.2.1 (_, _, _, refl, ((_, refl), tt))
stream_lined s.Fill w L h = along s.Fill h.2.4 (_, _, _, refl, ((_, refl), tt))
stream_lined s.Sort w L h = along s.Sort h.2.2 (_, _, _, refl, ((_, refl), tt))
stream_lined s.Limit w L h = along s.Limit h.1 (_, _, _, refl, ((_, refl), tt))
stream_lined s.Tail w L h = along s.Tail h.1 (_, _, _, refl, ((_, refl), tt))
stream_lined s.Difference w L h = along s.Difference h.2.2 (_, _, _, refl, ((_, refl), tt))
stream_lined s.CumulativeSum w L h = along s.CumulativeSum h.2.2 (_, _, _, refl, ((_, refl), tt))
stream_lined s.Elapsed w L h = along s.Elapsed h.2.2.2 (_, _, _, refl, ((_, refl), tt))
stream_lined s.Pivot w L h = along s.Pivot h.2.2.2.1.6 (_, _, _, refl, ((_, refl), tt))
stream_lined s.JoinInner w L h = along s.JoinInner h.3 (_, _, _, refl, ((_, refl), ((_, refl), tt)))
stream_lined s.JoinLeft w L h = along s.JoinLeft h.3 (_, _, _, refl, ((_, refl), ((_, refl), tt)))
stream_lined s.JoinRight w L h = along s.JoinRight h.3 (_, _, _, refl, ((_, refl), ((_, refl), tt)))
stream_lined s.JoinFull w L h = along s.JoinFull h.3 (_, _, _, refl, ((_, refl), ((_, refl), tt)))
stream_lined s.JoinTime w L h = along s.JoinTime h.1.5 (_, _, _, refl, ((_, refl), ((_, refl), tt)))

-- A stream that fits is made of operators that make tables.
use Rattle.std.proofs.Common.{◌≡◌, refl, sym, ap, subst, ◌∙◌, true, List, [], ◌∷◌, ℕ}
use Rattle.std.proofs.lemmas.Bool.{and_from}
use Rattle.fx_types.specs.Ground.{Ground, GroundField, GroundRow, g_done, g_array, g_fun, g_stream, g_is}
use Rattle.fx_types.specs.Term.{Label}
use Rattle.fx_ast.specs.Tree.{StatementTree}
use Rattle.fx_infer.specs.Script.{HasTyping}
use Rattle.fx_schemes.specs.Builtins.{IsLine}
use Rattle.fx_schemes.specs.Given.{Given}
use Rattle.fx_schemes.specs.Line.{Line, parameters}
use Rattle.fx_meaning.specs.declared.setting.Setting.{Setting}
use Rattle.fx_meaning.specs.declared.stream.StreamFn.{StreamFn}
use Rattle.fx_meaning.specs.declared.stream.StreamFn.TheVariants as s
use Rattle.fx_meaning.specs.Meaning.{Tests}
use Rattle.fx_meaning.specs.Native.{stream_builtin}
use Rattle.fx_meaning.specs.Natives.{input_labels}
use Rattle.fx_meaning.specs.Value.{Stream, applied, Streams, no_streams, more_streams}
use Rattle.fx_plan.specs.Sources.{AreLawful, Stored}
use Rattle.fx_plan.specs.Streams.{all_listed, inputs_listed, is_listed, yield_meaning}
use Rattle.fx_build.specs.Fit.{InputsFit, inputs_at, inputs_fit, stream_fits, with_input}
use Rattle.fx_build.specs.Rows.{TablesFit}
use Rattle.fx_build.specs.Run.{script_run}
use Rattle.fx_build.specs.Sound.{IsSettingOf, RunFits, ShowsSafely}
use Rattle.fx_build.proofs.RunLaws.{script_safe}
use Rattle.fx_build.proofs.StreamLines.{AreStreams, HasInputs, stream_lined}
use Rattle.fx_build.proofs.StreamRuns.{has_inputs, yield_safe}

-- a yield gives no stream
makes_tables : (g : StreamFn) (w : Given) (L : Line) (needs : GroundRow) (input : GroundField) (r : GroundRow) → IsLine (stream_builtin g) w L → L.type ≡ g_fun needs input (g_stream r) → is_listed g ≡ true
makes_tables s.Yield w L needs input r line type =
    let made = stream_lined s.Yield w L line in
    let clash : g_fun (parameters []) (g_is (g_stream made.0)) g_done ≡ g_fun needs input (g_stream r) = sym (ap (λ l. l.type) made.1) ∙ type in
    absurd cc
makes_tables s.From w L needs input r line type = refl
makes_tables _ w L needs input r line type = refl

module _ (inputs : Streams) (needs : GroundRow) (each : (r : GroundRow) → inputs_fit inputs (g_stream r) → inputs_listed inputs ≡ true) (at : (xs : List Label) → AreStreams xs needs → inputs_at inputs xs needs → inputs_listed inputs ≡ true) where
  inputs_are : (g : StreamFn) → HasInputs g needs → InputsFit g (inputs_fit inputs) (inputs_at inputs) needs → inputs_listed inputs ≡ true
  inputs_are s.Union k h = each k.0 (subst (inputs_fit inputs) (same_streams h.0 k.0 (sym h.1 ∙ k.1)) h.2)
    where
      same_streams : (t : Ground) (r : GroundRow) → g_is (g_array t) ≡ g_is (g_array (g_stream r)) → t ≡ g_stream r
      same_streams t r e = cc
  inputs_are s.From k h = at (input_labels s.From) k h
  inputs_are g k h = at (input_labels g) k h

mutual
  pub fits_listed : (call : Stream) (r : GroundRow) → stream_fits call (g_stream r) → all_listed call ≡ true
  fits_listed (applied g place inputs args) r h =
      let needs = with_input h.1.pipe_label h.3 h.2 in
      and_from (is_listed g) (inputs_listed inputs) (makes_tables g h.0 h.1 h.2 h.3 r h.5 h.7)
      (inputs_are inputs needs (λ q fit. each_listed inputs q fit) (λ xs streams fit. labels_listed inputs xs needs streams fit) g (has_inputs h.1 h.2 h.3 r h.7 g (stream_lined g h.0 h.1 h.5)) h.8)

  each_listed : (calls : Streams) (r : GroundRow) → inputs_fit calls (g_stream r) → inputs_listed calls ≡ true
  each_listed no_streams r h = refl
  each_listed (more_streams call calls) r h = and_from (all_listed call) (inputs_listed calls) (fits_listed call r h.0) (each_listed calls r h.1)

  labels_listed : (calls : Streams) (xs : List Label) (needs : GroundRow) → AreStreams xs needs → inputs_at calls xs needs → inputs_listed calls ≡ true
  labels_listed no_streams xs needs streams h = refl
  labels_listed (more_streams call calls) [] needs streams h = absurd h
  labels_listed (more_streams call calls) (x ∷ xs) needs streams h =
      let same : h.0.0 ≡ g_stream streams.0.0 = cc (h.0.1, streams.0.1) in
      and_from (all_listed call) (inputs_listed calls) (fits_listed call streams.0.0 (subst (stream_fits call) same h.0.2)) (labels_listed calls xs needs streams.1 h.1)

-- so each yield is safe, and with it each run
shows_safely : (test : Tests) (stored : Stored) → AreLawful stored → ShowsSafely TablesFit (yield_meaning test stored)
shows_safely test stored lawful call r limit h = yield_safe test stored lawful call r limit (fits_listed call r h) h

pub run_safe : (test : Tests) (setting : Setting) (stored : Stored) (ss : List StatementTree) (limit : ℕ) → AreLawful stored → HasTyping ss → IsSettingOf setting ss
    → RunFits TablesFit ss [] (script_run test setting (yield_meaning test stored) ss limit)
run_safe test setting stored ss limit lawful h is = script_safe TablesFit test setting (yield_meaning test stored) ss limit h is (shows_safely test stored lawful)

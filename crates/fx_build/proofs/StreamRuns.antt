-- A stream that fits is Stuck under no limit, and the rows of its tables fit.
use Rattle.std.proofs.Common.{◌≡◌, sym, ap, subst, ◌∙◌, true, ◌+◌, List, [], ◌∷◌, length, ℕ, Some}
use Rattle.std.specs.Prelude.{if◌then◌else◌}
use Rattle.std.specs.List.{AllByRecursion}
use Rattle.std.proofs.lemmas.Bool.{and_parts}
use mathlib.Core.Bool.{false≢true}
use Rattle.fx_base.specs.declared.place.Place.{Place}
use Rattle.fx_value.specs.Ends.{End, Gives}
use Rattle.fx_types.specs.Ground.{Ground, GroundField, GroundRow, g_done, g_array, g_fun, g_stream, g_is}
use Rattle.fx_types.specs.Size.{IsType}
use Rattle.fx_types.specs.Term.{Label}
use Rattle.fx_data.specs.declared.table.Table.{Table}
use Rattle.fx_schemes.specs.Builtins.{IsLine}
use Rattle.fx_schemes.specs.Given.{Given}
use Rattle.fx_schemes.specs.Line.{Line, parameters}
use Rattle.fx_meaning.specs.declared.stream.StreamFn.{StreamFn}
use Rattle.fx_meaning.specs.declared.stream.StreamFn.TheVariants as s
use Rattle.fx_meaning.specs.Ends.{◌>>=◌, found, pure}
use Rattle.fx_meaning.specs.Meaning.{Tests}
use Rattle.fx_meaning.specs.Native.{stream_builtin}
use Rattle.fx_meaning.specs.Natives.{input_labels}
use Rattle.fx_meaning.specs.Value.{Slots, Stream, applied, Streams, no_streams, more_streams}
use Rattle.fx_build.specs.Fit.{FurtherFit, InputsFit, inputs_at, inputs_fit, keeps_at, stream_fits, with_input}
use Rattle.fx_build.specs.Rows.{TablesFit}
use Rattle.fx_build.specs.Safe.{IsSafe}
use Rattle.fx_plan.specs.Said.{said_in}
use Rattle.fx_plan.specs.Operators.{operator}
use Rattle.fx_plan.specs.Sources.{AreLawful, Stored}
use Rattle.fx_plan.specs.Streams.{all_listed, counted, inputs_listed, inputs_run, is_listed, is_source, operator_run, size_of, sizes_of, stream_meaning, stream_run, yield_meaning}
use Rattle.fx_build.proofs.AggregateCalls.{count_safe, distinct_safe, spread_safe, sum_safe}
use Rattle.fx_build.proofs.ChoiceCalls.{first_safe, last_safe, max_safe, min_safe}
use Rattle.fx_build.proofs.FoldCalls.{reduce_safe}
use Rattle.fx_build.proofs.ColumnCalls.{drop_safe, duplicate_safe, fill_safe, group_safe, keep_safe, limit_safe, set_safe, tail_safe, union_safe}
use Rattle.fx_build.proofs.CutCalls.{aggregate_window_safe}
use Rattle.fx_build.proofs.JoinCalls.{full_safe, inner_safe, left_safe, right_safe, time_safe}
use Rattle.fx_build.proofs.OperatorCalls.{AreTables, HaveTables, OperatorIsSafe, array_safe, bools_safe, filter_safe, from_safe, map_safe, range_safe, texts_safe}
use Rattle.fx_build.proofs.PivotCalls.{pivot_safe}
use Rattle.fx_build.proofs.RenameCalls.{rename_safe}
use Rattle.fx_build.proofs.RunningCalls.{cumulative_safe, difference_safe, elapsed_safe}
use Rattle.fx_build.proofs.SafeLaws.{safe_as, safe_cut, safe_later, safe_then}
use Rattle.fx_build.proofs.SortCalls.{sort_safe}
use Rattle.fx_build.proofs.StreamLines.{AreStreams, HasInputs, MakesStream, stream_lined}
use Rattle.fx_build.proofs.WindowCalls.{window_safe}

-- ---- what a line that gives a stream takes

module _ (L : Line) (needs : GroundRow) (input : GroundField) (r : GroundRow) (type : L.type ≡ g_fun needs input (g_stream r)) where
  moved : (g : StreamFn) → ((n : GroundRow) × (i : GroundField) × (q : GroundRow) × (L.type ≡ g_fun n i (g_stream q)) × HasInputs g (with_input L.pipe_label i n)) → HasInputs g (with_input L.pipe_label input needs)
  moved g k =
      let made : g_fun k.0 k.1 (g_stream k.2) ≡ g_fun needs input (g_stream r) = sym k.3 ∙ type in
      let same_needs : k.0 ≡ needs = cc in
      let same_input : k.1 ≡ input = cc in
      subst (λ i. HasInputs g (with_input L.pipe_label i needs)) same_input (subst (λ q. HasInputs g (with_input L.pipe_label k.1 q)) same_needs k.4)

  pub has_inputs : (g : StreamFn) → MakesStream g L → HasInputs g (with_input L.pipe_label input needs)
  has_inputs s.Yield k = let clash : g_fun (parameters []) (g_is (g_stream k.0)) g_done ≡ g_fun needs input (g_stream r) = sym (ap (λ l. l.type) k.1) ∙ type in absurd cc
  has_inputs s.From k = moved s.From k
  has_inputs g k = moved g k

module _ (test : Tests) (stored : Stored) (lawful : AreLawful stored) where
  pub operator_safe : (g : StreamFn) → is_listed g ≡ true → OperatorIsSafe test stored g
  operator_safe s.From listed = from_safe test stored lawful
  operator_safe s.Texts listed = texts_safe test stored lawful
  operator_safe s.Bools listed = bools_safe test stored lawful
  operator_safe s.ArrayFrom listed = array_safe test stored
  operator_safe s.Range listed = range_safe test stored
  operator_safe s.Filter listed = filter_safe test stored
  operator_safe s.Map listed = map_safe test stored
  operator_safe s.Group listed = group_safe test stored
  operator_safe s.Union listed = union_safe test stored
  operator_safe s.Limit listed = limit_safe test stored
  operator_safe s.Tail listed = tail_safe test stored
  operator_safe s.Keep listed = keep_safe test stored
  operator_safe s.DropColumns listed = drop_safe test stored
  operator_safe s.Set listed = set_safe test stored
  operator_safe s.Fill listed = fill_safe test stored
  operator_safe s.Duplicate listed = duplicate_safe test stored
  operator_safe s.Min listed = min_safe test stored
  operator_safe s.Max listed = max_safe test stored
  operator_safe s.First listed = first_safe test stored
  operator_safe s.Last listed = last_safe test stored
  operator_safe s.Reduce listed = reduce_safe test stored
  operator_safe s.Rename listed = rename_safe test stored
  operator_safe s.Sort listed = sort_safe test stored
  operator_safe s.JoinInner listed = inner_safe test stored
  operator_safe s.JoinLeft listed = left_safe test stored
  operator_safe s.JoinRight listed = right_safe test stored
  operator_safe s.JoinFull listed = full_safe test stored
  operator_safe s.JoinTime listed = time_safe test stored
  operator_safe s.Difference listed = difference_safe test stored
  operator_safe s.CumulativeSum listed = cumulative_safe test stored
  operator_safe s.Elapsed listed = elapsed_safe test stored
  operator_safe s.Window listed = window_safe test stored
  operator_safe s.Pivot listed = pivot_safe test stored
  operator_safe s.Count listed = count_safe test stored
  operator_safe s.Sum listed = sum_safe test stored
  operator_safe s.Spread listed = spread_safe test stored
  operator_safe s.Distinct listed = distinct_safe test stored
  operator_safe s.AggregateWindow listed = aggregate_window_safe test stored
  operator_safe s.Yield listed = absurd (false≢true listed)

  counted_safe : (g : StreamFn) (r : GroundRow) (received : List (List Table)) (made : End (List Table)) → IsSafe (TablesFit r) made → IsSafe (TablesFit r) (counted g received made)
  counted_safe g r received made h =
      safe_later (TablesFit r) (1 + sizes_of received) (made >>= (λ ts. Gives ts (if is_source g then size_of ts else length ts)))
      (safe_then (TablesFit r) (TablesFit r) made (λ ts. Gives ts (if is_source g then size_of ts else length ts)) h (λ ts fit. fit))

  -- an operator on what its inputs made
  run_safe : (g : StreamFn) (place : Place) (args : Slots) (r : GroundRow) (limit : ℕ) (w : Given) (L : Line) (needs : GroundRow) (input : GroundField) (tss : List (List Table))
      → is_listed g ≡ true → said_in (Some (stream_builtin g)) args ≡ Some w → IsLine (stream_builtin g) w L → IsType L.type → L.type ≡ g_fun needs input (g_stream r)
      → FurtherFit g args (keeps_at args) (with_input L.pipe_label input needs) L.optional → HaveTables g (with_input L.pipe_label input needs) tss
      → IsSafe (TablesFit r) (operator_run test stored g place args limit tss)
  run_safe g place args r limit w L needs input tss listed says line is type further have =
      subst (λ o. IsSafe (TablesFit r) (found o >>= (λ w. counted g tss (operator test stored g place w args limit tss)))) (sym says)
      (safe_later (TablesFit r) 0 (counted g tss (operator test stored g place w args limit tss))
      (counted_safe g r tss (operator test stored g place w args limit tss) (operator_safe g listed place w L needs input r args limit tss line is type have further)))

  -- the inputs of an operator, from what is known of each of them
  module _ (inputs : Streams) (limit : ℕ) (needs : GroundRow) (each : (r : GroundRow) → inputs_fit inputs (g_stream r) → IsSafe (AllByRecursion (TablesFit r)) (inputs_run test stored inputs limit))
      (at : (xs : List Label) → AreStreams xs needs → inputs_at inputs xs needs → IsSafe (AreTables xs needs) (inputs_run test stored inputs limit)) where
    inputs_safe : (g : StreamFn) → HasInputs g needs → InputsFit g (inputs_fit inputs) (inputs_at inputs) needs → IsSafe (HaveTables g needs) (inputs_run test stored inputs limit)
    inputs_safe s.Union k h =
        let same : h.0 ≡ g_stream k.0 = same_streams h.0 k.0 (sym h.1 ∙ k.1) in
        safe_as (AllByRecursion (TablesFit k.0)) (HaveTables s.Union needs) (inputs_run test stored inputs limit) (λ tss fit. (k.0, k.1, fit)) (each k.0 (subst (inputs_fit inputs) same h.2))
      where
        same_streams : (t : Ground) (r : GroundRow) → g_is (g_array t) ≡ g_is (g_array (g_stream r)) → t ≡ g_stream r
        same_streams t r e = cc
    inputs_safe s.From k h = at (input_labels s.From) k h
    inputs_safe g k h = at (input_labels g) k h

  mutual
    pub stream_run_safe : (call : Stream) (r : GroundRow) (limit : ℕ) → all_listed call ≡ true → stream_fits call (g_stream r) → IsSafe (TablesFit r) (stream_run test stored call limit)
    stream_run_safe (applied g place inputs args) r limit listed h =
        let both = and_parts (is_listed g) (inputs_listed inputs) listed in
        let needs = with_input h.1.pipe_label h.3 h.2 in
        safe_then (HaveTables g needs) (TablesFit r) (inputs_run test stored inputs limit) (operator_run test stored g place args limit)
        (inputs_safe inputs limit needs (λ q fit. each_safe inputs q limit both.1 fit) (λ xs streams fit. labels_safe inputs xs needs limit both.1 streams fit) g
        (has_inputs h.1 h.2 h.3 r h.7 g (stream_lined g h.0 h.1 h.5)) h.8)
        (λ tss have. run_safe g place args r limit h.0 h.1 h.2 h.3 tss both.0 h.4 h.5 h.6 h.7 h.9 have)

    each_safe : (calls : Streams) (r : GroundRow) (limit : ℕ) → inputs_listed calls ≡ true → inputs_fit calls (g_stream r) → IsSafe (AllByRecursion (TablesFit r)) (inputs_run test stored calls limit)
    each_safe no_streams r limit listed h = tt
    each_safe (more_streams call calls) r limit listed h =
        let both = and_parts (all_listed call) (inputs_listed calls) listed in
        safe_then (TablesFit r) (AllByRecursion (TablesFit r)) (stream_run test stored call limit) (λ ts. inputs_run test stored calls limit >>= (λ tss. pure (ts ∷ tss)))
        (stream_run_safe call r limit both.0 h.0)
        (λ ts fit. safe_then (AllByRecursion (TablesFit r)) (AllByRecursion (TablesFit r)) (inputs_run test stored calls limit) (λ tss. pure (ts ∷ tss)) (each_safe calls r limit both.1 h.1) (λ tss all. (fit, all)))

    labels_safe : (calls : Streams) (xs : List Label) (needs : GroundRow) (limit : ℕ) → inputs_listed calls ≡ true → AreStreams xs needs → inputs_at calls xs needs
        → IsSafe (AreTables xs needs) (inputs_run test stored calls limit)
    labels_safe no_streams xs needs limit listed streams h = subst (λ ys. AreTables ys needs []) (sym h) tt
    labels_safe (more_streams call calls) [] needs limit listed streams h = absurd h
    labels_safe (more_streams call calls) (x ∷ xs) needs limit listed streams h =
        let both = and_parts (all_listed call) (inputs_listed calls) listed in
        let r = streams.0.0 in
        let same : h.0.0 ≡ g_stream r = cc (h.0.1, streams.0.1) in
        safe_then (TablesFit r) (AreTables (x ∷ xs) needs) (stream_run test stored call limit) (λ ts. inputs_run test stored calls limit >>= (λ tss. pure (ts ∷ tss)))
        (stream_run_safe call r limit both.0 (subst (stream_fits call) same h.0.2))
        (λ ts fit. safe_then (AreTables xs needs) (AreTables (x ∷ xs) needs) (inputs_run test stored calls limit) (λ tss. pure (ts ∷ tss)) (labels_safe calls xs needs limit both.1 streams.1 h.1)
        (λ tss all. ((r, streams.0.1, fit), all)))

  -- the meaning of a stream that fits isn't stuck under any limit, and its rows fit
  pub stream_safe : (call : Stream) (r : GroundRow) (limit : ℕ) → all_listed call ≡ true → stream_fits call (g_stream r) → IsSafe (TablesFit r) (stream_meaning test stored call limit)
  unfolding stream_meaning
  stream_safe call r limit listed h = safe_cut (TablesFit r) limit (stream_run test stored call limit) (stream_run_safe call r limit listed h)

  -- nor is its yield
  pub yield_safe : (call : Stream) (r : GroundRow) (limit : ℕ) → all_listed call ≡ true → stream_fits call (g_stream r) → IsSafe (TablesFit r) (yield_meaning test stored call limit)
  unfolding yield_meaning
  yield_safe call r limit listed h =
      safe_cut (TablesFit r) limit (stream_run test stored call limit >>= (λ ts. Gives ts (1 + size_of ts)))
      (safe_then (TablesFit r) (TablesFit r) (stream_run test stored call limit) (λ ts. Gives ts (1 + size_of ts)) (stream_run_safe call r limit listed h) (λ ts fit. fit))

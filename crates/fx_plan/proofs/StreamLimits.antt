-- The meaning of a stream has one end at most: it is within its limit, and stays under each greater one.
use Rattle.std.proofs.Common.{Bool, true, false, ◌+◌, List, [], ◌∷◌, length, ℕ, Some}
use Rattle.std.specs.Prelude.{if◌then◌else◌, codes}
use Rattle.fx_base.specs.declared.place.Place.{Place}
use Rattle.fx_value.specs.Ends.{End, Gives, IsLimited, Stuck, and_then}
use Rattle.fx_value.specs.Works.{IsSteady}
use Rattle.fx_value.proofs.Ends.{limited_cut, steady_limited, steady_same, steady_then}
use Rattle.fx_data.specs.Regrouped.{regrouped}
use Rattle.fx_data.specs.declared.table.Table.{Table}
use Rattle.fx_agg.specs.Reduce.{reduced, reduced_tables}
use Rattle.fx_agg.proofs.Reduced.{steady_tables}
use Rattle.fx_group.specs.Answer.{Meaning}
use Rattle.fx_group.specs.Filter.{filtered, kept_tables}
use Rattle.fx_group.specs.Map.{mapped, mapped_tables}
use Rattle.fx_group.proofs.Steady.{steady_kept_tables, steady_mapped_tables}
use Rattle.fx_join.specs.Joined.{all_met_rows, joined}
use Rattle.fx_join.specs.Limited.{same_times_limited}
use Rattle.fx_join.specs.Meet.{meetings}
use Rattle.fx_join.specs.SameTime.{joined_by_time, same_times}
use Rattle.fx_join.specs.declared.side.Side.{Side}
use Rattle.fx_join.specs.declared.side.Side.TheVariants.{Full, Inner, Left, Right}
use Rattle.fx_join.proofs.SteadyJoins.{steady_all}
use Rattle.fx_schemes.specs.Given.{Given, text_at}
use Rattle.fx_meaning.specs.declared.stream.StreamFn.{StreamFn}
use Rattle.fx_meaning.specs.declared.stream.StreamFn.TheVariants as s
use Rattle.fx_meaning.specs.Ends.{◌>>=◌, found, pure}
use Rattle.fx_meaning.specs.Forms.{argument}
use Rattle.fx_meaning.specs.Meaning.{Tests}
use Rattle.fx_meaning.specs.Native.{stream_builtin}
use Rattle.fx_meaning.specs.Rows.{Row, row_meaning}
use Rattle.fx_meaning.specs.Value.{Slots, Stream, applied, Streams, no_streams, more_streams}
use Rattle.fx_meaning.proofs.MeaningLaws.{row_limited}
use Rattle.fx_plan.specs.Operators.{drops, of_folded_rows, of_made_rows, of_one, of_pairs, of_times, of_two, of_wanted_rows, operator, row_in, side_named}
use Rattle.fx_plan.specs.Said.{said_in}
use Rattle.fx_plan.specs.Sources.{Stored}
use Rattle.fx_plan.specs.Streams.{counted, inputs_run, is_source, operator_run, size_of, sizes_of, stream_meaning, stream_run, yield_meaning}

-- ---- operators that call functions of rows

module _ (means : Meaning) (limited : (rows : List Row) → IsLimited (means rows)) (tables : List Table) where
  filtered_steady : IsSteady (filtered means tables)
  unfolding filtered
  filtered_steady = steady_limited (filtered means tables) (limited_cut (kept_tables means tables) (steady_kept_tables means limited tables))

  mapped_steady : IsSteady (mapped means tables)
  unfolding mapped
  mapped_steady =
      steady_limited (mapped means tables) (limited_cut (λ n. and_then (mapped_tables means tables n) (λ rows. Gives (regrouped rows) 0))
      (steady_then (mapped_tables means tables) (λ rows n. Gives (regrouped rows) 0) (steady_mapped_tables means limited tables) (λ rows. steady_same {A = List Table} (Gives (regrouped rows) 0))))

  reduced_steady : (identity : Row) → IsSteady (reduced means identity tables)
  unfolding reduced
  reduced_steady identity =
      steady_limited (reduced means identity tables) (limited_cut (λ n. and_then (reduced_tables means identity tables n) (λ rows. Gives (regrouped rows) 0))
      (steady_then (reduced_tables means identity tables) (λ rows n. Gives (regrouped rows) 0) (steady_tables means limited identity tables) (λ rows. steady_same {A = List Table} (Gives (regrouped rows) 0))))

joined_steady : (on : Meaning) → ((rows : List Row) → IsLimited (on rows)) → (both : Meaning) → ((rows : List Row) → IsLimited (both rows)) → (side : Side) (ls rs : List Table) → IsSteady (joined on both side ls rs)
unfolding joined
joined_steady on on_limited both both_limited side ls rs =
    steady_limited (joined on both side ls rs) (limited_cut (λ n. and_then (all_met_rows on both side (meetings ls rs) n) (λ rows. Gives (regrouped rows) 0))
    (steady_then (all_met_rows on both side (meetings ls rs)) (λ rows n. Gives (regrouped rows) 0) (steady_all on on_limited both both_limited side (meetings ls rs))
    (λ rows. steady_same {A = List Table} (Gives (regrouped rows) 0))))

two_steady : (f : ℕ → List Table → List Table → End (List Table)) → ((ls rs : List Table) → IsSteady (λ n. f n ls rs)) → (tss : List (List Table)) → IsSteady (λ n. of_two (f n) tss)
two_steady f steady [] = steady_same {A = List Table} Stuck
two_steady f steady (ls ∷ []) = steady_same {A = List Table} Stuck
two_steady f steady (ls ∷ rs ∷ []) = steady ls rs
two_steady f steady (ls ∷ rs ∷ us ∷ tss) = steady_same {A = List Table} Stuck

one_steady : (made : ℕ → List Table → End (List Table)) → ((ts : List Table) → IsSteady (λ n. made n ts)) → (tss : List (List Table)) → IsSteady (λ n. of_one (made n) tss)
one_steady made steady [] = steady_same {A = List Table} Stuck
one_steady made steady (ts ∷ []) = steady ts
one_steady made steady (ts ∷ us ∷ tss) = steady_same {A = List Table} Stuck

module _ (test : Tests) (stored : Stored) where
  wanted_steady : (w : Given) (args : Slots) (ts : List Table) → IsSteady (of_wanted_rows test stored w args ts)
  wanted_steady w args ts = at (drops w)
    where
      at : (c : Bool) → IsSteady (λ n. if c then (argument (codes "fn") args >>= (λ f. filtered (row_meaning test f) ts n)) else Stuck)
      at true = steady_then (λ n. argument (codes "fn") args) (λ f n. filtered (row_meaning test f) ts n) (steady_same (argument (codes "fn") args)) (λ f. filtered_steady (row_meaning test f) (row_limited test f) ts)
      at false = steady_same {A = List Table} Stuck

  made_steady : (args : Slots) (ts : List Table) → IsSteady (of_made_rows test stored args ts)
  made_steady args ts = steady_then (λ n. argument (codes "fn") args) (λ f n. mapped (row_meaning test f) ts n) (steady_same (argument (codes "fn") args)) (λ f. mapped_steady (row_meaning test f) (row_limited test f) ts)

  folded_steady : (args : Slots) (ts : List Table) → IsSteady (of_folded_rows test stored args ts)
  folded_steady args ts =
      steady_then (λ n. argument (codes "identity") args) (λ v n. row_in v >>= (λ identity. argument (codes "fn") args >>= (λ f. reduced (row_meaning test f) identity ts n))) (steady_same (argument (codes "identity") args))
      (λ v. steady_then (λ n. row_in v) (λ identity n. argument (codes "fn") args >>= (λ f. reduced (row_meaning test f) identity ts n)) (steady_same (row_in v))
      (λ identity. steady_then (λ n. argument (codes "fn") args) (λ f n. reduced (row_meaning test f) identity ts n) (steady_same (argument (codes "fn") args))
      (λ f. reduced_steady (row_meaning test f) (row_limited test f) ts identity)))

  pairs_steady : (side : Side) (args : Slots) (ls rs : List Table) → IsSteady (λ n. of_pairs test stored side args n ls rs)
  pairs_steady side args ls rs =
      steady_then (λ n. argument (codes "on") args) (λ on n. argument (codes "as") args >>= (λ both. joined (row_meaning test on) (row_meaning test both) side ls rs n)) (steady_same (argument (codes "on") args))
      (λ on. steady_then (λ n. argument (codes "as") args) (λ both n. joined (row_meaning test on) (row_meaning test both) side ls rs n) (steady_same (argument (codes "as") args))
      (λ both. joined_steady (row_meaning test on) (row_limited test on) (row_meaning test both) (row_limited test both) side ls rs))

  times_steady : (w : Given) (args : Slots) (ls rs : List Table) → IsSteady (λ n. of_times test stored w args n ls rs)
  times_steady w args ls rs =
      let method = found (text_at w (codes "method") (Some (codes "inner"))) in
      steady_then (λ n. method) (λ method n. found (side_named method) >>= (λ side. argument (codes "as") args >>= (λ both. joined_by_time (row_meaning test both) side ls rs n))) (steady_same method)
      (λ method. steady_then (λ n. found (side_named method)) (λ side n. argument (codes "as") args >>= (λ both. joined_by_time (row_meaning test both) side ls rs n)) (steady_same (found (side_named method)))
      (λ side. steady_then (λ n. argument (codes "as") args) (λ both n. joined_by_time (row_meaning test both) side ls rs n) (steady_same (argument (codes "as") args))
      (λ both. joined_steady (same_times (codes "_time")) (same_times_limited (codes "_time")) (row_meaning test both) (row_limited test both) side ls rs)))

  -- the others make the same under each limit
  operator_steady : (g : StreamFn) (place : Place) (w : Given) (args : Slots) (tss : List (List Table)) → IsSteady (λ n. operator test stored g place w args n tss)
  operator_steady s.Filter place w args tss = one_steady (λ n ts. of_wanted_rows test stored w args ts n) (wanted_steady w args) tss
  operator_steady s.Map place w args tss = one_steady (λ n ts. of_made_rows test stored args ts n) (made_steady args) tss
  operator_steady s.Reduce place w args tss = one_steady (λ n ts. of_folded_rows test stored args ts n) (folded_steady args) tss
  operator_steady s.JoinInner place w args tss = two_steady (λ n ls rs. of_pairs test stored Inner args n ls rs) (pairs_steady Inner args) tss
  operator_steady s.JoinLeft place w args tss = two_steady (λ n ls rs. of_pairs test stored Left args n ls rs) (pairs_steady Left args) tss
  operator_steady s.JoinRight place w args tss = two_steady (λ n ls rs. of_pairs test stored Right args n ls rs) (pairs_steady Right args) tss
  operator_steady s.JoinFull place w args tss = two_steady (λ n ls rs. of_pairs test stored Full args n ls rs) (pairs_steady Full args) tss
  operator_steady s.JoinTime place w args tss = two_steady (λ n ls rs. of_times test stored w args n ls rs) (times_steady w args) tss
  operator_steady s.From place w args tss = steady_same (operator test stored s.From place w args 0 tss)
  operator_steady g place w args tss = steady_same (operator test stored g place w args 0 tss)

  counted_steady : (g : StreamFn) (received : List (List Table)) (made : ℕ → End (List Table)) → IsSteady made → IsSteady (λ n. counted g received (made n))
  counted_steady g received made steady =
      steady_then (λ n. Gives received (1 + sizes_of received)) (λ _ n. made n >>= (λ ts. Gives ts (if is_source g then size_of ts else length ts))) (steady_same (Gives received (1 + sizes_of received)))
      (λ _. steady_then made (λ ts n. Gives ts (if is_source g then size_of ts else length ts)) steady (λ ts. steady_same (Gives ts (if is_source g then size_of ts else length ts))))

  run_steady : (g : StreamFn) (place : Place) (args : Slots) (tss : List (List Table)) → IsSteady (λ n. operator_run test stored g place args n tss)
  run_steady g place args tss =
      steady_then (λ n. found (said_in (Some (stream_builtin g)) args)) (λ w n. counted g tss (operator test stored g place w args n tss)) (steady_same (found (said_in (Some (stream_builtin g)) args)))
      (λ w. counted_steady g tss (λ n. operator test stored g place w args n tss) (operator_steady g place w args tss))

  mutual
    stream_steady : (call : Stream) → IsSteady (stream_run test stored call)
    stream_steady (applied g place inputs args) = steady_then (inputs_run test stored inputs) (λ tss n. operator_run test stored g place args n tss) (inputs_steady inputs) (run_steady g place args)

    inputs_steady : (calls : Streams) → IsSteady (inputs_run test stored calls)
    inputs_steady no_streams = steady_same {A = List (List Table)} (Gives [] 0)
    inputs_steady (more_streams call calls) =
        steady_then (stream_run test stored call) (λ ts n. inputs_run test stored calls n >>= (λ tss. pure (ts ∷ tss))) (stream_steady call)
        (λ ts. steady_then (inputs_run test stored calls) (λ tss n. pure (ts ∷ tss)) (inputs_steady calls) (λ tss. steady_same (Gives (ts ∷ tss) 0)))

  pub stream_limited : (call : Stream) → IsLimited (stream_meaning test stored call)
  unfolding stream_meaning
  stream_limited call = limited_cut (stream_run test stored call) (stream_steady call)

  pub yield_limited : (call : Stream) → IsLimited (yield_meaning test stored call)
  unfolding yield_meaning
  yield_limited call =
      limited_cut (λ n. stream_run test stored call n >>= (λ ts. Gives ts (1 + size_of ts)))
      (steady_then (stream_run test stored call) (λ ts n. Gives ts (1 + size_of ts)) (stream_steady call) (λ ts. steady_same (Gives ts (1 + size_of ts))))

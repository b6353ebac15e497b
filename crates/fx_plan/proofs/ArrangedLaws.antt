-- A stream and the arranged one mean the same: operators ask what stands at labels, and the words.
use Rattle.std.proofs.Common.{◌≡◌, refl, sym, ap, ◌∙◌, ℕ, ℤ, Bool, true, false, List, [], ◌∷◌, Option, None, Some}
use Rattle.std.specs.Prelude.{◌&&◌, not, if◌then◌else◌, codes}
use Rattle.std.specs.Cmp.Lexicographic.{same_text as equal_text}
use mathlib.Core.Bool.{false≢true}
use Rattle.fx_base.specs.Text.{same_text}
use Rattle.fx_base.specs.declared.place.Place.{Place}
use Rattle.fx_data.specs.declared.table.Table.{Table}
use Rattle.fx_schemes.specs.Given.{Given, list_at, text_at as word_at}
use Rattle.fx_schemes.specs.Signature.{form_of}
use Rattle.fx_schemes.specs.declared.list.Builtin.{Builtin}
use Rattle.fx_types.specs.Ground.{listed}
use Rattle.fx_types.specs.Term.{Label}
use Rattle.fx_value.specs.Ends.{End, Gives, Stuck, cut}
use Rattle.fx_value.specs.declared.scalar.Kind.{Kind}
use Rattle.fx_value.specs.declared.scalar.Kind.TheVariants as kind
use Rattle.fx_value.specs.declared.scalar.Scalar.{Scalar}
use Rattle.fx_group.specs.Filter.{filtered, table_if}
use Rattle.fx_group.specs.Map.{mapped}
use Rattle.fx_group.specs.Range.{ranged}
use Rattle.fx_agg.specs.Aggregate.{aggregated}
use Rattle.fx_agg.specs.Reduce.{reduced}
use Rattle.fx_join.specs.Joined.{joined}
use Rattle.fx_join.specs.SameTime.{joined_by_time}
use Rattle.fx_join.specs.declared.side.Side.{Side}
use Rattle.fx_join.specs.declared.side.Side.TheVariants.{Full, Inner, Left, Right}
use Rattle.fx_shape.specs.Columns.{column_filled, column_set}
use Rattle.fx_shape.specs.Part.{limited, tailed}
use Rattle.fx_shape.specs.Running.{passed}
use Rattle.fx_shape.specs.Sort.{rows_sorted}
use Rattle.fx_window.specs.Aggregated.{window_aggregated}
use Rattle.fx_window.specs.Window.{windowed}
use Rattle.fx_meaning.specs.declared.stream.StreamFn.{StreamFn}
use Rattle.fx_meaning.specs.declared.stream.StreamFn.TheVariants as s
use Rattle.fx_meaning.specs.Ends.{◌>>=◌, found, pure}
use Rattle.fx_meaning.specs.Meaning.{Tests}
use Rattle.fx_meaning.specs.Native.{stream_builtin}
use Rattle.fx_meaning.specs.Value.{Val, Slots, no_slots, more_slots, look, or_else, push, keep, Stream, applied, Streams, no_streams, more_streams}
use Rattle.fx_meaning.specs.Forms.{cell_in, each, items_in, span_in, val_list}
use Rattle.fx_meaning.specs.Rows.{row_meaning}
use Rattle.fx_plan.specs.Operators.{aggregate_named, bound_at, bound_or_now, bucket_tables, by_windows, count_at, count_or_none, drops, flag_or, flag_or_false, from_array, from_bucket, in_range, in_windows, length_at, moment_in, of_folded_rows, of_made_rows, of_none, of_one, of_pairs, of_places, of_times, of_two, of_wanted_rows, operator, passed_in, row_count, row_in, second, side_named, sorted_in, span_or, text_at, windows_counted, with_value}
use Rattle.fx_plan.specs.Plans.{all_arranged, arranged, arranged_args, function_labels, plain_args, push_given, pushed}
use Rattle.fx_plan.specs.Said.{said_in}
use Rattle.fx_plan.specs.Sources.{Stored}
use Rattle.fx_plan.specs.Streams.{counted, inputs_run, operator_run, stream_meaning, stream_run}
use Rattle.fx_plan.proofs.SaidLaws.{kept_says, said_push}
use Rattle.fx_plan.proofs.SlotLaws.{look_keep, look_push, or_none}

-- ---- what stands at a label

dropped_step : (c t : Bool) (v : Val) (l x : Label) (rest : Slots) → c ≡ same_text l x → (c ≡ true → t ≡ false) → look l rest ≡ None
    → look l (if t then more_slots x v rest else rest) ≡ None
dropped_step c false v l x rest e off none = none
dropped_step true true v l x rest e off none = absurd (false≢true (sym (off refl)))
dropped_step false true v l x rest e off none = ap (λ o. or_else o (if same_text l x then Some v else None)) none ∙ ap (λ d. or_else None (if d then Some v else None)) (sym e)

pub look_dropped : (test : Label → Bool) (slots : Slots) (l : Label) → test l ≡ false → look l (keep test slots) ≡ None
look_dropped test no_slots l e = refl
look_dropped test (more_slots x v slots) l e =
    dropped_step (same_text l x) (test x) v l x (keep test slots) refl (λ same. ap test (sym (equal_text l x (sym same))) ∙ e) (look_dropped test slots l e)

-- what is still to be put behind, and what stands already
abbrev Holds : List Label → Slots → Slots → Type 0
Holds xs args others = (l : Label) → or_else (if listed l xs then look l args else None) (look l others) ≡ look l args

twice : (o : Option Val) → or_else o o ≡ o
twice None = refl
twice (Some v) = refl

again : (b : Bool) (o : Option Val) → or_else (if b then o else None) o ≡ o
again true o = twice o
again false o = refl

held_keep : (b : Bool) (o kept : Option Val) → (b ≡ true → kept ≡ None) → (b ≡ false → kept ≡ o) → or_else (if b then o else None) kept ≡ o
held_keep true o kept none same = ap (or_else o) (none refl) ∙ sym (or_none o)
held_keep false o kept none same = same refl

not_true : (b : Bool) → b ≡ true → not b ≡ false
not_true true e = refl
not_true false e = absurd (false≢true e)

not_false : (b : Bool) → b ≡ false → not b ≡ true
not_false false e = refl
not_false true e = absurd (false≢true (sym e))

kept_holds : (xs : List Label) (args : Slots) → Holds xs args (keep (λ x. not (listed x xs)) args)
kept_holds xs args l =
    held_keep (listed l xs) (look l args) (look l (keep (λ x. not (listed x xs)) args))
    (λ e. look_dropped (λ x. not (listed x xs)) args l (not_true (listed l xs) e)) (λ e. look_keep (λ x. not (listed x xs)) args l (not_false (listed l xs) e))

look_given : (others : Slots) (x : Label) (o : Option Val) (l : Label) → look l (push_given others x o) ≡ or_else (if same_text l x then o else None) (look l others)
look_given others x None l = given_none (same_text l x) (look l others)
  where
    given_none : (c : Bool) (o : Option Val) → o ≡ or_else (if c then None else None) o
    given_none true o = refl
    given_none false o = refl
look_given others x (Some v) l = look_push others x v l

-- one more label
step_at : (c b : Bool) (mine theirs other : Option Val) → (c ≡ true → theirs ≡ mine) → or_else (if (if c then true else b) then mine else None) other ≡ mine
    → or_else (if b then mine else None) (or_else (if c then theirs else None) other) ≡ mine
step_at true b mine theirs other same held = ap (λ o. or_else (if b then mine else None) (or_else o other)) (same refl) ∙ ap (or_else (if b then mine else None)) held ∙ again b mine
step_at false b mine theirs other same held = held

held_step : (x : Label) (xs : List Label) (args others : Slots) → Holds (x ∷ xs) args others → Holds xs args (push_given others x (look x args))
held_step x xs args others held l =
    ap (or_else (if listed l xs then look l args else None)) (look_given others x (look x args) l)
    ∙ step_at (same_text l x) (listed l xs) (look l args) (look x args) (look l others) (λ e. ap (λ y. look y args) (sym (equal_text l x (sym e)))) (held l)

look_pushed : (xs : List Label) (args others : Slots) → Holds xs args others → (l : Label) → look l (pushed xs args others) ≡ look l args
look_pushed [] args others held l = held l
look_pushed (x ∷ xs) args others held l = look_pushed xs args (push_given others x (look x args)) (held_step x xs args others held) l

pub look_arranged : (g : StreamFn) (args : Slots) (l : Label) → look l (arranged_args g args) ≡ look l args
look_arranged g args = look_pushed (function_labels g) args (plain_args g args) (kept_holds (function_labels g) args)

-- ---- the words

said_given : (b : Builtin) (others : Slots) (x : Label) (o : Option Val) → form_of b x ≡ None → said_in (Some b) (push_given others x o) ≡ said_in (Some b) others
said_given b others x None none = refl
said_given b others x (Some v) none = said_push b others x v none

-- labels that aren't the words' ones
abbrev Silent : Builtin → List Label → Type 0
Silent b [] = Unit {0}
Silent b (x ∷ xs) = (form_of b x ≡ None) × Silent b xs

said_pushed : (b : Builtin) (xs : List Label) (args others : Slots) → Silent b xs → said_in (Some b) (pushed xs args others) ≡ said_in (Some b) others
said_pushed b [] args others silent = refl
said_pushed b (x ∷ xs) args others silent = said_pushed b xs args (push_given others x (look x args)) silent.1 ∙ said_given b others x (look x args) silent.0

silent_step : (b : Builtin) (c : Bool) (l x : Label) (rest : Bool) → (c ≡ true → l ≡ x) → form_of b x ≡ None → (rest ≡ true → form_of b l ≡ None)
    → (if c then true else rest) ≡ true → form_of b l ≡ None
silent_step b true l x rest same none others e = ap (form_of b) (same refl) ∙ none
silent_step b false l x rest same none others e = others e

silent_at : (b : Builtin) (xs : List Label) → Silent b xs → (l : Label) → listed l xs ≡ true → form_of b l ≡ None
silent_at b [] silent l e = absurd (false≢true e)
silent_at b (x ∷ xs) silent l e = silent_step b (same_text l x) l x (listed l xs) (λ e. equal_text l x (sym e)) silent.0 (silent_at b xs silent.1 l) e

not_not : (b : Bool) → not b ≡ false → b ≡ true
not_not true e = refl
not_not false e = absurd (false≢true (sym e))

silent : (g : StreamFn) → Silent (stream_builtin g) (function_labels g)
silent s.Filter = (refl, tt)
silent s.Map = (refl, tt)
silent s.Reduce = (refl, tt)
silent s.JoinInner = (refl, (refl, tt))
silent s.JoinLeft = (refl, (refl, tt))
silent s.JoinRight = (refl, (refl, tt))
silent s.JoinFull = (refl, (refl, tt))
silent s.JoinTime = (refl, tt)
silent _ = tt

pub said_arranged : (g : StreamFn) (args : Slots) → said_in (Some (stream_builtin g)) (arranged_args g args) ≡ said_in (Some (stream_builtin g)) args
said_arranged g args =
    let b = stream_builtin g in
    let xs = function_labels g in
    said_pushed b xs args (plain_args g args) (silent g)
    ∙ kept_says b (λ x. not (listed x xs)) args (λ l e. silent_at b xs (silent g) l (not_not (listed l xs) e))

-- ---- operators

module _ (test : Tests) (stored : Stored) (these those : Slots) (same : (l : Label) → look l these ≡ look l those) where
  bucket_same : (k : Kind) (place : Place) → from_bucket stored k place these ≡ from_bucket stored k place those
  bucket_same k place = λ i. found (same (codes "bucket") i) >>= (λ v. text_at place v >>= (λ bucket. bucket_tables stored k place bucket))

  array_same : from_array these ≡ from_array those
  array_same = λ i. (found (same (codes "rows") i) >>= items_in) >>= (λ vs. each row_in (val_list vs) >>= (λ rows. pure (table_if (record { entries = [] }) rows)))

  range_same : (place : Place) (tables : List Table) → in_range place these tables ≡ in_range place those tables
  range_same place tables =
      λ i. (found (same (codes "now") i) >>= moment_in)
      >>= (λ now. found (same (codes "start") i) >>= (λ v. bound_at place now v >>= (λ start. bound_or_now place now (same (codes "stop") i) >>= (λ stop. ranged start stop tables))))

  places_same : (part : Place → ℤ → ℤ → List Table → End (List Table)) (place : Place) (tables : List Table) → of_places part place these tables ≡ of_places part place those tables
  places_same part place tables =
      λ i. found (same (codes "n") i) >>= (λ v. count_at place v >>= (λ n. count_or_none place (same (codes "offset") i) >>= (λ offset. part place n offset tables)))

  value_same : (made : Label → Scalar → List Table → List Table) (column : Option Label) (tables : List Table) → with_value made column these tables ≡ with_value made column those tables
  value_same made column tables = λ i. found column >>= (λ label. (found (same (codes "value") i) >>= cell_in) >>= (λ value. pure (made label value tables)))

  sort_same : (w : Given) (place : Place) (tables : List Table) → sorted_in w place these tables ≡ sorted_in w place those tables
  sort_same w place tables =
      λ i. found (list_at w (codes "columns") (Some (codes "_value" ∷ []))) >>= (λ columns. flag_or_false place (same (codes "desc") i) >>= (λ desc. pure (rows_sorted columns desc tables)))

  passed_same : (w : Given) (place : Place) (tables : List Table) → passed_in w place these tables ≡ passed_in w place those tables
  passed_same w place tables =
      λ i. span_or second (same (codes "unit") i)
      >>= (λ unit. found (word_at w (codes "timeColumn") (Some (codes "_time"))) >>= (λ time. found (word_at w (codes "columnName") (Some (codes "elapsed"))) >>= (λ name. passed place unit time name tables)))

  window_same : (place : Place) (tables : List Table) → in_windows place these tables ≡ in_windows place those tables
  window_same place tables =
      λ i. found (same (codes "every") i)
      >>= (λ v. span_in v >>= (λ every. span_or every (same (codes "period") i) >>= (λ period. windowed place every period tables >>= (λ made. Gives made (row_count made)))))

  windows_same : (w : Given) (place : Place) (tables : List Table) → by_windows w place these tables ≡ by_windows w place those tables
  windows_same w place tables =
      λ i. found (same (codes "every") i)
      >>= (λ v. length_at place v
      >>= (λ every. found (word_at w (codes "fn") None)
      >>= (λ name. found (aggregate_named name)
      >>= (λ which. flag_or true place (same (codes "createEmpty") i)
      >>= (λ all. windows_counted every all tables >>= (λ windows. window_aggregated place (aggregated place which (codes "_value")) every all tables))))))

  filter_same : (w : Given) (limit : ℕ) (tables : List Table) → of_wanted_rows test stored w these tables limit ≡ of_wanted_rows test stored w those tables limit
  filter_same w limit tables = λ i. if drops w then (found (same (codes "fn") i) >>= (λ f. filtered (row_meaning test f) tables limit)) else Stuck

  map_same : (limit : ℕ) (tables : List Table) → of_made_rows test stored these tables limit ≡ of_made_rows test stored those tables limit
  map_same limit tables = λ i. found (same (codes "fn") i) >>= (λ f. mapped (row_meaning test f) tables limit)

  fold_same : (limit : ℕ) (tables : List Table) → of_folded_rows test stored these tables limit ≡ of_folded_rows test stored those tables limit
  fold_same limit tables =
      λ i. found (same (codes "identity") i) >>= (λ v. row_in v >>= (λ identity. found (same (codes "fn") i) >>= (λ f. reduced (row_meaning test f) identity tables limit)))

  pair_same : (side : Side) (limit : ℕ) (ls rs : List Table) → of_pairs test stored side these limit ls rs ≡ of_pairs test stored side those limit ls rs
  pair_same side limit ls rs =
      λ i. found (same (codes "on") i) >>= (λ on. found (same (codes "as") i) >>= (λ both. joined (row_meaning test on) (row_meaning test both) side ls rs limit))

  time_same : (w : Given) (limit : ℕ) (ls rs : List Table) → of_times test stored w these limit ls rs ≡ of_times test stored w those limit ls rs
  time_same w limit ls rs =
      λ i. found (word_at w (codes "method") (Some (codes "inner")))
      >>= (λ method. found (side_named method) >>= (λ side. found (same (codes "as") i) >>= (λ both. joined_by_time (row_meaning test both) side ls rs limit)))

  pub operator_same : (g : StreamFn) (place : Place) (w : Given) (limit : ℕ) → operator test stored g place w these limit ≡ operator test stored g place w those limit
  operator_same s.From place w limit = λ i. of_none (bucket_same kind.Int place i)
  operator_same s.Texts place w limit = λ i. of_none (bucket_same kind.Text place i)
  operator_same s.Bools place w limit = λ i. of_none (bucket_same kind.Bool place i)
  operator_same s.ArrayFrom place w limit = λ i. of_none (array_same i)
  operator_same s.Range place w limit = λ i. of_one (λ tables. range_same place tables i)
  operator_same s.Filter place w limit = λ i. of_one (λ tables. filter_same w limit tables i)
  operator_same s.Map place w limit = λ i. of_one (λ tables. map_same limit tables i)
  operator_same s.Limit place w limit = λ i. of_one (λ tables. places_same limited place tables i)
  operator_same s.Tail place w limit = λ i. of_one (λ tables. places_same tailed place tables i)
  operator_same s.Set place w limit = λ i. of_one (λ tables. value_same column_set (word_at w (codes "key") None) tables i)
  operator_same s.Fill place w limit = λ i. of_one (λ tables. value_same column_filled (word_at w (codes "column") (Some (codes "_value"))) tables i)
  operator_same s.Reduce place w limit = λ i. of_one (λ tables. fold_same limit tables i)
  operator_same s.JoinInner place w limit = λ i. of_two (λ ls rs. pair_same Inner limit ls rs i)
  operator_same s.JoinLeft place w limit = λ i. of_two (λ ls rs. pair_same Left limit ls rs i)
  operator_same s.JoinRight place w limit = λ i. of_two (λ ls rs. pair_same Right limit ls rs i)
  operator_same s.JoinFull place w limit = λ i. of_two (λ ls rs. pair_same Full limit ls rs i)
  operator_same s.JoinTime place w limit = λ i. of_two (λ ls rs. time_same w limit ls rs i)
  operator_same s.Window place w limit = λ i. of_one (λ tables. window_same place tables i)
  operator_same s.AggregateWindow place w limit = λ i. of_one (λ tables. windows_same w place tables i)
  operator_same s.Elapsed place w limit = λ i. of_one (λ tables. passed_same w place tables i)
  operator_same s.Sort place w limit = λ i. of_one (λ tables. sort_same w place tables i)
  operator_same _ place w limit = refl

-- ---- streams

module _ (test : Tests) (stored : Stored) where
  run_same : (g : StreamFn) (place : Place) (args : Slots) (limit : ℕ) (received : List (List Table))
      → operator_run test stored g place (arranged_args g args) limit received ≡ operator_run test stored g place args limit received
  run_same g place args limit received =
      λ i. found (said_arranged g args i)
      >>= (λ w. counted g received (operator_same test stored (arranged_args g args) args (look_arranged g args) g place w limit i received))

  mutual
    same_run : (call : Stream) (limit : ℕ) → stream_run test stored (arranged call) limit ≡ stream_run test stored call limit
    same_run (applied g place inputs args) limit = λ i. same_inputs inputs limit i >>= (λ received. run_same g place args limit received i)

    same_inputs : (calls : Streams) (limit : ℕ) → inputs_run test stored (all_arranged calls) limit ≡ inputs_run test stored calls limit
    same_inputs no_streams limit = refl
    same_inputs (more_streams call calls) limit = λ i. same_run call limit i >>= (λ tables. same_inputs calls limit i >>= (λ others. pure (tables ∷ others)))

  pub same_meaning : (call : Stream) (limit : ℕ) → stream_meaning test stored (arranged call) limit ≡ stream_meaning test stored call limit
  unfolding stream_meaning
  same_meaning call limit = ap (cut limit) (same_run call limit)

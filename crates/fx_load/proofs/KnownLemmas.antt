-- What is remembered of lines, and what it tells of the store.
use Rattle.std.proofs.Common.{◌≡◌, ℕ, zero, suc, ℤ, ◌+◌, ◌<◌, ◌≤◌, ◌⊎◌, inl, inr, Bool, true, false, not, List, [], ◌∷◌, ◌++◌, map, length, drop, get_or, Option, Some, Result, Ok, Err, OnOk, slice_get, option_map, refl, sym, ap, ◌∙◌, subst, arith, append_assoc, append-nil, length-append, add-one, to_z, of_z, w64}
use Rattle.std.specs.Prelude.{All, filter, FitsSigned}
use Rattle.std.specs.List.{AllByRecursion}
use Rattle.std.proofs.Math.Seq.{drop-cons}
use Rattle.std.proofs.Math.Dec.{ltb}
use Rattle.std.proofs.lemmas.Bool.{ltb-true, ltb-false}
use Rattle.std.proofs.lemmas.Int.{to_z-of_z}
use Rattle.std.proofs.lemmas.List.{map-append}
use Rattle.std.proofs.lemmas.List.Elements.{All-nil, All-head, All-tail, filter-append}
use Rattle.std.proofs.lemmas.Option.{slice_get-map, slice_get_within, slice_get_read, get_or_from_slice_get}
use Rattle.fx_base.specs.declared.memory.Memory.{Memory}
use Rattle.fx_value.specs.declared.scalar.Kind.TheVariants as kind
use Rattle.fx_value.specs.declared.scalar.Scalar.TheVariants as scalar
use Rattle.fx_line.specs.declared.line.LineMode.{LineMode}
use Rattle.fx_line.specs.declared.point.Point.{Point}
use Rattle.fx_line.specs.declared.point.SeriesKey.{SeriesKey}
use Rattle.fx_line.specs.Line.{is_time, Gives}
use Rattle.fx_line.specs.Pieces.{AreFilled, IsFilled, ArePieces, int_points}
use Rattle.fx_line.specs.Stored.{SeriesId, StoredPoint, Series, IsLawful, same_id, id_of, first_seen, grouped}
use Rattle.fx_line.proofs.Lawful.{all_lawful, fits_time}
use Rattle.fx_series.specs.Put.{HasPut as WasPut, point_at}
use Rattle.fx_series.specs.Store.{Kept, StandsFor, is_added}
use Rattle.fx_series.proofs.Grouped.{ids-grouped}
use Rattle.fx_load.specs.declared.load.LineStop.{LineStop}
use Rattle.fx_load.specs.declared.load.TheConstants.{MOST_POINTS}
use Rattle.fx_load.specs.Load.{IsReady, PointLoads, PointsLoad, LineLoads, Takes, in_bucket}
use Rattle.fx_load.specs.Memo.{KnownLine, ids_of, AreSeries, Fits, FitsStore, MayPut, WerePut}
use Rattle.fx_load.proofs.LoadLemmas.{HasPut, nothing_put, put_more, ready_more, all_put, line_of_points}

-- ---- lists of which all items have a property
pub all_at : {X : Type 0} (P : X → Type 0) (xs : List X) (i : ℕ) (x : X) → AllByRecursion P xs → slice_get xs i ≡ Some x → P x
all_at P [] i x h at = cc
all_at P (y ∷ ys) zero x h at = let same : y ≡ x = cc in subst P same h.0
all_at P (y ∷ ys) (suc i) x h at = all_at P ys i x h.1 at

pub all_push : {X : Type 0} (P : X → Type 0) (xs : List X) (x : X) → AllByRecursion P xs → P x → AllByRecursion P (xs ++ x ∷ [])
all_push P [] x h here = (here, tt)
all_push P (y ∷ ys) x h here = (h.0, all_push P ys x h.1 here)

all_weaker : {X : Type 0} (P Q : X → Type 0) → ((x : X) → P x → Q x) → (xs : List X) → AllByRecursion P xs → AllByRecursion Q xs
all_weaker P Q on [] h = tt
all_weaker P Q on (x ∷ xs) h = (on x h.0, all_weaker P Q on xs h.1)

-- ---- more series leave the numbers of the earlier ones
got_before : {X : Type 0} (xs ys : List X) (i : ℕ) (x : X) → slice_get xs i ≡ Some x → slice_get (xs ++ ys) i ≡ Some x
got_before [] ys i x at = cc
got_before (z ∷ xs) ys zero x at = at
got_before (z ∷ xs) ys (suc i) x at = got_before xs ys i x at

series_kept : (ids more : List SeriesId) (bucket numbers : List ℕ) (keys : List SeriesKey) → AreSeries ids bucket numbers keys → AreSeries (ids ++ more) bucket numbers keys
series_kept ids more bucket [] [] h = tt
series_kept ids more bucket [] (k ∷ ks) h = absurd h
series_kept ids more bucket (n ∷ ns) [] h = absurd h
series_kept ids more bucket (n ∷ ns) (k ∷ ks) h = (got_before ids more n _ h.0, series_kept ids more bucket ns ks h.1)

fits_more : (mode : LineMode) (bucket : List ℕ) (ids more : List SeriesId) (known : KnownLine) → Fits mode bucket ids known → Fits mode bucket (ids ++ more) known
fits_more mode bucket ids more known h = record { keys = h.keys; pieces = h.pieces; series = series_kept ids more bucket known.numbers h.keys h.series }

seen_more : (ids more : List SeriesId) → (extra : List SeriesId) × (first_seen (ids ++ more) ≡ first_seen ids ++ extra)
seen_more [] more = (first_seen more, refl)
seen_more (a ∷ ids) more =
    let h = seen_more ids more in
    let other : SeriesId → Bool = λ b. not (same_id a b) in
    (filter other h.0, ap (λ l. a ∷ filter other l) h.1 ∙ ap (λ l. a ∷ l) (filter-append other (first_seen ids) h.0))

-- the series of a store that stands for more points
pub ids_more : (old new : Kept) (buckets buckets' : List (List ℕ)) (stored more : List StoredPoint) → StandsFor old buckets stored → StandsFor new buckets' (stored ++ more) → (extra : List SeriesId) × (ids_of new ≡ ids_of old ++ extra)
ids_more old new buckets buckets' stored more stands stands' =
    let h = seen_more (map id_of stored) (map id_of more) in (
      h.0,
      ap (map (λ s. s.id)) stands'.series_are ∙ ids-grouped (stored ++ more) ∙ ap first_seen (map-append id_of stored more) ∙ h.1
          ∙ ap (λ l. l ++ h.0) (sym (ap (map (λ s. s.id)) stands.series_are ∙ ids-grouped stored)),
    )

pub fits_after : (mode : LineMode) (bucket : List ℕ) (memo : List KnownLine) (old new : Kept) (buckets buckets' : List (List ℕ)) (stored more : List StoredPoint) → StandsFor old buckets stored → StandsFor new buckets' (stored ++ more)
    → FitsStore mode bucket (ids_of old) memo → FitsStore mode bucket (ids_of new) memo
fits_after mode bucket memo old new buckets buckets' stored more stands stands' h =
    let e = ids_more old new buckets buckets' stored more stands stands' in
    subst (λ ids. FitsStore mode bucket ids memo) (sym e.1) (all_weaker (Fits mode bucket (ids_of old)) (Fits mode bucket (ids_of old ++ e.0)) (fits_more mode bucket (ids_of old) e.0) memo h)

-- ---- the keys of numbers are told by the store
pub same_keys : (ids : List SeriesId) (bucket numbers : List ℕ) (ks js : List SeriesKey) → AreSeries ids bucket numbers ks → AreSeries ids bucket numbers js → ks ≡ js
same_keys ids bucket [] [] [] g h = refl
same_keys ids bucket [] [] (j ∷ js) g h = absurd h
same_keys ids bucket [] (k ∷ ks) js g h = absurd g
same_keys ids bucket (n ∷ ns) [] js g h = absurd g
same_keys ids bucket (n ∷ ns) (k ∷ ks) [] g h = absurd h
same_keys ids bucket (n ∷ ns) (k ∷ ks) (j ∷ js) g h =
    let one : SeriesId = record { bucket = bucket; key = k; kind = Some kind.Int } in
    let other : SeriesId = record { bucket = bucket; key = j; kind = Some kind.Int } in
    let both : Some one ≡ Some other = sym g.0 ∙ h.0 in
    let ids_same : one ≡ other = cc both in
    λ i. (ids_same i).key ∷ same_keys ids bucket ns ks js g.1 h.1 i

-- the points that a line gives are lawful
pub gives_lawful : (mode : LineMode) (line : List ℕ) (points : List Point) → Gives mode line points → All IsLawful points
gives_lawful mode line points (inl h) = subst (All IsLawful) (sym h.1) (All-nil IsLawful)
gives_lawful mode line points (inr h) = subst (All IsLawful) (sym h.3) (all_lawful mode h.0 h.1.keys h.2)

-- ---- a line by what is remembered
pub known_gives : (mode : LineMode) (bucket line : List ℕ) (ids : List SeriesId) (known : KnownLine) (values : List ℤ) (time : ℤ) (h : Fits mode bucket ids known) → IsFilled mode known.pieces line values time → Gives mode line (int_points h.keys values time)
known_gives mode bucket line ids known values time h filled = h.pieces line values time filled

pub may_put : (mode : LineMode) (bucket line : List ℕ) (kept : Kept) (known : KnownLine) (values : List ℤ) (time : ℤ) → Fits mode bucket (ids_of kept) known → IsFilled mode known.pieces line values time → MayPut kept bucket known.numbers values time
may_put mode bucket line kept known values time h filled = record {
  keys = h.keys;
  series = h.series;
  lawful = gives_lawful mode line (int_points h.keys values time) (known_gives mode bucket line (ids_of kept) known values time h filled);
}

-- what was put is what the line gives
pub put_is : (mode : LineMode) (buckets : List (List ℕ)) (bucket line : List ℕ) (before : List StoredPoint) (old new : Kept) (known : KnownLine) (values : List ℤ) (time : ℤ) (h : Fits mode bucket (ids_of old) known) → StandsFor old buckets before
    → WerePut old bucket known.numbers values time new → PointsLoad buckets bucket (int_points h.keys values time) before new (Ok tt)
put_is mode buckets bucket line before old new known values time h stands put =
    let same = same_keys (ids_of old) bucket known.numbers put.keys h.keys put.series h.series in
    subst (λ ks. PointsLoad buckets bucket (int_points ks values time) before new (Ok tt)) same (put.put buckets before stands)

-- ---- values are put one after another
pub record IsPuttingInts (old : Kept) (bucket numbers : List ℕ) (values : List ℤ) (time : ℤ) (left : List ℕ) (rest : List ℤ) (kept : Kept) : Type 0 where
  pub all : List SeriesKey
  pub named : AreSeries (ids_of old) bucket numbers all
  pub done : List Point
  pub keys : List SeriesKey
  pub series : AreSeries (ids_of kept) bucket left keys
  pub lawful : All IsLawful (int_points keys rest time)
  pub joined : int_points all values time ≡ done ++ int_points keys rest time
  pub ready : IsReady kept bucket
  pub room : kept.puts + length rest ≤ MOST_POINTS
  pub put : (b : List (List ℕ)) (stored : List StoredPoint) → StandsFor old b stored → HasPut b bucket stored done kept

pub begin_puts : (old : Kept) (bucket numbers : List ℕ) (values : List ℤ) (time : ℤ) → IsReady old bucket → old.puts + length values ≤ MOST_POINTS → MayPut old bucket numbers values time → IsPuttingInts old bucket numbers values time numbers values old
begin_puts old bucket numbers values time ready room may = record {
  all = may.keys;
  named = may.series;
  done = [];
  keys = may.keys;
  series = may.series;
  lawful = may.lawful;
  joined = refl;
  ready = ready;
  room = room;
  put = λ b stored stands. nothing_put b bucket stored old stands;
}

-- the series of the next number
pub record NextSeries (kept : Kept) (bucket : List ℕ) (number : ℕ) (key : SeriesKey) : Type 0 where
  pub found : Series
  pub at : slice_get kept.series number ≡ Some found
  pub id : found.id ≡ record { bucket = bucket; key = key; kind = Some kind.Int }

at_id : (series : List Series) (number : ℕ) (id : SeriesId) → slice_get (map (λ s. s.id) series) number ≡ Some id → (s : Series) × (slice_get series number ≡ Some s) × (s.id ≡ id)
at_id [] number id h = cc
at_id (s ∷ ss) zero id h = (s, refl, cc)
at_id (s ∷ ss) (suc number) id h = at_id ss number id h

pub next_series : (kept : Kept) (bucket : List ℕ) (number : ℕ) (numbers : List ℕ) (keys : List SeriesKey) → AreSeries (ids_of kept) bucket (number ∷ numbers) keys → (key : SeriesKey) × (rest : List SeriesKey) × (keys ≡ key ∷ rest) × NextSeries kept bucket number key × AreSeries (ids_of kept) bucket numbers rest
next_series kept bucket number numbers [] h = absurd h
next_series kept bucket number numbers (k ∷ ks) h =
    let s = at_id kept.series number (record { bucket = bucket; key = k; kind = Some kind.Int }) h.0 in
    (k, ks, refl, record { found = s.0; at = s.1; id = s.2 }, h.1)

abbrev pub again : ℤ → ℤ
again n = to_z w64 (of_z w64 n)

module _ (old kept new : Kept) (bucket numbers left : List ℕ) (values rest : List ℤ) (time value : ℤ) (number : ℕ) (h : IsPuttingInts old bucket numbers values time (number ∷ left) (value ∷ rest) kept) where
  -- what the put of the next value says
  abbrev pub PutSays : Type 0
  PutSays = (s : Series) (buckets : List (List ℕ)) (stored : List StoredPoint) → slice_get kept.series number ≡ Some s → is_added kept.buckets s.id.bucket ≡ true → IsLawful (point_at s.id.key (again time) (scalar.Int (again value)))
      → StandsFor kept buckets stored → WasPut buckets stored s.id.bucket (point_at s.id.key (again time) (scalar.Int (again value))) new

  next : (key : SeriesKey) × (rest : List SeriesKey) × (h.keys ≡ key ∷ rest) × NextSeries kept bucket number key × AreSeries (ids_of kept) bucket left rest
  next = next_series kept bucket number left h.keys h.series

  lawful_all : All IsLawful (int_points (next.0 ∷ next.1) (value ∷ rest) time)
  lawful_all = subst (λ ks. All IsLawful (int_points ks (value ∷ rest) time)) next.2 h.lawful

  lawful_one : IsLawful (point_at next.0 time (scalar.Int value))
  lawful_one = All-head IsLawful (point_at next.0 time (scalar.Int value)) (int_points next.1 rest time) lawful_all

  pub next_within : number < length kept.series
  next_within = slice_get_within kept.series number next.3.found next.3.at

  pub next_kind : (s : Series) → slice_get kept.series number ≡ Some s → s.id.kind ≡ Some kind.Int
  next_kind s at = let both : Some s ≡ Some next.3.found = sym at ∙ next.3.at in let same : s ≡ next.3.found = cc both in ap (λ x. x.id.kind) same ∙ ap (λ i. i.kind) next.3.id

  times : again time ≡ time
  times = to_z-of_z w64 time lawful_one.time

  ints : again value ≡ value
  ints = to_z-of_z w64 value lawful_one.value

  point_is : (key : SeriesKey) → point_at key (again time) (scalar.Int (again value)) ≡ point_at key time (scalar.Int value)
  point_is key = λ i. point_at key (times i) (scalar.Int (ints i))

  loads_one : PutSays → (b : List (List ℕ)) (stored : List StoredPoint) → StandsFor kept b stored → PointLoads b bucket (point_at next.0 time (scalar.Int value)) stored new (Ok tt)
  loads_one says b stored stands =
      let bucket_is : next.3.found.id.bucket ≡ bucket = ap (λ i. i.bucket) next.3.id in
      let key_is : next.3.found.id.key ≡ next.0 = ap (λ i. i.key) next.3.id in
      let added = ap (is_added kept.buckets) bucket_is ∙ h.ready.added in
      let lawful = subst IsLawful (λ i. sym (point_is next.3.found.id.key) i) (subst (λ k. IsLawful (point_at k time (scalar.Int value))) (sym key_is) lawful_one) in
      let w = says next.3.found b stored next.3.at added lawful stands in
      let moved = subst (λ p. WasPut b stored next.3.found.id.bucket p new) (point_is next.3.found.id.key) w in
      let its = subst (λ i. WasPut b stored i.bucket (point_at i.key time (scalar.Int value)) new) next.3.id moved in
      (its.agrees, its.stands, omega (arith, stands.puts_are, h.room))

  pub put_next : PutSays → IsPuttingInts old bucket numbers values time left rest new
  put_next says =
      let p : Point = point_at next.0 time (scalar.Int value) in
      let ready = h.ready in
      let one = loads_one says ready.buckets ready.stored ready.stands in
      let more = ids_more kept new ready.buckets ready.buckets ready.stored (record { bucket = bucket; point = p } ∷ []) ready.stands one.1 in
      record {
        all = h.all;
        named = h.named;
        done = h.done ++ p ∷ [];
        keys = next.1;
        series = subst (λ ids. AreSeries ids bucket left next.1) (sym more.1) (series_kept (ids_of kept) more.0 bucket left next.1 next.4);
        lawful = All-tail IsLawful p (int_points next.1 rest time) lawful_all;
        joined = h.joined ∙ ap (λ ks. h.done ++ int_points ks (value ∷ rest) time) next.2 ∙ sym (append_assoc h.done (p ∷ []) (int_points next.1 rest time));
        ready = ready_more ready.buckets bucket ready.stored p kept new ready.added ready.stands one;
        room = omega (arith, h.room, one.1.puts_are, ready.stands.puts_are, length-append ready.stored (record { bucket = bucket; point = p } ∷ []));
        put = λ b stored stands.
            let had = h.put b stored stands in
            put_more b bucket stored h.done p kept new had (loads_one says b (stored ++ in_bucket bucket h.done) had.stands);
      }

-- no value is left, or no number
pub puts_done : (old kept : Kept) (bucket numbers left : List ℕ) (values rest : List ℤ) (time : ℤ) → IsPuttingInts old bucket numbers values time left rest kept → (left ≡ []) ⊎ (rest ≡ []) → WerePut old bucket numbers values time kept
puts_done old kept bucket numbers left values rest time h none =
    let empty : int_points h.keys rest time ≡ [] = nothing_left left h.keys h.series none in
    record {
      keys = h.all;
      series = h.named;
      put = λ b stored stands. all_put b bucket stored (int_points h.all values time) h.done kept (h.joined ∙ ap (λ l. h.done ++ l) empty) h.ready (h.put b stored stands);
    }
  where
    no_keys : (ids : List SeriesId) (keys : List SeriesKey) → AreSeries ids bucket [] keys → int_points keys rest time ≡ []
    no_keys ids [] s = refl
    no_keys ids (k ∷ ks) s = absurd s

    no_values : (keys : List SeriesKey) → int_points keys [] time ≡ []
    no_values [] = refl
    no_values (k ∷ ks) = refl

    nothing_left : (left : List ℕ) (keys : List SeriesKey) → AreSeries (ids_of kept) bucket left keys → (left ≡ []) ⊎ (rest ≡ []) → int_points keys rest time ≡ []
    nothing_left left keys s (inl e) = no_keys (ids_of kept) keys (subst (λ l. AreSeries (ids_of kept) bucket l keys) e s)
    nothing_left left keys s (inr e) = ap (λ r. int_points keys r time) e ∙ no_values keys

-- ---- the values at a place of their lists
values_from : (values : List ℤ) (i : ℕ) (value : ℤ) → slice_get values i ≡ Some value → drop i values ≡ value ∷ drop (i + 1) values
values_from values i value at =
    drop-cons values i value (slice_get_within values i value at)
    ∙ (λ j. get_or_from_slice_get values i value value at j ∷ drop (sym (add-one i) j) values)

numbers_from : (numbers : List ℕ) (i : ℕ) → i < length numbers → drop i numbers ≡ get_or numbers i 0 ∷ drop (i + 1) numbers
numbers_from numbers i within = drop-cons numbers i 0 within ∙ ap (λ n. get_or numbers i 0 ∷ drop n numbers) (sym (add-one i))

module _ (old : Kept) (bucket numbers : List ℕ) (values : List ℤ) (time : ℤ) where
  pub at_step : (kept : Kept) (i : ℕ) (value : ℤ) → i < length numbers → slice_get values i ≡ Some value → IsPuttingInts old bucket numbers values time (drop i numbers) (drop i values) kept
      → IsPuttingInts old bucket numbers values time (get_or numbers i 0 ∷ drop (i + 1) numbers) (value ∷ drop (i + 1) values) kept
  at_step kept i value within at h =
      let a = numbers_from numbers i within in
      let b = values_from values i value at in
      subst (λ l. IsPuttingInts old bucket numbers values time l (value ∷ drop (i + 1) values) kept) a (subst (λ l. IsPuttingInts old bucket numbers values time (drop i numbers) l kept) b h)

  pub at_time : (left : List ℕ) (rest : List ℤ) (kept : Kept) (t : ℤ) → t ≡ time → IsPuttingInts old bucket numbers values t left rest kept → IsPuttingInts old bucket numbers values time left rest kept
  at_time left rest kept t e h = subst (λ u. IsPuttingInts old bucket numbers values u left rest kept) e h

-- ---- numbers that are asked for one after another
abbrev pub NumbersFrom : List SeriesId → List ℕ → List Point → ℕ → List ℕ → Type 0
NumbersFrom ids bucket points i numbers = (more : List ℕ) → AreSeries ids bucket more (map (λ p. p.series) (drop i points)) → AreSeries ids bucket (numbers ++ more) (map (λ p. p.series) points)

pub number_more : (ids : List SeriesId) (bucket : List ℕ) (points : List Point) (i : ℕ) (p : Point) (numbers numbers' : List ℕ) (n : ℕ) → i < length points → p ≡ get_or points i p → slice_get ids n ≡ Some (record { bucket = bucket; key = p.series; kind = Some kind.Int }) → numbers' ≡ numbers ++ n ∷ []
    → NumbersFrom ids bucket points i numbers → NumbersFrom ids bucket points (i + 1) numbers'
number_more ids bucket points i p numbers numbers' n within at found pushed had more h =
    let left : drop i points ≡ p ∷ drop (i + 1) points = drop-cons points i p within ∙ (λ j. sym at j ∷ drop (sym (add-one i) j) points) in
    let all = had (n ∷ more) (subst (λ l. AreSeries ids bucket (n ∷ more) (map (λ p. p.series) l)) (sym left) (found, h)) in
    subst (λ l. AreSeries ids bucket l (map (λ p. p.series) points)) (sym (append_assoc numbers (n ∷ []) more) ∙ ap (λ l. l ++ more) (sym pushed)) all

pub numbers_end : (ids : List SeriesId) (bucket : List ℕ) (points : List Point) (i : ℕ) (numbers : List ℕ) → drop i points ≡ [] → NumbersFrom ids bucket points i numbers → AreSeries ids bucket numbers (map (λ p. p.series) points)
numbers_end ids bucket points i numbers none had =
    subst (λ l. AreSeries ids bucket l (map (λ p. p.series) points)) (append-nil numbers) (had [] (subst (λ l. AreSeries ids bucket [] (map (λ p. p.series) l)) (sym none) tt))

-- ---- what is remembered goes on to hold
pub fits_added : (mode : LineMode) (bucket : List ℕ) (ids : List SeriesId) (memo memo' : List KnownLine) (known : KnownLine) → FitsStore mode bucket ids memo → Fits mode bucket ids known → (memo' ≡ memo) ⊎ (memo' ≡ memo ++ known ∷ []) → FitsStore mode bucket ids memo'
fits_added mode bucket ids memo memo' known h fits (inl e) = subst (FitsStore mode bucket ids) (sym e) h
fits_added mode bucket ids memo memo' known h fits (inr e) = subst (FitsStore mode bucket ids) (sym e) (all_push (Fits mode bucket ids) memo known h fits)

pub fits_put : (mode : LineMode) (bucket : List ℕ) (memo : List KnownLine) (old new : Kept) (points : List Point) (r : Result (Unit {0}) LineStop) → (ready : IsReady old bucket) → PointsLoad ready.buckets bucket points ready.stored new r → FitsStore mode bucket (ids_of old) memo → OnOk r (FitsStore mode bucket (ids_of new) memo)
fits_put mode bucket memo old new points (Ok u) ready put h = fits_after mode bucket memo old new ready.buckets ready.buckets ready.stored (in_bucket bucket points) ready.stands put.1 h
fits_put mode bucket memo old new points (Err e) ready put h = tt

pub fits_taken : (mode : LineMode) (bucket line : List ℕ) (memo : List KnownLine) (old new : Kept) → (ready : IsReady old bucket) → (loads : LineLoads mode ready.buckets bucket line ready.stored new (Ok tt)) → FitsStore mode bucket (ids_of old) memo → FitsStore mode bucket (ids_of new) memo
fits_taken mode bucket line memo old new ready loads h =
    fits_after mode bucket memo old new ready.buckets ready.buckets ready.stored (in_bucket bucket loads.1.points) ready.stands (subst (StandsFor new ready.buckets) loads.1.stored loads.2) h

-- ---- a line that is read by what is remembered
pub filled_fits : (mode : LineMode) (pieces : List (List ℕ)) (line : List ℕ) (values : List ℤ) (time : ℤ) → IsFilled mode pieces line values time → again time ≡ time
filled_fits mode pieces line values time h = to_z-of_z w64 time (fits_time time (ap is_time h.stamped.exact ∙ h.stamped.within))

module _ (mode : LineMode) (bucket line : List ℕ) (old : Kept) (memo : List KnownLine) (place : ℕ) (known : KnownLine) (values : List ℤ) (time : ℤ) (fits : FitsStore mode bucket (ids_of old) memo) (at : slice_get memo place ≡ Some known) (filled : IsFilled mode known.pieces line values time) where
  its : Fits mode bucket (ids_of old) known
  its = all_at (Fits mode bucket (ids_of old)) memo place known fits at

  pub known_may : (numbers : List ℕ) (values' : List ℤ) → numbers ≡ known.numbers → values' ≡ values → MayPut old bucket numbers values' (again time)
  known_may numbers values' n v =
      let may = may_put mode bucket line old known values time its filled in
      let t = filled_fits mode known.pieces line values time filled in
      subst (λ x. MayPut old bucket x values' (again time)) (sym n) (subst (λ x. MayPut old bucket known.numbers x (again time)) (sym v) (subst (λ x. MayPut old bucket known.numbers values x) (sym t) may))

  pub known_loads : (buckets : List (List ℕ)) (before : List StoredPoint) (new : Kept) (numbers : List ℕ) (values' : List ℤ) → numbers ≡ known.numbers → values' ≡ values → StandsFor old buckets before → WerePut old bucket numbers values' (again time) new
      → LineLoads mode buckets bucket line before new (Ok tt)
  known_loads buckets before new numbers values' n v stands put =
      let t = filled_fits mode known.pieces line values time filled in
      let were = subst (λ x. WerePut old bucket known.numbers values x new) t (subst (λ x. WerePut old bucket known.numbers x (again time) new) v (subst (λ x. WerePut old bucket x values' (again time) new) n put)) in
      line_of_points mode buckets bucket line (int_points its.keys values time) before new (Ok tt) (known_gives mode bucket line (ids_of old) known values time its filled)
      (put_is mode buckets bucket line before old new known values time its stands were)

-- an item that is got
pub got_at : (values : List ℤ) (i : ℕ) (value : ℤ) → true ≡ ltb i (length values) → value ≡ get_or values i value → slice_get values i ≡ Some value
got_at values i value within at = slice_get_read values (length values) i value refl (ltb-true i (length values) (sym within)) at

pub none_at : (values : List ℤ) (i : ℕ) → false ≡ ltb i (length values) → length values ≤ i
none_at values i past = ltb-false i (length values) (sym past)

-- Loading files, one after another.
use Rattle.std.proofs.Common.{◌≡◌, ℕ, zero, suc, ◌+◌, ◌<◌, ◌≤◌, true, List, [], ◌∷◌, ◌++◌, length, take, drop, get_or, Option, Some, Result, Ok, Err, OnOk, refl, sym, ap, ◌∙◌, subst, arith, append_assoc, add-one, take-append-drop}
use Rattle.std.specs.declared.vec.Vec.{Vec}
use Rattle.std.specs.declared.alloc.Global.{Global}
use Rattle.std.specs.List.{AllByRecursion, slice_get}
use Rattle.std.proofs.Math.Seq.{drop-cons}
use Rattle.std.proofs.lemmas.List.{take_more, take_all, length-take-le}
use Rattle.std.proofs.lemmas.Option.{slice_get_read}
use Rattle.fx_base.specs.Outside.{Told, Content, Loads}
use Rattle.fx_line.specs.declared.line.LineMode.{LineMode}
use Rattle.fx_line.specs.Stored.{StoredPoint}
use Rattle.fx_series.specs.Store.{Kept, StandsFor, is_added}
use Rattle.fx_load.specs.declared.load.LoadStop.{LoadStop}
use Rattle.fx_load.specs.declared.load.LoadStop.TheVariants as load_stop
use Rattle.fx_load.specs.declared.load.TheConstants.{MOST_POINTS}
use Rattle.fx_load.specs.declared.loads.Load.{Load}
use Rattle.fx_load.specs.declared.loads.FileStop.{FileStop}
use Rattle.fx_load.specs.declared.loads.TheConstants.{MOST_FILE_BYTES}
use Rattle.fx_load.specs.Bytes.{lines_of}
use Rattle.fx_load.specs.Load.{Reads, FileLoads}
use Rattle.fx_load.specs.Loads.{IsTold, FileReads, FilesRead, FileStops, StopsFiles, HasBucket, IsReadyFor, AreReady, StaysReady, OneLoads, FilesLoad, stop_of}
use Rattle.fx_load.proofs.KnownLemmas.{all_at}

-- ---- one file
pub told_bytes : (content : Content) (told : Told) (name : List ℕ) (limit : ℕ) (bytes : Vec ℕ Global) → content ≡ Some told → Loads content name limit (Ok bytes) → length bytes.items ≤ limit → IsTold told name limit bytes.items
told_bytes content told name limit bytes e h short = record { bytes_are = subst (λ x. Loads x name limit (Ok bytes)) e h; short = short }

pub one_read : (mode : LineMode) (told : Told) (buckets : List (List ℕ)) (l : Load) (before : List StoredPoint) (kept : Kept) (bytes slice : List ℕ) → slice ≡ bytes → IsTold told l.file MOST_FILE_BYTES bytes → FileLoads mode buckets l.bucket slice before kept (Ok tt)
    → OneLoads mode told buckets l before kept (Ok tt)
one_read mode told buckets l before kept bytes slice e file h =
    let its = subst (λ b. FileLoads mode buckets l.bucket b before kept (Ok tt)) e h in
    (its.0, record { bytes = bytes; file = file; read = its.1 }, its.2)

stops_by : (mode : LineMode) (told : Told) (buckets : List (List ℕ)) (l : Load) (before : List StoredPoint) (kept : Kept) (bytes : List ℕ) (stop : LoadStop) → IsTold told l.file MOST_FILE_BYTES bytes → FileLoads mode buckets l.bucket bytes before kept (Err stop) → FileStops mode told l before (stop_of stop)
stops_by mode told buckets l before kept bytes (load_stop.Line number cause) file h = record { bytes = bytes; file = file; line = h.0; stored = h.1; at = h.2; why = h.3 }
stops_by mode told buckets l before kept bytes (load_stop.TooMany number) file h = record { bytes = bytes; file = file; line = h.0; stored = h.1; at = h.2; why = h.3 }
stops_by mode told buckets l before kept bytes load_stop.Memory file h = tt

pub one_stops : (mode : LineMode) (told : Told) (buckets : List (List ℕ)) (l : Load) (before : List StoredPoint) (kept : Kept) (bytes slice : List ℕ) (stop : LoadStop) (answer : FileStop) → slice ≡ bytes → answer ≡ stop_of stop → IsTold told l.file MOST_FILE_BYTES bytes
    → FileLoads mode buckets l.bucket slice before kept (Err stop) → FileStops mode told l before answer
one_stops mode told buckets l before kept bytes slice stop answer e is file h =
    subst (FileStops mode told l before) (sym is) (stops_by mode told buckets l before kept bytes stop file (subst (λ b. FileLoads mode buckets l.bucket b before kept (Err stop)) e h))

-- lines leave no more points than may be
reads_few : (mode : LineMode) (bucket : List ℕ) (lines : List (List ℕ)) (before after : List StoredPoint) → Reads mode bucket lines before after → length before ≤ MOST_POINTS → length after ≤ MOST_POINTS
reads_few mode bucket [] before after h few = subst (λ s. length s ≤ MOST_POINTS) h few
reads_few mode bucket (line ∷ lines) before after h few = reads_few mode bucket lines h.0 after h.2 h.1.few

pub stays_ready : (mode : LineMode) (bucket bytes : List ℕ) (old new : Kept) → ((buckets : List (List ℕ)) (stored : List StoredPoint) → StandsFor old buckets stored → FileLoads mode buckets bucket bytes stored new (Ok tt)) → StaysReady old new
stays_ready mode bucket bytes old new loads = λ buckets stored stands few.
    let h = loads buckets stored stands in
    let long = reads_few mode bucket (lines_of bytes) stored h.0 h.1 (omega (arith, stands.puts_are, few)) in
    (h.0, h.2, omega (arith, h.2.puts_are, long))

-- ---- files
has_bucket : (old new : Kept) → old.buckets ≡ new.buckets → (loads : List Load) → AllByRecursion (HasBucket old) loads → AllByRecursion (HasBucket new) loads
has_bucket old new e [] h = tt
has_bucket old new e (l ∷ loads) h = (subst (λ b. is_added b l.bucket ≡ true) e h.0, has_bucket old new e loads h.1)

pub ready_at : (kept : Kept) (loads : List Load) (place : ℕ) (l : Load) → AreReady kept loads → place < length loads → l ≡ get_or loads place l → IsReadyFor kept l
ready_at kept loads place l h within at = record {
  buckets = h.buckets;
  stored = h.stored;
  stands = h.stands;
  added = all_at (HasBucket kept) loads place l h.added (slice_get_read loads (length loads) place l refl within at);
  few = h.few;
}

pub still_ready : (old new : Kept) (loads : List Load) → AreReady old loads → StaysReady old new → AreReady new loads
still_ready old new loads h stays =
    let s = stays h.buckets h.stored h.stands h.few in
    record {
      buckets = h.buckets;
      stored = s.0;
      stands = s.1;
      added = has_bucket old new (h.stands.buckets_are ∙ sym s.1.buckets_are) loads h.added;
      few = s.2;
    }

-- the files before a place were read
pub record HasReadFiles (mode : LineMode) (told : Told) (buckets : List (List ℕ)) (loads : List Load) (before : List StoredPoint) (place : ℕ) (kept : Kept) : Type 0 where
  pub stored : List StoredPoint
  pub read : FilesRead mode told (take place loads) before stored
  pub stands : StandsFor kept buckets stored

read_push : (mode : LineMode) (told : Told) (loads : List Load) (l : Load) (before middle after : List StoredPoint) → FilesRead mode told loads before middle → FileReads mode told l middle after → FilesRead mode told (loads ++ l ∷ []) before after
read_push mode told [] l before middle after h one = (after, subst (λ s. FileReads mode told l s after) (sym h) one, refl)
read_push mode told (k ∷ loads) l before middle after h one = (h.0, h.1, read_push mode told loads l h.0 middle after h.2 one)

taken : (loads : List Load) (place : ℕ) (l : Load) → place < length loads → l ≡ get_or loads place l → take (place + 1) loads ≡ take place loads ++ l ∷ []
taken loads place l within at = take_more loads place l within ∙ ap (λ x. take place loads ++ x ∷ []) (sym at)

pub read_on : (mode : LineMode) (told : Told) (buckets : List (List ℕ)) (loads : List Load) (before : List StoredPoint) (place : ℕ) (l : Load) (old new : Kept) → place < length loads → l ≡ get_or loads place l → (h : HasReadFiles mode told buckets loads before place old)
    → OneLoads mode told buckets l h.stored new (Ok tt) → HasReadFiles mode told buckets loads before (place + 1) new
read_on mode told buckets loads before place l old new within at h one = record {
  stored = one.0;
  read = subst (λ ls. FilesRead mode told ls before one.0) (sym (taken loads place l within at)) (read_push mode told (take place loads) l before h.stored one.0 h.read one.1);
  stands = one.2;
}

pub read_all : (mode : LineMode) (told : Told) (buckets : List (List ℕ)) (loads : List Load) (before : List StoredPoint) (place : ℕ) (kept : Kept) → length loads ≤ place → HasReadFiles mode told buckets loads before place kept → FilesLoad mode told buckets loads before kept (Ok tt)
read_all mode told buckets loads before place kept past h = (h.stored, subst (λ ls. FilesRead mode told ls before h.stored) (take_all place loads past) h.read, h.stands)

pub read_stops : (mode : LineMode) (told : Told) (buckets : List (List ℕ)) (loads : List Load) (before : List StoredPoint) (place : ℕ) (l : Load) (kept : Kept) (stop : FileStop) → place < length loads → l ≡ get_or loads place l → (h : HasReadFiles mode told buckets loads before place kept)
    → FileStops mode told l h.stored stop → StopsFiles mode told loads before place stop
read_stops mode told buckets loads before place l kept stop within at h stops = record {
  ahead = take place loads;
  load = l;
  behind = drop (place + 1) loads;
  split = sym (take-append-drop place loads) ∙ ap (λ r. take place loads ++ r) (drop-cons loads place l within ∙ (λ j. sym at j ∷ drop (sym (add-one place) j) loads));
  counted = sym (length-take-le place loads (omega arith));
  stored = h.stored;
  read = h.read;
  stops = stops;
}

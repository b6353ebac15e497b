-- Loading points and lines.
use Rattle.fx_line.specs.declared.line.LineMode.{LineMode}
use Rattle.std.specs.Prelude.{All, reverse}
use Rattle.std.proofs.lemmas.List.{reverse-append}
use Rattle.std.proofs.lemmas.List.Elements.{All-get_or}
use Rattle.std.proofs.Common.{get_or, suc, ◌≡◌, ℕ, ◌+◌, ◌≤◌, List, [], ◌∷◌, ◌++◌, length, Result, Ok, Err, refl, sym, ◌∙◌, ap, arith, length-append, append-nil, append_assoc, Option, None, subst, true}
use Rattle.fx_line.specs.declared.point.Point.{Point}
use Rattle.fx_line.specs.Line.{Gives}
use Rattle.fx_line.specs.Stored.{StoredPoint, IsLawful}
use Rattle.fx_series.specs.Put.{Agrees}
use Rattle.fx_series.specs.Store.{Kept, StandsFor, is_added}
use Rattle.fx_load.specs.declared.cause.LineCause.TheVariants as cause
use Rattle.fx_load.specs.declared.load.LineStop.{LineStop}
use Rattle.fx_load.specs.declared.load.LineStop.TheVariants as line_stop
use Rattle.fx_load.specs.Bytes.{lines_of, lines_left}
use Rattle.fx_load.specs.Load.{in_bucket, Fit, IsReady, PointLoads, PointsLoad, LineLoads, FileLoads, Takes, Reads, StopsAt, stop_at}

-- points of a list that are put one after another
pub fit_more : (before : List StoredPoint) (bucket : List ℕ) (done : List Point) (p : Point) → Fit before bucket done → Agrees (before ++ in_bucket bucket done) (record { bucket = bucket; point = p }) → Fit before bucket (done ++ p ∷ [])
fit_more before bucket [] p fit agrees = (subst (λ l. Agrees l (record { bucket = bucket; point = p })) (append-nil before) agrees, tt)
fit_more before bucket (q ∷ done) p fit agrees = (
  fit.0,
  fit_more (before ++ record { bucket = bucket; point = q } ∷ []) bucket done p fit.1
      (subst (λ l. Agrees l (record { bucket = bucket; point = p })) (sym (append_assoc before (record { bucket = bucket; point = q } ∷ []) (in_bucket bucket done))) agrees),
)

in_bucket-append : (bucket : List ℕ) (done more : List Point) → in_bucket bucket (done ++ more) ≡ in_bucket bucket done ++ in_bucket bucket more
in_bucket-append bucket [] more = refl
in_bucket-append bucket (p ∷ done) more = ap (λ l. record { bucket = bucket; point = p } ∷ l) (in_bucket-append bucket done more)

length_in : (bucket : List ℕ) (points : List Point) → length (in_bucket bucket points) ≡ length points
length_in bucket [] = refl
length_in bucket (p ∷ points) = ap suc (length_in bucket points)

-- these points were put, and a store stands for them
pub record HasPut (buckets : List (List ℕ)) (bucket : List ℕ) (before : List StoredPoint) (done : List Point) (kept : Kept) : Type 0 where
  pub fit : Fit before bucket done
  pub stands : StandsFor kept buckets (before ++ in_bucket bucket done)

-- the points of a line, where the last ones are left, in the order from the last
pub record IsPutting (Stands : List (List ℕ) → List StoredPoint → Type 0) (bucket : List ℕ) (points left : List Point) (kept : Kept) : Type 0 where
  pub done : List Point
  pub joined : points ≡ done ++ reverse left
  pub ready : IsReady kept bucket
  pub put : (b : List (List ℕ)) (stored : List StoredPoint) → Stands b stored → HasPut b bucket stored done kept

pub nothing_put : (buckets : List (List ℕ)) (bucket : List ℕ) (before : List StoredPoint) (kept : Kept) → StandsFor kept buckets before → HasPut buckets bucket before [] kept
nothing_put buckets bucket before kept stands = record { fit = tt; stands = subst (StandsFor kept buckets) (sym (append-nil before)) stands }

-- the next point is the last of those that are left
pub next_point : (points done left rest : List Point) (p : Point) → points ≡ done ++ reverse left → left ≡ rest ++ p ∷ [] → points ≡ done ++ p ∷ reverse rest
next_point points done left rest p joined last = joined ∙ ap (λ l. done ++ reverse l) last ∙ ap (λ l. done ++ l) (reverse-append rest (p ∷ []))

pub next_joined : (points done rest : List Point) (p : Point) → points ≡ done ++ p ∷ reverse rest → points ≡ (done ++ p ∷ []) ++ reverse rest
next_joined points done rest p joined = joined ∙ sym (append_assoc done (p ∷ []) (reverse rest))

at_seam : (done : List Point) (p : Point) (rest : List Point) → get_or (done ++ p ∷ rest) (length done) p ≡ p
at_seam [] p rest = refl
at_seam (q ∷ done) p rest = at_seam done p rest

pub lawful_at : (points done rest : List Point) (p : Point) → All IsLawful points → points ≡ done ++ p ∷ rest → IsLawful p
lawful_at points done rest p lawful is =
    subst IsLawful (at_seam done p rest) (All-get_or IsLawful (done ++ p ∷ rest) (length done) p (omega (arith, length-append done (p ∷ rest))) (subst (All IsLawful) is lawful))

-- a point more is put
pub put_more : (buckets : List (List ℕ)) (bucket : List ℕ) (before : List StoredPoint) (done : List Point) (p : Point) (old new : Kept) → HasPut buckets bucket before done old → PointLoads buckets bucket p (before ++ in_bucket bucket done) new (Ok tt) → HasPut buckets bucket before (done ++ p ∷ []) new
put_more buckets bucket before done p old new h more = record {
  fit = fit_more before bucket done p h.fit more.0;
  stands = subst (StandsFor new buckets) (append_assoc before (in_bucket bucket done) (record { bucket = bucket; point = p } ∷ []) ∙ ap (λ l. before ++ l) (sym (in_bucket-append bucket done (p ∷ [])))) more.1;
}

pub ready_more : (buckets : List (List ℕ)) (bucket : List ℕ) (before : List StoredPoint) (p : Point) (old new : Kept) → is_added old.buckets bucket ≡ true → StandsFor old buckets before → PointLoads buckets bucket p before new (Ok tt) → IsReady new bucket
ready_more buckets bucket before p old new added stands more = record {
  buckets = buckets;
  stored = before ++ record { bucket = bucket; point = p } ∷ [];
  stands = more.1;
  added = rw (more.1.buckets_are, sym stands.buckets_are) added;
  few = omega (arith, more.1.puts_are, length-append before (record { bucket = bucket; point = p } ∷ []), more.2);
}

-- a point that stops the puts
pub put_stops : (buckets : List (List ℕ)) (bucket : List ℕ) (before : List StoredPoint) (points done rest : List Point) (p : Point) (old kept : Kept) (stop : LineStop) → points ≡ done ++ p ∷ rest → HasPut buckets bucket before done old
    → PointLoads buckets bucket p (before ++ in_bucket bucket done) kept (Err stop) → PointsLoad buckets bucket points before kept (Err stop)
put_stops buckets bucket before points done rest p old kept (line_stop.Refused (cause.Form error)) is h loads = absurd loads
put_stops buckets bucket before points done rest p old kept (line_stop.Refused (cause.KindConflict a b)) is h loads =
    (done, p, rest, is, h.fit, omega (arith, loads.0, length-append before (in_bucket bucket done), length_in bucket done), loads.1)
put_stops buckets bucket before points done rest p old kept line_stop.TooMany is h loads =
    (done, p, rest, is, h.fit, omega (arith, loads, length-append before (in_bucket bucket done), length_in bucket done))
put_stops buckets bucket before points done rest p old kept line_stop.Memory is h loads = tt

-- all points are put
pub all_put : (buckets : List (List ℕ)) (bucket : List ℕ) (before : List StoredPoint) (points done : List Point) (kept : Kept) → points ≡ done ++ [] → IsReady kept bucket → HasPut buckets bucket before done kept → PointsLoad buckets bucket points before kept (Ok tt)
all_put buckets bucket before points done kept is ready h =
    let same : done ≡ points = sym (append-nil done) ∙ sym is in
    let stands = subst (λ ps. StandsFor kept buckets (before ++ in_bucket bucket ps)) same h.stands in
    (subst (Fit before bucket) same h.fit, stands, omega (arith, ready.few, stands.puts_are, length-append before (in_bucket bucket points), length_in bucket points))

-- what puts of a line's points leave is what the line leaves
pub line_of_points : (mode : LineMode) (buckets : List (List ℕ)) (bucket line : List ℕ) (points : List Point) (before : List StoredPoint) (kept : Kept) (r : Result (Unit {0}) LineStop)
    → Gives mode line points → PointsLoad buckets bucket points before kept r → LineLoads mode buckets bucket line before kept r
line_of_points mode buckets bucket line points before kept (Ok _) given h =
    (before ++ in_bucket bucket points, record { points = points; given = given; fit = h.0; stored = refl; few = omega (arith, h.2, length-append before (in_bucket bucket points), length_in bucket points) }, h.1)
line_of_points mode buckets bucket line points before kept (Err (line_stop.Refused (cause.Form error))) given h = absurd h
line_of_points mode buckets bucket line points before kept (Err (line_stop.Refused (cause.KindConflict old new))) given h = (h.0, h.1, h.2, subst (Gives mode line) h.3 given, h.4, h.5, h.6)
line_of_points mode buckets bucket line points before kept (Err line_stop.TooMany) given h = (h.0, h.1, h.2, subst (Gives mode line) h.3 given, h.4, h.5)
line_of_points mode buckets bucket line points before kept (Err line_stop.Memory) given h = tt

-- a load has read so many lines of a file: they take the stored points to those of the store, and the rest is left
pub record HasRead (mode : LineMode) (buckets : List (List ℕ)) (bucket file : List ℕ) (before : List StoredPoint) (number : ℕ) (rest : Option (List ℕ)) (kept : Kept) : Type 0 where
  pub ahead : List (List ℕ)
  pub stored : List StoredPoint
  pub split : lines_of file ≡ ahead ++ lines_left rest
  pub counted : number ≡ length ahead
  pub read : Reads mode bucket ahead before stored
  pub stands : StandsFor kept buckets stored

-- a line more
pub Reads-append : (mode : LineMode) (bucket : List ℕ) (lines more : List (List ℕ)) (before middle after : List StoredPoint) → Reads mode bucket lines before middle → Reads mode bucket more middle after → Reads mode bucket (lines ++ more) before after
Reads-append mode bucket [] more before middle after h k = subst (λ s. Reads mode bucket more s after) (sym h) k
Reads-append mode bucket (line ∷ lines) more before middle after h k = (h.0, h.1, Reads-append mode bucket lines more h.0 middle after h.2 k)

-- the store behind a line that was taken is ready for the next one
pub ready_after : (mode : LineMode) (buckets : List (List ℕ)) (bucket line : List ℕ) (before after : List StoredPoint) (old new : Kept) → is_added old.buckets bucket ≡ true → StandsFor old buckets before → Takes mode bucket line before after → StandsFor new buckets after → IsReady new bucket
ready_after mode buckets bucket line before after old new added stands takes stands' = record {
  buckets = buckets;
  stored = after;
  stands = stands';
  added = rw (stands'.buckets_are, sym stands.buckets_are) added;
  few = rw stands'.puts_are takes.few;
}

-- one line more is read
pub read_more : (mode : LineMode) (buckets : List (List ℕ)) (bucket file line : List ℕ) (before after : List StoredPoint) (number : ℕ) (rest rest' : Option (List ℕ)) (old new : Kept) (h : HasRead mode buckets bucket file before number rest old)
    → lines_left rest ≡ line ∷ lines_left rest' → Takes mode bucket line h.stored after → StandsFor new buckets after → HasRead mode buckets bucket file before (number + 1) rest' new
read_more mode buckets bucket file line before after number rest rest' old new h is takes stands = record {
  ahead = h.ahead ++ line ∷ [];
  stored = after;
  split = h.split ∙ rw (is, append_assoc) refl;
  counted = rw length-append (ap (λ n. n + 1) h.counted);
  read = Reads-append mode bucket h.ahead (line ∷ []) before h.stored after h.read (after, takes, refl);
  stands = stands;
}

-- the line at which a load stops
pub stops : (mode : LineMode) (buckets : List (List ℕ)) (bucket file line : List ℕ) (before : List StoredPoint) (number : ℕ) (rest : Option (List ℕ)) (behind : List (List ℕ)) (kept : Kept) (h : HasRead mode buckets bucket file before number rest kept)
    → lines_left rest ≡ line ∷ behind → StopsAt mode bucket file before (number + 1) line h.stored
stops mode buckets bucket file line before number rest behind kept h is = record {
  ahead = h.ahead;
  behind = behind;
  split = h.split ∙ ap (λ lines. h.ahead ++ lines) is;
  counted = ap (λ n. n + 1) h.counted;
  read = h.read;
}

-- why a line stops is why its file does
pub stop_loads : (mode : LineMode) (buckets : List (List ℕ)) (bucket file line : List ℕ) (before stored : List StoredPoint) (number : ℕ) (kept kept' : Kept) (stop : LineStop)
    → StopsAt mode bucket file before number line stored → LineLoads mode buckets bucket line stored kept (Err stop) → FileLoads mode buckets bucket file before kept' (Err (stop_at number stop))
stop_loads mode buckets bucket file line before stored number kept kept' (line_stop.Refused cause) at h = (line, stored, at, h)
stop_loads mode buckets bucket file line before stored number kept kept' line_stop.TooMany at h = (line, stored, at, h)
stop_loads mode buckets bucket file line before stored number kept kept' line_stop.Memory at h = tt

-- where nothing is left the file is read
pub all_read : (mode : LineMode) (buckets : List (List ℕ)) (bucket file : List ℕ) (before : List StoredPoint) (number : ℕ) (kept : Kept) → HasRead mode buckets bucket file before number None kept
    → (after : List StoredPoint) × Reads mode bucket (lines_of file) before after × StandsFor kept buckets after
all_read mode buckets bucket file before number kept h = (h.stored, rw (h.split, append-nil) h.read, h.stands)

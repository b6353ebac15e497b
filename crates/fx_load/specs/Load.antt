-- What the lines of a file make of the stored points, and where the first line stands that stops a load.
use Rattle.fx_line.specs.declared.line.LineMode.{LineMode}
use Rattle.std.specs.Prelude.{◌≡◌, ℕ, true, ◌+◌, ◌<◌, ◌≤◌, List, [], ◌∷◌, ◌++◌, length, map, Result, Ok, Err}
use Rattle.fx_line.specs.declared.point.Point.{Point}
use Rattle.fx_line.specs.Line.{Gives, IsRefused}
use Rattle.fx_line.specs.Stored.{StoredPoint}
use Rattle.fx_series.specs.Put.{Agrees, Conflicts}
use Rattle.fx_series.specs.Store.{Kept, StandsFor, is_added}
use Rattle.fx_load.specs.declared.cause.LineCause.{LineCause}
use Rattle.fx_load.specs.declared.cause.LineCause.TheVariants as cause
use Rattle.fx_load.specs.declared.load.LineStop.{LineStop}
use Rattle.fx_load.specs.declared.load.LineStop.TheVariants as line_stop
use Rattle.fx_load.specs.declared.load.LoadStop.{LoadStop}
use Rattle.fx_load.specs.declared.load.LoadStop.TheVariants as load_stop
use Rattle.fx_load.specs.declared.load.TheConstants.{MOST_POINTS}
use Rattle.fx_load.specs.Bytes.{lines_of}

-- a store that stands for stored points, with this bucket among its buckets and no more points than may be
pub record IsReady (kept : Kept) (bucket : List ℕ) : Type 0 where
  pub buckets : List (List ℕ)
  pub stored : List StoredPoint
  pub stands : StandsFor kept buckets stored
  pub added : is_added kept.buckets bucket ≡ true
  pub few : kept.puts ≤ MOST_POINTS

-- points as they are stored in a bucket
abbrev pub in_bucket : List ℕ → List Point → List StoredPoint
in_bucket bucket points = map (λ p. record { bucket = bucket; point = p }) points

-- each of the points is of the kind of the points of its name before it
abbrev pub Fit : List StoredPoint → List ℕ → List Point → Type 0
Fit stored bucket [] = Unit {0}
Fit stored bucket (p ∷ rest) = Agrees stored (record { bucket = bucket; point = p }) × Fit (stored ++ record { bucket = bucket; point = p } ∷ []) bucket rest

-- one line takes the stored points to those behind it
pub record Takes (mode : LineMode) (bucket line : List ℕ) (before after : List StoredPoint) : Type 0 where
  pub points : List Point
  pub given : Gives mode line points
  pub fit : Fit before bucket points
  pub stored : after ≡ before ++ in_bucket bucket points
  pub few : length after ≤ MOST_POINTS

-- lines, one after another, take the stored points to those behind them
abbrev pub Reads : LineMode → List ℕ → List (List ℕ) → List StoredPoint → List StoredPoint → Type 0
Reads mode bucket [] before after = before ≡ after
Reads mode bucket (line ∷ lines) before after = (middle : List StoredPoint) × Takes mode bucket line before middle × Reads mode bucket lines middle after

-- why a line stops a load over these stored points: it is refused, or there is room for one of its points that is of another
-- kind than an earlier point of its name
abbrev pub IsCause : LineMode → List ℕ → List ℕ → List StoredPoint → LineCause → Type 0
IsCause mode bucket line stored (cause.Form error) = IsRefused mode line error
IsCause mode bucket line stored (cause.KindConflict old new) = (fitting : List Point) × (p : Point) × (rest : List Point) × Gives mode line (fitting ++ p ∷ rest) × Fit stored bucket fitting × (length stored + length fitting < MOST_POINTS)
    × ((number : ℕ) × Conflicts (stored ++ in_bucket bucket fitting) (record { bucket = bucket; point = p }) number old new)

-- a line holds a point when as many are stored as may be
abbrev pub IsTooMany : LineMode → List ℕ → List ℕ → List StoredPoint → Type 0
IsTooMany mode bucket line stored = (fitting : List Point) × (p : Point) × (rest : List Point) × Gives mode line (fitting ++ p ∷ rest) × Fit stored bucket fitting × (length stored + length fitting ≡ MOST_POINTS)

-- the line with this number, counted from 1, is the first that stops the load of a file, where these points are stored
pub record StopsAt (mode : LineMode) (bucket file : List ℕ) (before : List StoredPoint) (number : ℕ) (line : List ℕ) (stored : List StoredPoint) : Type 0 where
  pub ahead : List (List ℕ)
  pub behind : List (List ℕ)
  pub split : lines_of file ≡ ahead ++ line ∷ behind
  pub counted : number ≡ length ahead + 1
  pub read : Reads mode bucket ahead before stored

-- what a put of a point leaves, by the answer
abbrev pub PointLoads : List (List ℕ) → List ℕ → Point → List StoredPoint → Kept → Result (Unit {0}) LineStop → Type 0
PointLoads buckets bucket p before kept (Ok _) = Agrees before (record { bucket = bucket; point = p }) × StandsFor kept buckets (before ++ record { bucket = bucket; point = p } ∷ []) × (length before < MOST_POINTS)
PointLoads buckets bucket p before kept (Err (line_stop.Refused (cause.Form error))) = ⊥
PointLoads buckets bucket p before kept (Err (line_stop.Refused (cause.KindConflict old new))) = (length before < MOST_POINTS) × ((number : ℕ) × Conflicts before (record { bucket = bucket; point = p }) number old new)
PointLoads buckets bucket p before kept (Err line_stop.TooMany) = length before ≡ MOST_POINTS
PointLoads buckets bucket p before kept (Err line_stop.Memory) = Unit {0}

-- what puts of points leave, one after another
abbrev pub PointsLoad : List (List ℕ) → List ℕ → List Point → List StoredPoint → Kept → Result (Unit {0}) LineStop → Type 0
PointsLoad buckets bucket points before kept (Ok _) = Fit before bucket points × StandsFor kept buckets (before ++ in_bucket bucket points) × (length before + length points ≤ MOST_POINTS)
PointsLoad buckets bucket points before kept (Err (line_stop.Refused (cause.Form error))) = ⊥
PointsLoad buckets bucket points before kept (Err (line_stop.Refused (cause.KindConflict old new))) = (fitting : List Point) × (p : Point) × (rest : List Point) × (points ≡ fitting ++ p ∷ rest) × Fit before bucket fitting × (length before + length fitting < MOST_POINTS)
    × ((number : ℕ) × Conflicts (before ++ in_bucket bucket fitting) (record { bucket = bucket; point = p }) number old new)
PointsLoad buckets bucket points before kept (Err line_stop.TooMany) = (fitting : List Point) × (p : Point) × (rest : List Point) × (points ≡ fitting ++ p ∷ rest) × Fit before bucket fitting × (length before + length fitting ≡ MOST_POINTS)
PointsLoad buckets bucket points before kept (Err line_stop.Memory) = Unit {0}

-- what a line leaves, by the answer
abbrev pub LineLoads : LineMode → List (List ℕ) → List ℕ → List ℕ → List StoredPoint → Kept → Result (Unit {0}) LineStop → Type 0
LineLoads mode buckets bucket line before kept (Ok _) = (after : List StoredPoint) × Takes mode bucket line before after × StandsFor kept buckets after
LineLoads mode buckets bucket line before kept (Err (line_stop.Refused cause)) = IsCause mode bucket line before cause
LineLoads mode buckets bucket line before kept (Err line_stop.TooMany) = IsTooMany mode bucket line before
LineLoads mode buckets bucket line before kept (Err line_stop.Memory) = Unit {0}

-- why a load stops at a line
abbrev pub stop_at : ℕ → LineStop → LoadStop
stop_at number (line_stop.Refused cause) = load_stop.Line number cause
stop_at number line_stop.TooMany = load_stop.TooMany number
stop_at number line_stop.Memory = load_stop.Memory

-- what a file leaves, by the answer
abbrev pub FileLoads : LineMode → List (List ℕ) → List ℕ → List ℕ → List StoredPoint → Kept → Result (Unit {0}) LoadStop → Type 0
FileLoads mode buckets bucket file before kept (Ok _) = (after : List StoredPoint) × Reads mode bucket (lines_of file) before after × StandsFor kept buckets after
FileLoads mode buckets bucket file before kept (Err (load_stop.Line number cause)) = (line : List ℕ) × (stored : List StoredPoint) × StopsAt mode bucket file before number line stored × IsCause mode bucket line stored cause
FileLoads mode buckets bucket file before kept (Err (load_stop.TooMany number)) = (line : List ℕ) × (stored : List StoredPoint) × StopsAt mode bucket file before number line stored × IsTooMany mode bucket line stored
FileLoads mode buckets bucket file before kept (Err load_stop.Memory) = Unit {0}

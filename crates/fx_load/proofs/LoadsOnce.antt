-- A load of files ends in one way, but for the system's refusals and want of memory.
use Rattle.std.proofs.Common.{◌≡◌, ℕ, ◌+◌, ◌<◌, ◌≤◌, ◌⊎◌, inl, inr, List, [], ◌∷◌, ◌++◌, length, Some, refl, sym, ◌∙◌, ap, subst, arith}
use Rattle.fx_base.specs.Outside.{Told}
use Rattle.fx_line.specs.declared.line.LineMode.{LineMode}
use Rattle.fx_line.specs.Stored.{StoredPoint}
use Rattle.fx_load.specs.declared.cause.LineCause.{LineCause}
use Rattle.fx_load.specs.declared.loads.Load.{Load}
use Rattle.fx_load.specs.declared.loads.FileStop.{FileStop}
use Rattle.fx_load.specs.declared.loads.FileStop.TheVariants as file_stop
use Rattle.fx_load.specs.declared.loads.TheConstants.{MOST_FILE_BYTES}
use Rattle.fx_load.specs.Bytes.{lines_of}
use Rattle.fx_load.specs.Load.{Reads, StopsAt, IsCause, IsTooMany}
use Rattle.fx_load.specs.Loads.{IsTold, IsLong, FileReads, FilesRead, HasStop, FileStops, StopsFiles}
use Rattle.fx_load.proofs.LoadOnce.{Stops, AreCuts, cuts, same_cause, cause_or_full, same_reads, stop_or_all, SameStop, same_stop}

pub same_told : (told : Told) (name : List ℕ) (limit : ℕ) (a b : List ℕ) → IsTold told name limit a → IsTold told name limit b → a ≡ b
same_told told name limit a b g h = cc (g.bytes_are, h.bytes_are)

pub long_or_told : (told : Told) (name : List ℕ) (limit : ℕ) (bytes : List ℕ) → IsLong told name limit → IsTold told name limit bytes → ⊥
long_or_told told name limit bytes g h =
    let same : g.bytes ≡ bytes = cc (g.bytes_are, h.bytes_are) in
    omega (arith, g.long, h.short, ap length same)

-- a stop that what the files tell settles
abbrev pub IsSettled : FileStop → Type 0
IsSettled file_stop.Failed = ⊥
IsSettled file_stop.Memory = ⊥
IsSettled stop = Unit {0}

module _ (mode : LineMode) (told : Told) where
  same_file : (l : Load) (before a b : List StoredPoint) → FileReads mode told l before a → FileReads mode told l before b → a ≡ b
  same_file l before a b g h =
      let bytes = same_told told l.file MOST_FILE_BYTES g.bytes h.bytes g.file h.file in
      same_reads mode l.bucket (lines_of h.bytes) before a b (subst (λ x. Reads mode l.bucket (lines_of x) before a) bytes g.read) h.read

  pub same_files : (loads : List Load) (before a b : List StoredPoint) → FilesRead mode told loads before a → FilesRead mode told loads before b → a ≡ b
  same_files [] before a b g h = sym g ∙ h
  same_files (l ∷ loads) before a b g h =
      let middle = same_file l before g.0 h.0 g.1 h.1 in
      same_files loads g.0 a b g.2 (subst (λ m. FilesRead mode told loads m b) (sym middle) h.2)

  cut_files : (loads more : List Load) (before after : List StoredPoint) → FilesRead mode told (loads ++ more) before after → (middle : List StoredPoint) × FilesRead mode told loads before middle × FilesRead mode told more middle after
  cut_files [] more before after h = (before, refl, h)
  cut_files (l ∷ loads) more before after h =
      let later = cut_files loads more h.0 after h.2 in
      (later.0, (h.0, h.1, later.1), later.2)

  line_or_read : (l : Load) (before after : List StoredPoint) (number : ℕ) (P : List ℕ → List StoredPoint → Type 0) → ((line : List ℕ) (stored : List StoredPoint) → P line stored → Stops mode l.bucket line stored) → HasStop mode told l before number P → FileReads mode told l before after → ⊥
  line_or_read l before after number P stops g h =
      let bytes = same_told told l.file MOST_FILE_BYTES g.bytes h.bytes g.file h.file in
      stop_or_all mode l.bucket g.bytes g.line before g.stored after number g.at (stops g.line g.stored g.why) (subst (λ x. Reads mode l.bucket (lines_of x) before after) (sym bytes) h.read)

  stop_or_file : (l : Load) (before after : List StoredPoint) (stop : FileStop) → IsSettled stop → FileStops mode told l before stop → FileReads mode told l before after → ⊥
  stop_or_file l before after file_stop.Failed s g h = absurd s
  stop_or_file l before after (file_stop.TooLong taken) s g h = long_or_told told l.file MOST_FILE_BYTES h.bytes g.0 h.file
  stop_or_file l before after (file_stop.Line number cause) s g h = line_or_read l before after number _ (λ line stored why. inl (cause, why)) g h
  stop_or_file l before after (file_stop.TooMany number) s g h = line_or_read l before after number _ (λ line stored why. inr why) g h
  stop_or_file l before after file_stop.Memory s g h = absurd s

  -- two stops of one file
  module _ (l : Load) (before : List StoredPoint) (m n : ℕ) (P Q : List ℕ → List StoredPoint → Type 0) (p : (line : List ℕ) (stored : List StoredPoint) → P line stored → Stops mode l.bucket line stored) (q : (line : List ℕ) (stored : List StoredPoint) → Q line stored → Stops mode l.bucket line stored)
      (g : HasStop mode told l before m P) (h : HasStop mode told l before n Q) where
    stops_same : SameStop m n g.line h.line g.stored h.stored
    stops_same =
        let bytes = same_told told l.file MOST_FILE_BYTES g.bytes h.bytes g.file h.file in
        let at = subst (λ x. StopsAt mode l.bucket x before m g.line g.stored) bytes g.at in
        same_stop mode l.bucket h.bytes before g.line h.line g.stored h.stored m n at h.at (p g.line g.stored g.why) (q h.line h.stored h.why)

    why_there : P h.line h.stored
    why_there = subst (λ x. P x h.stored) stops_same.line_is (subst (λ x. P g.line x) stops_same.stored_is g.why)

  abbrev by_cause : (l : Load) (a : LineCause) (line : List ℕ) (stored : List StoredPoint) → IsCause mode l.bucket line stored a → Stops mode l.bucket line stored
  by_cause l a line stored why = inl (a, why)

  abbrev by_full : (l : Load) (line : List ℕ) (stored : List StoredPoint) → IsTooMany mode l.bucket line stored → Stops mode l.bucket line stored
  by_full l line stored why = inr why

  two_lines : (l : Load) (before : List StoredPoint) (m n : ℕ) (a b : LineCause) → HasStop mode told l before m (λ line stored. IsCause mode l.bucket line stored a) → HasStop mode told l before n (λ line stored. IsCause mode l.bucket line stored b) → file_stop.Line m a ≡ file_stop.Line n b
  two_lines l before m n a b g h =
      let s = stops_same l before m n (λ line stored. IsCause mode l.bucket line stored a) (λ line stored. IsCause mode l.bucket line stored b) (by_cause l a) (by_cause l b) g h in
      let why = why_there l before m n (λ line stored. IsCause mode l.bucket line stored a) (λ line stored. IsCause mode l.bucket line stored b) (by_cause l a) (by_cause l b) g h in
      λ i. file_stop.Line (s.number i) (same_cause mode l.bucket h.line h.stored a b why h.why i)

  line_or_full : (l : Load) (before : List StoredPoint) (m n : ℕ) (a : LineCause) → HasStop mode told l before m (λ line stored. IsCause mode l.bucket line stored a) → HasStop mode told l before n (λ line stored. IsTooMany mode l.bucket line stored) → ⊥
  line_or_full l before m n a g h =
      cause_or_full mode l.bucket h.line h.stored a (why_there l before m n (λ line stored. IsCause mode l.bucket line stored a) (λ line stored. IsTooMany mode l.bucket line stored) (by_cause l a) (by_full l) g h) h.why

  two_full : (l : Load) (before : List StoredPoint) (m n : ℕ) → HasStop mode told l before m (λ line stored. IsTooMany mode l.bucket line stored) → HasStop mode told l before n (λ line stored. IsTooMany mode l.bucket line stored) → file_stop.TooMany m ≡ file_stop.TooMany n
  two_full l before m n g h =
      ap (λ x. file_stop.TooMany x) (stops_same l before m n (λ line stored. IsTooMany mode l.bucket line stored) (λ line stored. IsTooMany mode l.bucket line stored) (by_full l) (by_full l) g h).number

  same_file_stop : (l : Load) (before : List StoredPoint) (s t : FileStop) → IsSettled s → IsSettled t → FileStops mode told l before s → FileStops mode told l before t → s ≡ t
  same_file_stop l before file_stop.Failed t p q g h = absurd p
  same_file_stop l before file_stop.Memory t p q g h = absurd p
  same_file_stop l before (file_stop.TooLong a) file_stop.Failed p q g h = absurd q
  same_file_stop l before (file_stop.TooLong a) file_stop.Memory p q g h = absurd q
  same_file_stop l before (file_stop.TooLong a) (file_stop.TooLong b) p q g h = ap (λ x. file_stop.TooLong x) (g.1 ∙ sym h.1)
  same_file_stop l before (file_stop.TooLong a) (file_stop.Line n b) p q g h = absurd (long_or_told told l.file MOST_FILE_BYTES h.bytes g.0 h.file)
  same_file_stop l before (file_stop.TooLong a) (file_stop.TooMany n) p q g h = absurd (long_or_told told l.file MOST_FILE_BYTES h.bytes g.0 h.file)
  same_file_stop l before (file_stop.Line m a) file_stop.Failed p q g h = absurd q
  same_file_stop l before (file_stop.Line m a) file_stop.Memory p q g h = absurd q
  same_file_stop l before (file_stop.Line m a) (file_stop.TooLong b) p q g h = absurd (long_or_told told l.file MOST_FILE_BYTES g.bytes h.0 g.file)
  same_file_stop l before (file_stop.Line m a) (file_stop.Line n b) p q g h = two_lines l before m n a b g h
  same_file_stop l before (file_stop.Line m a) (file_stop.TooMany n) p q g h = absurd (line_or_full l before m n a g h)
  same_file_stop l before (file_stop.TooMany m) file_stop.Failed p q g h = absurd q
  same_file_stop l before (file_stop.TooMany m) file_stop.Memory p q g h = absurd q
  same_file_stop l before (file_stop.TooMany m) (file_stop.TooLong b) p q g h = absurd (long_or_told told l.file MOST_FILE_BYTES g.bytes h.0 g.file)
  same_file_stop l before (file_stop.TooMany m) (file_stop.Line n b) p q g h = absurd (line_or_full l before n m b h g)
  same_file_stop l before (file_stop.TooMany m) (file_stop.TooMany n) p q g h = two_full l before m n g h

  -- files up to the one that stops a load, and on, are not read
  stop_or_ahead : (l : Load) (ahead behind : List Load) (before stored after : List StoredPoint) (stop : FileStop) → IsSettled stop → FilesRead mode told ahead before stored → FileStops mode told l stored stop → FilesRead mode told (ahead ++ l ∷ behind) before after → ⊥
  stop_or_ahead l ahead behind before stored after stop s read stops h =
      let parts = cut_files ahead (l ∷ behind) before after h in
      let same = same_files ahead before parts.0 stored parts.1 read in
      stop_or_file l stored parts.2.0 stop s stops (subst (λ m. FileReads mode told l m parts.2.0) same parts.2.1)

  pub stop_or_files : (loads : List Load) (before after : List StoredPoint) (place : ℕ) (stop : FileStop) → IsSettled stop → StopsFiles mode told loads before place stop → FilesRead mode told loads before after → ⊥
  stop_or_files loads before after place stop s g h =
      stop_or_ahead g.load g.ahead g.behind before g.stored after stop s g.read g.stops (subst (λ ls. FilesRead mode told ls before after) g.split h)

  pub same_files_stop : (loads : List Load) (before : List StoredPoint) (m n : ℕ) (s t : FileStop) → IsSettled s → IsSettled t → StopsFiles mode told loads before m s → StopsFiles mode told loads before n t → (m ≡ n) × (s ≡ t)
  same_files_stop loads before m n s t p q g h = by (cuts g.ahead h.ahead g.behind h.behind g.load h.load (sym g.split ∙ h.split))
    where
      by : AreCuts g.ahead g.load h.ahead h.load → (m ≡ n) × (s ≡ t)
      by (inl same) =
          let read = subst (λ ls. FilesRead mode told ls before g.stored) same.0 g.read in
          let stored = same_files h.ahead before g.stored h.stored read h.read in
          let stops = subst (λ x. FileStops mode told h.load x s) stored (subst (λ l. FileStops mode told l g.stored s) same.1 g.stops) in
          (g.counted ∙ ap (λ ls. length ls) same.0 ∙ sym h.counted, same_file_stop h.load h.stored s t p q stops h.stops)
      by (inr (inl past)) =
          absurd (stop_or_ahead g.load g.ahead past.0 before g.stored h.stored s p g.read g.stops (subst (λ ls. FilesRead mode told ls before h.stored) past.1 h.read))
      by (inr (inr past)) =
          absurd (stop_or_ahead h.load h.ahead past.0 before h.stored g.stored t q h.read h.stops (subst (λ ls. FilesRead mode told ls before g.stored) past.1 g.read))

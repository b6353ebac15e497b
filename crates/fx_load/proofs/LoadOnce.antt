-- A load over stored points ends in one way.
use Rattle.fx_line.specs.declared.line.LineMode.{LineMode}
use Rattle.std.proofs.Common.{◌≡◌, ℕ, suc, ◌+◌, ◌<◌, ◌≤◌, ◌⊎◌, inl, inr, List, [], ◌∷◌, ◌++◌, length, map, refl, sym, ◌∙◌, ap, subst, arith, length-append, append-nil, append_assoc}
use Rattle.fx_value.specs.declared.scalar.Kind.{Kind}
use Rattle.fx_line.specs.declared.line.LineError.{LineError}
use Rattle.fx_line.specs.declared.point.Point.{Point}
use Rattle.fx_line.specs.Line.{Gives, IsRefused}
use Rattle.fx_line.specs.Stored.{StoredPoint}
use Rattle.fx_line.proofs.OneAnswer.{same_points, same_error, given_refused}
use Rattle.fx_series.specs.Put.{Agrees, Conflicts}
use Rattle.fx_series.proofs.OneAnswer.{agrees_or_conflicts, same_kinds}
use Rattle.fx_load.specs.declared.cause.LineCause.{LineCause}
use Rattle.fx_load.specs.declared.cause.LineCause.TheVariants as cause
use Rattle.fx_load.specs.declared.load.TheConstants.{MOST_POINTS}
use Rattle.fx_load.specs.Bytes.{lines_of}
use Rattle.fx_load.specs.Load.{in_bucket, Fit, Takes, Reads, IsCause, IsTooMany, StopsAt}

-- ---- two places in one list

-- two cuts of one list are at one place, or one of them is before the other
abbrev pub AreCuts : {X : Type 0} → List X → X → List X → X → Type 0
AreCuts {X} xs x ys y = ((xs ≡ ys) × (x ≡ y)) ⊎ (((more : List X) × (ys ≡ xs ++ x ∷ more)) ⊎ ((more : List X) × (xs ≡ ys ++ y ∷ more)))

cuts_later : {X : Type 0} (a b x y : X) (xs ys : List X) → a ≡ b → AreCuts xs x ys y → AreCuts (a ∷ xs) x (b ∷ ys) y
cuts_later a b x y xs ys e (inl h) = inl ((λ i. e i ∷ h.0 i), h.1)
cuts_later a b x y xs ys e (inr (inl h)) = inr (inl (h.0, λ i. sym e i ∷ h.1 i))
cuts_later a b x y xs ys e (inr (inr h)) = inr (inr (h.0, λ i. e i ∷ h.1 i))

pub cuts : {X : Type 0} (xs ys us vs : List X) (x y : X) → xs ++ x ∷ us ≡ ys ++ y ∷ vs → AreCuts xs x ys y
cuts [] [] us vs x y e = inl (refl, cc e)
cuts [] (b ∷ ys) us vs x y e = let head : x ≡ b = cc e in inr (inl (ys, λ i. sym head i ∷ ys))
cuts (a ∷ xs) [] us vs x y e = let head : a ≡ y = cc e in inr (inr (xs, λ i. head i ∷ xs))
cuts (a ∷ xs) (b ∷ ys) us vs x y e =
    let head : a ≡ b = cc e in
    let tail : xs ++ x ∷ us ≡ ys ++ y ∷ vs = cc e in
    cuts_later a b x y xs ys head (cuts xs ys us vs x y tail)

-- ---- one line

abbrev at_bucket : List ℕ → Point → StoredPoint
at_bucket bucket p = record { bucket = bucket; point = p }

-- a point that fits agrees with those before it
agrees_at : (stored : List StoredPoint) (bucket : List ℕ) (before : List Point) (p : Point) (rest : List Point) → Fit stored bucket (before ++ p ∷ rest) → Agrees (stored ++ in_bucket bucket before) (at_bucket bucket p)
agrees_at stored bucket [] p rest h = subst (λ l. Agrees l (at_bucket bucket p)) (sym (append-nil stored)) h.0
agrees_at stored bucket (q ∷ before) p rest h =
    subst (λ l. Agrees l (at_bucket bucket p)) (append_assoc stored (at_bucket bucket q ∷ []) (in_bucket bucket before)) (agrees_at (stored ++ at_bucket bucket q ∷ []) bucket before p rest h.1)

same_takes : (mode : LineMode) (bucket line : List ℕ) (before a b : List StoredPoint) → Takes mode bucket line before a → Takes mode bucket line before b → a ≡ b
same_takes mode bucket line before a b g h =
    g.stored ∙ ap (λ ps. before ++ in_bucket bucket ps) (same_points mode line g.points h.points g.given h.given) ∙ sym h.stored

-- the line stops the load
abbrev pub Stops : LineMode → List ℕ → List ℕ → List StoredPoint → Type 0
Stops mode bucket line stored = ((reason : LineCause) × IsCause mode bucket line stored reason) ⊎ IsTooMany mode bucket line stored

length_in : (bucket : List ℕ) (points : List Point) → length (in_bucket bucket points) ≡ length points
length_in bucket [] = refl
length_in bucket (p ∷ points) = ap suc (length_in bucket points)

pub stop_or_takes : (mode : LineMode) (bucket line : List ℕ) (stored after : List StoredPoint) → Stops mode bucket line stored → Takes mode bucket line stored after → ⊥
stop_or_takes mode bucket line stored after (inl (cause.Form error, h)) t = given_refused mode line t.points error t.given h
stop_or_takes mode bucket line stored after (inl (cause.KindConflict old new, h)) t =
    let same = same_points mode line t.points (h.0 ++ h.1 ∷ h.2) t.given h.3 in
    agrees_or_conflicts (stored ++ in_bucket bucket h.0) (at_bucket bucket h.1) h.6.0 old new (agrees_at stored bucket h.0 h.1 h.2 (subst (Fit stored bucket) same t.fit)) h.6.1
stop_or_takes mode bucket line stored after (inr h) t =
    let same = same_points mode line t.points (h.0 ++ h.1 ∷ h.2) t.given h.3 in
    omega (arith, t.few, ap length t.stored, length-append stored (in_bucket bucket t.points), length_in bucket t.points, ap length same, length-append h.0 (h.1 ∷ h.2), h.5)

-- a point in conflict with those before it stands in no list that fits
conflict_past : (bucket : List ℕ) (stored : List StoredPoint) (before : List Point) (p : Point) (more fitting : List Point) (old new : Kind) → fitting ≡ before ++ p ∷ more → Fit stored bucket fitting
    → ((number : ℕ) × Conflicts (stored ++ in_bucket bucket before) (at_bucket bucket p) number old new) → ⊥
conflict_past bucket stored before p more fitting old new is fit h =
    agrees_or_conflicts (stored ++ in_bucket bucket before) (at_bucket bucket p) h.0 old new (agrees_at stored bucket before p more (subst (Fit stored bucket) is fit)) h.1

one_conflict : (mode : LineMode) (bucket line : List ℕ) (stored : List StoredPoint) (old new old' new' : Kind) → IsCause mode bucket line stored (cause.KindConflict old new) → IsCause mode bucket line stored (cause.KindConflict old' new')
    → cause.KindConflict old new ≡ cause.KindConflict old' new'
one_conflict mode bucket line stored old new old' new' g h =
    by (cuts g.0 h.0 g.2 h.2 g.1 h.1 (same_points mode line (g.0 ++ g.1 ∷ g.2) (h.0 ++ h.1 ∷ h.2) g.3 h.3))
  where
    by : AreCuts g.0 g.1 h.0 h.1 → cause.KindConflict old new ≡ cause.KindConflict old' new'
    by (inl same) =
        let at : Conflicts (stored ++ in_bucket bucket h.0) (at_bucket bucket h.1) g.6.0 old new =
        subst (λ p. Conflicts (stored ++ in_bucket bucket h.0) (at_bucket bucket p) g.6.0 old new) same.1
        (subst (λ ps. Conflicts (stored ++ in_bucket bucket ps) (at_bucket bucket g.1) g.6.0 old new) same.0 g.6.1) in
        let kinds = same_kinds (stored ++ in_bucket bucket h.0) (at_bucket bucket h.1) g.6.0 h.6.0 old new old' new' at h.6.1 in
        λ i. cause.KindConflict (kinds.0 i) (kinds.1 i)
    by (inr (inl past)) = absurd (conflict_past bucket stored g.0 g.1 past.0 h.0 old new past.1 h.4 g.6)
    by (inr (inr past)) = absurd (conflict_past bucket stored h.0 h.1 past.0 g.0 old' new' past.1 g.4 h.6)

pub same_cause : (mode : LineMode) (bucket line : List ℕ) (stored : List StoredPoint) (a b : LineCause) → IsCause mode bucket line stored a → IsCause mode bucket line stored b → a ≡ b
same_cause mode bucket line stored (cause.Form d) (cause.Form e) g h = ap (λ x. cause.Form x) (same_error mode line d e g h)
same_cause mode bucket line stored (cause.Form d) (cause.KindConflict old new) g h = absurd (given_refused mode line (h.0 ++ h.1 ∷ h.2) d h.3 g)
same_cause mode bucket line stored (cause.KindConflict old new) (cause.Form e) g h = absurd (given_refused mode line (g.0 ++ g.1 ∷ g.2) e g.3 h)
same_cause mode bucket line stored (cause.KindConflict old new) (cause.KindConflict old' new') g h = one_conflict mode bucket line stored old new old' new' g h

-- too many points and another cause are never both there
room_or_full : (mode : LineMode) (bucket line : List ℕ) (stored : List StoredPoint) (old new : Kind) → IsCause mode bucket line stored (cause.KindConflict old new) → IsTooMany mode bucket line stored → ⊥
room_or_full mode bucket line stored old new g h = by (cuts g.0 h.0 g.2 h.2 g.1 h.1 (same_points mode line (g.0 ++ g.1 ∷ g.2) (h.0 ++ h.1 ∷ h.2) g.3 h.3))
  where
    by : AreCuts g.0 g.1 h.0 h.1 → ⊥
    by (inl same) = omega (arith, g.5, h.5, ap length same.0)
    by (inr (inl past)) = conflict_past bucket stored g.0 g.1 past.0 h.0 old new past.1 h.4 g.6
    by (inr (inr past)) = omega (arith, g.5, h.5, ap length past.1, length-append h.0 (h.1 ∷ past.0))

pub cause_or_full : (mode : LineMode) (bucket line : List ℕ) (stored : List StoredPoint) (a : LineCause) → IsCause mode bucket line stored a → IsTooMany mode bucket line stored → ⊥
cause_or_full mode bucket line stored (cause.Form error) g h = given_refused mode line (h.0 ++ h.1 ∷ h.2) error h.3 g
cause_or_full mode bucket line stored (cause.KindConflict old new) g h = room_or_full mode bucket line stored old new g h

-- ---- a file

pub same_reads : (mode : LineMode) (bucket : List ℕ) (lines : List (List ℕ)) (before a b : List StoredPoint) → Reads mode bucket lines before a → Reads mode bucket lines before b → a ≡ b
same_reads mode bucket [] before a b g h = sym g ∙ h
same_reads mode bucket (line ∷ lines) before a b g h =
    let same = same_takes mode bucket line before g.0 h.0 g.1 h.1 in
    same_reads mode bucket lines g.0 a b g.2 (subst (λ m. Reads mode bucket lines m b) (sym same) h.2)

cut_reads : (mode : LineMode) (bucket : List ℕ) (lines more : List (List ℕ)) (before after : List StoredPoint) → Reads mode bucket (lines ++ more) before after → (middle : List StoredPoint) × Reads mode bucket lines before middle × Reads mode bucket more middle after
cut_reads mode bucket [] more before after h = (before, refl, h)
cut_reads mode bucket (line ∷ lines) more before after h =
    let later = cut_reads mode bucket lines more h.0 after h.2 in
    (later.0, (h.0, h.1, later.1), later.2)

-- lines up to the one that stops a load, and on, are not read
stop_or_reads : (mode : LineMode) (bucket line : List ℕ) (ahead behind : List (List ℕ)) (before stored after : List StoredPoint) → Reads mode bucket ahead before stored → Stops mode bucket line stored → Reads mode bucket (ahead ++ line ∷ behind) before after → ⊥
stop_or_reads mode bucket line ahead behind before stored after read stop h =
    let parts = cut_reads mode bucket ahead (line ∷ behind) before after h in
    let same = same_reads mode bucket ahead before parts.0 stored parts.1 read in
    stop_or_takes mode bucket line stored parts.2.0 stop (subst (λ m. Takes mode bucket line m parts.2.0) same parts.2.1)

pub stop_or_all : (mode : LineMode) (bucket file line : List ℕ) (before stored after : List StoredPoint) (number : ℕ) → StopsAt mode bucket file before number line stored → Stops mode bucket line stored → Reads mode bucket (lines_of file) before after → ⊥
stop_or_all mode bucket file line before stored after number at stop h =
    stop_or_reads mode bucket line at.ahead at.behind before stored after at.read stop (subst (λ l. Reads mode bucket l before after) at.split h)

-- the line at which a load stops is one
pub record SameStop (m n : ℕ) (line line' : List ℕ) (stored stored' : List StoredPoint) : Type 0 where
  pub number : m ≡ n
  pub line_is : line ≡ line'
  pub stored_is : stored ≡ stored'

module _ (mode : LineMode) (bucket file : List ℕ) (before : List StoredPoint) where
  pub same_stop : (line line' : List ℕ) (stored stored' : List StoredPoint) (m n : ℕ) → StopsAt mode bucket file before m line stored → StopsAt mode bucket file before n line' stored' → Stops mode bucket line stored → Stops mode bucket line' stored'
      → SameStop m n line line' stored stored'
  same_stop line line' stored stored' m n g h stop stop' = by (cuts g.ahead h.ahead g.behind h.behind line line' (sym g.split ∙ h.split))
    where
      by : AreCuts g.ahead line h.ahead line' → SameStop m n line line' stored stored'
      by (inl same) =
          let read = subst (λ l. Reads mode bucket l before stored) same.0 g.read in
          record {
            number = g.counted ∙ ap (λ l. length l + 1) same.0 ∙ sym h.counted;
            line_is = same.1;
            stored_is = same_reads mode bucket h.ahead before stored stored' read h.read;
          }
      by (inr (inl past)) =
          absurd (stop_or_reads mode bucket line g.ahead past.0 before stored stored' g.read stop (subst (λ l. Reads mode bucket l before stored') past.1 h.read))
      by (inr (inr past)) =
          absurd (stop_or_reads mode bucket line' h.ahead past.0 before stored' stored h.read stop' (subst (λ l. Reads mode bucket l before stored) past.1 g.read))

-- What a put into the series says of the stored points.
use Rattle.std.proofs.Common.{◌≡◌, ℕ, zero, suc, ◌+◌, ◌≤◌, ℤ, Bool, true, false, ◌||◌, ◌⊎◌, ⊎_elim, inr, not, if◌then◌else◌, filter, Option, None, List, [], ◌∷◌, ◌++◌, map, length, Some, Result, Ok, Err, slice_get, option_map, All, refl, sym, ap, subst, ◌∙◌, length-append, arith}
use Rattle.std.specs.List.{list_any, IsDistinct}
use Rattle.std.proofs.lemmas.Bool.{and_left, or_right, cond-true, cond-false, false≢true}
use Rattle.std.proofs.lemmas.Option.{slice_get-map}
use Rattle.std.proofs.lemmas.List.Elements.{All-nil, All-head, All-tail, All-push, All-weaker, All-same}
use Rattle.fx_value.specs.declared.scalar.Kind.{Kind}
use Rattle.fx_value.specs.declared.scalar.Scalar.{Scalar}
use Rattle.fx_value.specs.Scalar.{kind_of}
use Rattle.fx_line.specs.declared.point.Point.{Point}
use Rattle.fx_line.specs.Stored.{IsLawful, StoredPoint, SeriesId, same_name, same_id, id_of, first_seen, points_named, kind_of_points, Series, series_of, grouped}
use Rattle.fx_series.specs.declared.fault.PutFault.{PutFault}
use Rattle.fx_series.specs.declared.fault.PutFault.TheVariants as fault
use Rattle.fx_series.specs.Store.{Kept, StandsFor, is_added, AreOfOneKind}
use Rattle.fx_series.specs.Put.{Agrees, Conflicts, Answers, HasPut, point_at}
use Rattle.fx_series.specs.Held.{after_put, is_seen, kind_at, Refuses, SeriesAnswers}
use Rattle.fx_series.proofs.Same.{same_from, same_itself, points_along}
use Rattle.fx_series.proofs.Grouped.{any-first_seen, first_seen-distinct, points-push_same, points-push_other, no_points, grouped-push, ids-grouped}

-- ---- the kind of a name
seen_map : (id : SeriesId) (stored : List StoredPoint) (ids : List SeriesId) → is_seen id (map (series_of stored) ids) ≡ list_any (same_name id) ids
seen_map id stored [] = refl
seen_map id stored (k ∷ rest) = ap (λ t. same_name id k || t) (seen_map id stored rest)

seen_is : (id : SeriesId) (stored : List StoredPoint) → is_seen id (grouped stored) ≡ list_any (same_name id) (map id_of stored)
seen_is id stored = seen_map id stored (first_seen (map id_of stored)) ∙ any-first_seen (same_name id) (map id_of stored)

-- the kind of the first series of a name
abbrev kind_in : SeriesId → List SeriesId → Option Kind
kind_in id [] = None
kind_in id (k ∷ rest) = if same_name id k then k.kind else kind_in id rest

kind_map : (id : SeriesId) (stored : List StoredPoint) (ids : List SeriesId) → kind_at id (map (series_of stored) ids) ≡ kind_in id ids
kind_map id stored [] = refl
kind_map id stored (k ∷ rest) = ap (λ o. if same_name id k then k.kind else o) (kind_map id stored rest)

-- the series other than one
abbrev past : SeriesId → SeriesId → Bool
past a b = not (same_id a b)

kind_past : (id a : SeriesId) → same_name id a ≡ false → (ids : List SeriesId) → kind_in id (filter (past a) ids) ≡ kind_in id ids
kind_past id a other [] = refl
kind_past id a other (k ∷ rest) = by (same_id a k) refl (kind_past id a other rest)
  where
    by : (t : Bool) → same_id a k ≡ t → kind_in id (filter (past a) rest) ≡ kind_in id rest → kind_in id (filter (past a) (k ∷ rest)) ≡ kind_in id (k ∷ rest)
    by true e later =
        let here : same_name id k ≡ false = ap (same_name id) (sym (same_from a k e)) ∙ other in
        ap (kind_in id) (cond-false (past a k) (k ∷ filter (past a) rest) (filter (past a) rest) (ap not e)) ∙ later ∙ sym (cond-false (same_name id k) _ _ here)
    by false e later =
        ap (kind_in id) (cond-true (past a k) (k ∷ filter (past a) rest) (filter (past a) rest) (ap not e)) ∙ ap (λ o. if same_name id k then k.kind else o) later

kind_first_seen : (id : SeriesId) (ids : List SeriesId) → kind_in id (first_seen ids) ≡ kind_in id ids
kind_first_seen id [] = refl
kind_first_seen id (a ∷ rest) = by (same_name id a) refl (kind_first_seen id rest)
  where
    by : (t : Bool) → same_name id a ≡ t → kind_in id (first_seen rest) ≡ kind_in id rest → kind_in id (first_seen (a ∷ rest)) ≡ kind_in id (a ∷ rest)
    by true e later = cond-true (same_name id a) _ _ e ∙ sym (cond-true (same_name id a) _ _ e)
    by false e later = cond-false (same_name id a) _ _ e ∙ kind_past id a e (first_seen rest) ∙ later ∙ sym (cond-false (same_name id a) _ _ e)

abbrev named : SeriesId → StoredPoint → Bool
named id s = same_name id (id_of s)

kind_stored : (id : SeriesId) (stored : List StoredPoint) → kind_in id (map id_of stored) ≡ kind_of_points (points_named id stored)
kind_stored id [] = refl
kind_stored id (s ∷ rest) = by (same_name id (id_of s)) refl (kind_stored id rest)
  where
    by : (t : Bool) → same_name id (id_of s) ≡ t → kind_in id (map id_of rest) ≡ kind_of_points (points_named id rest) → kind_in id (map id_of (s ∷ rest)) ≡ kind_of_points (points_named id (s ∷ rest))
    by true e later = cond-true (named id s) _ _ e ∙ sym (ap (λ l. kind_of_points (map (λ s. s.point) l)) (cond-true (named id s) (s ∷ filter (named id) rest) (filter (named id) rest) e))
    by false e later =
        cond-false (named id s) _ _ e ∙ later ∙ sym (ap (λ l. kind_of_points (map (λ s. s.point) l)) (cond-false (named id s) (s ∷ filter (named id) rest) (filter (named id) rest) e))

kind_is : (id : SeriesId) (stored : List StoredPoint) → kind_at id (grouped stored) ≡ kind_of_points (points_named id stored)
kind_is id stored = kind_map id stored (first_seen (map id_of stored)) ∙ kind_first_seen id (map id_of stored) ∙ kind_stored id stored

agrees : (stored : List StoredPoint) (s : StoredPoint) → AreOfOneKind stored
    → (is_seen (id_of s) (grouped stored) ≡ false) ⊎ (kind_at (id_of s) (grouped stored) ≡ kind_of s.point.value) → Agrees stored s
agrees stored s one h =
    ⊎_elim
    (λ new. All-same (λ p. kind_of p.value ≡ kind_of s.point.value) _ [] (no_points (same_name (id_of s)) stored (sym (seen_is (id_of s) stored) ∙ new)) (All-nil (λ p. kind_of p.value ≡ kind_of s.point.value)))
    (λ kind. All-weaker _ (λ p. kind_of p.value ≡ kind_of s.point.value) (λ p is. is ∙ sym (kind_is (id_of s) stored) ∙ kind) (points_named (id_of s) stored) (one (id_of s)))
    h

-- ---- one kind after a put
first_kind : (p : Point) (points : List Point) → All (λ q. kind_of q.value ≡ kind_of p.value) points → kind_of_points (points ++ p ∷ []) ≡ kind_of p.value
first_kind p [] h = refl
first_kind p (q ∷ rest) h = All-head (λ q. kind_of q.value ≡ kind_of p.value) q rest h

all_of_kind : (p : Point) (points : List Point) → All (λ q. kind_of q.value ≡ kind_of p.value) points → All (λ q. kind_of q.value ≡ kind_of_points (points ++ p ∷ [])) (points ++ p ∷ [])
all_of_kind p points h =
    All-weaker _ (λ q. kind_of q.value ≡ kind_of_points (points ++ p ∷ [])) (λ q e. e ∙ sym (first_kind p points h)) (points ++ p ∷ [])
    (All-push (λ q. kind_of q.value ≡ kind_of p.value) points p h refl)

abbrev OfOneKind : List Point → Type 0
OfOneKind points = All (λ p. kind_of p.value ≡ kind_of_points points) points

one_kind_by : (stored : List StoredPoint) (s : StoredPoint) → AreOfOneKind stored → Agrees stored s → (id : SeriesId) (t : Bool) → same_name id (id_of s) ≡ t → OfOneKind (points_named id (stored ++ s ∷ []))
one_kind_by stored s one h id true e =
    let agreed = subst (All (λ p. kind_of p.value ≡ kind_of s.point.value)) (sym (points_along id (id_of s) stored e)) h in
    subst OfOneKind (sym (points-push_same (same_name id) stored s e)) (all_of_kind s.point (points_named id stored) agreed)
one_kind_by stored s one h id false e = subst OfOneKind (sym (points-push_other (same_name id) stored s e)) (one id)

one_kind-push : (stored : List StoredPoint) (s : StoredPoint) → AreOfOneKind stored → Agrees stored s → AreOfOneKind (stored ++ s ∷ [])
one_kind-push stored s one h id = one_kind_by stored s one h id (same_name id (id_of s)) refl

-- ---- a series by its number
numbered : (stored : List StoredPoint) (ids : List SeriesId) (number : ℕ) (found : Series) → slice_get (map (series_of stored) ids) number ≡ Some found → found ≡ series_of stored found.id
numbered stored [] number found h = cc
numbered stored (k ∷ rest) zero found h = let here : series_of stored k ≡ found = cc in subst (λ f. f ≡ series_of stored f.id) here refl
numbered stored (k ∷ rest) (suc number) found h = numbered stored rest number found h

conflicts : (stored : List StoredPoint) (s : StoredPoint) (number : ℕ) (old new : Kind) → Refuses (grouped stored) (id_of s) number old new → Conflicts stored s number old new
conflicts stored s number old new r =
    record {
      earlier = sym (kind_is (id_of s) stored) ∙ r.earlier;
      series = r.at ∙ ap Some (numbered stored (first_seen (map id_of stored)) number r.found r.at ∙ ap (series_of stored) r.is);
      later = r.later;
      differ = r.differ;
    }

-- ---- the put
abbrev pub put_in : Kept → StoredPoint → Kept
put_in kept s = record { buckets = kept.buckets; series = after_put (id_of s) s.point.time s.point.value kept.series; puts = kept.puts + 1 }

module _ (kept : Kept) (buckets : List (List ℕ)) (stored : List StoredPoint) (s : StoredPoint) (stands : StandsFor kept buckets stored) (added : is_added kept.buckets s.bucket ≡ true) where
  there : is_added buckets s.bucket ≡ true
  there = sym (ap (λ b. is_added b s.bucket) stands.buckets_are) ∙ added

  pub stands-put : IsLawful s.point → SeriesAnswers kept.series (id_of s) (Ok tt) → StandsFor (put_in kept s) buckets (stored ++ s ∷ [])
  stands-put lawful answer =
      let agreed = agrees stored s stands.one_kind (subst (λ l. SeriesAnswers l (id_of s) (Ok tt)) stands.series_are answer) in
      record {
        buckets_are = stands.buckets_are;
        series_are = ap (after_put (id_of s) s.point.time s.point.value) stands.series_are ∙ sym (grouped-push stored s);
        puts_are = ap (λ n. n + 1) stands.puts_are ∙ sym (length-append stored (s ∷ []));
        added = All-push (λ s. is_added buckets s.bucket ≡ true) stored s stands.added there;
        lawful = All-push (λ s. IsLawful s.point) stored s stands.lawful lawful;
        one_kind = one_kind-push stored s stands.one_kind agreed;
      }

  pub answers-put : (result : Result (Unit {0}) PutFault) → SeriesAnswers kept.series (id_of s) result → Answers buckets stored s result
  answers-put (Ok u) answer =
      (there, agrees stored s stands.one_kind (subst (λ l. SeriesAnswers l (id_of s) (Ok tt)) stands.series_are answer))
  answers-put (Err fault.NoBucket) answer = absurd answer
  answers-put (Err (fault.KindConflict number old new)) answer =
      (there, conflicts stored s number old new (subst (λ l. Refuses l (id_of s) number old new) stands.series_are answer))
  answers-put (Err fault.Memory) answer = there

-- the same where the code names the bucket and the time by copies of its own
module _ (kept : Kept) (buckets : List (List ℕ)) (stored : List StoredPoint) (s : StoredPoint) (stands : StandsFor kept buckets stored) (added : is_added kept.buckets s.bucket ≡ true)
    (bucket : List ℕ) (same : bucket ≡ s.bucket) where
  abbrev name : List ℕ → SeriesId
  name b = record { bucket = b; key = s.point.series; kind = kind_of s.point.value }

  pub stands-after : (time : ℤ) (series : List Series) → time ≡ s.point.time → IsLawful s.point → series ≡ after_put (name bucket) time s.point.value kept.series
      → SeriesAnswers kept.series (name bucket) (Ok tt) → StandsFor (record { buckets = kept.buckets; series = series; puts = kept.puts + 1 }) buckets (stored ++ s ∷ [])
  stands-after time series when lawful is answer =
      let put : series ≡ after_put (id_of s) s.point.time s.point.value kept.series = is ∙ (λ i. after_put (name (same i)) (when i) s.point.value kept.series) in
      let kept' : List Series → Kept = λ l. record { buckets = kept.buckets; series = l; puts = kept.puts + 1 } in
      subst (λ l. StandsFor (kept' l) buckets (stored ++ s ∷ [])) (sym put)
      (stands-put kept buckets stored s stands added lawful (subst (λ b. SeriesAnswers kept.series (name b) (Ok tt)) same answer))

  pub answers-after : (result : Result (Unit {0}) PutFault) → SeriesAnswers kept.series (name bucket) result → Answers buckets stored s result
  answers-after result answer =
      answers-put kept buckets stored s stands added result (subst (λ b. SeriesAnswers kept.series (name b) result) same answer)

pub length-after_put : (id : SeriesId) (time : ℤ) (value : Scalar) (series : List Series) → length (after_put id time value series) ≤ length series + 1
length-after_put id time value [] = omega arith
length-after_put id time value (s ∷ ss) = by (same_id id s.id) refl (length-after_put id time value ss)
  where
    by : (t : Bool) → same_id id s.id ≡ t → length (after_put id time value ss) ≤ length ss + 1 → length (after_put id time value (s ∷ ss)) ≤ length (s ∷ ss) + 1
    by true e h = subst (λ l. length l ≤ length (s ∷ ss) + 1) (sym (cond-true (same_id id s.id) _ _ e)) (omega arith)
    by false e h = subst (λ l. length l ≤ length (s ∷ ss) + 1) (sym (cond-false (same_id id s.id) _ _ e)) (omega arith)

-- ---- a put by number
-- the kind of a point of a series is the one that all points of the name have
abbrev OfKind : Option Kind → List Point → Type 0
OfKind kind points = All (λ p. kind_of p.value ≡ kind) points

kind_by : (id : SeriesId) (kind : Option Kind) (s : StoredPoint) (rest : List StoredPoint) (t u : Bool) → same_name id (id_of s) ≡ t → same_id id (id_of s) ≡ u
    → (OfKind kind (points_named id rest) → list_any (same_id id) (map id_of rest) ≡ true → id.kind ≡ kind)
    → OfKind kind (points_named id (s ∷ rest)) → list_any (same_id id) (map id_of (s ∷ rest)) ≡ true → id.kind ≡ kind
kind_by id kind s rest true true e f later all seen =
    let here = subst (λ l. OfKind kind (map (λ s. s.point) l)) (cond-true (named id s) (s ∷ filter (named id) rest) (filter (named id) rest) e) all in
    ap (λ i. i.kind) (same_from id (id_of s) f) ∙ All-head (λ p. kind_of p.value ≡ kind) s.point (points_named id rest) here
kind_by id kind s rest true false e f later all seen =
    let here = subst (λ l. OfKind kind (map (λ s. s.point) l)) (cond-true (named id s) (s ∷ filter (named id) rest) (filter (named id) rest) e) all in
    later (All-tail (λ p. kind_of p.value ≡ kind) s.point (points_named id rest) here) (sym (ap (λ t. t || list_any (same_id id) (map id_of rest)) f) ∙ seen)
kind_by id kind s rest false u e f later all seen =
    let here = subst (λ l. OfKind kind (map (λ s. s.point) l)) (cond-false (named id s) (s ∷ filter (named id) rest) (filter (named id) rest) e) all in
    later here (sym (ap (λ t. t || list_any (same_id id) (map id_of rest)) (and_left (same_name id (id_of s)) _ e)) ∙ seen)

kind_among : (id : SeriesId) (kind : Option Kind) (stored : List StoredPoint) → OfKind kind (points_named id stored) → list_any (same_id id) (map id_of stored) ≡ true → id.kind ≡ kind
kind_among id kind [] all seen = absurd (false≢true seen)
kind_among id kind (s ∷ rest) all seen = kind_by id kind s rest (same_name id (id_of s)) (same_id id (id_of s)) refl refl (kind_among id kind rest) all seen

listed : (ids : List SeriesId) (number : ℕ) (id : SeriesId) → slice_get ids number ≡ Some id → list_any (same_id id) ids ≡ true
listed [] number id h = cc
listed (k ∷ rest) zero id h = let same : k ≡ id = cc in ap (λ t. t || list_any (same_id id) rest) (subst (λ i. same_id id i ≡ true) (sym same) (same_itself id))
listed (k ∷ rest) (suc number) id h = or_right (same_id id k) _ (listed rest number id h)

pub kind_there : (stored : List StoredPoint) (number : ℕ) (s : Series) → AreOfOneKind stored → slice_get (grouped stored) number ≡ Some s → kind_at s.id (grouped stored) ≡ s.id.kind
kind_there stored number s one at =
    let id : slice_get (first_seen (map id_of stored)) number ≡ Some s.id = sym (ap (λ l. slice_get l number) (ids-grouped stored)) ∙ slice_get-map (λ t. t.id) (grouped stored) number ∙ ap (option_map (λ t. t.id)) at in
    let there = sym (any-first_seen (same_id s.id) (map id_of stored)) ∙ listed (first_seen (map id_of stored)) number s.id id in
    kind_is s.id stored ∙ sym (kind_among s.id (kind_of_points (points_named s.id stored)) stored (one s.id) there)

module _ (kept : Kept) (buckets : List (List ℕ)) (stored : List StoredPoint) (stands : StandsFor kept buckets stored) where
  pub ids_differ : IsDistinct same_id (map (λ t. t.id) kept.series)
  ids_differ = subst (IsDistinct same_id) (sym (ap (map (λ t. t.id)) stands.series_are ∙ ids-grouped stored)) (first_seen-distinct (map id_of stored))

  pub put_by_number : (number : ℕ) (s : Series) (time time' : ℤ) (value : Scalar) (series : List Series) → slice_get kept.series number ≡ Some s → is_added kept.buckets s.id.bucket ≡ true → IsLawful (point_at s.id.key time value) → s.id.kind ≡ kind_of value
      → time' ≡ time → series ≡ after_put s.id time' value kept.series → HasPut buckets stored s.id.bucket (point_at s.id.key time value) (record { buckets = kept.buckets; series = series; puts = kept.puts + 1 })
  put_by_number number s time time' value series at added lawful kind when put =
      let p : StoredPoint = record { bucket = s.id.bucket; point = point_at s.id.key time value } in
      let same : s.id ≡ id_of p = λ i. record { bucket = s.id.bucket; key = s.id.key; kind = kind i } in
      let found : kind_at s.id kept.series ≡ s.id.kind = subst (λ l. slice_get l number ≡ Some s → kind_at s.id l ≡ s.id.kind) (sym stands.series_are) (kind_there stored number s stands.one_kind) at in
      let answer : SeriesAnswers kept.series (id_of p) (Ok tt) = inr (subst (λ i. kind_at i kept.series ≡ i.kind) same found) in
      record {
        agrees = (answers-put kept buckets stored p stands added (Ok tt) answer).1;
        stands = stands-after kept buckets stored p stands added s.id.bucket refl time' series when lawful (put ∙ ap (λ i. after_put i time' value kept.series) same) answer;
      }

-- A bucket that was not added has no series.
use Rattle.std.proofs.Common.{◌≡◌, ℕ, true, false, not, List, [], ◌∷◌, map, filter, All, refl, sym, ap, ◌∙◌}
use Rattle.std.proofs.lemmas.Bool.{false≢true, and_left, false_from_ne_true, cond-false}
use Rattle.std.proofs.lemmas.List.Elements.{All-head, All-tail, All-cons, All-map, All-filter}
use Rattle.fx_base.specs.Text.{same_text}
use Rattle.fx_value.specs.declared.scalar.Kind.{Kind}
use Rattle.fx_line.specs.Stored.{StoredPoint, SeriesId, same_id, id_of, first_seen, Series, series_of, grouped}
use Rattle.fx_series.specs.Read.{is_in}
use Rattle.fx_series.specs.Store.{Kept, StandsFor, is_added}
use Rattle.fx_series.proofs.Same.{text_decides}

-- what holds of each name holds of each that is first seen
All-first_seen : (P : SeriesId → Type 0) (ids : List SeriesId) → All P ids → All P (first_seen ids)
All-first_seen P [] h = h
All-first_seen P (a ∷ rest) h =
    All-cons P a (filter (λ b. not (same_id a b)) (first_seen rest)) (All-head P a rest h)
    (All-filter (λ b. not (same_id a b)) P (first_seen rest) (All-first_seen P rest (All-tail P a rest h)))

none_in : (buckets : List (List ℕ)) (name : List ℕ) (kind : Kind) → is_added buckets name ≡ false → (series : List Series) → All (λ s. is_added buckets s.id.bucket ≡ true) series → filter (is_in name kind) series ≡ []
none_in buckets name kind unknown [] h = refl
none_in buckets name kind unknown (s ∷ ss) h =
    let added = All-head (λ s. is_added buckets s.id.bucket ≡ true) s ss h in
    let other : same_text name s.id.bucket ≡ false =
    false_from_ne_true (same_text name s.id.bucket) (λ e. false≢true (sym unknown ∙ ap (is_added buckets) ((text_decides name s.id.bucket).0 e) ∙ added)) in
    cond-false (is_in name kind s) (s ∷ filter (is_in name kind) ss) (filter (is_in name kind) ss) (and_left _ _ other)
    ∙ none_in buckets name kind unknown ss (All-tail (λ s. is_added buckets s.id.bucket ≡ true) s ss h)

pub unknown-empty : (kept : Kept) (buckets : List (List ℕ)) (stored : List StoredPoint) → StandsFor kept buckets stored → (name : List ℕ) (kind : Kind) → is_added buckets name ≡ false → filter (is_in name kind) kept.series ≡ []
unknown-empty kept buckets stored stands name kind unknown =
    let ids = All-first_seen (λ k. is_added buckets k.bucket ≡ true) (map id_of stored) (All-map (λ k. is_added buckets k.bucket ≡ true) id_of stored stands.added) in
    let series = All-map (λ s. is_added buckets s.id.bucket ≡ true) (series_of stored) (first_seen (map id_of stored)) ids in
    ap (filter (is_in name kind)) stands.series_are ∙ none_in buckets name kind unknown (grouped stored) series

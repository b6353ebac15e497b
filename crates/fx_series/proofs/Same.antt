-- The tests of names and of series decide equality.
use Rattle.std.proofs.Common.{◌≡◌, ℕ, true, false, ◌&&◌, List, map, filter, Option, None, Some, Decides, refl, sym, ap, ◌∙◌}
use Rattle.std.proofs.lemmas.Bool.{and_parts, and_from, false_from_ne_true, false≢true}
use Rattle.std.specs.Cmp.Lexicographic.{pointwise_decides, bytes_decides}
use Rattle.fx_base.specs.Text.{same_text}
use Rattle.fx_value.specs.declared.scalar.Kind.{Kind}
use Rattle.fx_value.specs.declared.scalar.Kind.TheVariants as kind
use Rattle.fx_line.specs.declared.point.Tag.{Tag}
use Rattle.fx_line.specs.declared.point.SeriesKey.{SeriesKey}
use Rattle.fx_line.specs.Stored.{same_tag, same_series, StoredPoint, SeriesId, same_name, same_kind, same_id, points_named}
use Rattle.fx_series.specs.declared.series.StoredKey.{StoredKey}
use Rattle.fx_series.specs.contracts.series.StoredKeyPartialEq.TheImpl as key_eq
use Rattle.fx_series.specs.Held.{id_of_key}

pub key_eq_is : (a b : StoredKey) (j k : Option Kind) → key_eq.ghosts.eq a b ≡ same_name (id_of_key a j) (id_of_key b k)
key_eq_is a b j k = refl

pub text_decides : (a b : List ℕ) → Decides (same_text a b) (a ≡ b)
text_decides = bytes_decides

pub tag_decides : (a b : Tag) → Decides (same_tag a b) (a ≡ b)
tag_decides a b = (
  λ e. let h = and_parts _ _ e in λ i. record { key = (text_decides a.key b.key).0 h.0 i; value = (text_decides a.value b.value).0 h.1 i },
  λ p. and_from _ _ ((text_decides a.key b.key).1 (ap (λ t. t.key) p)) ((text_decides a.value b.value).1 (ap (λ t. t.value) p)),
)

pub series_decides : (a b : SeriesKey) → Decides (same_series a b) (a ≡ b)
series_decides a b = (
  λ e. let h = and_parts _ _ e in let g = and_parts _ _ h.1 in
      λ i. record {
        measurement = (text_decides a.measurement b.measurement).0 h.0 i;
        tags = (pointwise_decides tag_decides a.tags b.tags).0 g.0 i;
        field = (text_decides a.field b.field).0 g.1 i;
      },
  λ p. and_from _ _ ((text_decides a.measurement b.measurement).1 (ap (λ k. k.measurement) p))
      (and_from _ _ ((pointwise_decides tag_decides a.tags b.tags).1 (ap (λ k. k.tags) p)) ((text_decides a.field b.field).1 (ap (λ k. k.field) p))),
)

pub name_decides : (a b : SeriesId) → Decides (same_name a b) ((a.bucket ≡ b.bucket) × (a.key ≡ b.key))
name_decides a b = (
  λ e. let h = and_parts _ _ e in ((text_decides a.bucket b.bucket).0 h.0, (series_decides a.key b.key).0 h.1),
  λ p. and_from _ _ ((text_decides a.bucket b.bucket).1 p.0) ((series_decides a.key b.key).1 p.1),
)

-- series of one name have the same points under it
pub points_along : (a b : SeriesId) (stored : List StoredPoint) → same_name a b ≡ true → points_named a stored ≡ points_named b stored
points_along a b stored e =
    let names = (name_decides a b).0 e in
    λ i. map (λ s. s.point) (filter (λ s. same_text (names.0 i) s.bucket && same_series (names.1 i) s.point.series) stored)

pub kind_decides : (a b : Option Kind) → Decides (same_kind a b) (a ≡ b)
kind_decides None None = (λ e. refl, λ p. refl)
kind_decides None (Some kind.Bool) = (λ e. cc e, λ p. cc p)
kind_decides None (Some kind.Int) = (λ e. cc e, λ p. cc p)
kind_decides None (Some kind.Text) = (λ e. cc e, λ p. cc p)
kind_decides None (Some kind.Time) = (λ e. cc e, λ p. cc p)
kind_decides (Some kind.Bool) None = (λ e. cc e, λ p. cc p)
kind_decides (Some kind.Bool) (Some kind.Bool) = (λ e. refl, λ p. refl)
kind_decides (Some kind.Bool) (Some kind.Int) = (λ e. cc e, λ p. cc p)
kind_decides (Some kind.Bool) (Some kind.Text) = (λ e. cc e, λ p. cc p)
kind_decides (Some kind.Bool) (Some kind.Time) = (λ e. cc e, λ p. cc p)
kind_decides (Some kind.Int) None = (λ e. cc e, λ p. cc p)
kind_decides (Some kind.Int) (Some kind.Bool) = (λ e. cc e, λ p. cc p)
kind_decides (Some kind.Int) (Some kind.Int) = (λ e. refl, λ p. refl)
kind_decides (Some kind.Int) (Some kind.Text) = (λ e. cc e, λ p. cc p)
kind_decides (Some kind.Int) (Some kind.Time) = (λ e. cc e, λ p. cc p)
kind_decides (Some kind.Text) None = (λ e. cc e, λ p. cc p)
kind_decides (Some kind.Text) (Some kind.Bool) = (λ e. cc e, λ p. cc p)
kind_decides (Some kind.Text) (Some kind.Int) = (λ e. cc e, λ p. cc p)
kind_decides (Some kind.Text) (Some kind.Text) = (λ e. refl, λ p. refl)
kind_decides (Some kind.Text) (Some kind.Time) = (λ e. cc e, λ p. cc p)
kind_decides (Some kind.Time) None = (λ e. cc e, λ p. cc p)
kind_decides (Some kind.Time) (Some kind.Bool) = (λ e. cc e, λ p. cc p)
kind_decides (Some kind.Time) (Some kind.Int) = (λ e. cc e, λ p. cc p)
kind_decides (Some kind.Time) (Some kind.Text) = (λ e. cc e, λ p. cc p)
kind_decides (Some kind.Time) (Some kind.Time) = (λ e. refl, λ p. refl)

pub id_decides : (a b : SeriesId) → Decides (same_id a b) (a ≡ b)
id_decides a b = (
  λ e. let h = and_parts _ _ e in
      let names = (name_decides a b).0 h.0 in
      λ i. record { bucket = names.0 i; key = names.1 i; kind = (kind_decides a.kind b.kind).0 h.1 i },
  λ p. and_from _ _ ((name_decides a b).1 (ap (λ n. n.bucket) p, ap (λ n. n.key) p)) ((kind_decides a.kind b.kind).1 (ap (λ n. n.kind) p)),
)

pub same_from : (a b : SeriesId) → same_id a b ≡ true → a ≡ b
same_from a b = (id_decides a b).0

pub same_itself : (a : SeriesId) → same_id a a ≡ true
same_itself a = (id_decides a a).1 refl

pub other_way : (a b : SeriesId) → same_id a b ≡ false → same_id b a ≡ false
other_way a b h = false_from_ne_true (same_id b a) (λ e. false≢true (sym h ∙ (id_decides a b).1 (sym (same_from b a e))))

-- What a store holds of a series, and how a put changes the series.
use Rattle.std.specs.Prelude.{◌≡◌, ◌≢◌, ℕ, ℤ, Bool, false, ◌⊎◌, List, [], ◌∷◌, Option, None, Some, Result, Ok, Err, slice_get, if◌then◌else◌}
use Rattle.std.specs.Ordering.{int_cmp}
use Rattle.std.specs.List.{list_any}
use Rattle.std.specs.BTreeMap.{insert_entry}
use Rattle.fx_value.specs.declared.scalar.Kind.{Kind}
use Rattle.fx_value.specs.declared.scalar.Scalar.{Scalar}
use Rattle.fx_line.specs.Stored.{SeriesId, same_name, same_id, Series}
use Rattle.fx_series.specs.declared.fault.PutFault.{PutFault}
use Rattle.fx_series.specs.declared.fault.PutFault.TheVariants as fault
use Rattle.fx_series.specs.declared.series.StoredKey.{StoredKey}
use Rattle.fx_series.specs.declared.series.Held.{Held}

-- the series of a kind that a key of the store's map names
abbrev pub id_of_key : StoredKey → Option Kind → SeriesId
id_of_key k kind = record { bucket = k.bucket; key = k.key; kind = kind }

-- a held series
abbrev pub shown : StoredKey × Held → Series
shown e = record { id = id_of_key e.0 (Some e.1.kind); values = e.1.values }

-- a series with one value
abbrev pub new_series : SeriesId → ℤ → Scalar → Series
new_series id time value = record { id = id; values = (time, value) ∷ [] }

-- a series with one value more, which takes the place of one at its time
abbrev pub with_value : ℤ → Scalar → Series → Series
with_value time value s = record { id = s.id; values = insert_entry int_cmp s.values time value }

-- the series after a value goes to this one, which stands at the end where it is new
abbrev pub after_put : SeriesId → ℤ → Scalar → List Series → List Series
after_put id time value [] = new_series id time value ∷ []
after_put id time value (s ∷ ss) = if same_id id s.id then with_value time value s ∷ ss else s ∷ after_put id time value ss

-- whether a series has this name
abbrev pub is_seen : SeriesId → List Series → Bool
is_seen id series = list_any (λ s. same_name id s.id) series

-- the kind of the first series of this name
abbrev pub kind_at : SeriesId → List Series → Option Kind
kind_at id [] = None
kind_at id (s ∷ ss) = if same_name id s.id then s.id.kind else kind_at id ss

-- the same name with another kind
abbrev pub of_kind : Kind → SeriesId → SeriesId
of_kind kind id = record { bucket = id.bucket; key = id.key; kind = Some kind }

-- the series with a number is the first of this name and has the kind `old`, where the kind `new` was asked for
pub record Refuses (series : List Series) (id : SeriesId) (number : ℕ) (old new : Kind) : Type 0 where
  pub found : Series
  pub at : slice_get series number ≡ Some found
  pub is : found.id ≡ of_kind old id
  pub earlier : kind_at id series ≡ Some old
  pub later : id.kind ≡ Some new
  pub differ : old ≢ new

-- the answers of a put into series
abbrev pub SeriesAnswers : List Series → SeriesId → Result (Unit {0}) PutFault → Type 0
SeriesAnswers series id (Ok _) = (is_seen id series ≡ false) ⊎ (kind_at id series ≡ id.kind)
SeriesAnswers series id (Err fault.NoBucket) = ⊥
SeriesAnswers series id (Err (fault.KindConflict number old new)) = Refuses series id number old new
SeriesAnswers series id (Err fault.Memory) = Unit {0}

-- What a put into the map of series answers and leaves.
use Rattle.std.proofs.Common.{◌≡◌, ℕ, zero, suc, ℤ, true, false, inr, List, [], ◌∷◌, map, Option, Some, None, Result, Ok, Err, OnOk, OnErr, position, slice_get, option_map, is_some, length, refl, sym, ap, subst, ◌∙◌}
use Rattle.std.specs.Ordering.{int_cmp}
use Rattle.std.specs.BTreeMap.{insert_entry}
use Rattle.std.specs.Map.{keys_of, values_of, lookup}
use Rattle.std.specs.List.{AllByRecursion, IsDistinct}
use Rattle.std.proofs.lemmas.Bool.{false≢true, cond-true, cond-false}
use Rattle.std.proofs.lemmas.Map.Keys.{IsDistinct-head, IsDistinct-tail}
use Rattle.std.proofs.lemmas.List.Quantifiers.{position-Some}
use Rattle.std.proofs.lemmas.Option.{slice_get-map, get_or_from_slice_get}
use Rattle.indexmap.specs.IndexMap.{set_value_at}
use Rattle.fx_value.specs.declared.scalar.Kind.{Kind}
use Rattle.fx_value.specs.declared.scalar.Scalar.{Scalar}
use Rattle.fx_value.specs.Scalar.{kind_of}
use Rattle.fx_base.specs.declared.memory.Memory.{Memory}
use Rattle.fx_line.specs.Stored.{Series, SeriesId, same_id}
use Rattle.fx_series.specs.declared.fault.PutFault.{PutFault}
use Rattle.fx_series.specs.declared.fault.PutFault.TheVariants as fault
use Rattle.fx_series.specs.declared.series.StoredKey.{StoredKey}
use Rattle.fx_series.specs.declared.series.Held.{Held}
use Rattle.fx_series.specs.Held.{id_of_key, shown, after_put, SeriesAnswers}
use Rattle.fx_series.specs.HeldAnswers.{HeldAnswers}
use Rattle.fx_series.proofs.Same.{name_decides, same_itself, other_way}
use Rattle.fx_series.proofs.Entries.{same_key, put_at, kind_found}

-- the series of a key stands at a number
pub record Stands (es : List (StoredKey × Held)) (key : StoredKey) (number : ℕ) (stored : StoredKey) (held : Held) : Type 0 where
  pub at : slice_get es number ≡ Some (stored, held)
  pub place : Some number ≡ position (same_key key) (keys_of es)
  pub value : slice_get (values_of es) number ≡ lookup (same_key key) es

module _ (es : List (StoredKey × Held)) (key : StoredKey) (number : ℕ) (stored : StoredKey) (old new : Held) (stands : Stands es key number stored old) where
  named : same_key key stored ≡ true
  named =
      let p = position-Some (same_key key) (keys_of es) number key (sym stands.place) in
      let at = slice_get-map (λ e. e.0) es number ∙ ap (option_map (λ e. e.0)) stands.at in
      sym (ap (same_key key) (get_or_from_slice_get (keys_of es) number stored key at)) ∙ p.1

  found : lookup (same_key key) es ≡ Some old
  found = sym stands.value ∙ slice_get-map (λ e. e.1) es number ∙ ap (option_map (λ e. e.1)) stands.at

  pub put_ok : (time : ℤ) (kind : Kind) (value : Scalar) (result : Result (Unit {0}) PutFault) → kind_of value ≡ Some kind → HeldAnswers number old.kind kind result
      → new.kind ≡ old.kind → OnOk result (new.values ≡ insert_entry int_cmp old.values time value)
      → OnOk result (map shown (set_value_at es number new) ≡ after_put (id_of_key key (kind_of value)) time value (map shown es))
  put_ok time kind value (Ok u) is answer same values =
      let p = position-Some (same_key key) (keys_of es) number key (sym stands.place) in
      put_at key es number stored old new time value stands.at named p.2 (is ∙ ap Some (sym answer)) same values
  put_ok time kind value (Err e) is answer same values = tt

  pub answers_there : (kind : Kind) (value : Scalar) (result : Result (Unit {0}) PutFault) → kind_of value ≡ Some kind
      → HeldAnswers number old.kind kind result → SeriesAnswers (map shown es) (id_of_key key (kind_of value)) result
  answers_there kind value (Ok u) is answer = inr (kind_found key (kind_of value) es old found ∙ ap Some answer ∙ sym is)
  answers_there kind value (Err fault.NoBucket) is answer = absurd answer
  answers_there kind value (Err (fault.KindConflict series was now)) is answer =
      let names = (name_decides (id_of_key key None) (id_of_key stored None)).0 named in
      record {
        found = shown (stored, old);
        at = ap (slice_get (map shown es)) answer.0 ∙ slice_get-map shown es number ∙ ap (option_map shown) stands.at;
        is = λ i. record { bucket = sym names.0 i; key = sym names.1 i; kind = Some (sym answer.1 i) };
        earlier = kind_found key (kind_of value) es old found ∙ ap Some (sym answer.1);
        later = is ∙ ap Some (sym answer.2);
        differ = λ e. answer.3 (sym answer.1 ∙ e ∙ answer.2);
      }
  answers_there kind value (Err fault.Memory) is answer = tt

-- a series that shows as before leaves the map as it was
same_shown : (es : List (StoredKey × Held)) (number : ℕ) (stored : StoredKey) (old new : Held) → slice_get es number ≡ Some (stored, old)
    → new.kind ≡ old.kind → new.values ≡ old.values → map shown (set_value_at es number new) ≡ map shown es
same_shown [] number stored old new at kind values = cc
same_shown (e ∷ es) zero stored old new at kind values =
    let is : e.1 ≡ old = cc in
    let held : Some new.kind ≡ Some e.1.kind = ap Some (kind ∙ sym (ap (λ h. h.kind) is)) in
    let entries : new.values ≡ e.1.values = values ∙ sym (ap (λ h. h.values) is) in
    λ i. record { id = id_of_key e.0 (held i); values = entries i } ∷ map shown es
same_shown (e ∷ es) (suc number) stored old new at kind values = ap (λ l. shown e ∷ l) (same_shown es number stored old new at kind values)

pub put_err : (es : List (StoredKey × Held)) (number : ℕ) (stored : StoredKey) (old new : Held) → slice_get es number ≡ Some (stored, old)
    → (result : Result (Unit {0}) PutFault) → new.kind ≡ old.kind → OnErr result (new.values ≡ old.values) → OnErr result (map shown (set_value_at es number new) ≡ map shown es)
put_err es number stored old new at (Ok u) kind values = tt
put_err es number stored old new at (Err e) kind values = same_shown es number stored old new at kind values

pub none_from : {A : Type 0} (o : Option A) → false ≡ is_some o → o ≡ None
none_from None h = refl
none_from (Some x) h = absurd (false≢true h)

-- the series with a number is the one that is held there
pub shown_at : (es : List (StoredKey × Held)) (number : ℕ) (e : StoredKey × Held) (s : Series) → slice_get es number ≡ Some e → slice_get (map shown es) number ≡ Some s → shown e ≡ s
shown_at es number e s at shows = let same : Some (shown e) ≡ Some s = sym (slice_get-map shown es number ∙ ap (option_map shown) at) ∙ shows in cc

-- ---- a put by number
-- a value more in the series with a number, where no other series has its name and kind
pub put_numbered : (es : List (StoredKey × Held)) (number : ℕ) (stored : StoredKey) (old new : Held) (s : Series) (time : ℤ) (value : Scalar) → slice_get es number ≡ Some (stored, old) → slice_get (map shown es) number ≡ Some s
    → IsDistinct same_id (map (λ t. t.id) (map shown es)) → new.kind ≡ old.kind → new.values ≡ insert_entry int_cmp old.values time value → map shown (set_value_at es number new) ≡ after_put s.id time value (map shown es)
put_numbered [] number stored old new s time value at shows distinct kind values = cc
put_numbered (e ∷ es) zero stored old new s time value at shows distinct kind values =
    let is : e.1 ≡ old = cc in
    let its : shown e ≡ s = cc in
    let held : Some new.kind ≡ Some e.1.kind = ap Some (kind ∙ sym (ap (λ h. h.kind) is)) in
    let entries : new.values ≡ insert_entry int_cmp e.1.values time value = values ∙ sym (ap (λ h. insert_entry int_cmp h.values time value) is) in
    let here : same_id s.id (shown e).id ≡ true = subst (λ x. same_id x.id (shown e).id ≡ true) its (same_itself (shown e).id) in
    (λ i. record { id = id_of_key e.0 (held i); values = entries i } ∷ map shown es) ∙ sym (cond-true (same_id s.id (shown e).id) _ _ here)
put_numbered (e ∷ es) (suc number) stored old new s time value at shows distinct kind values =
    let ids = map (λ t. t.id) (map shown es) in
    let at_id : slice_get ids number ≡ Some s.id = slice_get-map (λ t. t.id) (map shown es) number ∙ ap (option_map (λ t. t.id)) shows in
    let other : same_id s.id (shown e).id ≡ false = other_way (shown e).id s.id (all_at ids number (IsDistinct-head same_id (shown e).id ids distinct) at_id) in
    ap (λ l. shown e ∷ l) (put_numbered es number stored old new s time value at shows (IsDistinct-tail same_id (shown e).id ids distinct) kind values)
    ∙ sym (cond-false (same_id s.id (shown e).id) _ _ other)
  where
    all_at : {x : SeriesId} (ids : List SeriesId) (number : ℕ) → AllByRecursion (λ b. same_id (shown e).id b ≡ false) ids → slice_get ids number ≡ Some x → same_id (shown e).id x ≡ false
    all_at {x = x} [] number all h = cc
    all_at {x = x} (k ∷ rest) zero all h = let same : k ≡ x = cc in subst (λ i. same_id (shown e).id i ≡ false) same all.0
    all_at {x = x} (k ∷ rest) (suc number) all h = all_at rest number all.1 h

pub put_numbered_ok : (es : List (StoredKey × Held)) (number : ℕ) (stored : StoredKey) (old new : Held) (s : Series) (time : ℤ) (value : Scalar) (result : Result (Unit {0}) Memory) → slice_get es number ≡ Some (stored, old) → slice_get (map shown es) number ≡ Some s
    → IsDistinct same_id (map (λ t. t.id) (map shown es)) → new.kind ≡ old.kind → OnOk result (new.values ≡ insert_entry int_cmp old.values time value) → OnOk result (map shown (set_value_at es number new) ≡ after_put s.id time value (map shown es))
put_numbered_ok es number stored old new s time value (Ok u) at shows distinct kind values = put_numbered es number stored old new s time value at shows distinct kind values
put_numbered_ok es number stored old new s time value (Err e) at shows distinct kind values = tt

pub put_numbered_err : (es : List (StoredKey × Held)) (number : ℕ) (stored : StoredKey) (old new : Held) → slice_get es number ≡ Some (stored, old)
    → (result : Result (Unit {0}) Memory) → new.kind ≡ old.kind → OnErr result (new.values ≡ old.values) → OnErr result (map shown (set_value_at es number new) ≡ map shown es)
put_numbered_err es number stored old new at (Ok u) kind values = tt
put_numbered_err es number stored old new at (Err e) kind values = same_shown es number stored old new at kind values

-- the series of a key that is found has the key's name
pub named_at : (es : List (StoredKey × Held)) (key : StoredKey) (number : ℕ) (stored : StoredKey) (held : Held) → Stands es key number stored held
    → slice_get (map (λ s. s.id) (map shown es)) number ≡ Some (id_of_key key (Some held.kind))
named_at es key number stored held stands =
    let p = position-Some (same_key key) (keys_of es) number key (sym stands.place) in
    let at = slice_get-map (λ e. e.0) es number ∙ ap (option_map (λ e. e.0)) stands.at in
    let same : same_key key stored ≡ true = sym (ap (same_key key) (get_or_from_slice_get (keys_of es) number stored key at)) ∙ p.1 in
    let names = (name_decides (id_of_key key None) (id_of_key stored None)).0 same in
    slice_get-map (λ s. s.id) (map shown es) number ∙ ap (option_map (λ s. s.id)) (slice_get-map shown es number ∙ ap (option_map shown) stands.at)
    ∙ (λ i. Some (record { bucket = sym names.0 i; key = sym names.1 i; kind = Some held.kind }))

pub length_set : (es : List (StoredKey × Held)) (number : ℕ) (new : Held) → length (map shown (set_value_at es number new)) ≡ length (map shown es)
length_set [] number new = refl
length_set (e ∷ es) zero new = refl
length_set (e ∷ es) (suc number) new = ap suc (length_set es number new)

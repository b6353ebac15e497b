-- A put into the entries of the map of series.
use Rattle.std.proofs.Common.{◌≡◌, ℕ, zero, suc, ◌<◌, ℤ, Bool, true, false, ◌&&◌, Option, List, [], ◌∷◌, map, get_or, None, Some, slice_get, refl, sym, ap, ◌∙◌, arith}
use Rattle.std.specs.Ordering.{int_cmp}
use Rattle.std.specs.BTreeMap.{insert_entry}
use Rattle.std.specs.Map.{keys_of, lookup}
use Rattle.std.proofs.lemmas.Bool.{and_from, and_left, cond-true, cond-false, or_from}
use Rattle.indexmap.specs.IndexMap.{insert_entry as insert_last, set_value_at}
use Rattle.fx_value.specs.declared.scalar.Kind.{Kind}
use Rattle.fx_value.specs.declared.scalar.Scalar.{Scalar}
use Rattle.fx_value.specs.Scalar.{kind_of}
use Rattle.fx_line.specs.Stored.{same_kind}
use Rattle.fx_series.specs.declared.series.StoredKey.{StoredKey}
use Rattle.fx_series.specs.declared.series.Held.{Held}
use Rattle.fx_series.specs.contracts.series.StoredKeyPartialEq.TheImpl as key_eq
use Rattle.fx_series.specs.Held.{id_of_key, shown, after_put, is_seen, kind_at}
use Rattle.fx_series.proofs.Same.{kind_decides}

abbrev pub same_key : StoredKey → StoredKey → Bool
same_key = key_eq.ghosts.eq

module _ (key : StoredKey) where
  absent_head : (e : StoredKey × Held) (es : List (StoredKey × Held)) (t : Bool) → same_key key e.0 ≡ t → lookup (same_key key) (e ∷ es) ≡ None → (t ≡ false) × (lookup (same_key key) es ≡ None)
  absent_head e es true h none = cc (cond-true (same_key key e.0) (Some e.1) (lookup (same_key key) es) h)
  absent_head e es false h none = (refl, sym (cond-false (same_key key e.0) (Some e.1) (lookup (same_key key) es) h) ∙ none)

  -- a new series goes to the end
  pub put_last : (es : List (StoredKey × Held)) (held : Held) (time : ℤ) (value : Scalar) → lookup (same_key key) es ≡ None
      → Some held.kind ≡ kind_of value → held.values ≡ (time, value) ∷ []
      → map shown (insert_last same_key es key held) ≡ after_put (id_of_key key (kind_of value)) time value (map shown es)
  put_last [] held time value none kind values = λ i. record { id = id_of_key key (kind i); values = values i } ∷ []
  put_last (e ∷ es) held time value none kind values =
      let h = absent_head e es (same_key key e.0) refl none in
      ap (map shown) (cond-false (same_key key e.0) _ _ h.0) ∙ ap (λ l. shown e ∷ l) (put_last es held time value h.1 kind values) ∙ sym (cond-false (same_key key e.0 && same_kind (kind_of value) (Some e.1.kind)) _ _ (and_left _ _ h.0))

  pub unseen : (kind : Option Kind) (es : List (StoredKey × Held)) → lookup (same_key key) es ≡ None → is_seen (id_of_key key kind) (map shown es) ≡ false
  unseen kind [] none = refl
  unseen kind (e ∷ es) none = let h = absent_head e es (same_key key e.0) refl none in or_from _ _ h.0 (unseen kind es h.1)

  -- a series that is there takes the value in its place
  pub put_at : (es : List (StoredKey × Held)) (i : ℕ) (k : StoredKey) (old new : Held) (time : ℤ) (value : Scalar) → slice_get es i ≡ Some (k, old) → same_key key k ≡ true
      → ((j : ℕ) → j < i → same_key key (get_or (keys_of es) j key) ≡ false) → kind_of value ≡ Some old.kind → new.kind ≡ old.kind → new.values ≡ insert_entry int_cmp old.values time value
      → map shown (set_value_at es i new) ≡ after_put (id_of_key key (kind_of value)) time value (map shown es)
  put_at [] i k old new time value at same before fits kind values = cc
  put_at (e ∷ es) zero k old new time value at same before fits kind values =
      let is : e ≡ (k, old) = cc in
      let named : same_key key e.0 ≡ true = ap (λ x. same_key key x.0) is ∙ same in
      let kinds : same_kind (kind_of value) (Some e.1.kind) ≡ true = (kind_decides (kind_of value) (Some e.1.kind)).1 (fits ∙ sym (ap (λ x. Some x.1.kind) is)) in
      let here : (same_key key e.0 && same_kind (kind_of value) (Some e.1.kind)) ≡ true = and_from _ _ named kinds in
      let held : Some new.kind ≡ Some e.1.kind = ap Some (kind ∙ sym (ap (λ x. x.1.kind) is)) in
      let entries : new.values ≡ insert_entry int_cmp e.1.values time value = values ∙ sym (ap (λ x. insert_entry int_cmp x.1.values time value) is) in
      (λ i. record { id = id_of_key e.0 (held i); values = entries i } ∷ map shown es) ∙ sym (cond-true (same_key key e.0 && same_kind (kind_of value) (Some e.1.kind)) _ _ here)
  put_at (e ∷ es) (suc i) k old new time value at same before fits kind values =
      let other : same_key key e.0 ≡ false = before 0 (omega arith) in
      ap (λ l. shown e ∷ l) (put_at es i k old new time value at same (λ j h. before (suc j) (omega arith)) fits kind values)
      ∙ sym (cond-false (same_key key e.0 && same_kind (kind_of value) (Some e.1.kind)) _ _ (and_left _ _ other))

  -- the kind that is held is the kind of the name
  pub kind_found : (kind : Option Kind) (es : List (StoredKey × Held)) (held : Held) → lookup (same_key key) es ≡ Some held → kind_at (id_of_key key kind) (map shown es) ≡ Some held.kind
  kind_found kind [] held h = cc
  kind_found kind (e ∷ es) held h = by (same_key key e.0) refl (kind_found kind es held)
    where
      by : (t : Bool) → same_key key e.0 ≡ t → (lookup (same_key key) es ≡ Some held → kind_at (id_of_key key kind) (map shown es) ≡ Some held.kind) → kind_at (id_of_key key kind) (map shown (e ∷ es)) ≡ Some held.kind
      by true t later =
          let is : e.1 ≡ held = cc (cond-true (same_key key e.0) (Some e.1) (lookup (same_key key) es) t) in
          cond-true (same_key key e.0) _ _ t ∙ ap (λ x. Some x.kind) is
      by false t later = cond-false (same_key key e.0) _ _ t ∙ later (sym (cond-false (same_key key e.0) (Some e.1) (lookup (same_key key) es) t) ∙ h)

-- Windows of tables: the stop of each is a time, in its key and in its rows.
use Rattle.std.proofs.Common.{◌≡◌, refl, sym, ap, subst, ◌∙◌, Bool, true, false, ◌&&◌, not, ◌||◌, List, [], ◌∷◌, ◌++◌, map, filter_map, ℤ, Option, Some, None}
use Rattle.std.specs.Prelude.{codes, cond, if◌then◌else◌, IsTrue}
use Rattle.std.specs.Cmp.Lexicographic.{same_text as equal_text}
use Rattle.std.specs.FinMap.{get, insert}
use Rattle.std.specs.FinMap.Entries.{by_order, find, put as put_entry}
use Rattle.std.specs.List.{AllByRecursion, cons_option, filter, list_any}
use Rattle.std.specs.Ordering.{is_eq}
use Rattle.std.specs.declared.cmp.Ordering.TheVariants.{Less, Equal, Greater}
use mathlib.Core.Bool.{false≢true}
use Rattle.fx_base.specs.Text.{same_text, text_cmp}
use Rattle.fx_value.specs.Change.{all_changed}
use Rattle.fx_value.specs.declared.change.Change.TheVariants.{Set}
use Rattle.fx_value.specs.declared.scalar.Scalar.{Scalar}
use Rattle.fx_value.specs.declared.scalar.Scalar.TheVariants as scalar
use Rattle.fx_ops.specs.Whole.{in_64_bits}
use Rattle.fx_types.proofs.Choices.{chosen, passed}
use Rattle.fx_types.specs.Ground.{GroundRow}
use Rattle.fx_types.specs.Term.{Label}
use Rattle.fx_data.proofs.Columns.{key_with_rises}
use Rattle.fx_data.proofs.Lawful.{all-append}
use Rattle.fx_data.proofs.Regrouped.{alone_lawful}
use Rattle.fx_data.specs.Columns.{entry_of, key_with, parts_of}
use Rattle.fx_data.specs.Regrouped.{after, alone, bare, entry_after, new_key, regrouped, regrouped_with}
use Rattle.fx_data.specs.Table.{HasKey, HasRisingLabels, shown}
use Rattle.fx_data.specs.declared.key.Key.{Key}
use Rattle.fx_data.specs.declared.key.KeyEntry.{KeyEntry}
use Rattle.fx_data.specs.declared.keyed_row.KeyedRow.{KeyedRow}
use Rattle.fx_data.specs.declared.table.Table.{Table}
use Rattle.fx_agg.specs.OneRow.{is_shown, is_time, pinned_time, set_entry}
use Rattle.fx_group.specs.RangeRows.{bounded_key, set_row}
use Rattle.fx_window.specs.Uncut.{value_of}
use Rattle.fx_meaning.specs.Rows.{Row}
use Rattle.fx_build.specs.Rows.{KeyFits, RowFits}
use Rattle.fx_build.proofs.KeyLaws.{entries_with, tied_back}
use Rattle.fx_build.proofs.RowLaws.{get_inserted, tied}
use Rattle.fx_build.proofs.TableLaws.{HasParts, KeyedFits, alone_fits, gathered_parts}

-- a time in 64 bits
abbrev pub IsStop : Option Scalar → Type 0
IsStop (Some (scalar.Time t)) = IsTrue (in_64_bits t)
IsStop _ = ⊥

abbrev pub RowStops : Row → Type 0
RowStops row = IsStop (get row (codes "_stop"))

-- an entry of `_stop` shows one
abbrev pub EntryStops : KeyEntry → Type 0
EntryStops e = same_text e.label (codes "_stop") ≡ true → IsStop (shown e)

abbrev pub has_stop : List KeyEntry → Bool
has_stop = list_any (λ e. same_text e.label (codes "_stop"))

-- there is such an entry
abbrev pub EntriesStop : List KeyEntry → Type 0
EntriesStop es = (has_stop es ≡ true) × AllByRecursion EntryStops es

-- a key and rows that fit, with their stops
abbrev pub WindowKeyFits : GroundRow → Key → Type 0
WindowKeyFits r key = KeyFits r key × EntriesStop key.entries

abbrev pub WindowRowFits : GroundRow → Row → Type 0
WindowRowFits r row = RowFits r row × RowStops row

abbrev pub WindowFits : GroundRow → Table → Type 0
WindowFits r = HasParts (WindowKeyFits r) (WindowRowFits r)

abbrev pub KeyedStops : GroundRow → KeyedRow → Type 0
KeyedStops r x = KeyedFits r x × (has_stop x.key.entries ≡ true) × RowStops x.row

-- ---- Booleans and labels

or_first : (c d : Bool) → c ≡ true → (c || d) ≡ true
or_first true d e = refl
or_first false d e = absurd (false≢true e)

or_second : (c d : Bool) → d ≡ true → (c || d) ≡ true
or_second true d e = refl
or_second false d e = e

same_back : (a b : Label) → same_text a b ≡ same_text b a
same_back a b = sym (tied a b) ∙ tied_back a b

-- ---- rows under their new keys

step_label : (e : KeyEntry) (o : Option Scalar) (rest : List KeyEntry) → same_text e.label (codes "_stop") ≡ true → IsStop o → has_stop (cons_option (entry_after e o) rest) ≡ true
step_label e (Some (scalar.Time t)) rest same h = or_first (same_text e.label (codes "_stop")) (has_stop rest) same
step_label e None rest same h = absurd h
step_label e (Some _) rest same h = absurd h

step_rest : (e : KeyEntry) (o : Option Scalar) (rest : List KeyEntry) → has_stop rest ≡ true → has_stop (cons_option (entry_after e o) rest) ≡ true
step_rest e (Some a) rest h = or_second (same_text e.label (codes "_stop")) (has_stop rest) h
step_rest e None rest h =
    elim e.pinned as (λ b. has_stop (cons_option (if b then Some e else None) rest) ≡ true) [
      | true ↦ or_second (same_text e.label (codes "_stop")) (has_stop rest) h
      | false ↦ h
    ]

label_after : (row : Row) → RowStops row → (es : List KeyEntry) → has_stop es ≡ true → has_stop (filter_map (after row) es) ≡ true
label_after row stops [] h = absurd (false≢true h)
label_after row stops (e ∷ es) h = at (same_text e.label (codes "_stop")) refl h (label_after row stops es)
  where
    at : (c : Bool) → c ≡ same_text e.label (codes "_stop") → (c || has_stop es) ≡ true → (has_stop es ≡ true → has_stop (filter_map (after row) es) ≡ true) → has_stop (filter_map (after row) (e ∷ es)) ≡ true
    at true k h rest = step_label e (get row e.label) (filter_map (after row) es) (sym k) (subst (λ l. IsStop (get row l)) (sym (equal_text e.label (codes "_stop") k)) stops)
    at false k h rest = step_rest e (get row e.label) (filter_map (after row) es) (rest h)

has_stops : (row : Row) → RowStops row → (es : List KeyEntry) → HasKey es row → AllByRecursion EntryStops es
has_stops row stops [] h = tt
has_stops row stops (e ∷ es) h = (λ same. subst IsStop (ap (get row) (sym (equal_text e.label (codes "_stop") (sym same))) ∙ h.0) stops, has_stops row stops es h.1)

alone_stops : (r : GroundRow) (x : KeyedRow) → KeyedStops r x → WindowFits r (alone x)
unfolding new_key
alone_stops r x h =
    let fit = alone_fits r x h.0 in
    ((fit.0, (label_after x.row h.2 x.key.entries h.1, has_stops x.row h.2 (alone x).key.entries (alone_lawful x.key x.row h.0.0).columns.0)), ((h.0.1, h.2), tt))

lone_stops : (r : GroundRow) (rows : List KeyedRow) → AllByRecursion (KeyedStops r) rows → AllByRecursion (WindowFits r) (map alone rows)
lone_stops r [] h = tt
lone_stops r (x ∷ rows) h = (alone_stops r x h.0, lone_stops r rows h.1)

bare_stops : (r : GroundRow) (keys : List Key) → AllByRecursion (WindowKeyFits r) keys → AllByRecursion (WindowFits r) (map bare keys)
bare_stops r [] h = tt
bare_stops r (key ∷ keys) h = ((h.0, tt), bare_stops r keys h.1)

pub regrouped_stops : (r : GroundRow) (rows : List KeyedRow) → AllByRecursion (KeyedStops r) rows → AllByRecursion (WindowFits r) (regrouped rows)
regrouped_stops r rows h = gathered_parts (WindowKeyFits r) (WindowRowFits r) (map alone rows) (lone_stops r rows h)

pub regrouped_with_stops : (r : GroundRow) (rows : List KeyedRow) (empties : List Key) → AllByRecursion (KeyedStops r) rows → AllByRecursion (WindowKeyFits r) empties
    → AllByRecursion (WindowFits r) (regrouped_with rows empties)
regrouped_with_stops r rows empties h k =
    gathered_parts (WindowKeyFits r) (WindowRowFits r) (map alone rows ++ map bare empties) (all-append (WindowFits r) (map alone rows) (map bare empties) (lone_stops r rows h) (bare_stops r empties k))

-- ---- rows with bounds

-- the labels of the key with both bounds rise
pub bounded_rises : (start stop : ℤ) (key : Key) → HasRisingLabels key → HasRisingLabels (bounded_key start stop key)
bounded_rises start stop key h = key_with_rises (key_with key (codes "_start") (scalar.Time start)) (codes "_stop") (scalar.Time stop) (key_with_rises key (codes "_start") (scalar.Time start) h)

label_put : (value : Scalar) (es : List KeyEntry) → has_stop (map entry_of (put_entry text_cmp (codes "_stop") (value, false) (map parts_of es))) ≡ true
label_put value [] = refl
label_put value (e ∷ es) =
    elim (text_cmp (codes "_stop") e.label) as (λ o. text_cmp (codes "_stop") e.label ≡ o
    → has_stop (map entry_of (by_order o ((codes "_stop", (value, false)) ∷ parts_of e ∷ map parts_of es) ((e.label, (value, false)) ∷ map parts_of es) (parts_of e ∷ put_entry text_cmp (codes "_stop") (value, false) (map parts_of es)))) ≡ true) [
      | Less ↦ λ o. refl
      | Equal ↦ λ o. or_first (same_text e.label (codes "_stop")) (has_stop (map entry_of (map parts_of es))) (sym (tied_back (codes "_stop") e.label) ∙ ap is_eq o)
      | Greater ↦ λ o. or_second (same_text e.label (codes "_stop")) (has_stop (map entry_of (put_entry text_cmp (codes "_stop") (value, false) (map parts_of es)))) (label_put value es)
    ] refl

any_entry : (es : List KeyEntry) → AllByRecursion (λ e. Unit {0}) es
any_entry [] = tt
any_entry (e ∷ es) = (tt, any_entry es)

pub bounded_stops : (start stop : ℤ) (key : Key) → HasRisingLabels key → IsTrue (in_64_bits stop) → EntriesStop (bounded_key start stop key).entries
bounded_stops start stop key rising is =
    let before = key_with key (codes "_start") (scalar.Time start) in (
      label_put (scalar.Time stop) before.entries,
      entries_with (codes "_stop") (scalar.Time stop) (λ e. Unit {0}) EntryStops (λ l same k. is) (λ e off h same. absurd (false≢true (sym off ∙ same))) before.entries
          (key_with_rises key (codes "_start") (scalar.Time start) rising) (any_entry before.entries),
    )

pub set_stops : (r : GroundRow) (start stop : ℤ) (key : Key) (row : Row) → HasRisingLabels key → IsTrue (in_64_bits stop)
    → RowFits r (insert (insert row (codes "_start") (scalar.Time start)) (codes "_stop") (scalar.Time stop)) → KeyedStops r (set_row start stop key row)
set_stops r start stop key row rising is fit = (
  (bounded_rises start stop key rising, fit),
  (bounded_stops start stop key rising is).0,
  subst IsStop (sym (get_inserted (insert row (codes "_start") (scalar.Time start)) (codes "_stop") (scalar.Time stop) (codes "_stop"))) is,
)

-- ---- the stop of a key

of_shown : (pinned : Bool) (a : Scalar) → IsStop (if pinned then None else Some a) → IsStop (Some a)
of_shown true a h = absurd h
of_shown false a h = h

pub stop_found : (es : List KeyEntry) → has_stop es ≡ true → AllByRecursion EntryStops es → IsStop (find text_cmp (codes "_stop") (map value_of es))
stop_found [] h all = absurd (false≢true h)
stop_found (e ∷ es) h all = at (same_text e.label (codes "_stop")) refl h (λ k. stop_found es k all.1)
  where
    at : (c : Bool) → c ≡ same_text e.label (codes "_stop") → (c || has_stop es) ≡ true → (has_stop es ≡ true → IsStop (find text_cmp (codes "_stop") (map value_of es))) → IsStop (find text_cmp (codes "_stop") (map value_of (e ∷ es)))
    at true k h rest = subst IsStop (sym (ap (λ b. cond b (Some e.value) (find text_cmp (codes "_stop") (map value_of es))) (tied_back (codes "_stop") e.label ∙ sym k))) (of_shown e.pinned e.value (all.0 (sym k)))
    at false k h rest = subst IsStop (sym (ap (λ b. cond b (Some e.value) (find text_cmp (codes "_stop") (map value_of es))) (tied_back (codes "_stop") e.label ∙ sym k))) (rest h)

-- ---- aggregate rows

pub pinned_label : (es : List KeyEntry) → has_stop (map pinned_time es) ≡ has_stop es
pinned_label [] = refl
pinned_label (e ∷ es) = ap (λ b. same_text e.label (codes "_stop") || b) (pinned_label es)

module _ (x : Label) (a : Scalar) (other : same_text (codes "_stop") x ≡ false) where
  abbrev made : List KeyEntry → Row → Row
  made es out = all_changed (map set_entry es ++ Set x a ∷ []) out

  put_stops : (e : KeyEntry) (out : Row) → EntryStops e → RowStops out → RowStops (insert out e.label e.value)
  put_stops e out stops h = subst IsStop (sym (get_inserted out e.label e.value (codes "_stop"))) (at (same_text (codes "_stop") e.label) refl)
    where
      at : (c : Bool) → c ≡ same_text (codes "_stop") e.label → IsStop (if c then Some e.value else get out (codes "_stop"))
      at true k = of_shown e.pinned e.value (stops (same_back e.label (codes "_stop") ∙ sym k))
      at false k = h

  still_stops : (es : List KeyEntry) → AllByRecursion EntryStops es → (out : Row) → RowStops out → RowStops (made (filter is_shown es) out)
  still_stops [] all out h = subst IsStop (sym (get_inserted out x a (codes "_stop") ∙ passed (same_text (codes "_stop") x) (Some a) (get out (codes "_stop")) other)) h
  still_stops (e ∷ es) all out h = at (is_shown e) (still_stops es all.1)
    where
      at : (c : Bool) → ((out : Row) → RowStops out → RowStops (made (filter is_shown es) out)) → RowStops (made (cond c (e ∷ filter is_shown es) (filter is_shown es)) out)
      at true rest = rest (insert out e.label e.value) (put_stops e out all.0 h)
      at false rest = rest out h

  -- the stop is shown
  shows : (e : KeyEntry) → same_text e.label (codes "_stop") ≡ true → IsStop (shown e) → is_shown e ≡ true
  shows e same h = at e.pinned h
    where
      timeless : is_time e ≡ false
      timeless = ap (λ l. same_text l (codes "_time")) (equal_text e.label (codes "_stop") (sym same))

      at : (c : Bool) → IsStop (if c then None else Some e.value) → (not c && not (is_time e)) ≡ true
      at true h = absurd h
      at false h = ap not timeless

  pub comes_to_stop : (es : List KeyEntry) → has_stop es ≡ true → AllByRecursion EntryStops es → (out : Row) → RowStops (made (filter is_shown es) out)
  comes_to_stop [] h all out = absurd (false≢true h)
  comes_to_stop (e ∷ es) h all out = at (same_text e.label (codes "_stop")) refl h (λ k. comes_to_stop es k all.1)
    where
      here : same_text e.label (codes "_stop") ≡ true → RowStops (insert out e.label e.value)
      here same =
          subst IsStop (sym (get_inserted out e.label e.value (codes "_stop") ∙ chosen (same_text (codes "_stop") e.label) (Some e.value) (get out (codes "_stop")) (same_back (codes "_stop") e.label ∙ same)))
          (of_shown e.pinned e.value (all.0 same))

      next : (c : Bool) → ((out : Row) → RowStops (made (filter is_shown es) out)) → RowStops (made (cond c (e ∷ filter is_shown es) (filter is_shown es)) out)
      next true rest = rest (insert out e.label e.value)
      next false rest = rest out

      at : (c : Bool) → c ≡ same_text e.label (codes "_stop") → (c || has_stop es) ≡ true → (has_stop es ≡ true → (out : Row) → RowStops (made (filter is_shown es) out)) → RowStops (made (filter is_shown (e ∷ es)) out)
      at true k h rest =
          subst (λ c. RowStops (made (cond c (e ∷ filter is_shown es) (filter is_shown es)) out)) (sym (shows e (sym k) (all.0 (sym k)))) (still_stops es all.1 (insert out e.label e.value) (here (sym k)))
      at false k h rest = next (is_shown e) (rest h)

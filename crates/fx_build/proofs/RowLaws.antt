-- Rows that fit, and the records of rows.
use Rattle.std.proofs.Common.{◌≡◌, refl, sym, ap, subst, ◌∙◌, Bool, true, false, ◌&&◌, List, [], ◌∷◌, Some, None, T}
use Rattle.std.specs.Prelude.{cond, if◌then◌else◌, IsTrue, Option, option_map}
use Rattle.std.specs.Cmp.{Equal-is, tied_itself}
use Rattle.std.specs.Cmp.Lexicographic.{nat_list_cmp_total, same_text as equal_text}
use Rattle.std.specs.FinMap.{empty, entries, entries_sorted, get, get-empty, get-entries, get-insert, insert}
use Rattle.std.specs.FinMap.Entries.{below_all, find, is_sorted}
use Rattle.std.specs.Ordering.{eq_by_cmp, is_eq, is_lt}
use Rattle.std.specs.declared.cmp.Ordering.{Ordering}
use Rattle.std.specs.declared.cmp.Ordering.TheVariants.{Less, Equal, Greater}
use mathlib.Core.Bool.{true≢false, false≢true}
use Rattle.fx_base.specs.Text.{same_text, text_cmp}
use Rattle.fx_value.proofs.Rows.{text_same}
use Rattle.fx_value.specs.declared.scalar.Kind.TheVariants as kind
use Rattle.fx_value.specs.declared.scalar.Scalar.{Scalar}
use Rattle.fx_value.specs.declared.scalar.Scalar.TheVariants as scalar
use Rattle.fx_types.proofs.Choices.{by_cases, chosen, passed}
use Rattle.fx_types.specs.Ground.{Ground, GroundField, GroundRow, g_bool, g_int, g_text, g_time, g_rec, g_absent, g_is, is_column, is_plain}
use Rattle.fx_types.specs.Term.{Label}
use Rattle.fx_schemes.specs.Line.{put}
use Rattle.fx_meaning.specs.Ends.{◌>>=◌}
use Rattle.fx_meaning.specs.Forms.{cell_in}
use Rattle.fx_meaning.specs.Rows.{Row, fields_of, record_of, row_from}
use Rattle.fx_meaning.specs.Value.{Val, cell, Slots, no_slots, more_slots, look, is_there, or_else}
use Rattle.fx_build.specs.Bound.{typed}
use Rattle.fx_build.specs.Fit.{CellFits, FieldFits, RecordFits, column_kind, fits, is_cell, keeps_at}
use Rattle.fx_build.specs.Rows.{RowFits, is_column_of}
use Rattle.fx_build.specs.Safe.{IsSafe}
use Rattle.fx_build.proofs.KindLaws.{of_cell}
use Rattle.fx_build.proofs.SafeLaws.{safe_later}
use Rattle.fx_plan.proofs.SlotLaws.{or_none, same_itself}
use Rattle.fx_build.proofs.SlotLaws.{AtSlot, keeps_in, keeps_out}

-- ---- labels by order, and by equality

pub tied : (a b : Label) → eq_by_cmp text_cmp a b ≡ same_text a b
tied a b = by_cases (same_text a b)
    (λ e. subst (λ c. eq_by_cmp text_cmp a c ≡ true) (equal_text a b (sym e)) (itself a) ∙ sym e)
    (λ e. by_cases (eq_by_cmp text_cmp a b)
    (λ d. absurd (true≢false (sym (subst (λ c. same_text a c ≡ true) (text_same a b ((Equal-is _).0 d)) (same_itself a)) ∙ e)))
    (λ d. d ∙ sym e))
  where
    itself : (a : Label) → eq_by_cmp text_cmp a a ≡ true
    itself a = ap is_eq (tied_itself nat_list_cmp_total a)

pub get_inserted : (row : Row) (x : Label) (a : Scalar) (l : Label) → get (insert row x a) l ≡ (if same_text l x then Some a else get row l)
get_inserted row x a l = get-insert nat_list_cmp_total row x a l ∙ ap (λ c. cond c (Some a) (get row l)) (tied l x)

-- a column is set
pub put_fits : (r : GroundRow) (row : Row) (x : Label) (t : Ground) (a : Scalar) → RowFits r row → IsTrue (is_cell (column_kind t) a) → RowFits (put x t r) (insert row x a)
put_fits r row x t a fit is l = subst (λ o. IsTrue (is_column_of (put x t r l) o)) (sym (get_inserted row x a l)) (at (same_text l x))
  where
    at : (c : Bool) → IsTrue (is_column_of (if c then g_is t else r l) (if c then Some a else get row l))
    at true = is
    at false = fit l

-- ---- a row as a record

below_none : (x l : Label) (es : List (Label × Scalar)) → same_text l x ≡ true → T (below_all text_cmp x es) → look l (fields_of es) ≡ None
below_none x l [] same below = refl
below_none x l (e ∷ es) same below =
    ap (λ o. or_else o (if same_text l e.0 then Some (cell e.1) else None)) (below_none x l es same (and_second (is_lt (text_cmp x e.0)) (below_all text_cmp x es) below))
    ∙ passed (same_text l e.0) (Some (cell e.1)) None (apart (same_text l e.0) refl)
  where
    and_second : (a b : Bool) → T (a && b) → T b
    and_second true b h = h
    and_second false b h = absurd h

    and_first : (a b : Bool) → T (a && b) → T a
    and_first true b h = tt
    and_first false b h = absurd h

    not_less : (o : Ordering) → is_eq o ≡ true → T (is_lt o) → ⊥
    not_less Equal e h = h
    not_less Less e h = false≢true e
    not_less Greater e h = h

    apart : (c : Bool) → c ≡ same_text l e.0 → same_text l e.0 ≡ false
    apart false k = sym k
    apart true k =
        absurd (not_less (text_cmp x e.0) (tied x e.0 ∙ subst (λ z. same_text z e.0 ≡ true) (equal_text l x (sym same)) (sym k)) (and_first (is_lt (text_cmp x e.0)) (below_all text_cmp x es) below))

second : (a b : Bool) → T (a && b) → T b
second true b h = h
second false b h = absurd h

first : (a b : Bool) → T (a && b) → T a
first true b h = tt
first false b h = absurd h

entry_step : (l : Label) (e : Label × Scalar) (es : List (Label × Scalar)) (c : Bool) → c ≡ same_text l e.0 → T (is_sorted text_cmp (e ∷ es)) → look l (fields_of es) ≡ option_map cell (find text_cmp l es)
    → look l (fields_of (e ∷ es)) ≡ option_map cell (find text_cmp l (e ∷ es))
entry_step l e es true k h later =
    ap (λ o. or_else o (if same_text l e.0 then Some (cell e.1) else None)) (below_none e.0 l es (sym k) (first (below_all text_cmp e.0 es) (is_sorted text_cmp es) h))
    ∙ chosen (same_text l e.0) (Some (cell e.1)) None (sym k)
    ∙ sym (ap (λ c. option_map cell (cond c (Some e.1) (find text_cmp l es))) (tied l e.0 ∙ sym k))
entry_step l e es false k h later =
    ap (or_else (look l (fields_of es))) (passed (same_text l e.0) (Some (cell e.1)) None (sym k))
    ∙ sym (or_none (look l (fields_of es)))
    ∙ later
    ∙ sym (ap (λ c. option_map cell (cond c (Some e.1) (find text_cmp l es))) (tied l e.0 ∙ sym k))

look_entries : (l : Label) (es : List (Label × Scalar)) → T (is_sorted text_cmp es) → look l (fields_of es) ≡ option_map cell (find text_cmp l es)
look_entries l [] h = refl
look_entries l (e ∷ es) h = entry_step l e es (same_text l e.0) refl h (look_entries l es (second (below_all text_cmp e.0 es) (is_sorted text_cmp es) h))

pub look_record : (row : Row) (l : Label) → look l (fields_of (entries row)) ≡ option_map cell (get row l)
look_record row l = look_entries l (entries row) (entries_sorted row) ∙ ap (option_map cell) (sym (get-entries row l))

-- a row that fits is a record of its type
pub record_fits : (r : GroundRow) (row : Row) → RowFits r row → fits (record_of row) (g_rec r)
record_fits r row fit l = field (r l) (get row l) (look_record row l) (fit l)
  where
    there : (t : Ground) (o : Option Scalar) → IsTrue (is_column_of (g_is t) o) → AtSlot (option_map cell o) (typed t) (CellFits scalar.Null t)
    there t None h = h
    there t (Some a) h = h

    gone : (o : Option Scalar) → IsTrue (is_column_of g_absent o) → option_map cell o ≡ None
    gone None h = refl
    gone (Some a) h = absurd (false≢true h)

    field : (f : GroundField) (o : Option Scalar) → look l (fields_of (entries row)) ≡ option_map cell o → IsTrue (is_column_of f o)
        → FieldFits (look l (fields_of (entries row))) (keeps_at (fields_of (entries row)) l) f
    field g_absent o same h = same ∙ gone o h
    field (g_is t) o same h =
        keeps_in (fields_of (entries row)) l (typed t) (CellFits scalar.Null t) (subst (λ v. AtSlot v (typed t) (CellFits scalar.Null t)) (sym same) (there t o h))

-- ---- a record as a row

pub of_column : (t : Ground) (v : Val) (P : Val → Type 0) → is_column t ≡ true → fits v t → ((a : Scalar) → IsTrue (is_cell (column_kind t) a) → P (cell a)) → P v
of_column g_bool v P is h f = of_cell kind.Bool v P h f
of_column g_int v P is h f = of_cell kind.Int v P h f
of_column g_text v P is h f = of_cell kind.Text v P h f
of_column g_time v P is h f = of_cell kind.Time v P h f
of_column _ v P is h f = absurd (false≢true is)

-- a value that is still to be read at a label, or what the row has there already
abbrev Awaits : GroundField → Option Val → Option Scalar → Type 0
Awaits f None o = IsTrue (is_column_of f o)
Awaits g_absent (Some v) o = ⊥
Awaits (g_is t) (Some v) o = fits v t

abbrev Await : GroundRow → Slots → Row → Type 0
Await q fields row = (l : Label) → Awaits (q l) (look l fields) (get row l)

awaits_over : (f : GroundField) (o p : Option Val) (a : Option Scalar) → is_there o ≡ true → Awaits f (or_else o p) a → Awaits f o a
awaits_over f (Some v) p a there h = h
awaits_over f None p a there h = absurd (false≢true there)

-- the value of a label that stands again behind it
passed_over : (q : GroundRow) (x : Label) (v : Val) (fields : Slots) (row : Row) → is_there (look x fields) ≡ true → Await q (more_slots x v fields) row → Await q fields row
passed_over q x v fields row there h l = at (look l fields) (same_text l x) refl refl (h l)
  where
    at : (o : Option Val) (c : Bool) → o ≡ look l fields → c ≡ same_text l x → Awaits (q l) (or_else o (if c then Some v else None)) (get row l) → Awaits (q l) o (get row l)
    at (Some w) c e k h = h
    at None false e k h = h
    at None true e k h = absurd (false≢true (ap is_there (e ∙ ap (λ z. look z fields) (equal_text l x k)) ∙ there))

-- the last value of a label is a scalar, and the row has it
taken_in : (q : GroundRow) (x : Label) (a : Scalar) (fields : Slots) (row : Row) → look x fields ≡ None → Await q (more_slots x (cell a) fields) row → Await q fields (insert row x a)
taken_in q x a fields row gone h l = subst (Awaits (q l) (look l fields)) (sym (get_inserted row x a l)) (at (look l fields) (same_text l x) refl refl (h l))
  where
    read : (f : GroundField) → Awaits f (Some (cell a)) (get row l) → IsTrue (is_column_of f (Some a))
    read g_absent h = absurd h
    read (g_is t) h = h

    at : (o : Option Val) (c : Bool) → o ≡ look l fields → c ≡ same_text l x → Awaits (q l) (or_else o (if c then Some (cell a) else None)) (get row l)
        → Awaits (q l) o (if c then Some a else get row l)
    at None true e k h = read (q l) h
    at None false e k h = h
    at (Some w) false e k h = h
    at (Some w) true e k h = absurd (there_none (e ∙ ap (λ z. look z fields) (equal_text l x k) ∙ gone))
      where
        there_none : Some w ≡ None → ⊥
        there_none e = cc

abbrev pub no_columns : Row
no_columns = empty

module _ (q : GroundRow) (plain : (l : Label) → IsTrue (is_plain (q l))) where
  -- a value that is read is a scalar
  scalar_first : (x : Label) (v : Val) (fields : Slots) (row : Row) (P : Val → Type 0) → look x fields ≡ None → Await q (more_slots x v fields) row → ((a : Scalar) → P (cell a)) → P v
  scalar_first x v fields row P gone h f =
      at (q x) (plain x) (subst (λ o. Awaits (q x) o (get row x)) (ap (λ o. or_else o (if same_text x x then Some v else None)) gone ∙ chosen (same_text x x) (Some v) None (same_itself x)) (h x))
    where
      at : (g : GroundField) → IsTrue (is_plain g) → Awaits g (Some v) (get row x) → P v
      at g_absent is k = absurd k
      at (g_is t) is k = of_column t v P is k (λ a fit. f a)

  row_step : (x : Label) (v : Val) (fields : Slots) (row : Row) (o : Option Val) → o ≡ look x fields → Await q (more_slots x v fields) row
      → ((out : Row) → Await q fields out → IsSafe (RowFits q) (row_from out fields))
      → IsSafe (RowFits q) (if is_there o then row_from row fields else (cell_in v >>= (λ a. row_from (insert row x a) fields)))
  row_step x v fields row (Some w) e h rest = rest row (passed_over q x v fields row (ap is_there (sym e)) h)
  row_step x v fields row None e h rest =
      (scalar_first x v fields row (λ y. Await q (more_slots x y fields) row → IsSafe (RowFits q) (cell_in y >>= (λ a. row_from (insert row x a) fields))) (sym e) h
      (λ a k. safe_later (RowFits q) 0 (row_from (insert row x a) fields) (rest (insert row x a) (taken_in q x a fields row (sym e) k)))) h

  row_from_safe : (fields : Slots) (row : Row) → Await q fields row → IsSafe (RowFits q) (row_from row fields)
  row_from_safe no_slots row h = h
  row_from_safe (more_slots x v fields) row h = row_step x v fields row (look x fields) refl h (λ out k. row_from_safe fields out k)

  pub row_safe : (fields : Slots) → RecordFits fields (keeps_at fields) (g_rec q) → IsSafe (RowFits q) (row_from no_columns fields)
  row_safe fields h = row_from_safe fields no_columns (λ l. awaited l (q l) (look l fields) (keeps_out_at l) (h l))
    where
      keeps_out_at : (l : Label) (b : Ground) → keeps_at fields l (typed b) (CellFits scalar.Null b) → AtSlot (look l fields) (typed b) (CellFits scalar.Null b)
      keeps_out_at l b = keeps_out fields l (typed b) (CellFits scalar.Null b)

      awaited : (l : Label) (f : GroundField) (o : Option Val) → ((b : Ground) → keeps_at fields l (typed b) (CellFits scalar.Null b) → AtSlot o (typed b) (CellFits scalar.Null b))
          → FieldFits o (keeps_at fields l) f → Awaits f o (get no_columns l)
      awaited l g_absent o out h = subst (λ p. Awaits g_absent p (get no_columns l)) (sym h) (subst (λ p. IsTrue (is_column_of g_absent p)) (sym (get-empty text_cmp l)) refl)
      awaited l (g_is t) (Some v) out h = out t h
      awaited l (g_is t) None out h = subst (λ p. IsTrue (is_column_of (g_is t) p)) (sym (get-empty text_cmp l)) (out t h)

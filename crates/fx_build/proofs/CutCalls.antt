-- `aggregateWindow` of streams that fit is safe.
use Rattle.std.proofs.Common.{◌≡◌, refl, sym, ap, subst, ◌∙◌, Bool, true, false, List, [], ◌∷◌, map, length, pos, Option, Some, None}
use Rattle.std.specs.Prelude.{codes, if◌then◌else◌, IsTrue, option_to_list}
use Rattle.std.specs.FinMap as fin
use Rattle.std.specs.Cmp.Lexicographic.{same_text as equal_text}
use Rattle.std.specs.List.{AllByRecursion}
use Rattle.std.specs.Ordering.{is_eq}
use Rattle.fx_base.specs.Text.{same_text, text_cmp}
use Rattle.fx_base.specs.declared.fault.FaultKind.TheVariants.{BadWindow}
use Rattle.fx_base.specs.declared.place.Place.{Place}
use Rattle.fx_time.specs.Windows.{IsWindow}
use Rattle.fx_time.specs.declared.span.Span.{Span}
use Rattle.fx_value.specs.Ends.{End, Gives}
use Rattle.fx_value.specs.declared.scalar.Scalar.{Scalar}
use Rattle.fx_types.proofs.Choices.{passed}
use Rattle.fx_types.specs.Ground.{GroundRow, g_bool, g_int, g_span, g_stream, g_time, g_is, is_plain}
use Rattle.fx_types.specs.Term.{Label}
use Rattle.fx_data.specs.Regrouped.{regrouped}
use Rattle.fx_data.specs.declared.key.Key.{Key}
use Rattle.fx_data.specs.declared.table.Table.{Table}
use Rattle.fx_agg.specs.Aggregate.{aggregated, aggregated_table, aggregated_tables, one_row}
use Rattle.fx_agg.specs.Chosen.{Candidate, best, chosen, stays}
use Rattle.fx_agg.specs.Numbers.{spread_over, summed, whole}
use Rattle.fx_agg.specs.OneRow.{keyed, valued}
use Rattle.fx_agg.specs.declared.agg.Agg.{Agg}
use Rattle.fx_agg.specs.declared.agg.Agg.TheVariants.{Count, First, Last, Max, Min, Spread, Sum}
use Rattle.fx_group.proofs.Unstuck.{each_of}
use Rattle.fx_window.specs.Aggregated.{window_aggregated}
use Rattle.fx_window.specs.Lengths.{is_length}
use Rattle.fx_schemes.specs.Builtins.{IsLine, Counts, Ends, Extremes, Folds, Sums}
use Rattle.fx_schemes.specs.Folds.{fold_of, folds}
use Rattle.fx_schemes.specs.Given.{text_at}
use Rattle.fx_schemes.specs.Line.{from_tables, parameters, put, take_out}
use Rattle.fx_table.specs.CaseTable.{value_at}
use Rattle.fx_meaning.specs.declared.stream.StreamFn.TheVariants as s
use Rattle.fx_meaning.specs.Ends.{◌>>=◌, found, pure}
use Rattle.fx_meaning.specs.Meaning.{Tests}
use Rattle.fx_meaning.specs.Value.{Val, Slots, look}
use Rattle.fx_plan.specs.Operators.{aggregate_named, by_windows, flag_or, length_at, no_argument, windows_counted}
use Rattle.fx_plan.specs.Sources.{Stored}
use Rattle.fx_build.specs.Bound.{typed}
use Rattle.fx_build.specs.Fit.{fits, keeps_at}
use Rattle.fx_build.specs.Rows.{RowFits, TablesFit}
use Rattle.fx_build.specs.Safe.{IsSafe}
use Rattle.fx_build.proofs.AggregateCalls.{IsValue, spread_value, sum_value, valued_fits, whole_safe}
use Rattle.fx_build.proofs.ChoiceCalls.{Is, best_is}
use Rattle.fx_build.proofs.ColumnCalls.{word_safe}
use Rattle.fx_build.proofs.CutLaws.{counted_safe, length_only, windows_safe}
use Rattle.fx_build.proofs.KeyLaws.{tied_back}
use Rattle.fx_build.proofs.KindLaws.{of_span}
use Rattle.fx_build.proofs.OperatorCalls.{OperatorIsSafe, argument_safe, by_line, one_safe}
use Rattle.fx_build.proofs.SafeLaws.{safe_then}
use Rattle.fx_build.proofs.SlotLaws.{AtSlot, keeps_out}
use Rattle.fx_build.proofs.SortCalls.{flag_safe}
use Rattle.fx_build.proofs.StopLaws.{KeyedStops, WindowFits, WindowKeyFits, WindowRowFits, comes_to_stop, pinned_label, regrouped_stops}
use Rattle.fx_build.proofs.TableLaws.{flat_each_safe}

-- ---- aggregates of windows

module _ (place : Place) (r q : GroundRow) where
  of_windows : (which : Agg) → ((t : Table) → WindowFits r t → IsSafe (AllByRecursion (KeyedStops q)) (aggregated_table place which (codes "_value") t)) → (windows : List Table)
      → AllByRecursion (WindowFits r) windows → IsSafe (AllByRecursion (WindowFits q)) (aggregated place which (codes "_value") windows)
  unfolding aggregated
  of_windows which each windows fit =
      safe_then (AllByRecursion (KeyedStops q)) (AllByRecursion (WindowFits q)) (aggregated_tables place which (codes "_value") windows) (λ rows. Gives (regrouped rows) 0)
      (flat_each_safe (WindowFits r) (KeyedStops q) (aggregated_table place which (codes "_value")) windows fit each) (λ rows all. regrouped_stops q rows all)

module _ (place : Place) (r : GroundRow) (plain : (l : Label) → IsTrue (is_plain (r l))) where
  abbrev counts : GroundRow
  counts = put (codes "_value") g_int (take_out (codes "_time") r)

  one_stops : (key : Key) (end : End Scalar) → WindowKeyFits r key → IsSafe (IsValue g_int) end → IsSafe (AllByRecursion (KeyedStops counts)) (one_row key (codes "_value") end)
  one_stops key end h safe =
      safe_then (IsValue g_int) (AllByRecursion (KeyedStops counts)) end (λ value. Gives (valued key (codes "_value") value ∷ []) 0) safe
      (λ a is. (
        (
          valued_fits r plain (codes "_value") g_int key a h.0 is,
          pinned_label key.entries ∙ h.1.0,
          comes_to_stop (codes "_value") a refl key.entries h.1.0 h.1.1 fin.empty,
        ),
        tt,
      ))

  rows_of : (t : Table) → WindowFits r t → AllByRecursion (RowFits r) t.rows
  rows_of t fit = each_of (WindowRowFits r) (RowFits r) (λ row h. h.0) t.rows fit.1

  count_stops : (windows : List Table) → AllByRecursion (WindowFits r) windows → IsSafe (AllByRecursion (WindowFits counts)) (aggregated place Count (codes "_value") windows)
  count_stops = of_windows place r counts Count (λ t fit. one_stops t.key (whole place (pos (length t.rows))) fit.0 (whole_safe place (pos (length t.rows))))

  sum_stops : r (codes "_value") ≡ g_is g_int → (windows : List Table) → AllByRecursion (WindowFits r) windows → IsSafe (AllByRecursion (WindowFits counts)) (aggregated place Sum (codes "_value") windows)
  sum_stops has = of_windows place r counts Sum (λ t fit. one_stops t.key (summed place (codes "_value") t.rows) fit.0 (sum_value r place (codes "_value") has t.rows (rows_of t fit)))

  spread_stops : r (codes "_value") ≡ g_is g_int → (windows : List Table) → AllByRecursion (WindowFits r) windows → IsSafe (AllByRecursion (WindowFits counts)) (aggregated place Spread (codes "_value") windows)
  spread_stops has = of_windows place r counts Spread (λ t fit. one_stops t.key (spread_over place (codes "_value") t.rows) fit.0 (spread_value r place (codes "_value") has t.rows (rows_of t fit)))

  chosen_stops : (which : Agg) → ((t : Table) → aggregated_table place which (codes "_value") t ≡ Gives (map (keyed t.key) (chosen which (codes "_value") t.rows)) 0) → (windows : List Table)
      → AllByRecursion (WindowFits r) windows → IsSafe (AllByRecursion (WindowFits r)) (aggregated place which (codes "_value") windows)
  chosen_stops which made =
      of_windows place r r which
      (λ t fit. subst (IsSafe (AllByRecursion (KeyedStops r))) (sym (made t)) (one t.key fit.0 (best (stays which) (codes "_value") t.rows) (best_is (WindowRowFits r) (stays which) (codes "_value") t.rows fit.1)))
    where
      one : (key : Key) → WindowKeyFits r key → (o : Option Candidate) → Is (WindowRowFits r) o → AllByRecursion (KeyedStops r) (map (keyed key) (map (λ c. c.1) (option_to_list o)))
      one key h None k = tt
      one key h (Some c) k = (((h.0.0, k.0), h.1.0, k.1), tt)

-- ---- aggregates by name

-- what an aggregate makes of a row
abbrev Makes : Agg → GroundRow → GroundRow → Type 0
Makes Count = Counts (codes "_value")
Makes Sum = Sums (codes "_value")
Makes Spread = Sums (codes "_value")
Makes Min = Extremes (codes "_value")
Makes Max = Extremes (codes "_value")
Makes First = Ends (codes "_value")
Makes Last = Ends (codes "_value")

none_at : {V : Type 0} (f : Label) (rows : List (Label × V)) → AllByRecursion (λ row. same_text f row.0 ≡ false) rows → value_at text_cmp f rows ≡ None
none_at f [] h = refl
none_at f (row ∷ rows) h = passed (is_eq (text_cmp row.0 f)) (Some row.1) (value_at text_cmp f rows) (tied_back row.0 f ∙ h.0) ∙ none_at f rows h.1

-- a label is this one, or another
or_else : (f l : Label) (R : Label → Type 0) → R l → (same_text f l ≡ false → R f) → R f
or_else f l R here other = at (same_text f l) refl
  where
    at : (c : Bool) → c ≡ same_text f l → R f
    at true e = subst R (sym (equal_text f l e)) here
    at false e = other (sym e)

module _ (r q : GroundRow) where
  abbrev IsNamed : Label → Type 0
  IsNamed f = Folds (fold_of f) (codes "_value") r q → (which : Agg) × (aggregate_named f ≡ Some which) × Makes which r q

  -- the aggregate of a name that the line takes
  named_fold : (f : Label) → IsNamed f
  unfolding fold_of folds
  named_fold f =
      or_else f (codes "count") IsNamed (λ h. (Count, refl, h)) (λ a. or_else f (codes "first") IsNamed (λ h. (First, refl, h)) (λ b. or_else f (codes "last") IsNamed (λ h. (Last, refl, h))
      (λ c. or_else f (codes "max") IsNamed (λ h. (Max, refl, h)) (λ d. or_else f (codes "min") IsNamed (λ h. (Min, refl, h)) (λ e. or_else f (codes "spread") IsNamed (λ h. (Spread, refl, h))
      (λ g. or_else f (codes "sum") IsNamed (λ h. (Sum, refl, h)) (λ k h. absurd (subst (λ o. Folds o (codes "_value") r q) (none_at f folds (a, (b, (c, (d, (e, (g, (k, tt)))))))) h))))))))

module _ (place : Place) (r q : GroundRow) (plain : (l : Label) → IsTrue (is_plain (r l))) where
  abbrev AreSafe : Agg → Type 0
  AreSafe which = (windows : List Table) → AllByRecursion (WindowFits r) windows → IsSafe (AllByRecursion (WindowFits q)) (aggregated place which (codes "_value") windows)

  named_safe : (which : Agg) → Makes which r q → AreSafe which
  named_safe Count h windows fit = subst (λ p. IsSafe (AllByRecursion (WindowFits p)) (aggregated place Count (codes "_value") windows)) (sym h.3) (count_stops place r plain windows fit)
  named_safe Sum h windows fit = subst (λ p. IsSafe (AllByRecursion (WindowFits p)) (aggregated place Sum (codes "_value") windows)) (sym h.1) (sum_stops place r plain h.0 windows fit)
  named_safe Spread h windows fit = subst (λ p. IsSafe (AllByRecursion (WindowFits p)) (aggregated place Spread (codes "_value") windows)) (sym h.1) (spread_stops place r plain h.0 windows fit)
  named_safe Min h windows fit = subst (λ p. IsSafe (AllByRecursion (WindowFits p)) (aggregated place Min (codes "_value") windows)) (sym h.3) (chosen_stops place r plain Min (λ t. refl) windows fit)
  named_safe Max h windows fit = subst (λ p. IsSafe (AllByRecursion (WindowFits p)) (aggregated place Max (codes "_value") windows)) (sym h.3) (chosen_stops place r plain Max (λ t. refl) windows fit)
  named_safe First h windows fit = subst (λ p. IsSafe (AllByRecursion (WindowFits p)) (aggregated place First (codes "_value") windows)) (sym h.3) (chosen_stops place r plain First (λ t. refl) windows fit)
  named_safe Last h windows fit = subst (λ p. IsSafe (AllByRecursion (WindowFits p)) (aggregated place Last (codes "_value") windows)) (sym h.3) (chosen_stops place r plain Last (λ t. refl) windows fit)

  -- the bounds stay
  bound_stays : (which : Agg) → Makes which r q → (q (codes "_start") ≡ r (codes "_start")) × (q (codes "_stop") ≡ r (codes "_stop"))
  bound_stays Count h = (ap (λ p. p (codes "_start")) h.3, ap (λ p. p (codes "_stop")) h.3)
  bound_stays Sum h = (ap (λ p. p (codes "_start")) h.1, ap (λ p. p (codes "_stop")) h.1)
  bound_stays Spread h = (ap (λ p. p (codes "_start")) h.1, ap (λ p. p (codes "_stop")) h.1)
  bound_stays Min h = (ap (λ p. p (codes "_start")) h.3, ap (λ p. p (codes "_stop")) h.3)
  bound_stays Max h = (ap (λ p. p (codes "_start")) h.3, ap (λ p. p (codes "_stop")) h.3)
  bound_stays First h = (ap (λ p. p (codes "_start")) h.3, ap (λ p. p (codes "_stop")) h.3)
  bound_stays Last h = (ap (λ p. p (codes "_start")) h.3, ap (λ p. p (codes "_stop")) h.3)

-- ---- arguments

length_safe : (place : Place) (v : Val) → fits v g_span → IsSafe IsWindow (length_at place v)
length_safe place v h = of_span v (λ y. IsSafe IsWindow (length_at place y)) h (λ d is. at d (is_length d) refl)
  where
    at : (d : Span) (c : Bool) → c ≡ is_length d → IsSafe IsWindow (pure d >>= (λ d. if is_length d then pure d else no_argument place BadWindow))
    at d true e = subst (λ b. IsSafe IsWindow (pure d >>= (λ d. if b then pure d else no_argument place BadWindow))) e (length_only d (sym e))
    at d false e = subst (λ b. IsSafe IsWindow (pure d >>= (λ d. if b then pure d else no_argument place BadWindow))) e tt

empty_safe : (place : Place) (args : Slots) → keeps_at args (codes "createEmpty") (typed g_bool) (Unit {0}) → IsSafe (λ b. Unit {0}) (flag_or true place (look (codes "createEmpty") args))
empty_safe place args h = at (look (codes "createEmpty") args) (keeps_out args (codes "createEmpty") (typed g_bool) (Unit {0}) h)
  where
    at : (o : Option Val) → AtSlot o (typed g_bool) (Unit {0}) → IsSafe (λ b. Unit {0}) (flag_or true place o)
    at None k = tt
    at (Some v) k = flag_safe place v k

-- ---- the operator

pub aggregate_window_safe : (test : Tests) (stored : Stored) → OperatorIsSafe test stored s.AggregateWindow
unfolding IsLine
aggregate_window_safe test stored place w L needs input r args limit tss line =
    let q = line.2.0 in
    let made = line.2.1 in
    let out = put (codes "_time") g_time made in
    let fold = named_fold q made line.0 line.2.3 in
    by_line test stored s.AggregateWindow w (from_tables q (codes "fn" ∷ []) ((codes "every", g_span) ∷ []) ((codes "createEmpty", g_bool) ∷ []) (g_stream out)) _ _ _ refl
    (λ place args limit tss is have further. one_safe (TablesFit out) (put (codes "tables") (g_stream q) (parameters ((codes "every", g_span) ∷ []))) (codes "tables") q (by_windows w place args) tss refl have
    (λ ts fit. argument_safe (TablesFit out) g_span args (codes "every") _ (further (codes "every"))
    (λ v h. safe_then IsWindow (TablesFit out) (length_at place v) _ (length_safe place v h)
    (λ every window. word_safe (TablesFit out) (text_at w (codes "fn") None) line.0
    (λ name. found (aggregate_named name) >>= (λ which. flag_or true place (look (codes "createEmpty") args) >>= (λ all. windows_counted every all ts >>= (λ windows. window_aggregated place (aggregated place which (codes "_value")) every all ts)))) line.1
    (word_safe (TablesFit out) (aggregate_named line.0) fold.0
    (λ which. flag_or true place (look (codes "createEmpty") args) >>= (λ all. windows_counted every all ts >>= (λ windows. window_aggregated place (aggregated place which (codes "_value")) every all ts))) fold.1
    (safe_then (λ b. Unit {0}) (TablesFit out) (flag_or true place (look (codes "createEmpty") args)) _ (empty_safe place args (further (codes "createEmpty")))
    (λ all _. safe_then (λ n. Unit {0}) (TablesFit out) (windows_counted every all ts) _ (counted_safe q line.2.2 every window all ts fit)
    (λ n _. let stays = bound_stays place q made is.0.2.1 fold.0 fold.2 in
    windows_safe made (stays.0 ∙ line.2.2.1) (stays.1 ∙ line.2.2.2) q line.2.2 every window place (aggregated place fold.0 (codes "_value")) all (named_safe place q made is.0.2.1 fold.0 fold.2) ts fit))))))))
    place L needs input r args limit tss line.2.4

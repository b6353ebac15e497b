-- The rows of joins.
use Rattle.std.proofs.Common.{sym, subst, Bool, true, false, List, [], ◌∷◌, ◌++◌, map, ℕ, Option, Some, None}
use Rattle.std.specs.Prelude.{if◌then◌else◌, filter_map}
use Rattle.std.specs.FinMap as fin
use Rattle.std.proofs.lemmas.Grind.{flat_map-append}
use Rattle.std.proofs.lemmas.List.{append-nil}
use Rattle.std.specs.List.{AllByRecursion}
use Rattle.fx_types.specs.Ground.{GroundRow}
use Rattle.fx_value.specs.Ends.{Gives, and_then}
use Rattle.fx_value.specs.Works.{flat_each}
use Rattle.fx_data.specs.Gathered.{rows_with}
use Rattle.fx_data.specs.Key.{key_cmp}
use Rattle.fx_data.specs.Regrouped.{regrouped}
use Rattle.fx_data.specs.Table.{HasRisingLabels}
use Rattle.fx_data.specs.declared.key.Key.{Key}
use Rattle.fx_data.specs.declared.table.Table.{Table}
use Rattle.fx_data.proofs.Keys.{key_cmp_total}
use Rattle.fx_data.proofs.Lawful.{all-append}
use Rattle.fx_group.specs.Answer.{Meaning}
use Rattle.fx_join.specs.Join.{all_marked, found_line, found_row, is_lone, keyed, left_over, line_of_left, line_row, line_with, lone_left, lone_right, longer, made, made_if, matched, no_marks, paired, rows_of, unmarked, keeps_right}
use Rattle.fx_join.specs.Joined.{all_met_rows, joined, lines_of, met_rows}
use Rattle.fx_join.specs.Meet.{meeting_of, meetings, met_under}
use Rattle.fx_join.specs.declared.side.Side.{Side}
use Rattle.fx_meaning.specs.Rows.{Row}
use Rattle.fx_build.specs.Rows.{RowFits, TablesFit}
use Rattle.fx_build.specs.Safe.{IsSafe}
use Rattle.fx_build.proofs.SafeLaws.{safe_cut, safe_then}
use Rattle.fx_build.proofs.TableLaws.{IsPair, KeyedFits, all_with, flat_each_safe, pairs_of, regrouped_all}

-- what is said of lists of rows that end in nothing
with_none : (P : Row → Type 0) (rows : List Row) → AllByRecursion P rows → AllByRecursion P (rows ++ [])
with_none P rows h = subst (AllByRecursion P) (sym (append-nil rows)) h

without_none : (P : Row → Type 0) (rows : List Row) → AllByRecursion P (rows ++ []) → AllByRecursion P rows
without_none P rows h = subst (AllByRecursion P) (append-nil rows) h

module _ (l_row r_row q : GroundRow) where
  abbrev L : Row → Type 0
  L = RowFits l_row

  abbrev R : Row → Type 0
  R = RowFits r_row

  abbrev Q : Row → Type 0
  Q = RowFits q

  abbrev Meets : List Row × List Row → Type 0
  Meets x = AllByRecursion L x.0 × AllByRecursion R x.1

  pairs_meet : (lefts rights ts : List Table) → AllByRecursion (λ t. HasRisingLabels t.key) ts → TablesFit l_row lefts → TablesFit r_row rights
      → AllByRecursion (IsPair HasRisingLabels Meets) (map (λ (t : Table). (t.key, (rows_with t.key lefts, rows_with t.key rights))) ts)
  pairs_meet lefts rights [] rise h k = tt
  pairs_meet lefts rights (t ∷ ts) rise h k = ((rise.0, (all_with l_row t.key lefts h, all_with r_row t.key rights k)), pairs_meet lefts rights ts rise.1 h k)

  keys_rise : (r : GroundRow) (ts : List Table) → TablesFit r ts → AllByRecursion (λ t. HasRisingLabels t.key) ts
  keys_rise r [] h = tt
  keys_rise r (t ∷ ts) h = (h.0.0.0, keys_rise r ts h.1)

  all_meet : (lefts rights : List Table) → TablesFit l_row lefts → TablesFit r_row rights → AllByRecursion (IsPair HasRisingLabels Meets) (fin.entries (met_under lefts rights))
  unfolding met_under
  all_meet lefts rights h k =
      pairs_of key_cmp key_cmp_total HasRisingLabels Meets _
      (pairs_meet lefts rights (lefts ++ rights) (all-append (λ t. HasRisingLabels t.key) lefts rights (keys_rise l_row lefts h) (keys_rise r_row rights k)) h k)

  abbrev IsMade : Option Row → Type 0
  IsMade None = Unit {0}
  IsMade (Some row) = Q row

  some_all : (found : List (Option Row)) → AllByRecursion IsMade found → AllByRecursion Q (filter_map (λ o. o) found)
  some_all [] h = tt
  some_all (None ∷ found) h = some_all found h.1
  some_all (Some row ∷ found) h = (h.0, some_all found h.1)

  unmarked_all : (marks : List Bool) (rights : List Row) → AllByRecursion R rights → AllByRecursion R (unmarked marks rights)
  unmarked_all marks [] h = tt
  unmarked_all [] (r ∷ rights) h = (h.0, unmarked_all [] rights h.1)
  unmarked_all (true ∷ marks) (r ∷ rights) h = unmarked_all marks rights h.1
  unmarked_all (false ∷ marks) (r ∷ rights) h = (h.0, unmarked_all marks rights h.1)

  left_over_all : (side : Side) (marks : List Bool) (rights : List Row) → AllByRecursion R rights → AllByRecursion R (left_over side marks rights)
  left_over_all side marks rights h = at (keeps_right side)
    where
      at : (c : Bool) → AllByRecursion R (if c then unmarked marks rights else [])
      at true = unmarked_all marks rights h
      at false = tt

  keyed_all : (key : Key) (rows : List Row) → HasRisingLabels key → AllByRecursion Q rows → AllByRecursion (KeyedFits q) (map (keyed key) rows)
  keyed_all key [] rising h = tt
  keyed_all key (row ∷ rows) rising h = ((rising, h.0), keyed_all key rows rising h.1)

  module _ (on both : Meaning) (side : Side) (limit : ℕ) (none_left : L fin.empty) (none_right : R fin.empty) (says : (l r : Row) → L l → R r → IsSafe (λ yes. Unit {0}) (matched on limit l r))
      (makes : (l r : Row) → L l → R r → IsSafe Q (made both limit l r)) where
    if_safe : (l r : Row) (yes : Bool) → L l → R r → IsSafe IsMade (made_if both limit l r yes)
    if_safe l r true h k = safe_then Q IsMade (made both limit l r) (λ row. Gives (Some row) 0) (makes l r h k) (λ row is. is)
    if_safe l r false h k = tt

    found_safe : (l r : Row) → L l → R r → IsSafe (AllByRecursion IsMade) (found_row on both l limit r)
    found_safe l r h k =
        safe_then IsMade (AllByRecursion IsMade) (paired on both limit l r) (λ found. Gives (found ∷ []) 0)
        (safe_then (λ yes. Unit {0}) IsMade (matched on limit l r) (made_if both limit l r) (says l r h k) (λ yes _. if_safe l r yes h k)) (λ found is. (is, tt))

    longer_all : (rows : List Row) (row : Option Row) → AllByRecursion Q (rows ++ []) → IsMade row → AllByRecursion Q ((rows ++ filter_map (λ o. o) (row ∷ [])) ++ [])
    longer_all rows None h k = with_none Q (rows ++ []) h
    longer_all rows (Some row) h k = with_none Q (rows ++ row ∷ []) (all-append Q rows (row ∷ []) (without_none Q rows h) (k, tt))

    left_safe : (rights : List Row) (l : Row) → AllByRecursion R rights → L l → IsSafe (λ x. AllByRecursion Q (rows_of (x ∷ []))) (line_of_left on both side rights l limit)
    left_safe rights l k h =
        safe_then (λ x. AllByRecursion Q (rows_of (x ∷ []))) (λ x. AllByRecursion Q (rows_of (x ∷ []))) (found_line on both rights l limit) (lone_left both side l limit)
        (safe_then (AllByRecursion IsMade) (λ x. AllByRecursion Q (rows_of (x ∷ []))) (flat_each (found_row on both l limit) rights) (λ found. Gives (line_with found) 0)
        (flat_each_safe R IsMade (found_row on both l limit) rights k (λ r is. found_safe l r h is)) (λ found all. with_none Q (filter_map (λ o. o) found) (some_all found all)))
        (λ x is. safe_then IsMade (λ y. AllByRecursion Q (rows_of (y ∷ []))) (made_if both limit l fin.empty (is_lone side x)) (λ row. Gives (longer x row) 0)
        (if_safe l fin.empty (is_lone side x) h none_right) (λ row made. longer_all _ row is made))

    lines_safe : (rights lefts : List Row) → AllByRecursion R rights → AllByRecursion L lefts → IsSafe (λ lines. AllByRecursion Q (rows_of lines)) (lines_of on both side rights lefts limit)
    lines_safe rights [] k h = tt
    lines_safe rights (l ∷ lefts) k h =
        safe_then (λ xs. AllByRecursion Q (rows_of xs)) (λ lines. AllByRecursion Q (rows_of lines)) (line_row on both side rights limit l) _
        (safe_then (λ x. AllByRecursion Q (rows_of (x ∷ []))) (λ xs. AllByRecursion Q (rows_of xs)) (line_of_left on both side rights l limit) (λ x. Gives (x ∷ []) 0) (left_safe rights l k h.0) (λ x has. has))
        (λ xs first. safe_then (λ ys. AllByRecursion Q (rows_of ys)) (λ lines. AllByRecursion Q (rows_of lines)) (lines_of on both side rights lefts limit) (λ ys. Gives (xs ++ ys) 0) (lines_safe rights lefts k h.1)
        (λ ys rest. rows_both xs ys first rest))
      where
        rows_both : (xs ys : _) → AllByRecursion Q (rows_of xs) → AllByRecursion Q (rows_of ys) → AllByRecursion Q (rows_of (xs ++ ys))
        rows_both xs ys h k = subst (AllByRecursion Q) (sym (flat_map-append _ xs ys)) (all-append Q (rows_of xs) (rows_of ys) h k)

    met_safe : (e : Key × (List Row × List Row)) → IsPair HasRisingLabels Meets e → IsSafe (AllByRecursion (KeyedFits q)) (met_rows on both side limit (meeting_of e))
    met_safe e h =
        safe_then (λ lines. AllByRecursion Q (rows_of lines)) (AllByRecursion (KeyedFits q)) (lines_of on both side e.1.1 e.1.0 limit) _ (lines_safe e.1.1 e.1.0 h.1.1 h.1.0)
        (λ lines has. safe_then (AllByRecursion Q) (AllByRecursion (KeyedFits q)) (flat_each (lone_right both limit) (left_over side (all_marked (no_marks e.1.1) lines) e.1.1)) _
        (flat_each_safe R Q (lone_right both limit) (left_over side (all_marked (no_marks e.1.1) lines) e.1.1) (left_over_all side (all_marked (no_marks e.1.1) lines) e.1.1 h.1.1)
        (λ r is. safe_then Q (AllByRecursion Q) (made both limit fin.empty r) (λ row. Gives (row ∷ []) 0) (makes fin.empty r none_left is) (λ row made. (made, tt))))
        (λ alone all. keyed_all e.0 (rows_of lines ++ alone) h.0 (all-append Q (rows_of lines) alone has all)))

    all_met_safe : (es : List (Key × (List Row × List Row))) → AllByRecursion (IsPair HasRisingLabels Meets) es → IsSafe (AllByRecursion (KeyedFits q)) (all_met_rows on both side (map meeting_of es) limit)
    all_met_safe [] h = tt
    all_met_safe (e ∷ es) h =
        safe_then (AllByRecursion (KeyedFits q)) (AllByRecursion (KeyedFits q)) (met_rows on both side limit (meeting_of e)) _ (met_safe e h.0)
        (λ xs first. safe_then (AllByRecursion (KeyedFits q)) (AllByRecursion (KeyedFits q)) (all_met_rows on both side (map meeting_of es) limit) (λ ys. Gives (xs ++ ys) 0) (all_met_safe es h.1)
        (λ ys rest. all-append (KeyedFits q) xs ys first rest))

    pub joined_safe : (lefts rights : List Table) → TablesFit l_row lefts → TablesFit r_row rights → IsSafe (TablesFit q) (joined on both side lefts rights limit)
    unfolding joined
    joined_safe lefts rights h k =
        safe_cut (TablesFit q) limit (and_then (all_met_rows on both side (meetings lefts rights) limit) (λ rows. Gives (regrouped rows) 0))
        (safe_then (AllByRecursion (KeyedFits q)) (TablesFit q) (all_met_rows on both side (meetings lefts rights) limit) (λ rows. Gives (regrouped rows) 0)
        (all_met_safe (fin.entries (met_under lefts rights)) (all_meet lefts rights h k)) (λ rows all. regrouped_all q rows all))

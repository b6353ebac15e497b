-- What a join has made so far, and what becomes of the rows under a key.
use Rattle.std.proofs.Common.{◌≡◌, ℕ, zero, suc, ◌+◌, ◌≤◌, ◌<◌, Bool, true, false, List, [], ◌∷◌, ◌++◌, map, length, get_or, take, refl, sym, ap, ◌∙◌, arith, append_assoc}
use Rattle.std.proofs.lemmas.List.{append-nil, map-append}
use Rattle.std.specs.Prelude.{◌||◌, if◌then◌else◌}
use Rattle.fx_base.specs.declared.meter.Meter.{Meter}
use Rattle.fx_data.specs.declared.key.Key.{Key}
use Rattle.fx_group.specs.Answer.{Row, Meaning}
use Rattle.fx_group.specs.Turned.{Groups, with_rows}
use Rattle.fx_group.proofs.Turned.{with_both}
use Rattle.fx_join.specs.Join.{marked, all_marked, no_marks, unmarked, left_over, lone_right, keyed, rows_of}
use Rattle.fx_join.specs.Joined.{lines_of, met_rows}
use Rattle.fx_join.specs.Part.{hit_at, with_keyed, with_lines}
use Rattle.fx_join.specs.declared.joining.Part.{Part}
use Rattle.fx_join.specs.declared.line.Line.{Line}
use Rattle.fx_join.specs.declared.meeting.Meeting.{Meeting}
use Rattle.fx_join.specs.declared.side.Side.{Side}
use Rattle.fx_value.specs.Calls.{IsMetered, Ended}
use Rattle.fx_value.specs.Ends.{End, Gives, and_then}
use Rattle.fx_value.specs.Works.{flat_each, into}
use Rattle.fx_value.proofs.Ends.{later-zero, then-then}
use Rattle.fx_value.proofs.Loops.{Goes, goes_begins, goes_along, goes_then}

-- ---- rows and lines in two parts, one after the other

pub keyed_more : (key : Key) (groups : Groups) (xs ys : List Row) → with_keyed key groups (xs ++ ys) ≡ with_keyed key (with_keyed key groups xs) ys
keyed_more key groups xs ys = ap (with_rows groups) (map-append (keyed key) xs ys) ∙ with_both groups (map (keyed key) xs) (map (keyed key) ys)

rows_both : (xs ys : List Line) → rows_of (xs ++ ys) ≡ rows_of xs ++ rows_of ys
rows_both [] ys = refl
rows_both (x ∷ xs) ys = ap (λ (rs : List Row). x.rows ++ rs) (rows_both xs ys) ∙ sym (append_assoc x.rows (rows_of xs) (rows_of ys))

marked_both : (marks : List Bool) (xs ys : List Line) → all_marked marks (xs ++ ys) ≡ all_marked (all_marked marks xs) ys
marked_both marks [] ys = refl
marked_both marks (x ∷ xs) ys = marked_both (marked marks x.hits) xs ys

pub lines_more : (key : Key) (part : Part) (xs ys : List Line) → with_lines key part (xs ++ ys) ≡ with_lines key (with_lines key part xs) ys
lines_more key part xs ys =
    let runs : with_keyed key part.runs (rows_of (xs ++ ys)) ≡ with_keyed key (with_keyed key part.runs (rows_of xs)) (rows_of ys)
    = ap (with_keyed key part.runs) (rows_both xs ys) ∙ keyed_more key part.runs (rows_of xs) (rows_of ys) in
    λ i. record { runs = runs i; marks = marked_both part.marks xs ys i }

pub nothing_left : {X : Type 0} (xs : List X) → length xs ≡ 0 → xs ≡ []
nothing_left [] n = refl
nothing_left (x ∷ xs) n = absurd (omega arith)

-- one more line
pub lines_one : (key : Key) (part : Part) (x : Line) → ◌≡◌ {A = Part} (record { runs = with_keyed key part.runs x.rows; marks = marked part.marks x.hits }) (with_lines key part (x ∷ []))
lines_one key part x = λ i. record { runs = with_keyed key part.runs (sym (append-nil x.rows) i); marks = marked part.marks x.hits }

-- ---- marks by their places

or_false : (a : Bool) → (a || false) ≡ a
or_false true = refl
or_false false = refl

marked_step : (marks hits : List Bool) (i : ℕ) → i < length marks → marked (take i marks) hits ++ (hit_at marks i || hit_at hits i) ∷ [] ≡ marked (take (suc i) marks) hits
marked_step [] hits i within = absurd (omega arith)
marked_step (m ∷ marks) [] zero within = ap (λ b. b ∷ []) (or_false m)
marked_step (m ∷ marks) (h ∷ hits) zero within = refl
marked_step (m ∷ marks) [] (suc i) within = ap (λ ms. m ∷ ms) (marked_step marks [] i (omega arith))
marked_step (m ∷ marks) (h ∷ hits) (suc i) within = ap (λ ms. (m || h) ∷ ms) (marked_step marks hits i (omega arith))

-- one more mark
pub marked_more : (marks hits : List Bool) (i : ℕ) → i < length marks → marked (take i marks) hits ++ (hit_at marks i || hit_at hits i) ∷ [] ≡ marked (take (i + 1) marks) hits
marked_more marks hits i within =
    let next : suc i ≡ i + 1 = omega arith in
    marked_step marks hits i within ∙ ap (λ n. marked (take n marks) hits) next

unmarked_step : (marks : List Bool) (rights : List Row) (i : ℕ) (r : Row) → i < length rights → r ≡ get_or rights i r
    → unmarked marks (take i rights) ++ (if hit_at marks i then [] else r ∷ []) ≡ unmarked marks (take (suc i) rights)
unmarked_step marks [] i r within is = absurd (omega arith)
unmarked_step [] (x ∷ rights) zero r within is = ap (λ (y : Row). y ∷ []) is
unmarked_step (m ∷ marks) (x ∷ rights) zero r within is =
    elim m as (λ b. (if b then [] else r ∷ []) ≡ (if b then [] else x ∷ [])) [
      | true ↦ refl
      | false ↦ ap (λ (y : Row). y ∷ []) is
    ]
unmarked_step [] (x ∷ rights) (suc i) r within is = ap (λ (ys : List Row). x ∷ ys) (unmarked_step [] rights i r (omega arith) is)
unmarked_step (m ∷ marks) (x ∷ rights) (suc i) r within is =
    let rest = unmarked_step marks rights i r (omega arith) is in
    elim m as (λ b. (if b then unmarked marks (take i rights) else x ∷ unmarked marks (take i rights)) ++ (if hit_at marks i then [] else r ∷ [])
    ≡ (if b then unmarked marks (take (suc i) rights) else x ∷ unmarked marks (take (suc i) rights))) [
      | true ↦ rest
      | false ↦ ap (λ (ys : List Row). x ∷ ys) rest
    ]

-- one more right row
pub unmarked_more : (marks : List Bool) (rights : List Row) (i : ℕ) (r : Row) → i < length rights → r ≡ get_or rights i r
    → unmarked marks (take i rights) ++ (if hit_at marks i then [] else r ∷ []) ≡ unmarked marks (take (i + 1) rights)
unmarked_more marks rights i r within is =
    let next : suc i ≡ i + 1 = omega arith in
    unmarked_step marks rights i r within is ∙ ap (λ n. unmarked marks (take n rights)) next

-- ---- the rows under a key

module _ (on both : Meaning) (side : Side) (groups : Groups) (m : Meeting) where
  abbrev pub begun : List Bool → Part
  begun marks = record { runs = groups; marks = marks }

  abbrev lefts_joined : List Bool → ℕ → End Part
  lefts_joined marks n = into (with_lines m.key) (begun marks) (lines_of on both side m.rights m.lefts n)

  abbrev pub rights_joined : Part → ℕ → End Groups
  rights_joined part n = into (with_keyed m.key) part.runs (flat_each (lone_right both n) (left_over side part.marks m.rights))

  -- what follows from the lines
  after_lines : (n : ℕ) (lines : List Line)
      → and_then (and_then (flat_each (lone_right both n) (left_over side (all_marked (no_marks m.rights) lines) m.rights)) (λ alone. Gives (map (keyed m.key) (rows_of lines ++ alone)) 0))
      (λ rows. Gives (with_rows groups rows) 0)
      ≡ rights_joined (with_lines m.key (begun (no_marks m.rights)) lines) n
  after_lines n lines =
      let rest = flat_each (lone_right both n) (left_over side (all_marked (no_marks m.rights) lines) m.rights) in
      then-then rest (λ alone. Gives (map (keyed m.key) (rows_of lines ++ alone)) 0) (λ rows. Gives (with_rows groups rows) 0)
      ∙ (λ i. and_then rest (λ alone. Gives (keyed_more m.key groups (rows_of lines) alone i) 0))

  -- the left rows one after another, and then the right rows that are left over
  parts_of : (n : ℕ) → into with_rows groups (met_rows on both side n m) ≡ and_then (lefts_joined (no_marks m.rights) n) (λ part. rights_joined part n)
  parts_of n =
      let lines = lines_of on both side m.rights m.lefts n in
      then-then lines
      (λ xs. and_then (flat_each (lone_right both n) (left_over side (all_marked (no_marks m.rights) xs) m.rights)) (λ alone. Gives (map (keyed m.key) (rows_of xs ++ alone)) 0))
      (λ rows. Gives (with_rows groups rows) 0)
      ∙ (λ i. and_then lines (λ xs. after_lines n xs i))
      ∙ sym (then-then lines (λ xs. Gives (with_lines m.key (begun (no_marks m.rights)) xs) 0) (λ part. rights_joined part n)
      ∙ (λ i. and_then lines (λ xs. later-zero (rights_joined (with_lines m.key (begun (no_marks m.rights)) xs) n) i)))

  -- the left rows are ahead
  pub lefts_ahead : (marks : List Bool) (meter : Meter) → meter.spent ≤ meter.budget → marks ≡ no_marks m.rights
      → Goes (λ n. into with_rows groups (met_rows on both side n m)) (λ n. and_then (into (with_lines m.key) (begun marks) (lines_of on both side m.rights m.lefts n)) (λ part. rights_joined part n)) meter meter
  lefts_ahead marks meter within is =
      let whole : ℕ → End Groups = λ n. into with_rows groups (met_rows on both side n m) in
      goes_along whole whole (λ n. and_then (lefts_joined marks n) (λ part. rights_joined part n)) meter meter
      (λ n. parts_of n ∙ (λ i. and_then (lefts_joined (sym is i) n) (λ part. rights_joined part n))) (goes_begins whole meter within)

  -- the right rows are ahead
  pub rights_ahead : (marks : List Bool) (meter after : Meter) → meter.spent ≤ meter.budget → marks ≡ no_marks m.rights → IsMetered meter after
      → (part : Part) → Ended (λ n. into (with_lines m.key) (begun marks) (lines_of on both side m.rights m.lefts n)) (Gives part) meter after
      → (alone : List Row) → alone ≡ left_over side part.marks m.rights
      → Goes (λ n. into with_rows groups (met_rows on both side n m)) (λ n. into (with_keyed m.key) part.runs (flat_each (lone_right both n) alone)) meter after
  rights_ahead marks meter after within is metered part ended alone left =
      let whole : ℕ → End Groups = λ n. into with_rows groups (met_rows on both side n m) in
      goes_along whole (rights_joined part) (λ n. into (with_keyed m.key) part.runs (flat_each (lone_right both n) alone)) meter after
      (λ n i. into (with_keyed m.key) part.runs (flat_each (lone_right both n) (sym left i)))
      (goes_then whole (lefts_joined marks) rights_joined meter meter (lefts_ahead marks meter within is) after metered part ended)

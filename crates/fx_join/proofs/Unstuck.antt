-- When joins are Stuck under no limit.
use Rattle.std.proofs.Common.{◌≢◌, ℕ, Bool, true, false, List, [], ◌∷◌, ◌++◌, map, refl}
use Rattle.std.specs.Prelude.{cond, nat_le, None, Some, if◌then◌else◌}
use Rattle.std.specs.FinMap as fin
use Rattle.std.specs.List.{AllByRecursion, filter, flat_map}
use Rattle.std.specs.Ordering.{eq_by_cmp}
use Rattle.fx_data.specs.Gathered.{rows_with}
use Rattle.fx_data.specs.Key.{key_cmp}
use Rattle.fx_data.specs.Regrouped.{regrouped}
use Rattle.fx_data.specs.declared.key.Key.{Key}
use Rattle.fx_data.specs.declared.table.Table.{Table}
use Rattle.fx_data.proofs.Lawful.{all-append}
use Rattle.fx_group.specs.Answer.{Row, Meaning}
use Rattle.fx_group.proofs.Unstuck.{EachRow, each_of}
use Rattle.fx_join.specs.Join.{matched, made, made_if, paired, found_row, line_with, found_line, is_lone, longer, lone_left, line_of_left, line_row, unmarked, left_over, keeps_right, all_marked, no_marks, lone_right, keyed, rows_of}
use Rattle.fx_join.specs.Joined.{lines_of, met_rows, all_met_rows, joined}
use Rattle.fx_join.specs.Meet.{met_under, meeting_of, meetings}
use Rattle.fx_join.specs.declared.meeting.Meeting.{Meeting}
use Rattle.fx_join.specs.declared.side.Side.{Side}
use Rattle.fx_join.proofs.Meet.{Two, all-from}
use Rattle.fx_value.specs.Ends.{End, Gives, Faults, Stuck, More, later, and_then, cut, NeverStuck}
use Rattle.fx_value.specs.Works.{flat_each}

later_unstuck : {A : Type 0} (before : ℕ) (e : End A) → e ≢ Stuck → later before e ≢ Stuck
later_unstuck before (Gives v t) unstuck = λ is. cc
later_unstuck before (Faults f t) unstuck = λ is. cc
later_unstuck before Stuck unstuck = unstuck
later_unstuck before More unstuck = λ is. cc

then_unstuck : {A B : Type 0} (e : End A) (next : A → End B) → e ≢ Stuck → ((v : A) → next v ≢ Stuck) → and_then e next ≢ Stuck
then_unstuck (Gives v t) next unstuck after = later_unstuck t (next v) (after v)
then_unstuck (Faults f t) next unstuck after = λ is. cc
then_unstuck Stuck next unstuck after = λ _. unstuck refl
then_unstuck More next unstuck after = λ is. cc

gives_unstuck : {A : Type 0} (v : A) → Gives v 0 ≢ Stuck
gives_unstuck v = λ is. cc

each_unstuck : {X Y : Type 0} (step : X → End (List Y)) (xs : List X) → AllByRecursion (λ x. step x ≢ Stuck) xs → flat_each step xs ≢ Stuck
each_unstuck step [] unstuck = gives_unstuck []
each_unstuck step (x ∷ xs) unstuck =
    then_unstuck (step x) (λ ys. and_then (flat_each step xs) (λ zs. Gives (ys ++ zs) 0)) unstuck.0
    (λ ys. then_unstuck (flat_each step xs) (λ zs. Gives (ys ++ zs) 0) (each_unstuck step xs unstuck.1) (λ zs. gives_unstuck (ys ++ zs)))

cut_free : {A : Type 0} (limit : ℕ) (e : End A) → e ≢ Stuck → cut limit e ≢ Stuck
cut_free {A} limit (Gives v t) unstuck =
    elim (nat_le t limit) as (λ b. ◌≢◌ {A = End A} (cond b (Gives v t) More) Stuck) [ true ↦ λ is. cc | false ↦ λ is. cc ]
cut_free {A} limit (Faults f t) unstuck =
    elim (nat_le t limit) as (λ b. ◌≢◌ {A = End A} (cond b (Faults f t) More) Stuck) [ true ↦ λ is. cc | false ↦ λ is. cc ]
cut_free limit Stuck unstuck = unstuck
cut_free limit More unstuck = λ is. cc

-- ---- which rows meet

-- all rows under a key are rows of the tables
with_all : (P : Row → Type 0) (key : Key) (ts : List Table) → EachRow P ts → AllByRecursion P (rows_with key ts)
with_all P key [] h = tt
with_all P key (t ∷ ts) h =
    elim (eq_by_cmp key_cmp key t.key) as (λ b. AllByRecursion P (flat_map (λ (u : Table). u.rows) (cond b (t ∷ filter (λ u. eq_by_cmp key_cmp key u.key) ts) (filter (λ u. eq_by_cmp key_cmp key u.key) ts)))) [
      | true ↦ all-append P t.rows (rows_with key ts) h.0 (with_all P key ts h.1)
      | false ↦ with_all P key ts h.1
    ]

module _ (P Q : Row → Type 0) where
  abbrev Meets : Key × Two → Type 0
  Meets e = AllByRecursion P e.1.0 × AllByRecursion Q e.1.1

  abbrev MeetingOf : Meeting → Type 0
  MeetingOf m = AllByRecursion P m.lefts × AllByRecursion Q m.rights

  pairs_meet : (lefts rights us : List Table) → EachRow P lefts → EachRow Q rights → AllByRecursion Meets (map (λ t. (t.key, (rows_with t.key lefts, rows_with t.key rights))) us)
  pairs_meet lefts rights [] g h = tt
  pairs_meet lefts rights (u ∷ us) g h = ((with_all P u.key lefts g, with_all Q u.key rights h), pairs_meet lefts rights us g h)

  each_meets : (es : List (Key × Two)) → AllByRecursion Meets es → AllByRecursion MeetingOf (map meeting_of es)
  each_meets [] h = tt
  each_meets (e ∷ es) h = (h.0, each_meets es h.1)

  all_meet : (lefts rights : List Table) → EachRow P lefts → EachRow Q rights → AllByRecursion MeetingOf (meetings lefts rights)
  unfolding met_under
  all_meet lefts rights g h = each_meets _ (all-from Meets _ (pairs_meet lefts rights (lefts ++ rights) g h))

-- rows that are left over are rows
left_all : (Q : Row → Type 0) (marks : List Bool) (rights : List Row) → AllByRecursion Q rights → AllByRecursion Q (unmarked marks rights)
left_all Q marks [] h = tt
left_all Q [] (r ∷ rights) h = (h.0, left_all Q [] rights h.1)
left_all Q (mark ∷ marks) (r ∷ rights) h =
    elim mark as (λ b. AllByRecursion Q (if b then unmarked marks rights else r ∷ unmarked marks rights)) [
      | true ↦ left_all Q marks rights h.1
      | false ↦ (h.0, left_all Q marks rights h.1)
    ]

over_all : (Q : Row → Type 0) (side : Side) (marks : List Bool) (rights : List Row) → AllByRecursion Q rights → AllByRecursion Q (left_over side marks rights)
over_all Q side marks rights h =
    elim (keeps_right side) as (λ b. AllByRecursion Q (if b then unmarked marks rights else [])) [ true ↦ left_all Q marks rights h | false ↦ tt ]

-- ---- what becomes of them

-- what a join asks of its functions under a limit: `on` takes each pair, and `as` makes a row of each, and of each row alone
pub record Takes (P Q : Row → Type 0) (on both : Meaning) (limit : ℕ) : Type 0 where
  pub pairs : (l r : Row) → P l → Q r → matched on limit l r ≢ Stuck
  pub rows : (l r : Row) → P l → Q r → made both limit l r ≢ Stuck
  pub lefts : (l : Row) → P l → made both limit l fin.empty ≢ Stuck
  pub rights : (r : Row) → Q r → made both limit fin.empty r ≢ Stuck

module _ (P Q : Row → Type 0) (on both : Meaning) (limit : ℕ) (takes : Takes P Q on both limit) (side : Side) where
  if_unstuck : (l r : Row) (wanted : Bool) → made both limit l r ≢ Stuck → made_if both limit l r wanted ≢ Stuck
  if_unstuck l r true unstuck = then_unstuck (made both limit l r) (λ row. Gives (Some row) 0) unstuck (λ row. gives_unstuck (Some row))
  if_unstuck l r false unstuck = gives_unstuck None

  found_unstuck : (l r : Row) → P l → Q r → found_row on both l limit r ≢ Stuck
  found_unstuck l r p q =
      then_unstuck (paired on both limit l r) (λ found. Gives (found ∷ []) 0)
      (then_unstuck (matched on limit l r) (made_if both limit l r) (takes.pairs l r p q) (λ hit. if_unstuck l r hit (takes.rows l r p q))) (λ found. gives_unstuck (found ∷ []))

  line_unstuck : (rights : List Row) → AllByRecursion Q rights → (l : Row) → P l → line_row on both side rights limit l ≢ Stuck
  line_unstuck rights h l p =
      then_unstuck (line_of_left on both side rights l limit) (λ x. Gives (x ∷ []) 0)
      (then_unstuck (found_line on both rights l limit) (lone_left both side l limit)
      (then_unstuck (flat_each (found_row on both l limit) rights) (λ found. Gives (line_with found) 0)
      (each_unstuck (found_row on both l limit) rights (each_of Q (λ r. found_row on both l limit r ≢ Stuck) (λ r q. found_unstuck l r p q) rights h)) (λ found. gives_unstuck (line_with found)))
      (λ x. then_unstuck (made_if both limit l fin.empty (is_lone side x)) (λ row. Gives (longer x row) 0) (if_unstuck l fin.empty (is_lone side x) (takes.lefts l p))
      (λ row. gives_unstuck (longer x row))))
      (λ x. gives_unstuck (x ∷ []))

  right_unstuck : (r : Row) → Q r → lone_right both limit r ≢ Stuck
  right_unstuck r q = then_unstuck (made both limit fin.empty r) (λ row. Gives (row ∷ []) 0) (takes.rights r q) (λ row. gives_unstuck (row ∷ []))

  met_unstuck : (m : Meeting) → MeetingOf P Q m → met_rows on both side limit m ≢ Stuck
  met_unstuck m h =
      then_unstuck (lines_of on both side m.rights m.lefts limit)
      (λ lines. and_then (flat_each (lone_right both limit) (left_over side (all_marked (no_marks m.rights) lines) m.rights)) (λ alone. Gives (map (keyed m.key) (rows_of lines ++ alone)) 0))
      (each_unstuck (line_row on both side m.rights limit) m.lefts (each_of P (λ l. line_row on both side m.rights limit l ≢ Stuck) (line_unstuck m.rights h.1) m.lefts h.0))
      (λ lines. then_unstuck (flat_each (lone_right both limit) (left_over side (all_marked (no_marks m.rights) lines) m.rights)) (λ alone. Gives (map (keyed m.key) (rows_of lines ++ alone)) 0)
      (each_unstuck (lone_right both limit) _ (each_of Q (λ r. lone_right both limit r ≢ Stuck) right_unstuck _ (over_all Q side (all_marked (no_marks m.rights) lines) m.rights h.1)))
      (λ alone. gives_unstuck (map (keyed m.key) (rows_of lines ++ alone))))

-- a join is Stuck under no limit where its functions take the rows of its tables
pub join_never_stuck : (P Q : Row → Type 0) (on both : Meaning) (side : Side) (lefts rights : List Table) → EachRow P lefts → EachRow Q rights
    → ((limit : ℕ) → Takes P Q on both limit) → NeverStuck (joined on both side lefts rights)
unfolding joined
join_never_stuck P Q on both side lefts rights g h takes limit =
    cut_free limit (and_then (all_met_rows on both side (meetings lefts rights) limit) (λ rows. Gives (regrouped rows) 0))
    (then_unstuck (all_met_rows on both side (meetings lefts rights) limit) (λ rows. Gives (regrouped rows) 0)
    (each_unstuck (met_rows on both side limit) (meetings lefts rights)
    (each_of (MeetingOf P Q) (λ m. met_rows on both side limit m ≢ Stuck) (met_unstuck P Q on both limit (takes limit) side) (meetings lefts rights) (all_meet P Q lefts rights g h)))
    (λ rows. gives_unstuck (regrouped rows)))

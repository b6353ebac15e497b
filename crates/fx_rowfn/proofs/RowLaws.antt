-- A function literal on rows: rows as records, its one tick, and what its value is as an answer.
use Rattle.std.proofs.Common.{◌≡◌, ℕ, suc, ◌+◌, ◌<◌, ◌≤◌, Bool, true, false, List, [], ◌∷◌, ◌++◌, T, length, get_or, drop, take, map, refl, sym, ap, subst, arith, ◌∙◌}
use Rattle.std.proofs.lemmas.List.{map-append, take_all, take_more, flat_map_more}
use Rattle.std.specs.Cmp.{eq_by_cmp_equiv}
use Rattle.std.specs.Cmp.Lexicographic.{nat_list_cmp_total}
use Rattle.std.specs.FinMap.{entries, entries_sorted, get, get-entries, insert, keys}
use Rattle.std.specs.FinMap.Entries.{below_all, find, is_sorted}
use Rattle.std.specs.List.{AllByRecursion, flat_map}
use Rattle.std.specs.Ordering.{is_eq, is_lt}
use Rattle.std.specs.Prelude.{◌-◌, pos, cond, ◌&&◌, Some, Result, Ok, Err, if◌then◌else◌}
use Rattle.std.specs.declared.alloc.Global.{Global}
use Rattle.std.specs.declared.cmp.Ordering.{Ordering}
use Rattle.std.specs.declared.cmp.Ordering.TheVariants.{Less, Equal, Greater}
use Rattle.std.specs.declared.rc.Rc.{Rc}
use Rattle.fx_base.specs.Text.{text_cmp}
use Rattle.fx_base.specs.declared.meter.Meter.{Meter}
use Rattle.fx_value.proofs.Ends.{later-later, later-zero, limited_cut, steady_same, steady_then, then-gives, then-later, then-then}
use Rattle.fx_value.specs.Ends.{End, Gives, Faults, Stuck, IsLimited, and_then, cut, later}
use Rattle.fx_value.specs.declared.answer.Answer.{Answer}
use Rattle.fx_value.specs.declared.scalar.Scalar.{Scalar}
use Rattle.fx_meaning.specs.Ends.{◌>>=◌, pure}
use Rattle.fx_meaning.specs.Forms.{cell_in}
use Rattle.fx_meaning.proofs.MeaningLaws.{call_steady}
use Rattle.fx_meaning.specs.Meaning.{Tests, applied_to, entered, nested, takes}
use Rattle.fx_meaning.specs.Rows.{Row, answer_of, fields_of, nowhere, row_from}
use Rattle.fx_meaning.specs.Value as value
use Rattle.fx_meaning.specs.Value.{Label, Slots, Val, cell, is_there, look, more_slots}
use Rattle.fx_values.proofs.ValueLaws.{Opens, opens, slot_is}
use Rattle.fx_values.specs.Shape.{OfClosure, closure_val, slot, slots_of, val}
use Rattle.fx_values.specs.Told.{Tells}
use Rattle.fx_values.specs.declared.stop.Stop.{Stop}
use Rattle.fx_values.specs.declared.stop.Stop.TheVariants as stop
use Rattle.fx_values.specs.declared.value.Slot.{Slot}
use Rattle.fx_values.specs.declared.value.Value.{Value}
use Rattle.fx_values.specs.declared.value.Value.TheVariants as v
use Rattle.fx_rowfn.specs.Follows.{Follows, Goes, Passes}
use Rattle.fx_rowfn.specs.Frame as plain
use Rattle.fx_rowfn.specs.State.{bound_left}
use Rattle.fx_rowfn.specs.Rows.{body_work, call_work, field_at, field_of, row_called, row_cut, with_field}

-- ---- a row as a record

first : (a b : Bool) → T (a && b) → T a
first true b h = tt
first false b h = absurd h

second : (a b : Bool) → T (a && b) → T b
second true b h = h
second false b h = absurd h

not_tied : (o : Ordering) → T (is_lt o) → is_eq o ≡ false
not_tied Less h = refl
not_tied Equal h = absurd h
not_tied Greater h = absurd h

later_found : (e : Label × Scalar) (all es : List (Label × Scalar)) → T (below_all text_cmp e.0 es) → AllByRecursion (λ f. find text_cmp f.0 all ≡ Some f.1) es
    → AllByRecursion (λ f. find text_cmp f.0 (e ∷ all) ≡ Some f.1) es
later_found e all [] below h = tt
later_found e all (f ∷ es) below h = (
  ap (λ c. cond c (Some e.1) (find text_cmp f.0 all)) ((eq_by_cmp_equiv nat_list_cmp_total).symm f.0 e.0 ∙ not_tied (text_cmp e.0 f.0) (first (is_lt (text_cmp e.0 f.0)) (below_all text_cmp e.0 es) below)) ∙ h.0,
  later_found e all es (second (is_lt (text_cmp e.0 f.0)) (below_all text_cmp e.0 es) below) h.1,
)

all_found : (es : List (Label × Scalar)) → T (is_sorted text_cmp es) → AllByRecursion (λ e. find text_cmp e.0 es ≡ Some e.1) es
all_found [] h = tt
all_found (e ∷ es) h = (
  ap (λ c. cond c (Some e.1) (find text_cmp e.0 es)) ((eq_by_cmp_equiv nat_list_cmp_total).refl e.0),
  later_found e es es (first (below_all text_cmp e.0 es) (is_sorted text_cmp es) h) (all_found es (second (below_all text_cmp e.0 es) (is_sorted text_cmp es) h)),
)

picked : (row : Row) (es : List (Label × Scalar)) → AllByRecursion (λ e. find text_cmp e.0 (entries row) ≡ Some e.1) es
    → slots_of (flat_map (field_at row) (map (λ e. e.0) es)) ≡ fields_of es
picked row [] h = refl
picked row (e ∷ es) h =
    ap (λ o. slots_of (field_of e.0 o ++ flat_map (field_at row) (map (λ f. f.0) es))) (get-entries row e.0 ∙ h.0)
    ∙ ap (more_slots e.0 (cell e.1)) (picked row es h.1)

pub row_fields : (row : Row) → slots_of (flat_map (field_at row) (keys row)) ≡ fields_of (entries row)
row_fields row = picked row (entries row) (all_found (entries row) (entries_sorted row))

pub field_pushed : (row : Row) (x : Label) (a : Scalar) (made more : List Slot) (s : Slot) → more ≡ made ++ s ∷ [] → slot s ≡ record { label = x; value = cell a } → get row x ≡ Some a
    → map slot more ≡ map slot made ++ field_at row x
field_pushed row x a made more s pushed is there =
    ap (map slot) pushed ∙ map-append slot made (s ∷ []) ∙ ap (λ o. map slot made ++ o ∷ []) is ∙ ap (λ o. map slot made ++ field_of x o) (sym there)

pub fields_more : (row : Row) (now after : List _) (labels : List Label) (i : ℕ) (x : Label) → i < length labels → x ≡ get_or labels i x
    → now ≡ flat_map (field_at row) (take i labels) → after ≡ now ++ field_at row x → after ≡ flat_map (field_at row) (take (i + 1) labels)
fields_more row now after labels i x below is inv more =
    more ∙ ap (λ l. l ++ field_at row x) inv ∙ flat_map_more (field_at row) [] (take i labels) x
    ∙ ap (flat_map (field_at row)) (ap (λ y. take i labels ++ y ∷ []) is ∙ sym (take_more labels i x below))

-- ---- a record as a row

-- one field of a record, and then the others
pub row_step : (row : Row) (x : Label) (v : Val) (rest : Slots) → row_from row (more_slots x v rest) ≡ and_then (with_field row x v rest) (λ made. row_from made rest)
row_step row x v rest = by (is_there (look x rest))
  where
    by : (b : Bool) → (if b then row_from row rest else (cell_in v >>= (λ a. row_from (insert row x a) rest))) ≡ and_then (if b then pure row else (cell_in v >>= (λ a. pure (insert row x a)))) (λ made. row_from made rest)
    by true = sym (later-zero (row_from row rest))
    by false =
        sym (then-then (cell_in v) (λ a. pure (insert row x a)) (λ made. row_from made rest) ∙ (λ i. cell_in v >>= (λ a. later-zero (row_from (insert row x a) rest) i)))

-- what ends without a value ends all behind it
pub tells_stop : {A B C D : Type 0} (f : A → B) (g : C → D) (e : End B) (next : B → End D) (why : Stop) → Tells f e (Err why) → Tells g (and_then e next) (Err why)
tells_stop f g e next (stop.Fault fault) told = ap (λ x. and_then x next) told
tells_stop f g e next stop.Stuck told = ap (λ x. and_then x next) told
tells_stop f g e next (stop.Budget ticks) told = told
tells_stop f g e next stop.Memory told = tt

at_first : (rest : List Slot) (s : Slot) → 1 ≤ length rest → s ≡ get_or rest 0 s → rest ≡ s ∷ take (length rest - 1) (drop 1 rest)
at_first [] s some is = absurd (omega (arith, some))
at_first (x ∷ xs) s some is =
    let all : length (x ∷ xs) - 1 ≡ length xs = omega arith in
    ap (λ y. y ∷ xs) (sym is) ∙ ap (λ ys. s ∷ ys) (sym (ap (λ n. take n xs) all ∙ take_all (length xs) xs (omega arith)))

module _ (whole : End Row) (row : Row) (rest : List Slot) (s : Slot) (some : 1 ≤ length rest) (is : s ≡ get_or rest 0 s) (inv : whole ≡ row_from row (slots_of (map slot rest))) where
  abbrev behind : Slots
  behind = slots_of (map slot (take (length rest - 1) (drop 1 rest)))

  opened : whole ≡ and_then (with_field row s.label (val s.value) behind) (λ made. row_from made behind)
  opened =
      inv ∙ ap (λ l. row_from row (slots_of (map slot l))) (at_first rest s some is) ∙ ap (λ o. row_from row (more_slots o.label o.value behind)) (slot_is s)
      ∙ row_step row s.label (val s.value) behind

  pub row_on : (made : Row) → with_field row s.label (val s.value) (slots_of (map slot (take (length rest - 1) (drop 1 rest)))) ≡ Gives made 0
      → whole ≡ row_from made (slots_of (map slot (take (length rest - 1) (drop 1 rest))))
  row_on made told = opened ∙ ap (λ e. and_then e (λ r. row_from r behind)) told ∙ later-zero (row_from made behind)

  pub row_stops : (why : Stop) → Tells (λ r. r) (with_field row s.label (val s.value) (slots_of (map slot (take (length rest - 1) (drop 1 rest))))) (Err why) → Tells {A = Row} (λ r. r) whole (Err why)
  row_stops why told =
      subst (λ e. Tells {A = Row} (λ r. r) e (Err why)) (sym opened) (tells_stop (λ r. r) (λ r. r) (with_field row s.label (val s.value) behind) (λ made. row_from made behind) why told)

-- what is no answer
answer_at : (w : Value) (d : Val) → Opens w d → ((a : Scalar) → ¬ (w ≡ v.Cell a)) → ((fields : Rc (List Slot) Global) → ¬ (w ≡ v.Rec fields)) → answer_of d ≡ Stuck
answer_at w (value.cell x) o cells recs = absurd (cells x o)
answer_at w (value.span x) o cells recs = refl
answer_at w (value.pattern x) o cells recs = refl
answer_at w (value.array x) o cells recs = refl
answer_at w (value.rec x) o cells recs = absurd (recs o.0 o.1)
answer_at w (value.closure a b c d e) o cells recs = refl
answer_at w (value.native x) o cells recs = refl
answer_at w (value.in_package x) o cells recs = refl
answer_at w (value.stream x) o cells recs = refl
answer_at w (value.shown a b c) o cells recs = refl

pub no_answer : (w : Value) → ((a : Scalar) → ¬ (w ≡ v.Cell a)) → ((fields : Rc (List Slot) Global) → ¬ (w ≡ v.Rec fields)) → answer_of (val w) ≡ Stuck
no_answer w cells recs = answer_at w (val w) (opens w) cells recs

-- ---- the tick of the call

module _ (call body : ℕ → End Val) (ticks_on : (n : ℕ) → call (suc n) ≡ later 1 (body n)) (before : Meter) where
  ticked : (limit : ℕ) → 1 ≤ limit → call limit ≡ later 1 (body (limit - 1))
  ticked limit below = let one : limit ≡ suc (limit - 1) = omega (arith, below) in ap call one ∙ ticks_on (limit - 1)

  -- the budget doesn't allow it
  pub tick_refused : (sum : ℕ) → sum ≡ before.spent + 1 → before.budget < sum → Passes call before sum
  tick_refused sum is past = record { ticks = 1; sum_is = is; past = past; at = λ limit below. (body (limit - 1), ticked limit below) }

  module _ (now : Meter) (same : now.budget ≡ before.budget) (tick : now.spent ≡ before.spent + 1) where
    goes_ticked : (end : End Val) (after : Meter) → Goes body (λ _. end) now after → Goes call (λ _. end) before after
    goes_ticked end after g = record {
      ticks = 1 + g.ticks;
      spent = omega (arith, g.spent, tick);
      at = λ limit below. ticked limit (omega (arith, below)) ∙ ap (later 1) (g.at (limit - 1) (omega (arith, below))) ∙ later-later 1 g.ticks end;
    }

    pub follows_ticked : (after : Meter) (r : Result Value Stop) → Follows val body now after r → Follows val call before after r
    follows_ticked after (Ok v) g = goes_ticked (Gives (val v) 0) after g
    follows_ticked after (Err (stop.Fault f)) g = goes_ticked (Faults f 0) after g
    follows_ticked after (Err stop.Stuck) g = goes_ticked Stuck after g
    follows_ticked after (Err (stop.Budget sum)) p = record {
      ticks = 1 + p.ticks;
      sum_is = omega (arith, p.sum_is, tick);
      past = omega (arith, same, p.past);
      at = λ limit below.
          let rest = p.at (limit - 1) (omega (arith, below)) in
          (rest.0, ticked limit (omega (arith, below)) ∙ ap (later 1) rest.1 ∙ later-later 1 p.ticks rest.0);
    }
    follows_ticked after (Err stop.Memory) g = tt

-- the work of a call whose scope has the captured values alone
pub entry_work : (test : Tests) (limit : ℕ) (scope : plain.Scope) (c d : OfClosure) (given args : Slots) → c ≡ d → given ≡ args → scope ≡ record { env = d.captured; setting = d.setting }
    → bound_left test limit [] scope c.params c.captured given c.lets c.result ≡ body_work test d args limit
entry_work test limit scope c d given args same is in_scope =
    let all : limit - 0 ≡ limit = omega arith in
    (λ i. bound_left test limit [] (in_scope i) (same i).params (same i).captured (is i) (same i).lets (same i).result)
    ∙ then-gives (entered test (nested test (limit - 0)) d.setting d.params d.lets d.result d.captured args)
    ∙ ap (λ n. entered test (nested test n) d.setting d.params d.lets d.result d.captured args) all

-- ---- the answer

module _ (work : ℕ → End Val) (before after : Meter) where
  goes_then : (v : Val) (end : End Answer) → answer_of v ≡ end → Goes work (λ _. Gives v 0) before after → Goes (λ limit. and_then (work limit) answer_of) (λ _. end) before after
  goes_then v end is g = record {
    ticks = g.ticks;
    spent = g.spent;
    at = λ limit below.
        ap (λ e. and_then e answer_of) (g.at limit below) ∙ then-later g.ticks (Gives v 0) answer_of ∙ ap (later g.ticks) (later-zero (answer_of v) ∙ is);
  }

  pub follows_then : (v : Val) (r : Result Answer Stop) → Tells (λ a. a) (answer_of v) r → Goes work (λ _. Gives v 0) before after
      → Follows (λ a. a) (λ limit. and_then (work limit) answer_of) before after r
  follows_then v (Ok a) told g = goes_then v (Gives a 0) told g
  follows_then v (Err (stop.Fault f)) told g = goes_then v (Faults f 0) told g
  follows_then v (Err stop.Stuck) told g = goes_then v Stuck told g
  follows_then v (Err (stop.Budget sum)) told g = absurd told
  follows_then v (Err stop.Memory) told g = tt

  pub follows_stop : (why : Stop) → Follows val work before after (Err why) → Follows (λ a. a) (λ limit. and_then (work limit) answer_of) before after (Err why)
  follows_stop (stop.Fault f) g = record { ticks = g.ticks; spent = g.spent; at = λ limit below. ap (λ e. and_then e answer_of) (g.at limit below) }
  follows_stop stop.Stuck g = record { ticks = g.ticks; spent = g.spent; at = λ limit below. ap (λ e. and_then e answer_of) (g.at limit below) }
  follows_stop (stop.Budget sum) p = record {
    ticks = p.ticks;
    sum_is = p.sum_is;
    past = p.past;
    at = λ limit below.
        let rest = p.at limit below in
        (and_then rest.0 answer_of, ap (λ e. and_then e answer_of) rest.1 ∙ then-later p.ticks rest.0 answer_of);
  }
  follows_stop stop.Memory g = tt

-- arguments that the literal takes lead into it
pub called_cut : (test : Tests) (c : OfClosure) (args : Slots) → takes c.params args ≡ true → row_called test c (Some args) ≡ row_cut test c args
called_cut test c args is = λ i limit. cut limit ((if is i then call_work test c args limit else Stuck) >>= answer_of)

pub called_limited : (test : Tests) (c : OfClosure) (args : Slots) → takes c.params args ≡ true → IsLimited (row_cut test c args)
called_limited test c args is =
    subst IsLimited (called_cut test c args is)
    (limited_cut (λ n. applied_to (nested test n) nowhere (pos 0) args (closure_val c) >>= answer_of)
    (steady_then (λ n. applied_to (nested test n) nowhere (pos 0) args (closure_val c)) (λ w n. answer_of w) (call_steady test nowhere (pos 0) args (closure_val c)) (λ w. steady_same (answer_of w))))

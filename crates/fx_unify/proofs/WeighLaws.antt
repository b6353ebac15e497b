-- What fields weigh, and what functions count.
use Rattle.std.proofs.Common.{◌≡◌, refl, sym, ap, subst, ◌∙◌, ℕ, ◌+◌, ◌-◌, ◌≤◌, Bool, true, false, List, map, Option, None, Some, option_map, Result, Ok, Err, arith}
use Rattle.std.specs.Borrow.{Bor}
use Rattle.std.specs.Prelude.{if◌then◌else◌}
use mathlib.Core.Bool.{true≢false}
use Rattle.fx_types.specs.declared.term.FieldTy.{FieldTy}
use Rattle.fx_types.specs.declared.term.FunTy.{FunTy}
use Rattle.fx_types.specs.declared.term.Ty.{Ty}
use Rattle.fx_types.specs.declared.term.FieldTy.TheViews.{out-FunTy}
use Rattle.fx_types.specs.Term.{Label, Term, bool, int, text, time, span, pattern, done, type_variable, array, fun, rec, stream}
use Rattle.fx_types.specs.Ground.{Ground, GroundField, GroundRow, g_bool, g_int, g_text, g_time, g_fun, g_absent, g_is, is_column, listed}
use Rattle.fx_types.specs.Instance.{Solution, ground, ground_field, ground_labels, ground_pipe}
use Rattle.fx_types.specs.Shape.{term, field_term, label_term, fun_term, labels_of, pipe_of}
use Rattle.fx_types.specs.Size.{Weighs, Takes, Pipes}
use Rattle.fx_unify.specs.declared.fault.UnifyFault.{UnifyFault}
use Rattle.fx_unify.specs.declared.fault.UnifyFault.TheVariants as fault
use Rattle.fx_unify.specs.declared.sorts.Sorts as sorts
use Rattle.fx_unify.specs.declared.view.View as code
use Rattle.fx_unify.specs.declared.view.View.TheVariants as views
use Rattle.fx_unify.specs.declared.store.Store as stores
use Rattle.fx_unify.specs.Least.{Leads}
use Rattle.fx_unify.specs.Measure.{least, Admits, Measuring}
use Rattle.fx_unify.specs.Part.{Part, p_is, part_of, value, Solved}
use Rattle.fx_unify.specs.Sorts.{plain_values, plainest_of, set_at, allows, is_light}
use Rattle.fx_unify.specs.Store.{entry, bound_to}
use Rattle.fx_unify.specs.Sums.{Summing, required_names}
use Rattle.fx_unify.specs.View.{part_seen, field_bound_to}
use Rattle.fx_unify.proofs.HeadLaws.{pipe_part, result_part, labels_part}
use Rattle.fx_unify.proofs.LeastLaws.{free_type, free_field, free_slot}
use Rattle.fx_unify.proofs.MeasureLaws.{no_room, restated_measure, counts_none, measured_field, field_over, field_no_room, measured_function, labels_over, pipe_over, result_over}
use Rattle.fx_unify.proofs.RowLaws.{value_of}
use Rattle.fx_unify.proofs.SolvingLaws.{type_is}
use Rattle.fx_unify.proofs.CountLaws.{answered, plainest_formed, off_required}
use Rattle.fx_types.proofs.Choices.{never, by_cases}
use Rattle.fx_unify.specs.Light.{IsLightField}

-- a set with a kind of columns in it

by_int : (i : Bool) (x : Ground) → i ≡ true → is_column (if i then g_int else x) ≡ true
by_int i x e = ap (λ b. is_column (if b then g_int else x)) e

by_bool : (i b : Bool) (x : Ground) → b ≡ true → is_column (if i then g_int else if b then g_bool else x) ≡ true
by_bool true b x e = refl
by_bool false b x e = ap (λ c. is_column (if c then g_bool else x)) e

by_text : (i b t : Bool) (x : Ground) → t ≡ true → is_column (if i then g_int else if b then g_bool else if t then g_text else x) ≡ true
by_text true b t x e = refl
by_text false true t x e = refl
by_text false false t x e = ap (λ c. is_column (if c then g_text else x)) e

by_time : (i b t m : Bool) (x : Ground) → m ≡ true → is_column (if i then g_int else if b then g_bool else if t then g_text else if m then g_time else x) ≡ true
by_time true b t m x e = refl
by_time false true t m x e = refl
by_time false false true m x e = refl
by_time false false false m x e = ap (λ c. is_column (if c then g_time else x)) e

pub allows_column : (k : sorts.Sorts) (g : Ground) → allows k g ≡ true → is_column g ≡ true → is_column (plainest_of k) ≡ true
allows_column k g_int e c = by_int k.integer _ e
allows_column k g_bool e c = by_bool k.integer k.boolean _ e
allows_column k g_text e c = by_text k.integer k.boolean k.text _ e
allows_column k g_time e c = by_time k.integer k.boolean k.text k.time _ e
allows_column k _ e c = absurd (true≢false (sym c))

pub light_term : (st : stores.Store) (ks : List sorts.Sorts) (x : Term) (room : ℕ) → is_light ks x ≡ true → bound_to (entry st) (p_is x) ≡ None
    → Measuring (Ok 0) (least st ks) (Admits st ks) Weighs (λ s. g_is (ground s x)) room
light_term st ks bool room e free = counts_none (least st ks) (Admits st ks) Weighs (λ s. g_is g_bool) (g_is g_bool) 0 room (λ n le. refl) tt (λ f. absurd (true≢false f))
light_term st ks int room e free = counts_none (least st ks) (Admits st ks) Weighs (λ s. g_is g_int) (g_is g_int) 0 room (λ n le. refl) tt (λ f. absurd (true≢false f))
light_term st ks text room e free = counts_none (least st ks) (Admits st ks) Weighs (λ s. g_is g_text) (g_is g_text) 0 room (λ n le. refl) tt (λ f. absurd (true≢false f))
light_term st ks time room e free = counts_none (least st ks) (Admits st ks) Weighs (λ s. g_is g_time) (g_is g_time) 0 room (λ n le. refl) tt (λ f. absurd (true≢false f))
light_term st ks (type_variable m) room e free =
    counts_none (least st ks) (Admits st ks) Weighs (λ s. g_is (s.type_of m)) (g_is (plainest_of (set_at ks m))) 0 room (λ n le. ap g_is (free_type (entry st) (plain_values ks) m n free))
    (plainest_formed (set_at ks m)) (λ f. never (is_column (plainest_of (set_at ks m))) e f)
light_term st ks _ room e free = absurd (true≢false (sym e))

heavy_term : (st : stores.Store) (ks : List sorts.Sorts) (x : Term) → is_light ks x ≡ false → (s : Solution) → Admits st ks s → is_column (ground s x) ≡ false
heavy_term st ks bool e s among = absurd (true≢false e)
heavy_term st ks int e s among = absurd (true≢false e)
heavy_term st ks text e s among = absurd (true≢false e)
heavy_term st ks time e s among = absurd (true≢false e)
heavy_term st ks (type_variable m) e s among =
    by_cases (is_column (s.type_of m)) (λ c. never (is_column (plainest_of (set_at ks m))) (allows_column (set_at ks m) (s.type_of m) (among.1 m) c) e) (λ c. c)
heavy_term st ks span e s among = refl
heavy_term st ks pattern e s among = refl
heavy_term st ks done e s among = refl
heavy_term st ks (array t) e s among = refl
heavy_term st ks (fun ls p t) e s among = refl
heavy_term st ks (rec fs r) e s among = refl
heavy_term st ks (stream fs r) e s among = refl

module _ (st : stores.Store) (ks : List sorts.Sorts) (t head : Ty) (way : Leads (entry st) (p_is (term t)) (p_is (term head)))
    (same : (s : Solution) → Solved s (entry st) → value s (p_is (term head)) ≡ value s (p_is (term t))) (b : Bool) (light : b ≡ is_light ks (term head)) (room : ℕ) where
  abbrev Whole : Result ℕ UnifyFault → Type 0
  Whole r = Measuring r (least st ks) (Admits st ks) Weighs (λ s. g_is (ground s (term t))) room

  heavy : b ≡ false → (s : Solution) → Admits st ks s → is_column (ground s (term t)) ≡ false
  heavy e s among = ap is_column ((type_is (ground s (term t)) (ground s (term head))).0 (sym (same s among.0))) ∙ heavy_term st ks (term head) (sym light ∙ e) s among

  pub weighs_nothing : b ≡ true → bound_to (entry st) (p_is (term head)) ≡ None → Whole (Ok 0)
  weighs_nothing e free = answered st ks t head way same Weighs (λ s. ground s (term head)) (λ s. refl) (Ok 0) room (light_term st ks (term head) room (sym light ∙ e) free)

  pub weighs_no_room : b ≡ false → room ≡ 0 → Whole (Err fault.Clash)
  weighs_no_room e none = field_no_room (least st ks) (Admits st ks) (λ s. ground s (term t)) room none (heavy e)

  pub weighs_more : (n : ℕ) → b ≡ false → 1 ≤ room → Measuring (Ok n) (least st ks) (Admits st ks) Pipes (λ s. g_is (ground s (term t))) (room - 1) → Whole (Ok (n + 1))
  weighs_more n e one h = (measured_field (least st ks) (Admits st ks) (λ s. ground s (term t)) n (heavy e) h.0, (let le : n ≤ room - 1 = h.1 in omega arith))

  pub weighs_over : (f : UnifyFault) → b ≡ false → 1 ≤ room → Measuring (Err f) (least st ks) (Admits st ks) Pipes (λ s. g_is (ground s (term t))) (room - 1) → Whole (Err f)
  weighs_over fault.Clash e one h = field_over (least st ks) (Admits st ks) (λ s. ground s (term t)) room one (heavy e) h
  weighs_over fault.Memory e one h = tt

-- lent fields

pub nothing_found : (st : stores.Store) (ks : List sorts.Sorts) (C : GroundField → ℕ → Type 0) (v : code.View) (room : ℕ) → C g_absent 0 → ((t : Bor Ty) → v ≡ views.Is t → ⊥)
    → field_bound_to (entry st) (part_seen v) ≡ None → Measuring (Ok 0) (least st ks) (Admits st ks) C (λ s. value s (part_seen v)) room
nothing_found st ks C views.Absent room none apart free = counts_none (least st ks) (Admits st ks) C (λ s. g_absent) g_absent 0 room (λ n le. refl) tt none
nothing_found st ks C (views.Is t) room none apart free = absurd (apart t refl)
nothing_found st ks C (views.Var m) room none apart free =
    counts_none (least st ks) (Admits st ks) C (λ s. s.field_of m) g_absent 0 room (λ n le. free_field (entry st) (plain_values ks) m n free) tt none
nothing_found st ks C (views.Slot r l) room none apart free =
    counts_none (least st ks) (Admits st ks) C (λ s. s.row_of r l.now) g_absent 0 room (λ n le. free_slot (entry st) (plain_values ks) r l.now n free) tt none

-- a field that is no type, and isn't bound, is plain in the least solution
pub nothing_light : (st : stores.Store) (ks : List sorts.Sorts) (v : code.View) → ((t : Bor Ty) → v ≡ views.Is t → ⊥) → bound_to (entry st) (part_seen v) ≡ None → IsLightField st ks (part_seen v)
nothing_light st ks views.Absent apart free = (g_absent, (0, λ n le. refl), refl)
nothing_light st ks (views.Is t) apart free = absurd (apart t refl)
nothing_light st ks (views.Var m) apart free = (g_absent, (0, λ n le. free_field (entry st) (plain_values ks) m n free), refl)
nothing_light st ks (views.Slot r l) apart free = (g_absent, (0, λ n le. free_slot (entry st) (plain_values ks) r l.now n free), refl)

pub found_type : (st : stores.Store) (ks : List sorts.Sorts) (C : GroundField → ℕ → Type 0) (v : code.View) (t : Bor Ty) (r : Result ℕ UnifyFault) (room : ℕ) → v ≡ views.Is t
    → Measuring r (least st ks) (Admits st ks) C (λ s. g_is (ground s (term t.now))) room → Measuring r (least st ks) (Admits st ks) C (λ s. value s (part_seen v)) room
found_type st ks C v t r room e h = subst (λ w. Measuring r (least st ks) (Admits st ks) C (λ s. value s (part_seen w)) room) (sym e) h

pub viewed : (st : stores.Store) (ks : List sorts.Sorts) (C : GroundField → ℕ → Type 0) (p q : Part) (r : Result ℕ UnifyFault) (room : ℕ) → p ≡ q
    → Measuring r (least st ks) (Admits st ks) C (λ s. value s p) room → Measuring r (least st ks) (Admits st ks) C (λ s. value s q) room
viewed st ks C p q r room e h = subst (λ x. Measuring r (least st ks) (Admits st ks) C (λ s. value s x) room) e h

pub field_weighs : (st : stores.Store) (ks : List sorts.Sorts) (f : FieldTy) (p : Part) (r : Result ℕ UnifyFault) (room : ℕ) → p ≡ part_of (field_term f)
    → Measuring r (least st ks) (Admits st ks) Weighs (λ s. value s p) room → Measuring r (least st ks) (Admits st ks) Weighs (λ s. ground_field s (field_term f)) room
field_weighs st ks f p r room e h =
    restated_measure (least st ks) (Admits st ks) Weighs (λ s. ground_field s (field_term f)) (λ s. value s p) (λ s. sym (value_of s (field_term f)) ∙ ap (value s) (sym e)) r room h

-- functions

module _ (st : stores.Store) (ks : List sorts.Sorts) (f : FunTy) (room : ℕ) where
  abbrev labels : Solution → GroundRow
  labels s = ground_labels s (labels_of (map label_term (out-FunTy f).required))

  abbrev pipe : Solution → GroundField
  pipe s = ground_pipe s (pipe_of (option_map term (out-FunTy f).pipe))

  abbrev result : Solution → Ground
  result s = ground s (term (out-FunTy f).result)

  abbrev seen : List Label
  seen = required_names (out-FunTy f).required

  abbrev Counted : Result ℕ UnifyFault → Type 0
  Counted r = Measuring r (least st ks) (Admits st ks) Pipes (λ s. g_is (ground s (fun (fun_term f).required (fun_term f).pipe (fun_term f).result))) room

  off : (s : Solution) (l : Label) → listed l seen ≡ false → labels s l ≡ g_absent
  off s l h = off_required s (out-FunTy f).required l h

  by_parts : (r : Result ℕ UnifyFault) → Measuring r (least st ks) (Admits st ks) Pipes (λ s. g_is (g_fun (labels s) (pipe s) (result s))) room → Counted r
  by_parts r h =
      restated_measure (least st ks) (Admits st ks) Pipes (λ s. g_is (ground s (fun (fun_term f).required (fun_term f).pipe (fun_term f).result))) (λ s. g_is (g_fun (labels s) (pipe s) (result s)))
      (λ s. (let t : ground s (fun_term f).result ≡ result s = (type_is (ground s (fun_term f).result) (result s)).0 (sym (result_part s f)) in
      λ i. g_is (g_fun (λ l. sym (labels_part s f l) i) (sym (pipe_part s f) i) (t i)))) r room h

  pub function_no_room : room ≡ 0 → Counted (Err fault.Clash)
  function_no_room e = no_room (least st ks) (Admits st ks) (λ s. ground s (fun (fun_term f).required (fun_term f).pipe (fun_term f).result)) room e

  pub function_labels : (g : UnifyFault) → 1 ≤ room → Summing (Err g) (least st ks) (Admits st ks) Takes labels seen (room - 1) → Counted (Err g)
  function_labels fault.Clash one h = by_parts (Err fault.Clash) (labels_over (least st ks) (Admits st ks) labels pipe result seen off room one h)
  function_labels fault.Memory one h = tt

  pub function_pipe : (g : UnifyFault) (a : ℕ) → 1 ≤ room → Summing (Ok a) (least st ks) (Admits st ks) Takes labels seen (room - 1)
      → Measuring (Err g) (least st ks) (Admits st ks) Pipes pipe (room - 1 - a) → Counted (Err g)
  function_pipe fault.Clash a one h i = by_parts (Err fault.Clash) (pipe_over (least st ks) (Admits st ks) labels pipe result seen off a room one h.0 h.1 i)
  function_pipe fault.Memory a one h i = tt

  pub function_result : (g : UnifyFault) (a b : ℕ) → 1 ≤ room → Summing (Ok a) (least st ks) (Admits st ks) Takes labels seen (room - 1)
      → Measuring (Ok b) (least st ks) (Admits st ks) Pipes pipe (room - 1 - a)
      → Measuring (Err g) (least st ks) (Admits st ks) Pipes (λ s. g_is (result s)) (room - 1 - a - b) → Counted (Err g)
  function_result fault.Clash a b one h i j =
      by_parts (Err fault.Clash) (result_over (least st ks) (Admits st ks) labels pipe result seen off a b room one h.0 i.0 h.1 i.1 j)
  function_result fault.Memory a b one h i j = tt

  pub function_ok : (a b c : ℕ) → 1 ≤ room → Summing (Ok a) (least st ks) (Admits st ks) Takes labels seen (room - 1)
      → Measuring (Ok b) (least st ks) (Admits st ks) Pipes pipe (room - 1 - a)
      → Measuring (Ok c) (least st ks) (Admits st ks) Pipes (λ s. g_is (result s)) (room - 1 - a - b) → Counted (Ok (a + b + c + 1))
  function_ok a b c one h i j =
      by_parts (Ok (a + b + c + 1)) (
        measured_function (least st ks) (Admits st ks) labels pipe result seen off a b c h.0 i.0 j.0,
        (let first : a ≤ room - 1 = h.1 in let second : b ≤ room - 1 - a = i.1 in let third : c ≤ room - 1 - a - b = j.1 in omega arith),
      )

pub no_pipe_counts : (st : stores.Store) (ks : List sorts.Sorts) (p : Option Ty) (room : ℕ) → p ≡ None
    → Measuring (Ok 0) (least st ks) (Admits st ks) Pipes (λ s. ground_pipe s (pipe_of (option_map term p))) room
no_pipe_counts st ks p room e =
    counts_none (least st ks) (Admits st ks) Pipes (λ s. ground_pipe s (pipe_of (option_map term p))) g_absent 0 room (λ n le. ap (λ o. ground_pipe (least st ks n) (pipe_of (option_map term o))) e) tt tt

pub pipe_counts : (st : stores.Store) (ks : List sorts.Sorts) (p : Option Ty) (t : Ty) (r : Result ℕ UnifyFault) (room : ℕ) → p ≡ Some t
    → Measuring r (least st ks) (Admits st ks) Pipes (λ s. g_is (ground s (term t))) room
    → Measuring r (least st ks) (Admits st ks) Pipes (λ s. ground_pipe s (pipe_of (option_map term p))) room
pipe_counts st ks p t r room e h =
    restated_measure (least st ks) (Admits st ks) Pipes (λ s. ground_pipe s (pipe_of (option_map term p))) (λ s. g_is (ground s (term t))) (λ s. ap (λ o. ground_pipe s (pipe_of (option_map term o))) e) r room h

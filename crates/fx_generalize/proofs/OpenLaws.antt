-- Where each way ends and there is a solution, there is one for any values of the free variables:
-- the steps of the least solution, begun with these values, come to an end.
use Rattle.std.proofs.Common.{◌≡◌, refl, sym, ap, subst, ◌∙◌, ℕ, suc, ◌+◌, ◌-◌, ◌≤◌, Bool, true, false, List, [], ◌∷◌, ◌++◌, None, Some, option_map, arith}
use Rattle.std.specs.Prelude.{if◌then◌else◌}
use mathlib.Core.Bool.{true≢false}
use Rattle.fx_base.specs.Text.{same_text}
use Rattle.fx_types.specs.Ground.{Ground, GroundField, GroundRow, g_bool, g_int, g_text, g_time, g_span, g_pattern, g_done, g_array, g_fun, g_rec, g_stream, g_absent, g_is, listed}
use Rattle.fx_types.specs.Instance.{Solution, ground, ground_labels, ground_pipe, ground_field, ground_fields, ground_tail}
use Rattle.fx_types.specs.Term.{Label, Term, bool, int, text, time, span, pattern, done, type_variable, array, fun, rec, stream, Labels, no_labels, more_labels, Pipe, no_pipe, by_pipe, Field, absent, is, field_variable, Fields, no_fields, more_fields, Tail, default, row_variable}
use Rattle.fx_types.proofs.Choices.{by_cases, passed, neither}
use Rattle.fx_types.proofs.RowSums.{same_is}
use Rattle.fx_unify.specs.declared.store.Root as roots
use Rattle.fx_unify.specs.declared.store.Root.TheVariants as root
use Rattle.fx_unify.specs.declared.store.Store as stores
use Rattle.fx_unify.specs.Least.{steps, RowLeads}
use Rattle.fx_unify.specs.Measure.{Settles}
use Rattle.fx_unify.specs.Part.{Part, p_absent, p_is, p_field, p_slot, part_of, value, Variable, as_part, type_node, field_node, slot_node, Solved}
use Rattle.fx_unify.specs.Store.{entry, root_at, bound_to, rest_of, slots_of, apart_of, slot_names, IsFree, KeepsRoot}
use Rattle.fx_unify.proofs.LabelLaws.{fresh_label, listed_append}
use Rattle.fx_unify.proofs.LeastLaws.{bound_step, free_type, free_field, free_slot, settled_before}
use Rattle.fx_unify.proofs.RowLaws.{value_of}
use Rattle.fx_unify.proofs.SolvingLaws.{type_is}
use Rattle.fx_unify.proofs.StoreLaws.{off_kept}
use Rattle.fx_generalize.specs.Open.{HasFree, IsOpen, EndsAt, Ends, RowEnds, HasEnds}

-- the field that a row has at a label, as a part

row_at : Fields → Tail → Label → Part
row_at no_fields (default f) l = part_of f
row_at no_fields (row_variable n) l = p_slot n l
row_at (more_fields x f fs) r l = if same_text l x then part_of f else row_at fs r l

labels_at : Labels → Label → Part
labels_at no_labels l = p_absent
labels_at (more_labels x t ls) l = if same_text l x then p_is t else labels_at ls l

abbrev pipe_at : Pipe → Part
pipe_at no_pipe = p_absent
pipe_at (by_pipe t) = p_is t

value_if : (s : Solution) (b : Bool) (p q : Part) → value s (if b then p else q) ≡ (if b then value s p else value s q)
value_if s true p q = refl
value_if s false p q = refl

row_at_is : (s : Solution) (fs : Fields) (r : Tail) (l : Label) → value s (row_at fs r l) ≡ ground_fields s fs (ground_tail s r) l
unfolding row_at
row_at_is s no_fields (default f) l = value_of s f
row_at_is s no_fields (row_variable n) l = refl
row_at_is s (more_fields x f fs) r l =
    value_if s (same_text l x) (part_of f) (row_at fs r l) ∙ (λ i. if same_text l x then value_of s f i else row_at_is s fs r l i)

labels_at_is : (s : Solution) (ls : Labels) (l : Label) → value s (labels_at ls l) ≡ ground_labels s ls l
unfolding labels_at
labels_at_is s no_labels l = refl
labels_at_is s (more_labels x t ls) l = value_if s (same_text l x) (p_is t) (labels_at ls l) ∙ (λ i. if same_text l x then g_is (ground s t) else labels_at_is s ls l i)

pipe_at_is : (s : Solution) (p : Pipe) → value s (pipe_at p) ≡ ground_pipe s p
pipe_at_is s no_pipe = refl
pipe_at_is s (by_pipe t) = refl

field_names : Fields → List Label
field_names no_fields = []
field_names (more_fields x f fs) = x ∷ field_names fs

label_names : Labels → List Label
label_names no_labels = []
label_names (more_labels x t ls) = x ∷ label_names ls

off_fields : (s : Solution) (fs : Fields) (q : GroundRow) (l : Label) → listed l (field_names fs) ≡ false → ground_fields s fs q l ≡ q l
unfolding field_names
off_fields s no_fields q l h = refl
off_fields s (more_fields x f fs) q l h =
    let apart : (same_text l x ≡ false) × (listed l (field_names fs) ≡ false) = neither (same_text l x) (listed l (field_names fs)) h in
    passed (same_text l x) (ground_field s f) (ground_fields s fs q l) apart.0 ∙ off_fields s fs q l apart.1

off_labels : (s : Solution) (ls : Labels) (l : Label) → listed l (label_names ls) ≡ false → ground_labels s ls l ≡ g_absent
unfolding label_names
off_labels s no_labels l h = refl
off_labels s (more_labels x t ls) l h =
    let apart : (same_text l x ≡ false) × (listed l (label_names ls) ≡ false) = neither (same_text l x) (listed l (label_names ls)) h in
    passed (same_text l x) (g_is (ground s t)) (ground_labels s ls l) apart.0 ∙ off_labels s ls l apart.1

absent_no_type : {A : Type 0} (t : Ground) → g_is t ≡ g_absent → A
absent_no_type t e = absurd (subst (λ g. elim g as (λ _. Type 0) [ g_absent ↦ ⊥ | g_is u ↦ Unit {0} ]) e tt)

-- a row that comes to an end at each label, and at once at all but some, comes to an end

module _ (at : ℕ → Solution) (f : Solution → GroundRow) (each : (l : Label) → (g : GroundField) × Settles at (λ s. f s l) g) where
  at_listed : (ls : List Label) → (k : ℕ) × ((n : ℕ) → k ≤ n → (l : Label) → listed l ls ≡ true → f (at n) l ≡ (each l).0)
  at_listed [] = (0, λ n le l h. absurd (true≢false (sym h)))
  at_listed (x ∷ xs) = (
    (each x).1.0 + (at_listed xs).0,
    λ n le l h. by_cases (same_text l x) (λ e. subst (λ y. f (at n) y ≡ (each y).0) (sym (same_is l x e)) ((each x).1.1 n (omega arith)))
        (λ e. (at_listed xs).1 n (omega arith) l (sym (passed (same_text l x) true (listed l xs) e) ∙ h)),
  )

  at_all : (ls : List Label) (k : ℕ) (g : GroundRow) → ((n : ℕ) → k ≤ n → (l : Label) → listed l ls ≡ false → f (at n) l ≡ g l)
      → (r : GroundRow) × (j : ℕ) × ((n : ℕ) → j ≤ n → (l : Label) → f (at n) l ≡ r l)
  at_all ls k g off = (λ l. (each l).0, (at_listed ls).0 + k, go)
    where
      go : (n : ℕ) → (at_listed ls).0 + k ≤ n → (l : Label) → f (at n) l ≡ (each l).0
      go n le l =
          by_cases (listed l ls) (λ h. (at_listed ls).1 n (omega arith) l h)
          (λ h. off n (omega arith) l h ∙ sym (off (n + (each l).1.0) (omega arith) l h) ∙ (each l).1.1 (n + (each l).1.0) (omega arith))

abbrev SteadyRow : (ℕ → Solution) → (Solution → GroundRow) → Type 0
SteadyRow at f = (r : GroundRow) × (k : ℕ) × ((n : ℕ) → k ≤ n → (l : Label) → f (at n) l ≡ r l)

abbrev Steady : (ℕ → Solution) → (Solution → GroundField) → Type 0
Steady at f = (g : GroundField) × Settles at f g

abbrev Off : (ℕ → Solution) → (Solution → GroundRow) → Type 0
Off at f = (ls : List Label) × (k : ℕ) × (g : GroundRow) × ((n : ℕ) → k ≤ n → (l : Label) → listed l ls ≡ false → f (at n) l ≡ g l)

-- a row variable, off some labels

pub free_row : (st : stores.Store) (q : ℕ) (ls : List Label) → rest_of st q ≡ None → ((l : Label) → listed l ls ≡ false → (listed l (slot_names (slots_of st q)) ≡ false) × (listed l (apart_of st q) ≡ false))
    → (l : Label) → listed l ls ≡ false → entry st (slot_node q l) ≡ None
free_row st q ls free kept l off = off_kept st q l (kept l off).0 (kept l off).1 ∙ ap (option_map (root_at l)) free

variable_off : (st : stores.Store) (plain : Solution) (v : ℕ) (ls : List Label) (o : roots.Root) → RowLeads st ls v o → IsFree st o → KeepsRoot st o ls
    → (l : Label) → listed l ls ≡ false → (c : GroundField) → Settles (steps (entry st) plain) (λ s. s.row_of v l) c
    → (k : ℕ) × (g : GroundRow) × ((n : ℕ) → k ≤ n → (m : Label) → listed m ls ≡ false → (steps (entry st) plain n).row_of v m ≡ g m)
variable_off st plain v ls (root.Var q) leads free kept l off c h = (
  leads.0,
  λ m. plain.row_of q m,
  λ n le m h. (let same : n ≡ n - leads.0 + leads.0 = omega arith in
      ap (λ i. (steps (entry st) plain i).row_of v m) same ∙ leads.1 plain (n - leads.0) m h ∙ free_slot (entry st) plain q m (n - leads.0) (free_row st q ls free kept m h)),
)
variable_off st plain v ls (root.Default d) leads free kept l off c h = (
  h.0 + leads.0,
  λ m. c,
  λ n le m apart. (let same : n ≡ n - leads.0 + leads.0 = omega arith in
      ap (λ i. (steps (entry st) plain i).row_of v m) same ∙ leads.1 plain (n - leads.0) m apart ∙ sym (leads.1 plain (n - leads.0) l off)
      ∙ sym (ap (λ i. (steps (entry st) plain i).row_of v l) same) ∙ h.1 n (omega arith)),
)

module _ (st : stores.Store) (one : Solution) (solved : Solved one (entry st)) (ends : HasEnds st) (plain : Solution) where
  abbrev IsSteady : Part → Type 0
  IsSteady p = Steady (steps (entry st) plain) (λ s. value s p)

  -- what is known of the parts of a type
  abbrev Parts : Ground → Type 0
  Parts (g_array t) = (q : Part) → value one q ≡ g_is t → IsSteady q
  Parts (g_fun r p t) =
      ((l : Label) (q : Part) → value one q ≡ r l → IsSteady q) × ((q : Part) → value one q ≡ p → IsSteady q) × ((q : Part) → value one q ≡ g_is t → IsSteady q)
  Parts (g_rec r) = (l : Label) (q : Part) → value one q ≡ r l → IsSteady q
  Parts (g_stream r) = (l : Label) (q : Part) → value one q ≡ r l → IsSteady q
  Parts _ = Unit {0}

  module _ (fs : Fields) (r : Tail) (parts : (l : Label) (q : Part) → value one q ≡ ground_fields one fs (ground_tail one r) l → IsSteady q) where
    each_field : (l : Label) → Steady (steps (entry st) plain) (λ s. ground_fields s fs (ground_tail s r) l)
    each_field l =
        let h : IsSteady (row_at fs r l) = parts l (row_at fs r l) (row_at_is one fs r l) in
        (h.0, (h.1.0, λ n le. sym (row_at_is (steps (entry st) plain n) fs r l) ∙ h.1.1 n le))

  tail_off : (fs : Fields) (r : Tail) → ((l : Label) → Steady (steps (entry st) plain) (λ s. ground_fields s fs (ground_tail s r) l)) → Off (steps (entry st) plain) (λ s. ground_fields s fs (ground_tail s r))
  tail_off fs (default f) each =
      let x : (l : Label) × (listed l (field_names fs) ≡ false) × (listed l [] ≡ false) = fresh_label (field_names fs) [] in
      let h : Steady (steps (entry st) plain) (λ s. ground_fields s fs (ground_tail s (default f)) x.0) = each x.0 in (
        field_names fs,
        h.1.0,
        λ l. h.0,
        λ n le l off. off_fields (steps (entry st) plain n) fs (ground_tail (steps (entry st) plain n) (default f)) l off
            ∙ sym (off_fields (steps (entry st) plain n) fs (ground_tail (steps (entry st) plain n) (default f)) x.0 x.1) ∙ h.1.1 n le,
      )
  tail_off fs (row_variable v) each =
      let w : RowEnds st v = ends.1 v in
      let x : (l : Label) × (listed l (field_names fs) ≡ false) × (listed l w.0 ≡ false) = fresh_label (field_names fs) w.0 in
      let h : Steady (steps (entry st) plain) (λ s. ground_fields s fs (ground_tail s (row_variable v)) x.0) = each x.0 in
      let at_fresh : Settles (steps (entry st) plain) (λ s. s.row_of v x.0) h.0 =
      (h.1.0, λ n le. sym (off_fields (steps (entry st) plain n) fs (ground_tail (steps (entry st) plain n) (row_variable v)) x.0 x.1) ∙ h.1.1 n le) in
      let o : (k : ℕ) × (g : GroundRow) × ((n : ℕ) → k ≤ n → (m : Label) → listed m w.0 ≡ false → (steps (entry st) plain n).row_of v m ≡ g m) =
      variable_off st plain v w.0 w.1 w.2 w.3 w.4 x.0 x.2 h.0 at_fresh in (
        field_names fs ++ w.0,
        o.0,
        o.1,
        λ n le l off. (let apart : (listed l (field_names fs) ≡ false) × (listed l w.0 ≡ false) = neither (listed l (field_names fs)) (listed l w.0) (sym (listed_append l (field_names fs) w.0) ∙ off) in
            off_fields (steps (entry st) plain n) fs (ground_tail (steps (entry st) plain n) (row_variable v)) l apart.0 ∙ o.2 n le l apart.1),
      )

  steady_row : (fs : Fields) (r : Tail) → ((l : Label) (q : Part) → value one q ≡ ground_fields one fs (ground_tail one r) l → IsSteady q)
      → SteadyRow (steps (entry st) plain) (λ s. ground_fields s fs (ground_tail s r))
  steady_row fs r parts =
      let off : Off (steps (entry st) plain) (λ s. ground_fields s fs (ground_tail s r)) = tail_off fs r (each_field fs r parts) in
      at_all (steps (entry st) plain) (λ s. ground_fields s fs (ground_tail s r)) (each_field fs r parts) off.0 off.1 off.2 off.3

  steady_labels : (ls : Labels) → ((l : Label) (q : Part) → value one q ≡ ground_labels one ls l → IsSteady q) → SteadyRow (steps (entry st) plain) (λ s. ground_labels s ls)
  steady_labels ls parts =
      at_all (steps (entry st) plain) (λ s. ground_labels s ls) each (label_names ls) 0 (λ l. g_absent) (λ n le l off. off_labels (steps (entry st) plain n) ls l off)
    where
      each : (l : Label) → Steady (steps (entry st) plain) (λ s. ground_labels s ls l)
      each l =
          let h : IsSteady (labels_at ls l) = parts l (labels_at ls l) (labels_at_is one ls l) in
          (h.0, (h.1.0, λ n le. sym (labels_at_is (steps (entry st) plain n) ls l) ∙ h.1.1 n le))

  -- a type that comes to an end, as a type
  abbrev SteadyType : Term → Type 0
  SteadyType t = (g : Ground) × (k : ℕ) × ((n : ℕ) → k ≤ n → ground (steps (entry st) plain n) t ≡ g)

  as_type : (t : Term) → IsSteady (p_is t) → SteadyType t
  as_type t h =
      let le : h.1.0 ≤ h.1.0 = omega arith in
      let last : Ground = ground (steps (entry st) plain h.1.0) t in
      (last, h.1.0, λ n more. (type_is (ground (steps (entry st) plain n) t) last).0 (h.1.1 n more ∙ sym (h.1.1 h.1.0 le)))

  head_steady : (t : Term) → Parts (ground one t) → bound_to (entry st) (p_is t) ≡ None → IsSteady (p_is t)
  head_steady bool parts free = (g_is g_bool, (0, λ n le. refl))
  head_steady int parts free = (g_is g_int, (0, λ n le. refl))
  head_steady text parts free = (g_is g_text, (0, λ n le. refl))
  head_steady time parts free = (g_is g_time, (0, λ n le. refl))
  head_steady span parts free = (g_is g_span, (0, λ n le. refl))
  head_steady pattern parts free = (g_is g_pattern, (0, λ n le. refl))
  head_steady done parts free = (g_is g_done, (0, λ n le. refl))
  head_steady (type_variable m) parts free = (g_is (plain.type_of m), (0, λ n le. ap g_is (free_type (entry st) plain m n free)))
  head_steady (array t) parts free = let h : SteadyType t = as_type t (parts (p_is t) refl) in (g_is (g_array h.0), (h.1, λ n le. ap (λ u. g_is (g_array u)) (h.2 n le)))
  head_steady (fun ls p t) parts free =
      let r : SteadyRow (steps (entry st) plain) (λ s. ground_labels s ls) = steady_labels ls parts.0 in
      let i : IsSteady (pipe_at p) = parts.1 (pipe_at p) (pipe_at_is one p) in
      let h : SteadyType t = as_type t (parts.2 (p_is t) refl) in (
        g_is (g_fun r.0 i.0 h.0),
        (
          r.1 + i.1.0 + h.1,
          λ n le. (let rows : (l : Label) → ground_labels (steps (entry st) plain n) ls l ≡ r.0 l = r.2 n (omega arith) in
              let pipes : ground_pipe (steps (entry st) plain n) p ≡ i.0 = sym (pipe_at_is (steps (entry st) plain n) p) ∙ i.1.1 n (omega arith) in
              let results : ground (steps (entry st) plain n) t ≡ h.0 = h.2 n (omega arith) in
              λ j. g_is (g_fun (λ l. rows l j) (pipes j) (results j))),
        ),
      )
  head_steady (rec fs r) parts free =
      let h : SteadyRow (steps (entry st) plain) (λ s. ground_fields s fs (ground_tail s r)) = steady_row fs r parts in (g_is (g_rec h.0), (h.1, λ n le. ap (λ q. g_is (g_rec q)) (λ j l. h.2 n le l j)))
  head_steady (stream fs r) parts free =
      let h : SteadyRow (steps (entry st) plain) (λ s. ground_fields s fs (ground_tail s r)) = steady_row fs r parts in (g_is (g_stream h.0), (h.1, λ n le. ap (λ q. g_is (g_stream q)) (λ j l. h.2 n le l j)))

  -- parts at the end of their ways, and before it

  end_typed : (q : Part) (h : Ground) → Parts h → bound_to (entry st) q ≡ None → value one q ≡ g_is h → IsSteady q
  end_typed p_absent h parts free eq = (g_absent, (0, λ n le. refl))
  end_typed (p_is t) h parts free eq = head_steady t (subst Parts (sym ((type_is (ground one t) h).0 eq)) parts) free
  end_typed (p_field m) h parts free eq = (plain.field_of m, (0, λ n le. free_field (entry st) plain m n free))
  end_typed (p_slot r l) h parts free eq = (plain.row_of r l, (0, λ n le. free_slot (entry st) plain r l n free))

  end_absent : (q : Part) → bound_to (entry st) q ≡ None → value one q ≡ g_absent → IsSteady q
  end_absent p_absent free eq = (g_absent, (0, λ n le. refl))
  end_absent (p_is t) free eq = absent_no_type (ground one t) eq
  end_absent (p_field m) free eq = (plain.field_of m, (0, λ n le. free_field (entry st) plain m n free))
  end_absent (p_slot r l) free eq = (plain.row_of r l, (0, λ n le. free_slot (entry st) plain r l n free))

  before : (p q : Part) → EndsAt (entry st) p q → IsSteady q → IsSteady p
  before p q h end = (end.0, settled_before (entry st) plain (λ s. value s p) (λ s. value s q) h.0.0 (λ n. h.0.1 plain n) end.0 end.1)

  typed : (p : Part) (h : Ground) → Parts h → value one p ≡ g_is h → IsSteady p
  typed p h parts eq = let w : Ends (entry st) p = ends.0 p in before p w.0 w.1 (end_typed w.0 h parts w.1.1 (w.1.2 one solved ∙ eq))

  empty : (p : Part) → value one p ≡ g_absent → IsSteady p
  empty p eq = let w : Ends (entry st) p = ends.0 p in before p w.0 w.1 (end_absent w.0 w.1.1 (w.1.2 one solved ∙ eq))

  mutual
    steady_type : (h : Ground) (p : Part) → value one p ≡ g_is h → IsSteady p
    steady_type (g_array t) p eq = typed p (g_array t) (λ q e. steady_type t q e) eq
    steady_type (g_fun r f t) p eq = typed p (g_fun r f t) (λ l q e. steady_field (r l) q e, λ q e. steady_field f q e, λ q e. steady_type t q e) eq
    steady_type (g_rec r) p eq = typed p (g_rec r) (λ l q e. steady_field (r l) q e) eq
    steady_type (g_stream r) p eq = typed p (g_stream r) (λ l q e. steady_field (r l) q e) eq
    steady_type g_bool p eq = typed p g_bool tt eq
    steady_type g_int p eq = typed p g_int tt eq
    steady_type g_text p eq = typed p g_text tt eq
    steady_type g_time p eq = typed p g_time tt eq
    steady_type g_span p eq = typed p g_span tt eq
    steady_type g_pattern p eq = typed p g_pattern tt eq
    steady_type g_done p eq = typed p g_done tt eq

    steady_field : (h : GroundField) (p : Part) → value one p ≡ h → IsSteady p
    steady_field g_absent p eq = empty p eq
    steady_field (g_is t) p eq = steady_type t p eq

  steady : (p : Part) → IsSteady p
  steady p = steady_field (value one p) p refl

  -- the end of all steps

  steady_variable : (r : ℕ) → SteadyRow (steps (entry st) plain) (λ s. s.row_of r)
  steady_variable r =
      let h : SteadyRow (steps (entry st) plain) (λ s. ground_fields s no_fields (ground_tail s (row_variable r))) = steady_row no_fields (row_variable r) (λ l q eq. steady_field (one.row_of r l) q eq) in h

  last : Solution
  last = record { type_of = λ n. (as_type (type_variable n) (steady (p_is (type_variable n)))).0; field_of = λ n. (steady (p_field n)).0; row_of = λ r. (steady_variable r).0 }

  abbrev FarType : Term → Type 0
  FarType t = (k : ℕ) × ((n : ℕ) → k ≤ n → ground last t ≡ ground (steps (entry st) plain n) t)

  abbrev FarField : (Solution → GroundField) → Type 0
  FarField f = (k : ℕ) × ((n : ℕ) → k ≤ n → f last ≡ f (steps (entry st) plain n))

  abbrev FarRow : (Solution → GroundRow) → Type 0
  FarRow f = (k : ℕ) × ((n : ℕ) → k ≤ n → (l : Label) → f last l ≡ f (steps (entry st) plain n) l)

  mutual
    unfolding last

    far_type : (t : Term) → FarType t
    far_type bool = (0, λ n le. refl)
    far_type int = (0, λ n le. refl)
    far_type text = (0, λ n le. refl)
    far_type time = (0, λ n le. refl)
    far_type span = (0, λ n le. refl)
    far_type pattern = (0, λ n le. refl)
    far_type done = (0, λ n le. refl)
    far_type (type_variable m) = let h : SteadyType (type_variable m) = as_type (type_variable m) (steady (p_is (type_variable m))) in (h.1, λ n le. sym (h.2 n le))
    far_type (array t) = let h : FarType t = far_type t in (h.0, λ n le. ap g_array (h.1 n le))
    far_type (fun ls p t) =
        let r : FarRow (λ s. ground_labels s ls) = far_labels ls in
        let i : FarField (λ s. ground_pipe s p) = far_pipe p in
        let h : FarType t = far_type t in (
          r.0 + i.0 + h.0,
          λ n le. (let rows : (l : Label) → ground_labels last ls l ≡ ground_labels (steps (entry st) plain n) ls l = r.1 n (omega arith) in
              let pipes : ground_pipe last p ≡ ground_pipe (steps (entry st) plain n) p = i.1 n (omega arith) in
              let results : ground last t ≡ ground (steps (entry st) plain n) t = h.1 n (omega arith) in
              λ j. g_fun (λ l. rows l j) (pipes j) (results j)),
        )
    far_type (rec fs r) = let h : FarRow (λ s. ground_fields s fs (ground_tail s r)) = far_row fs (λ s. ground_tail s r) (far_tail r) in (h.0, λ n le. ap g_rec (λ j l. h.1 n le l j))
    far_type (stream fs r) = let h : FarRow (λ s. ground_fields s fs (ground_tail s r)) = far_row fs (λ s. ground_tail s r) (far_tail r) in (h.0, λ n le. ap g_stream (λ j l. h.1 n le l j))

    far_labels : (ls : Labels) → FarRow (λ s. ground_labels s ls)
    far_labels no_labels = (0, λ n le l. refl)
    far_labels (more_labels x t ls) =
        let h : FarType t = far_type t in
        let k : FarRow (λ s. ground_labels s ls) = far_labels ls in (
          h.0 + k.0,
          λ n le l. (let one_more : ground last t ≡ ground (steps (entry st) plain n) t = h.1 n (omega arith) in
              let others : ground_labels last ls l ≡ ground_labels (steps (entry st) plain n) ls l = k.1 n (omega arith) l in
              λ j. if same_text l x then g_is (one_more j) else others j),
        )

    far_pipe : (p : Pipe) → FarField (λ s. ground_pipe s p)
    far_pipe no_pipe = (0, λ n le. refl)
    far_pipe (by_pipe t) = let h : FarType t = far_type t in (h.0, λ n le. ap g_is (h.1 n le))

    far_field : (f : Field) → FarField (λ s. ground_field s f)
    far_field absent = (0, λ n le. refl)
    far_field (is t) = let h : FarType t = far_type t in (h.0, λ n le. ap g_is (h.1 n le))
    far_field (field_variable m) = ((steady (p_field m)).1.0, λ n le. sym ((steady (p_field m)).1.1 n le))

    far_row : (fs : Fields) (q : Solution → GroundRow) → FarRow q → FarRow (λ s. ground_fields s fs (q s))
    far_row no_fields q h = h
    far_row (more_fields x f fs) q h =
        let i : FarField (λ s. ground_field s f) = far_field f in
        let k : FarRow (λ s. ground_fields s fs (q s)) = far_row fs q h in (
          i.0 + k.0,
          λ n le l. (let first : ground_field last f ≡ ground_field (steps (entry st) plain n) f = i.1 n (omega arith) in
              let others : ground_fields last fs (q last) l ≡ ground_fields (steps (entry st) plain n) fs (q (steps (entry st) plain n)) l = k.1 n (omega arith) l in
              λ j. if same_text l x then first j else others j),
        )

    far_tail : (r : Tail) → FarRow (λ s. ground_tail s r)
    far_tail (default f) = let h : FarField (λ s. ground_field s f) = far_field f in (h.0, λ n le l. h.1 n le)
    far_tail (row_variable r) = ((steady_variable r).1, λ n le l. sym ((steady_variable r).2 n le l))

  far_part : (p : Part) → FarField (λ s. value s p)
  unfolding last
  far_part p_absent = (0, λ n le. refl)
  far_part (p_is t) = let h : FarType t = far_type t in (h.0, λ n le. ap g_is (h.1 n le))
  far_part (p_field m) = ((steady (p_field m)).1.0, λ n le. sym ((steady (p_field m)).1.1 n le))
  far_part (p_slot r l) = ((steady_variable r).1, λ n le. sym ((steady_variable r).2 n le l))

  bound_same : (x : Variable) (p : Part) → entry st x ≡ Some p → bound_to (entry st) (as_part x) ≡ Some p
  bound_same (type_node n) p h = h
  bound_same (field_node n) p h = h
  bound_same (slot_node r l) p h = h

  last_solves : Solved last (entry st)
  last_solves x p h =
      let a : FarField (λ s. value s (as_part x)) = far_part (as_part x) in
      let b : FarField (λ s. value s p) = far_part p in
      let n : ℕ = a.0 + b.0 in
      a.1 (suc n) (omega arith) ∙ bound_step st (as_part x) p (bound_same x p h) plain n ∙ sym (b.1 n (omega arith))

  last_free : HasFree (entry st) plain last
  last_free = (
    λ n free. (let h : FarType (type_variable n) = far_type (type_variable n) in h.1 h.0 (omega arith) ∙ free_type (entry st) plain n h.0 free),
    λ n free. (let h : FarField (λ s. value s (p_field n)) = far_part (p_field n) in h.1 h.0 (omega arith) ∙ free_field (entry st) plain n h.0 free),
    λ r l free. (let h : FarField (λ s. value s (p_slot r l)) = far_part (p_slot r l) in h.1 h.0 (omega arith) ∙ free_slot (entry st) plain r l h.0 free),
  )

pub opened : (st : stores.Store) (one : Solution) → Solved one (entry st) → HasEnds st → IsOpen (entry st)
opened st one solved ends plain = (last st one solved ends plain, last_solves st one solved ends plain, last_free st one solved ends plain)

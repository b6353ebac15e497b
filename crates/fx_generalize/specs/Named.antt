-- Numbers of variables in a kept type, and what a term is when it is read with them.
use Rattle.std.specs.Prelude.{◌≡◌, ◌==◌, ◌&&◌, ℕ, suc, Bool, true, false, slice_index, List, [], ◌∷◌, Option, None, Some, option_map, map, if◌then◌else◌}
use Rattle.fx_base.specs.Text.{same_text}
use Rattle.fx_types.specs.Ground.{GroundField, GroundRow, g_is, g_pattern, listed}
use Rattle.fx_types.specs.Instance.{Solution, ground, ground_pipe, ground_field, ground_fields, ground_tail}
use Rattle.fx_types.specs.Shape.{entry_term, label_term, field_term, labels_of, fields_of}
use Rattle.fx_types.specs.Term.{Label, Term, Labels, no_labels, more_labels, Pipe, Field, Tail, Row}
use Rattle.fx_types.specs.declared.term.LabelField as entries
use Rattle.fx_types.specs.declared.term.LabelTy as labels
use Rattle.fx_types.specs.declared.term.Ty as types
use Rattle.fx_unify.specs.declared.sorts.Sorts as sorts
use Rattle.fx_unify.specs.Judge.{AreTypes}
use Rattle.fx_unify.specs.Sorts.{allows, set_at}
use Rattle.fx_unify.specs.declared.store.Root as roots
use Rattle.fx_unify.specs.declared.store.Root.TheVariants as root
use Rattle.fx_unify.specs.Part.{Part, p_field, p_slot, Entries, type_node, field_node, slot_node, Solved}
use Rattle.fx_unify.specs.Rows.{ground_row}
use Rattle.fx_generalize.specs.declared.names.FieldName as fields
use Rattle.fx_generalize.specs.declared.names.FieldName.TheVariants as names
use Rattle.fx_generalize.specs.declared.names.Names as declared

-- the place of the first item that passes the test
abbrev pub place : {A : Type 0} → (A → Bool) → List A → Option ℕ
place test [] = None
place test (x ∷ xs) = if test x then Some 0 else option_map suc (place test xs)

-- the part is the named field
abbrev pub is_field : Part → fields.FieldName → Bool
is_field (p_field n) (names.Var m) = n == m
is_field (p_slot r l) (names.Slot q k) = (r == q) && same_text l k
is_field _ _ = false

abbrev pub type_place : declared.Names → ℕ → Option ℕ
type_place m n = place (λ x. n == x) m.types.items

abbrev pub row_place : declared.Names → ℕ → Option ℕ
row_place m r = place (λ x. r == x) m.rows.items

abbrev pub field_place : declared.Names → Part → Option ℕ
field_place m p = place (is_field p) m.fields.items

-- q gives to the numbers what s gives to the free variables that have them. Where a field of a row
-- has a number of its own, q's row says nothing of it.
abbrev pub Through : Entries → declared.Names → Solution → Solution → Type 0
Through e m s q =
    ((n i : ℕ) → e (type_node n) ≡ None → type_place m n ≡ Some i → s.type_of n ≡ q.type_of i)
    × ((n i : ℕ) → e (field_node n) ≡ None → field_place m (p_field n) ≡ Some i → s.field_of n ≡ q.field_of i)
    × ((r : ℕ) (l : Label) (i : ℕ) → e (slot_node r l) ≡ None → field_place m (p_slot r l) ≡ Some i → s.row_of r l ≡ q.field_of i)
    × ((r : ℕ) (l : Label) (j : ℕ) → e (slot_node r l) ≡ None → field_place m (p_slot r l) ≡ None → row_place m r ≡ Some j → s.row_of r l ≡ q.row_of j l)

-- s has at each free variable without a number what o has
abbrev pub Beside : Entries → declared.Names → Solution → Solution → Type 0
Beside e m s o =
    ((n : ℕ) → e (type_node n) ≡ None → type_place m n ≡ None → s.type_of n ≡ o.type_of n)
    × ((n : ℕ) → e (field_node n) ≡ None → field_place m (p_field n) ≡ None → s.field_of n ≡ o.field_of n)
    × ((r : ℕ) (l : Label) → e (slot_node r l) ≡ None → field_place m (p_slot r l) ≡ None → row_place m r ≡ None → s.row_of r l ≡ o.row_of r l)

-- the read term is under q what the term is under s
abbrev pub IsReading : Entries → declared.Names → Term → Term → Type 0
IsReading e m t u = (s q : Solution) → Solved s e → Through e m s q → ground q u ≡ ground s t

abbrev pub IsFieldReading : Entries → declared.Names → (Solution → GroundField) → Field → Type 0
IsFieldReading e m f u = (s q : Solution) → Solved s e → Through e m s q → ground_field q u ≡ f s

abbrev pub IsPipeReading : Entries → declared.Names → Pipe → Pipe → Type 0
IsPipeReading e m p u = (s q : Solution) → Solved s e → Through e m s q → ground_pipe q u ≡ ground_pipe s p

-- the labels of a function over a row, which has what they don't list
abbrev pub labels_over : Solution → Labels → GroundRow → GroundRow
labels_over s no_labels r l = r l
labels_over s (more_labels x t ls) r l = if same_text l x then g_is (ground s t) else labels_over s ls r l

-- read entries give the same as the entries, over each row

abbrev pub AreLabelsRead : Entries → declared.Names → List labels.LabelTy → List labels.LabelTy → Type 0
AreLabelsRead e m xs us =
    (s q : Solution) → Solved s e → Through e m s q → (r : GroundRow) (l : Label) → labels_over q (labels_of (map label_term us)) r l ≡ labels_over s (labels_of (map label_term xs)) r l

abbrev pub AreFieldsRead : Entries → declared.Names → List entries.LabelField → List entries.LabelField → Type 0
AreFieldsRead e m xs us =
    (s q : Solution) → Solved s e → Through e m s q → (r : GroundRow) (l : Label) → ground_fields q (fields_of (map entry_term us)) r l ≡ ground_fields s (fields_of (map entry_term xs)) r l

abbrev pub IsRowReading : Entries → declared.Names → Row → Row → Type 0
IsRowReading e m r u = (s q : Solution) → Solved s e → Through e m s q → (l : Label) → ground_row q u l ≡ ground_row s r l

-- the read row gives what the row variable r has, but for the hidden labels
abbrev pub IsOpenRead : Entries → declared.Names → List Label → ℕ → Row → Type 0
IsOpenRead e m hidden r u = (s q : Solution) → Solved s e → Through e m s q → (l : Label) → listed l hidden ≡ false → ground_row q u l ≡ s.row_of r l

-- the field is what the root has at the label, and has no number of its own
abbrev pub IsAtRoot : declared.Names → roots.Root → Label → Part → Type 0
IsAtRoot m (root.Default d) l p = ⊥
IsAtRoot m (root.Var v) l p = (p ≡ p_slot v l) × (field_place m (p_slot v l) ≡ None)

-- the row variable r has at the label what its root has there, which is free and has no number
abbrev pub IsLeft : Entries → declared.Names → ℕ → roots.Root → Label → Type 0
IsLeft e m r (root.Default d) l = ⊥
IsLeft e m r (root.Var v) l = (e (slot_node v l) ≡ None) × (field_place m (p_slot v l) ≡ None) × ((s : Solution) → Solved s e → s.row_of v l ≡ s.row_of r l)

-- the read entries, over any row that is right where they leave it out, give what the row variable r
-- has at the labels, but for the hidden ones
abbrev pub AreSlotsRead : Entries → declared.Names → ℕ → roots.Root → List Label → List Label → List entries.LabelField → Type 0
AreSlotsRead e m r o hidden ls us =
    (s q : Solution) → Solved s e → Through e m s q → (b : GroundRow) → ((l : Label) → IsLeft e m r o l → b l ≡ s.row_of r l)
    → (l : Label) → listed l hidden ≡ false → ground_fields q (fields_of (map entry_term us)) b l ≡ (if listed l ls then s.row_of r l else b l)

-- the read rest gives what the root has, where that is free and has no number of its own
abbrev pub IsRootRead : Entries → declared.Names → roots.Root → Tail → Type 0
IsRootRead e m (root.Default d) u = (s q : Solution) → Solved s e → Through e m s q → (l : Label) → ground_tail q u l ≡ ground_field s (field_term d)
IsRootRead e m (root.Var v) u =
    (s q : Solution) → Solved s e → Through e m s q → (l : Label) → e (slot_node v l) ≡ None → field_place m (p_slot v l) ≡ None → ground_tail q u l ≡ s.row_of v l

-- each field of the root that has a number stands at one of the labels
abbrev pub AreNamedAmong : declared.Names → roots.Root → List Label → Type 0
AreNamedAmong m (root.Default d) ls = Unit {0}
AreNamedAmong m (root.Var v) ls = (l : Label) → listed l ls ≡ false → field_place m (p_slot v l) ≡ None

-- the fields of the row variable have no number, nor has the variable
abbrev pub IsUnnamedRow : declared.Names → ℕ → Type 0
IsUnnamedRow m r = (row_place m r ≡ None) × ((l : Label) → field_place m (p_slot r l) ≡ None)

abbrev pub IsUnnamed : declared.Names → fields.FieldName → Type 0
IsUnnamed m (names.Var n) = field_place m (p_field n) ≡ None
IsUnnamed m (names.Slot r l) = (field_place m (p_slot r l) ≡ None) × (row_place m r ≡ None)

-- no variable has a number in both
abbrev pub IsApart : declared.Names → declared.Names → Type 0
IsApart m a =
    ((n i : ℕ) → type_place a n ≡ Some i → type_place m n ≡ None) × ((n i : ℕ) → field_place a (p_field n) ≡ Some i → field_place m (p_field n) ≡ None)
    × ((r : ℕ) (l : Label) (i : ℕ) → field_place a (p_slot r l) ≡ Some i → (field_place m (p_slot r l) ≡ None) × (row_place m r ≡ None))
    × ((r j : ℕ) → row_place a r ≡ Some j → IsUnnamedRow m r)

-- The kept terms are types where the terms are. Where the kept ones are, so are the terms, if the free
-- variables without a number are as in a solution that makes the terms types.
abbrev pub CoversTypes : Entries → declared.Names → List types.Ty → List types.Ty → Type 0
CoversTypes e m ts us =
    ((s q : Solution) → Solved s e → Through e m s q → AreTypes s ts → AreTypes q us)
    × ((s q o : Solution) → Solved s e → Solved o e → Through e m s q → Beside e m s o → AreTypes o ts → AreTypes q us → AreTypes s ts)

-- where scalars are left to the variable that has the number k, it has one of these
abbrev pub IsBounded : List sorts.Sorts → List ℕ → Solution → ℕ → Type 0
IsBounded ks ns q k = allows (set_at ks (slice_index ns k)) g_pattern ≡ false → allows (set_at ks (slice_index ns k)) (q.type_of k) ≡ true

-- the term was read with names of its own, which nothing else has
abbrev pub CanDrop : Entries → declared.Names → declared.Names → Term → Type 0
CanDrop e m a t = IsApart m a × ((u : Term) × IsReading e a t u)

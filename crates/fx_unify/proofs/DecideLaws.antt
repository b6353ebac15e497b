-- The check of the least solution, variable by variable.
use Rattle.std.proofs.Common.{◌≡◌, ◌⊎◌, inl, inr, refl, sym, ap, subst, ◌∙◌, ℕ, zero, suc, ◌+◌, ◌-◌, ◌≤◌, ◌<◌, Bool, true, false, List, [], ◌∷◌, ◌++◌, take, get_or, length, Option, None, Some, option_map, Result, Ok, Err, IsTrue, arith}
use Rattle.std.proofs.lemmas.List.{take_more}
use mathlib.Core.Bool.{true≢false}
use Rattle.fx_base.specs.Text.{same_text}
use Rattle.fx_types.specs.declared.term.FieldTy.{FieldTy}
use Rattle.fx_types.specs.Term.{Label, type_variable, row_variable}
use Rattle.fx_types.specs.Ground.{Ground, GroundField, g_bool, g_int, g_text, g_time, GroundRow, g_absent, g_is, is_plain, is_column, listed}
use Rattle.fx_types.specs.Instance.{Solution, ground_field}
use Rattle.fx_types.specs.declared.term.Rest.TheVariants as rests
use Rattle.fx_types.specs.Shape.{field_term, rest_term}
use Rattle.fx_types.proofs.ShapeLaws.{tail_var}
use Rattle.fx_types.specs.Size.{AtMost, Weighs, Pipes}
use Rattle.fx_unify.specs.declared.fault.UnifyFault.{UnifyFault}
use Rattle.fx_unify.specs.declared.fault.UnifyFault.TheVariants as fault
use Rattle.fx_unify.specs.declared.field.Field as code
use Rattle.fx_unify.specs.declared.sorts.Sorts as sorts
use Rattle.fx_unify.specs.declared.store.Root as roots
use Rattle.fx_unify.specs.declared.store.Root.TheVariants as root
use Rattle.fx_unify.specs.declared.store.Store as stores
use Rattle.fx_unify.specs.Decide.{Fixed, FixedRow, Checking, IsLeast}
use Rattle.fx_unify.specs.Least.{RestLeads}
use Rattle.fx_unify.specs.Measure.{least, Admits, Measuring}
use Rattle.fx_unify.specs.Part.{Part, p_is, p_field, p_slot, part, value, type_node, field_node, slot_node, Solved}
use Rattle.fx_unify.specs.Sorts.{plain_values, plainest_of, set_at}
use Rattle.fx_unify.specs.Store.{entry, bound_to, root_at, slot_in, rest_in, slots_of, apart_of, rest_of, AreKept, KeepsRoot, IsFree}
use Rattle.fx_unify.specs.Work.{IsField, IsRow, Within}
use Rattle.fx_unify.proofs.CountLaws.{plainest_formed, plainest_one}
use Rattle.fx_unify.proofs.LeastLaws.{bound_step, bound_measured, free_type, free_field, free_slot}
use Rattle.fx_types.proofs.PartLaws.{more_nodes}
use Rattle.fx_unify.proofs.MeasureLaws.{more_piped}
use Rattle.fx_unify.proofs.CompareLaws.{free_rest}
use Rattle.fx_types.proofs.Lists.{take_all}
use Rattle.fx_unify.proofs.RowLaws.{value_of}
use Rattle.fx_unify.proofs.StoreLaws.{off_kept}
use Rattle.fx_types.proofs.Choices.{passed, never, by_cases}
use Rattle.fx_types.proofs.PlainLaws.{plain_formed, plain_weighs, weighs_plain}
use Rattle.fx_types.proofs.RowSums.{same_is}
use Rattle.fx_unify.proofs.LabelLaws.{listed_one_more, fresh_label}

-- numbers

lt_or_le : (n m : ℕ) → (n < m) ⊎ (m ≤ n)
lt_or_le zero zero = inr (omega arith)
lt_or_le zero (suc m) = inl (omega arith)
lt_or_le (suc n) zero = inr (omega arith)
lt_or_le (suc n) (suc m) = go (lt_or_le n m)
  where
    go : (n < m) ⊎ (m ≤ n) → (suc n < suc m) ⊎ (suc m ≤ suc n)
    go (inl h) = inl (omega arith)
    go (inr h) = inr (omega arith)

module _ (F : ℕ → ℕ → Type 0) (mono : (n k j : ℕ) → F n k → k ≤ j → F n j) where
  pub one_further : (i : ℕ) → ((k : ℕ) × ((n : ℕ) → n < i → F n k)) → ((k : ℕ) × F i k) → (k : ℕ) × ((n : ℕ) → n < i + 1 → F n k)
  one_further i h g = (h.0 + g.0, λ n lt. go n lt (lt_or_le n i))
    where
      go : (n : ℕ) → n < i + 1 → (n < i) ⊎ (i ≤ n) → F n (h.0 + g.0)
      go n lt (inl less) = mono n h.0 (h.0 + g.0) (h.1 n less) (omega arith)
      go n lt (inr more) = let same : i ≡ n = omega arith in subst (λ m. F m (h.0 + g.0)) same (mono i g.0 (h.0 + g.0) g.1 (omega arith))

  pub all_further : (len i : ℕ) → len ≤ i → ((k : ℕ) × ((n : ℕ) → n < i → F n k)) → ((n : ℕ) → len ≤ n → F n 0) → (k : ℕ) × ((n : ℕ) → F n k)
  all_further len i le h free = (h.0, λ n. go n (lt_or_le n i))
    where
      go : (n : ℕ) → (n < i) ⊎ (i ≤ n) → F n h.0
      go n (inl less) = h.1 n less
      go n (inr more) = mono n 0 h.0 (free n (omega arith)) (omega arith)

pub same_item : {A : Type 0} (xs : List A) (i : ℕ) (x d : A) → i < length xs → x ≡ get_or xs i x → get_or xs i d ≡ x
same_item [] i x d lt e = absurd (omega arith)
same_item (y ∷ xs) zero x d lt e = sym e
same_item (y ∷ xs) (suc i) x d lt e = same_item xs i x d (omega arith) e

pub no_item : {A : Type 0} (xs : List A) (i : ℕ) (d : A) → length xs ≤ i → get_or xs i d ≡ d
no_item [] i d le = refl
no_item (y ∷ xs) zero d le = absurd (omega arith)
no_item (y ∷ xs) (suc i) d le = no_item xs i d (omega arith)

-- what is measured is fixed

pub fixed_more : (at : ℕ → Solution) (f : Solution → GroundField) (k j : ℕ) → Fixed at f k → k ≤ j → Fixed at f j
fixed_more at f k j h le = (h.0, λ n more. h.1 n (omega arith), h.2)

pub row_more : (at : ℕ → Solution) (f : Solution → GroundRow) (k j : ℕ) → FixedRow at f k → k ≤ j → FixedRow at f j
row_more at f k j h le = (h.0, λ n more. h.1 n (omega arith), h.2)

column_piped : (t : Ground) → is_column t ≡ true → AtMost t 4096
column_piped g_bool e = omega arith
column_piped g_int e = omega arith
column_piped g_text e = omega arith
column_piped g_time e = omega arith
column_piped _ e = absurd (true≢false (sym e))

plain_piped : (g : GroundField) → is_plain g ≡ true → Pipes g 4096
plain_piped g_absent e = tt
plain_piped (g_is u) e = column_piped u e

-- a field for each answer to a test
abbrev field_by : (b : Bool) → (b ≡ true → GroundField) → (b ≡ false → GroundField) → GroundField
field_by true f g = f refl
field_by false f g = g refl

cases : (b : Bool) (f : b ≡ true → GroundField) (g : b ≡ false → GroundField) (P : GroundField → Type 0) → ((e : b ≡ true) → P (f e)) → ((e : b ≡ false) → P (g e)) → P (field_by b f g)
cases true f g P h k = h refl
cases false f g P h k = k refl

module _ (st : stores.Store) (ks : List sorts.Sorts) where
  pub fixed_of : (f : Solution → GroundField) (m : ℕ) → Measuring (Ok m) (least st ks) (Admits st ks) Pipes f 4096 → (k : ℕ) × Fixed (least st ks) f k
  fixed_of f m h = (h.0.1.0, (h.0.0, h.0.1.1, (h.0.2, more_piped h.0.0 m 4096 h.0.3 h.1)))

  part_ok : (p q : Part) (m : ℕ) → bound_to (entry st) p ≡ Some q → Measuring (Ok m) (least st ks) (Admits st ks) Pipes (λ s. value s q) 4096
      → (k : ℕ) × Fixed (least st ks) (λ s. value s p) k
  part_ok p q m e h = fixed_of (λ s. value s p) m (bound_measured st ks Pipes p q e (Ok m) 4096 h)

  part_err : (p q : Part) (f : UnifyFault) (P : ℕ → Type 0) → bound_to (entry st) p ≡ Some q → ((s : Solution) → Within s → IsField (value s p))
      → Measuring (Err f) (least st ks) (Admits st ks) Pipes (λ s. value s q) 4096 → Checking {A = Unit {0}} (Err f) st ks P
  part_err p q fault.Clash P e field h =
      λ s among within. bound_measured st ks Pipes p q e (Err fault.Clash) 4096 h s among (field s within).0 (field s within).1
  part_err p q fault.Memory P e field h = tt

  -- types

  pub type_err : (n : ℕ) (f : UnifyFault) (P : ℕ → Type 0) → Measuring (Err f) (least st ks) (Admits st ks) Pipes (λ s. g_is (s.type_of n)) 4096 → Checking {A = Unit {0}} (Err f) st ks P
  type_err n fault.Clash P h = λ s among within. h s among (within.0 n).0 (within.0 n).1
  type_err n fault.Memory P h = tt

  pub type_free : (n : ℕ) → entry st (type_node n) ≡ None → Fixed (least st ks) (λ s. g_is (s.type_of n)) 0
  type_free n e =
      (g_is (plainest_of (set_at ks n)), λ i le. ap g_is (free_type (entry st) (plain_values ks) n i e), (plainest_formed (set_at ks n), more_nodes (plainest_of (set_at ks n)) 1 4096 (plainest_one (set_at ks n)) (omega arith)))

  -- fields and slots

  pub field_ok : (n : ℕ) (f : code.Field) (o : Option code.Field) (m : ℕ) → o ≡ Some f → Measuring (Ok m) (least st ks) (Admits st ks) Pipes (λ s. value s (part f)) 4096
      → entry st (field_node n) ≡ option_map part o → (k : ℕ) × Fixed (least st ks) (λ s. s.field_of n) k
  field_ok n f o m is h e = part_ok (p_field n) (part f) m (e ∙ ap (option_map part) is) h

  pub field_err : (n : ℕ) (f : code.Field) (o : Option code.Field) (x : UnifyFault) → o ≡ Some f → Measuring (Err x) (least st ks) (Admits st ks) Pipes (λ s. value s (part f)) 4096
      → entry st (field_node n) ≡ option_map part o → Checking {A = Unit {0}} (Err x) st ks (Fixed (least st ks) (λ s. s.field_of n))
  field_err n f o x is h e = part_err (p_field n) (part f) x (Fixed (least st ks) (λ s. s.field_of n)) (e ∙ ap (option_map part) is) (λ s within. within.1 n) h

  pub field_free : (n : ℕ) → entry st (field_node n) ≡ None → Fixed (least st ks) (λ s. s.field_of n) 0
  field_free n e = (g_absent, λ i le. free_field (entry st) (plain_values ks) n i e, (tt, tt))

  -- what is found wrong at one of them is wrong at all
  pub widened : (f : UnifyFault) (P Q : ℕ → Type 0) → Checking {A = Unit {0}} (Err f) st ks P → Checking {A = Unit {0}} (Err f) st ks Q
  widened fault.Clash P Q h = h
  widened fault.Memory P Q h = tt

  -- rows

  pub slots_none : (r : ℕ) (ls : List Label) → (k : ℕ) × ((l : Label) → listed l (take 0 ls) ≡ true → Fixed (least st ks) (λ s. s.row_of r l) k)
  slots_none r [] = (0, λ l h. absurd (true≢false (sym h)))
  slots_none r (x ∷ ls) = (0, λ l h. absurd (true≢false (sym h)))

  pub slots_more : (r : ℕ) (ls : List Label) (i : ℕ) (x : Label) (m : ℕ) → i < length ls → x ≡ get_or ls i x
      → ((k : ℕ) × ((l : Label) → listed l (take i ls) ≡ true → Fixed (least st ks) (λ s. s.row_of r l) k))
      → Measuring (Ok m) (least st ks) (Admits st ks) Pipes (λ s. s.row_of r x) 4096 → (k : ℕ) × ((l : Label) → listed l (take (i + 1) ls) ≡ true → Fixed (least st ks) (λ s. s.row_of r l) k)
  slots_more r ls i x m lt at before h = (before.0 + new.0, λ l e. by_cases (same_text l x) (here l) (there l e))
    where
      new : (k : ℕ) × Fixed (least st ks) (λ s. s.row_of r x) k
      new = fixed_of (λ s. s.row_of r x) m h

      next : take (i + 1) ls ≡ take i ls ++ x ∷ []
      next = take_more ls i x lt ∙ ap (λ d. take i ls ++ d ∷ []) (sym at)

      here : (l : Label) → same_text l x ≡ true → Fixed (least st ks) (λ s. s.row_of r l) (before.0 + new.0)
      here l q = subst (λ y. Fixed (least st ks) (λ s. s.row_of r y) (before.0 + new.0)) (sym (same_is l x q)) (fixed_more (least st ks) (λ s. s.row_of r x) new.0 (before.0 + new.0) new.1 (omega arith))

      there : (l : Label) → listed l (take (i + 1) ls) ≡ true → same_text l x ≡ false → Fixed (least st ks) (λ s. s.row_of r l) (before.0 + new.0)
      there l e q =
          fixed_more (least st ks) (λ s. s.row_of r l) before.0 (before.0 + new.0)
          (before.1 l (sym (passed (same_text l x) true (listed l (take i ls)) q) ∙ sym (listed_one_more l x (take i ls)) ∙ sym (ap (listed l) next) ∙ e)) (omega arith)

  pub slots_all : (r : ℕ) (ls : List Label) (i : ℕ) → length ls ≤ i → ((k : ℕ) × ((l : Label) → listed l (take i ls) ≡ true → Fixed (least st ks) (λ s. s.row_of r l) k))
      → (k : ℕ) × ((l : Label) → listed l ls ≡ true → Fixed (least st ks) (λ s. s.row_of r l) k)
  slots_all r ls i le h = (h.0, λ l e. h.1 l (ap (listed l) (take_all ls i le) ∙ e))

  -- a slot that is none in a solution within the limit
  pub slot_wrong : (r : ℕ) (x : Label) (f : UnifyFault) (P : ℕ → Type 0) → Measuring (Err f) (least st ks) (Admits st ks) Pipes (λ s. s.row_of r x) 4096 → Checking {A = Unit {0}} (Err f) st ks P
  slot_wrong r x fault.Clash P h = λ s among within. h s among ((within.2 r).1 x).0 ((within.2 r).1 x).1
  slot_wrong r x fault.Memory P h = tt

  pub plain_field : (g : GroundField) → is_plain g ≡ true → IsField g
  plain_field g e = (plain_formed g e, plain_piped g e)

  -- the fields at some labels are fixed, and off them there is one plain field
  fixed_row : (r : ℕ) (ls : List Label) (h : (k : ℕ) × ((l : Label) → listed l ls ≡ true → Fixed (least st ks) (λ s. s.row_of r l) k)) (d : GroundField) (j : ℕ) → is_plain d ≡ true
      → ((n : ℕ) → j ≤ n → (l : Label) → listed l ls ≡ false → (least st ks n).row_of r l ≡ d) → (k : ℕ) × FixedRow (least st ks) (λ s. s.row_of r) k
  fixed_row r ls h d j plain off = (h.0 + j, (row, stays, ((d, plain, (ls, by_default)), fields)))
    where
      at : (l : Label) → listed l ls ≡ true → GroundField
      at l e = (h.1 l e).0

      row : GroundRow
      row l = field_by (listed l ls) (at l) (λ e. d)

      stays : (n : ℕ) → h.0 + j ≤ n → (l : Label) → (least st ks n).row_of r l ≡ row l
      stays n le l = cases (listed l ls) (at l) (λ e. d) (λ x. (least st ks n).row_of r l ≡ x) (λ e. (h.1 l e).1 n (omega arith)) (λ e. off n (omega arith) l e)

      by_default : (l : Label) → listed l ls ≡ false → row l ≡ d
      by_default l f = cases (listed l ls) (at l) (λ e. d) (λ x. x ≡ d) (λ e. never (listed l ls) e f) (λ e. refl)

      fields : (l : Label) → IsField (row l)
      fields l = cases (listed l ls) (at l) (λ e. d) IsField (λ e. (h.1 l e).2) (λ e. plain_field d plain)

  pub leads_var : (ls : List Label) (r : ℕ) (o : roots.Root) → RestLeads st ls (rest_term (rests.Var r)) o → RestLeads st ls (row_variable r) o
  leads_var ls r o h = subst (λ t. RestLeads st ls t o) (tail_var r) h

  pub row_free : (r q : ℕ) (o : roots.Root) (ls : List Label) → o ≡ root.Var q → ((k : ℕ) × ((l : Label) → listed l ls ≡ true → Fixed (least st ks) (λ s. s.row_of r l) k))
      → RestLeads st ls (row_variable r) o → IsFree st o → KeepsRoot st o ls → (k : ℕ) × FixedRow (least st ks) (λ s. s.row_of r) k
  row_free r q o ls is h way free kept =
      let none : rest_of st q ≡ None = subst (IsFree st) is free in
      let kept_there : AreKept st q ls = subst (λ x. KeepsRoot st x ls) is kept in
      fixed_row r ls h g_absent way.0 refl
      (λ n le l off. (let same : n ≡ n - way.0 + way.0 = omega arith in
      ap (λ j. (least st ks j).row_of r l) same ∙ way.1 (plain_values ks) (n - way.0) l off ∙ ap (λ x. value (least st ks (n - way.0)) (root_at l x)) is
      ∙ free_slot (entry st) (plain_values ks) q l (n - way.0) (off_kept st q l (kept_there l off).0 (kept_there l off).1 ∙ ap (option_map (root_at l)) none)))

  pub row_ok : (r : ℕ) (o : roots.Root) (d : FieldTy) (w : ℕ) (ls : List Label) → o ≡ root.Default d → ((k : ℕ) × ((l : Label) → listed l ls ≡ true → Fixed (least st ks) (λ s. s.row_of r l) k))
      → RestLeads st ls (row_variable r) o → Measuring (Ok w) (least st ks) (Admits st ks) Weighs (λ s. ground_field s (field_term d)) 0 → (k : ℕ) × FixedRow (least st ks) (λ s. s.row_of r) k
  row_ok r o d w ls is h way m =
      fixed_row r ls h m.0.0 (m.0.1.0 + way.0) (weighs_plain m.0.0 w m.1 m.0.3)
      (λ n le l off. (let same : n ≡ n - way.0 + way.0 = omega arith in let more : m.0.1.0 ≤ n - way.0 = omega arith in
      ap (λ j. (least st ks j).row_of r l) same ∙ way.1 (plain_values ks) (n - way.0) l off ∙ ap (λ x. value (least st ks (n - way.0)) (root_at l x)) is
      ∙ value_of (least st ks (n - way.0)) (field_term d) ∙ m.0.1.1 (n - way.0) more))

  pub row_err : (r : ℕ) (o : roots.Root) (d : FieldTy) (f : UnifyFault) (ls : List Label) (P : ℕ → Type 0) → o ≡ root.Default d
      → ((s : Solution) → Solved s (entry st) → (l : Label) → listed l ls ≡ false → value s (root_at l o) ≡ s.row_of r l)
      → Measuring (Err f) (least st ks) (Admits st ks) Weighs (λ s. ground_field s (field_term d)) 0 → Checking {A = Unit {0}} (Err f) st ks P
  row_err r o d fault.Clash ls P is same h = λ s among within.
      (let off : (e : GroundField) × IsTrue (is_plain e) × ((ms : List Label) × ((l : Label) → listed l ms ≡ false → s.row_of r l ≡ e)) = (within.2 r).0 in
      let l : (l : Label) × (listed l ls ≡ false) × (listed l off.2.0 ≡ false) = fresh_label ls off.2.0 in
      let is_default : ground_field s (field_term d) ≡ off.0 = sym (sym (same s among.0 l.0 l.1) ∙ ap (λ x. value s (root_at l.0 x)) is ∙ value_of s (field_term d)) ∙ off.2.1 l.0 l.2 in
      let plain : is_plain (ground_field s (field_term d)) ≡ true = ap is_plain is_default ∙ off.1 in
      h s among (plain_formed (ground_field s (field_term d)) plain) (plain_weighs (ground_field s (field_term d)) 0 plain))
  row_err r o d fault.Memory ls P is same h = tt

  pub row_unbound : (r : ℕ) → slots_of st r ≡ [] → rest_of st r ≡ None → FixedRow (least st ks) (λ s. s.row_of r) 0
  row_unbound r slots rest =
      (λ l. g_absent, λ n le l. free_slot (entry st) (plain_values ks) r l n (ap (λ cs. slot_in cs l (rest_in (apart_of st r) (rest_of st r) l)) slots ∙ free_rest (apart_of st r) (rest_of st r) l rest), ((g_absent, refl, ([], λ l h. refl)), λ l. (tt, tt)))

  -- all of them

  at_step : (t : (k : ℕ) × ((n : ℕ) → Fixed (least st ks) (λ s. g_is (s.type_of n)) k)) (f : (k : ℕ) × ((n : ℕ) → Fixed (least st ks) (λ s. s.field_of n) k))
      (o : (k : ℕ) × ((r : ℕ) → FixedRow (least st ks) (λ s. s.row_of r) k)) (last : ℕ) → t.0 + f.0 + o.0 ≤ last → Solved (least st ks last) (entry st) × Within (least st ks last)
  at_step t f o last from = (solved, (types, fields, rows))
    where
      stays : (g : Solution → GroundField) (k : ℕ) → Fixed (least st ks) g k → k ≤ last → g (least st ks last) ≡ g (least st ks (suc last))
      stays g k h le = h.1 last le ∙ sym (h.1 (suc last) (omega arith))

      solved : Solved (least st ks last) (entry st)
      solved (type_node n) p e = stays (λ s. g_is (s.type_of n)) t.0 (t.1 n) (omega arith) ∙ bound_step st (p_is (type_variable n)) p e (plain_values ks) last
      solved (field_node n) p e = stays (λ s. s.field_of n) f.0 (f.1 n) (omega arith) ∙ bound_step st (p_field n) p e (plain_values ks) last
      solved (slot_node r l) p e = (o.1 r).1 last (omega arith) l ∙ sym ((o.1 r).1 (suc last) (omega arith) l) ∙ bound_step st (p_slot r l) p e (plain_values ks) last

      types : (n : ℕ) → IsField (g_is ((least st ks last).type_of n))
      types n = subst IsField (sym ((t.1 n).1 last (omega arith))) (t.1 n).2

      fields : (n : ℕ) → IsField ((least st ks last).field_of n)
      fields n = subst IsField (sym ((f.1 n).1 last (omega arith))) (f.1 n).2

      rows : (r : ℕ) → IsRow ((least st ks last).row_of r)
      rows r = subst IsRow (sym (λ i l. (o.1 r).1 last (omega arith) l i)) (o.1 r).2

  all_fixed : ((k : ℕ) × ((n : ℕ) → Fixed (least st ks) (λ s. g_is (s.type_of n)) k)) → ((k : ℕ) × ((n : ℕ) → Fixed (least st ks) (λ s. s.field_of n) k))
      → ((k : ℕ) × ((r : ℕ) → FixedRow (least st ks) (λ s. s.row_of r) k)) → (k : ℕ) × IsLeast st ks k
  all_fixed t f o = (t.0 + f.0 + o.0, λ last from. at_step t f o last from)

  pub rows_checked : (r : Result (Unit {0}) UnifyFault) → ((k : ℕ) × ((n : ℕ) → Fixed (least st ks) (λ s. g_is (s.type_of n)) k)) → ((k : ℕ) × ((n : ℕ) → Fixed (least st ks) (λ s. s.field_of n) k))
      → Checking r st ks (λ k. (r : ℕ) → FixedRow (least st ks) (λ s. s.row_of r) k) → Checking r st ks (IsLeast st ks)
  rows_checked (Ok a) t f h = all_fixed t f h
  rows_checked (Err fault.Clash) t f h = h
  rows_checked (Err fault.Memory) t f h = tt

-- A solution can be made plain wherever terms don't show it: the terms stay as they are, and where they are types, all
-- that the new solution gives are types, fields and rows.
use Rattle.std.proofs.Common.{◌≡◌, ◌⊎◌, inl, inr, refl, sym, ap, subst, ◌∙◌, ℕ, Bool, true, false, ◌||◌, ◌&&◌, ◌==◌, eqb-true, eq-eqb, not, List, [], ◌∷◌, IsTrue, arith}
use Rattle.std.specs.Prelude.{if◌then◌else◌}
use mathlib.Core.Bool.{true≢false}
use Rattle.fx_base.specs.Text.{same_text}
use Rattle.fx_types.specs.Ground.{GroundField, GroundRow, g_int, g_array, g_fun, g_rec, g_stream, g_absent, g_is, is_plain, listed, HasDefault}
use Rattle.fx_types.specs.Instance.{Solution, ground, ground_labels, ground_pipe, ground_field, ground_fields, ground_tail}
use Rattle.fx_types.specs.Size.{IsType}
use Rattle.fx_types.specs.Term.{Label, Term, bool, int, text, time, span, pattern, done, type_variable, array, fun, rec, stream, Labels, no_labels, more_labels, Pipe, no_pipe, by_pipe, Field, absent, is, field_variable, Fields, no_fields, more_fields, Tail, default, row_variable}
use Rattle.fx_types.proofs.Choices.{chosen, passed, by_cases, neither}
use Rattle.fx_types.proofs.PartLaws.{IsTypeField, element_type, record_field, stream_field, label_type, pipe_type, result_type}
use Rattle.fx_types.proofs.RowSums.{same_is, same_itself}
use Rattle.fx_unify.specs.Part.{Variable, type_node, field_node, slot_node, as_part, value}
use Rattle.fx_unify.specs.Work.{Within, IsRow}
use Rattle.fx_unify.proofs.LabelLaws.{fresh_label}
use Rattle.fx_unify.specs.Seen.{unless, is_type, is_field, is_row_off, sees, sees_labels, sees_pipe, sees_field, sees_fields, sees_tail, kept_at}

-- tests

pub or_left : (a b : Bool) → a ≡ true → (a || b) ≡ true
or_left true b e = refl
or_left false b e = absurd (true≢false (sym e))

pub or_right : (a b : Bool) → b ≡ true → (a || b) ≡ true
or_right true b e = refl
or_right false b e = e

pub split : {C : Type 0} (a b : Bool) → (a || b) ≡ true → (a ≡ true → C) → (b ≡ true → C) → C
split true b e f g = f refl
split false b e f g = g e

or_none : (a b : Bool) → a ≡ false → b ≡ false → (a || b) ≡ false
or_none true b e f = absurd (true≢false e)
or_none false b e f = f

and_split : (a b : Bool) → (a && b) ≡ true → (a ≡ true) × (b ≡ true)
and_split true b e = (refl, e)
and_split false b e = absurd (true≢false (sym e))

and_both : (a b : Bool) → a ≡ true → b ≡ true → (a && b) ≡ true
and_both true b e f = f
and_both false b e f = absurd (true≢false (sym e))

not_true : (a : Bool) → not a ≡ true → a ≡ false
not_true true e = absurd (true≢false (sym e))
not_true false e = refl

not_false : (a : Bool) → a ≡ false → not a ≡ true
not_false true e = absurd (true≢false e)
not_false false e = refl

unless_true : (b c : Bool) → b ≡ false → c ≡ true → unless b c ≡ true
unless_true true c e f = absurd (true≢false e)
unless_true false c e f = f

unless_split : (b c : Bool) → unless b c ≡ true → (b ≡ false) × (c ≡ true)
unless_split true c e = absurd (true≢false (sym e))
unless_split false c e = (refl, e)

same_number : (n : ℕ) → (n == n) ≡ true
same_number n = eq-eqb n n refl

both_ways : {A : Type 0} (c : Bool) (a d b e : A) → (c ≡ true → a ≡ d) → (c ≡ false → b ≡ e) → (if c then a else b) ≡ (if c then d else e)
both_ways true a d b e f g = f refl
both_ways false a d b e f g = g refl

-- solutions that agree where a term shows them make the same of it

module _ (s q : Solution) where
  abbrev pub Same : Variable → Type 0
  Same x = value s (as_part x) ≡ value q (as_part x)

  mutual
    pub same_term : (t : Term) → ((x : Variable) → sees x t ≡ true → Same x) → ground s t ≡ ground q t
    same_term bool h = refl
    same_term int h = refl
    same_term text h = refl
    same_term time h = refl
    same_term span h = refl
    same_term pattern h = refl
    same_term done h = refl
    same_term (type_variable n) h = let e : g_is (s.type_of n) ≡ g_is (q.type_of n) = h (type_node n) (same_number n) in cc
    same_term (array t) h = ap g_array (same_term t h)
    same_term (fun ls p t) h =
        λ i. g_fun (λ l. same_labels [] ls (λ x e. h x (or_left (sees_labels x [] ls) (sees_pipe x p || sees x t) e)) l refl i)
        (same_pipe p (λ x e. h x (or_right (sees_labels x [] ls) (sees_pipe x p || sees x t) (or_left (sees_pipe x p) (sees x t) e))) i)
        (same_term t (λ x e. h x (or_right (sees_labels x [] ls) (sees_pipe x p || sees x t) (or_right (sees_pipe x p) (sees x t) e))) i)
    same_term (rec fs r) h = λ i. g_rec (λ l. same_fields [] fs (λ x before. sees_tail x before r) (ground_tail s r) (ground_tail q r) (λ before d k off. same_tail before r d k off) h l refl i)
    same_term (stream fs r) h = λ i. g_stream (λ l. same_fields [] fs (λ x before. sees_tail x before r) (ground_tail s r) (ground_tail q r) (λ before d k off. same_tail before r d k off) h l refl i)

    pub same_labels : (before : List Label) (ls : Labels) → ((x : Variable) → sees_labels x before ls ≡ true → Same x) → (l : Label) → listed l before ≡ false → ground_labels s ls l ≡ ground_labels q ls l
    same_labels before no_labels h l off = refl
    same_labels before (more_labels k t ls) h l off =
        both_ways (same_text l k) (g_is (ground s t)) (g_is (ground q t)) (ground_labels s ls l) (ground_labels q ls l)
        (λ e. ap g_is (same_term t (λ x f. h x (or_left (unless (listed k before) (sees x t)) (sees_labels x (k ∷ before) ls)
        (unless_true (listed k before) (sees x t) (subst (λ m. listed m before ≡ false) (same_is l k e) off) f)))))
        (λ e. same_labels (k ∷ before) ls (λ x f. h x (or_right (unless (listed k before) (sees x t)) (sees_labels x (k ∷ before) ls) f)) l (passed (same_text l k) true (listed l before) e ∙ off))

    same_pipe : (p : Pipe) → ((x : Variable) → sees_pipe x p ≡ true → Same x) → ground_pipe s p ≡ ground_pipe q p
    same_pipe no_pipe h = refl
    same_pipe (by_pipe t) h = ap g_is (same_term t h)

    same_field : (f : Field) → ((x : Variable) → sees_field x f ≡ true → Same x) → ground_field s f ≡ ground_field q f
    same_field absent h = refl
    same_field (is t) h = ap g_is (same_term t h)
    same_field (field_variable n) h = h (field_node n) (same_number n)

    same_fields : (before : List Label) (fs : Fields) (rest : Variable → List Label → Bool) (a b : GroundRow)
        → ((behind : List Label) → ((x : Variable) → rest x behind ≡ true → Same x) → (l : Label) → listed l behind ≡ false → a l ≡ b l)
        → ((x : Variable) → sees_fields x before fs (rest x) ≡ true → Same x) → (l : Label) → listed l before ≡ false → ground_fields s fs a l ≡ ground_fields q fs b l
    same_fields before no_fields rest a b same h l off = same before h l off
    same_fields before (more_fields k f fs) rest a b same h l off =
        both_ways (same_text l k) (ground_field s f) (ground_field q f) (ground_fields s fs a l) (ground_fields q fs b l)
        (λ e. same_field f (λ x d. h x (or_left (unless (listed k before) (sees_field x f)) (sees_fields x (k ∷ before) fs (rest x))
        (unless_true (listed k before) (sees_field x f) (subst (λ m. listed m before ≡ false) (same_is l k e) off) d))))
        (λ e. same_fields (k ∷ before) fs rest a b same (λ x d. h x (or_right (unless (listed k before) (sees_field x f)) (sees_fields x (k ∷ before) fs (rest x)) d)) l (passed (same_text l k) true (listed l before) e ∙ off))

    same_tail : (before : List Label) (r : Tail) → ((x : Variable) → sees_tail x before r ≡ true → Same x) → (l : Label) → listed l before ≡ false → ground_tail s r l ≡ ground_tail q r l
    same_tail before (default f) h l off = same_field f h
    same_tail before (row_variable n) h l off = h (slot_node n l) (and_both (n == n) (not (listed l before)) (same_number n) (not_false (listed l before) off))

-- what a term shows that is a type, is a type or Absent

listed_apart : (l k : Label) (before : List Label) → listed l (k ∷ before) ≡ false → (same_text l k ≡ false) × (listed l before ≡ false)
listed_apart l k before e = neither (same_text l k) (listed l before) e

module _ (s : Solution) where
  at_first : (k : Label) (a b : GroundField) → IsTypeField (if same_text k k then a else b) → IsTypeField a
  at_first k a b h = subst IsTypeField (chosen (same_text k k) a b (same_itself k)) h

  at_later : (l k : Label) (a b : GroundField) → same_text l k ≡ false → IsTypeField (if same_text l k then a else b) → IsTypeField b
  at_later l k a b e h = subst IsTypeField (passed (same_text l k) a b e) h

  seen_type : (n : ℕ) → IsType (s.type_of n) → (x : Variable) → is_type x n ≡ true → IsTypeField (value s (as_part x))
  seen_type n h (type_node m) e = subst (λ k. IsType (s.type_of k)) (sym (eqb-true m n e)) h
  seen_type n h (field_node m) e = absurd (true≢false (sym e))
  seen_type n h (slot_node r l) e = absurd (true≢false (sym e))

  seen_variable : (n : ℕ) → IsTypeField (s.field_of n) → (x : Variable) → is_field x n ≡ true → IsTypeField (value s (as_part x))
  seen_variable n h (type_node m) e = absurd (true≢false (sym e))
  seen_variable n h (field_node m) e = subst (λ k. IsTypeField (s.field_of k)) (sym (eqb-true m n e)) h
  seen_variable n h (slot_node r l) e = absurd (true≢false (sym e))

  seen_row : (before : List Label) (n : ℕ) → ((l : Label) → listed l before ≡ false → IsTypeField (s.row_of n l)) → (x : Variable) → is_row_off x before n ≡ true
      → IsTypeField (value s (as_part x))
  seen_row before n h (type_node m) e = absurd (true≢false (sym e))
  seen_row before n h (field_node m) e = absurd (true≢false (sym e))
  seen_row before n h (slot_node r l) e =
      let there : ((r == n) ≡ true) × (not (listed l before) ≡ true) = and_split (r == n) (not (listed l before)) e in
      subst (λ k. IsTypeField (s.row_of k l)) (sym (eqb-true r n there.0)) (h l (not_true (listed l before) there.1))

  mutual
    pub seen_part : (t : Term) → IsType (ground s t) → (x : Variable) → sees x t ≡ true → IsTypeField (value s (as_part x))
    seen_part (type_variable n) h x e = seen_type n h x e
    seen_part (array t) h x e = seen_part t (element_type (ground s t) h) x e
    seen_part (fun ls p t) h x e =
        split (sees_labels x [] ls) (sees_pipe x p || sees x t) e
        (λ d. seen_labels [] ls (λ l off. label_type (ground_labels s ls) (ground_pipe s p) (ground s t) h l) x d)
        (λ d. split (sees_pipe x p) (sees x t) d
        (λ c. seen_pipe p (pipe_type (ground_labels s ls) (ground_pipe s p) (ground s t) h) x c)
        (λ c. seen_part t (result_type (ground_labels s ls) (ground_pipe s p) (ground s t) h) x c))
    seen_part (rec fs r) h x e =
        seen_fields [] fs (λ before. sees_tail x before r) (ground_tail s r) x (λ before d c. seen_tail before r d x c) (λ l off. record_field (ground_fields s fs (ground_tail s r)) h l) e
    seen_part (stream fs r) h x e =
        seen_fields [] fs (λ before. sees_tail x before r) (ground_tail s r) x (λ before d c. seen_tail before r d x c) (λ l off. stream_field (ground_fields s fs (ground_tail s r)) h l) e
    seen_part _ h x e = absurd (true≢false (sym e))

    pub seen_labels : (before : List Label) (ls : Labels) → ((l : Label) → listed l before ≡ false → IsTypeField (ground_labels s ls l)) → (x : Variable) → sees_labels x before ls ≡ true
        → IsTypeField (value s (as_part x))
    seen_labels before no_labels h x e = absurd (true≢false (sym e))
    seen_labels before (more_labels k t ls) h x e =
        split (unless (listed k before) (sees x t)) (sees_labels x (k ∷ before) ls) e
        (λ d. seen_part t (at_first k (g_is (ground s t)) (ground_labels s ls k) (h k (unless_split (listed k before) (sees x t) d).0)) x (unless_split (listed k before) (sees x t) d).1)
        (λ d. seen_labels (k ∷ before) ls (λ l off. at_later l k (g_is (ground s t)) (ground_labels s ls l) (listed_apart l k before off).0 (h l (listed_apart l k before off).1)) x d)

    seen_pipe : (p : Pipe) → IsTypeField (ground_pipe s p) → (x : Variable) → sees_pipe x p ≡ true → IsTypeField (value s (as_part x))
    seen_pipe no_pipe h x e = absurd (true≢false (sym e))
    seen_pipe (by_pipe t) h x e = seen_part t h x e

    seen_field : (f : Field) → IsTypeField (ground_field s f) → (x : Variable) → sees_field x f ≡ true → IsTypeField (value s (as_part x))
    seen_field absent h x e = absurd (true≢false (sym e))
    seen_field (is t) h x e = seen_part t h x e
    seen_field (field_variable n) h x e = seen_variable n h x e

    seen_fields : (before : List Label) (fs : Fields) (rest : List Label → Bool) (a : GroundRow) (x : Variable)
        → ((behind : List Label) → ((l : Label) → listed l behind ≡ false → IsTypeField (a l)) → rest behind ≡ true → IsTypeField (value s (as_part x)))
        → ((l : Label) → listed l before ≡ false → IsTypeField (ground_fields s fs a l)) → sees_fields x before fs rest ≡ true → IsTypeField (value s (as_part x))
    seen_fields before no_fields rest a x found h e = found before h e
    seen_fields before (more_fields k f fs) rest a x found h e =
        split (unless (listed k before) (sees_field x f)) (sees_fields x (k ∷ before) fs rest) e
        (λ d. seen_field f (at_first k (ground_field s f) (ground_fields s fs a k) (h k (unless_split (listed k before) (sees_field x f) d).0)) x (unless_split (listed k before) (sees_field x f) d).1)
        (λ d. seen_fields (k ∷ before) fs rest a x found (λ l off. at_later l k (ground_field s f) (ground_fields s fs a l) (listed_apart l k before off).0 (h l (listed_apart l k before off).1)) d)

    seen_tail : (before : List Label) (r : Tail) → ((l : Label) → listed l before ≡ false → IsTypeField (ground_tail s r l)) → (x : Variable) → sees_tail x before r ≡ true
        → IsTypeField (value s (as_part x))
    seen_tail before (default f) h x e = seen_field f (h (fresh_label before []).0 (fresh_label before []).1) x e
    seen_tail before (row_variable n) h x e = seen_row before n h x e

-- a row variable that a term shows is shown at all labels but finitely many, where it has one plain field

module _ (s : Solution) (r : ℕ) where
  abbrev pub Rest : (Label → Bool) → Type 0
  Rest see =
      ((l : Label) → see l ≡ false)
      ⊎ ((ls : List Label) × (d : GroundField) × IsTrue (is_plain d) × ((l : Label) → listed l ls ≡ false → (see l ≡ true) × (s.row_of r l ≡ d)))

  pub rest_or : (f g : Label → Bool) → Rest f → Rest g → Rest (λ l. f l || g l)
  rest_or f g (inr a) b = inr (a.0, a.1, a.2, λ l off. (or_left (f l) (g l) (a.3 l off).0, (a.3 l off).1))
  rest_or f g (inl a) (inr b) = inr (b.0, b.1, b.2, λ l off. (or_right (f l) (g l) (b.3 l off).0, (b.3 l off).1))
  rest_or f g (inl a) (inl b) = inl (λ l. or_none (f l) (g l) (a l) (b l))

  rest_unless : (c : Bool) (f : Label → Bool) → (c ≡ false → Rest f) → Rest (λ l. unless c (f l))
  rest_unless true f h = inl (λ l. refl)
  rest_unless false f h = h refl

  -- a row with one plain field off the labels, which are more than those before
  abbrev Off : List Label → GroundRow → Type 0
  Off before row = (ls : List Label) × (d : GroundField) × IsTrue (is_plain d) × ((l : Label) → listed l ls ≡ false → (listed l before ≡ false) × (row l ≡ d))

  off_later : (k : Label) (before : List Label) (a : GroundField) (row : GroundRow) → Off before (λ l. if same_text l k then a else row l) → Off (k ∷ before) row
  off_later k before a row h = (
    k ∷ h.0,
    h.1,
    h.2,
    λ l off.
        (let apart : (same_text l k ≡ false) × (listed l h.0 ≡ false) = listed_apart l k h.0 off in (
          passed (same_text l k) true (listed l before) apart.0 ∙ (h.3 l apart.1).0,
          sym (passed (same_text l k) a (row l) apart.0) ∙ (h.3 l apart.1).1,
        )),
  )

  rest_row : (before : List Label) (n : ℕ) → Off before (s.row_of n) → Rest (λ l. is_row_off (slot_node r l) before n)
  rest_row before n h =
      by_cases (r == n)
      (λ e. inr (h.0, h.1, h.2, λ l off. (and_both (r == n) (not (listed l before)) e (not_false (listed l before) (h.3 l off).0), ap (λ k. s.row_of k l) (eqb-true r n e) ∙ (h.3 l off).1)))
      (λ e. inl (λ l. ap (λ c. c && not (listed l before)) e))

  record_off : (row : GroundRow) → IsType (g_rec row) → Off [] row
  record_off row h = (h.0.0.2.0, h.0.0.0, h.0.0.1, λ l off. (refl, h.0.0.2.1 l off))

  stream_off : (row : GroundRow) → IsType (g_stream row) → Off [] row
  stream_off row h =
      let d : (d : GroundField) × HasDefault row d = h.0.0 in
      let l : (l : Label) × (listed l d.1.0 ≡ false) × (listed l [] ≡ false) = fresh_label d.1.0 [] in
      (d.1.0, d.0, subst (λ g. IsTrue (is_plain g)) (d.1.1 l.0 l.1) (h.0.1 l.0), λ k off. (refl, d.1.1 k off))

  mutual
    pub rest_term : (t : Term) → IsType (ground s t) → Rest (λ l. sees (slot_node r l) t)
    rest_term (array t) h = rest_term t (element_type (ground s t) h)
    rest_term (fun ls p t) h =
        rest_or (λ l. sees_labels (slot_node r l) [] ls) (λ l. sees_pipe (slot_node r l) p || sees (slot_node r l) t)
        (rest_labels [] ls (λ l off. label_type (ground_labels s ls) (ground_pipe s p) (ground s t) h l))
        (rest_or (λ l. sees_pipe (slot_node r l) p) (λ l. sees (slot_node r l) t) (rest_pipe p (pipe_type (ground_labels s ls) (ground_pipe s p) (ground s t) h))
        (rest_term t (result_type (ground_labels s ls) (ground_pipe s p) (ground s t) h)))
    rest_term (rec fs t) h =
        rest_fields [] fs (λ l before. sees_tail (slot_node r l) before t) (ground_tail s t) (λ before d off. rest_tail before t d off)
        (λ l off. record_field (ground_fields s fs (ground_tail s t)) h l) (record_off (ground_fields s fs (ground_tail s t)) h)
    rest_term (stream fs t) h =
        rest_fields [] fs (λ l before. sees_tail (slot_node r l) before t) (ground_tail s t) (λ before d off. rest_tail before t d off)
        (λ l off. stream_field (ground_fields s fs (ground_tail s t)) h l) (stream_off (ground_fields s fs (ground_tail s t)) h)
    rest_term _ h = inl (λ l. refl)

    pub rest_labels : (before : List Label) (ls : Labels) → ((l : Label) → listed l before ≡ false → IsTypeField (ground_labels s ls l)) → Rest (λ l. sees_labels (slot_node r l) before ls)
    rest_labels before no_labels h = inl (λ l. refl)
    rest_labels before (more_labels k t ls) h =
        rest_or (λ l. unless (listed k before) (sees (slot_node r l) t)) (λ l. sees_labels (slot_node r l) (k ∷ before) ls)
        (rest_unless (listed k before) (λ l. sees (slot_node r l) t) (λ e. rest_term t (at_first s k (g_is (ground s t)) (ground_labels s ls k) (h k e))))
        (rest_labels (k ∷ before) ls (λ l off. at_later s l k (g_is (ground s t)) (ground_labels s ls l) (listed_apart l k before off).0 (h l (listed_apart l k before off).1)))

    rest_pipe : (p : Pipe) → IsTypeField (ground_pipe s p) → Rest (λ l. sees_pipe (slot_node r l) p)
    rest_pipe no_pipe h = inl (λ l. refl)
    rest_pipe (by_pipe t) h = rest_term t h

    rest_field : (f : Field) → IsTypeField (ground_field s f) → Rest (λ l. sees_field (slot_node r l) f)
    rest_field absent h = inl (λ l. refl)
    rest_field (is t) h = rest_term t h
    rest_field (field_variable n) h = inl (λ l. refl)

    rest_fields : (before : List Label) (fs : Fields) (rest : Label → List Label → Bool) (a : GroundRow)
        → ((behind : List Label) → ((l : Label) → listed l behind ≡ false → IsTypeField (a l)) → Off behind a → Rest (λ l. rest l behind))
        → ((l : Label) → listed l before ≡ false → IsTypeField (ground_fields s fs a l)) → Off before (ground_fields s fs a) → Rest (λ l. sees_fields (slot_node r l) before fs (rest l))
    rest_fields before no_fields rest a found h off = found before h off
    rest_fields before (more_fields k f fs) rest a found h off =
        rest_or (λ l. unless (listed k before) (sees_field (slot_node r l) f)) (λ l. sees_fields (slot_node r l) (k ∷ before) fs (rest l))
        (rest_unless (listed k before) (λ l. sees_field (slot_node r l) f) (λ e. rest_field f (at_first s k (ground_field s f) (ground_fields s fs a k) (h k e))))
        (rest_fields (k ∷ before) fs rest a found (λ l d. at_later s l k (ground_field s f) (ground_fields s fs a l) (listed_apart l k before d).0 (h l (listed_apart l k before d).1))
        (off_later k before (ground_field s f) (ground_fields s fs a) off))

    rest_tail : (before : List Label) (t : Tail) → ((l : Label) → listed l before ≡ false → IsTypeField (ground_tail s t l)) → Off before (ground_tail s t)
        → Rest (λ l. sees_tail (slot_node r l) before t)
    rest_tail before (default f) h off = rest_field f (h (fresh_label before []).0 (fresh_label before []).1)
    rest_tail before (row_variable n) h off = rest_row before n off

-- the solution that is kept where a test says so

abbrev pub AllSeen : (Variable → Bool) → Solution → Type 0
AllSeen test s = ((x : Variable) → test x ≡ true → IsTypeField (value s (as_part x))) × ((r : ℕ) → Rest s r (λ l. test (slot_node r l)))

kept_row : (test : Variable → Bool) (s : Solution) → AllSeen test s → (r : ℕ) → IsRow ((kept_at test s).row_of r)
kept_row test s h r = (default (h.1 r), field)
  where
    field : (l : Label) → IsTypeField ((kept_at test s).row_of r l)
    field l = by_cases (test (slot_node r l))
        (λ e. subst IsTypeField (sym (chosen (test (slot_node r l)) (s.row_of r l) g_absent e)) (h.0 (slot_node r l) e))
        (λ e. subst IsTypeField (sym (passed (test (slot_node r l)) (s.row_of r l) g_absent e)) (tt, tt))

    default : Rest s r (λ l. test (slot_node r l)) → (d : GroundField) × IsTrue (is_plain d) × HasDefault ((kept_at test s).row_of r) d
    default (inl none) = (g_absent, refl, ([], λ l off. passed (test (slot_node r l)) (s.row_of r l) g_absent (none l)))
    default (inr a) = (a.1, a.2, (a.0, λ l off. chosen (test (slot_node r l)) (s.row_of r l) g_absent (a.3 l off).0 ∙ (a.3 l off).1))

pub kept_within : (test : Variable → Bool) (s : Solution) → AllSeen test s → Within (kept_at test s)
kept_within test s h = (types, fields, kept_row test s h)
  where
    types : (n : ℕ) → IsType ((kept_at test s).type_of n)
    types n = by_cases (test (type_node n))
        (λ e. subst IsType (sym (chosen (test (type_node n)) (s.type_of n) g_int e)) (h.0 (type_node n) e))
        (λ e. subst IsType (sym (passed (test (type_node n)) (s.type_of n) g_int e)) (tt, omega arith))

    fields : (n : ℕ) → IsTypeField ((kept_at test s).field_of n)
    fields n = by_cases (test (field_node n))
        (λ e. subst IsTypeField (sym (chosen (test (field_node n)) (s.field_of n) g_absent e)) (h.0 (field_node n) e))
        (λ e. subst IsTypeField (sym (passed (test (field_node n)) (s.field_of n) g_absent e)) (tt, tt))

pub kept_value : (test : Variable → Bool) (s : Solution) (x : Variable) → test x ≡ true → value (kept_at test s) (as_part x) ≡ value s (as_part x)
kept_value test s (type_node n) e = ap g_is (chosen (test (type_node n)) (s.type_of n) g_int e)
kept_value test s (field_node n) e = chosen (test (field_node n)) (s.field_of n) g_absent e
kept_value test s (slot_node r l) e = chosen (test (slot_node r l)) (s.row_of r l) g_absent e

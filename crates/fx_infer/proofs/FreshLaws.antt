-- Variables with a number that nothing else has: they may stand for any type or row.
use Rattle.std.proofs.Common.{◌≡◌, ◌↔◌, refl, sym, subst, ℕ, zero, suc, ◌≤◌, ◌<◌, arith}
use Rattle.fx_types.specs.Agree.{Agree}
use Rattle.fx_types.specs.Ground.{Ground, GroundRow, g_rec}
use Rattle.fx_types.specs.Instance.{Solution}
use Rattle.fx_types.specs.Size.{IsType}
use Rattle.fx_types.proofs.PartLaws.{record_field}
use Rattle.fx_unify.specs.declared.bindings.Bindings.{Bindings}
use Rattle.fx_unify.specs.Solutions.{Solves, next_of}
use Rattle.fx_unify.specs.Work.{Within, IsRow}
use Rattle.fx_unify.proofs.AskLaws.{unrestricted}
use Rattle.fx_infer.specs.Infers.{Infers}

-- f with a at the number n
pub at_number : {A : Type 0} → ℕ → A → (ℕ → A) → ℕ → A
at_number zero a f zero = a
at_number zero a f (suc m) = f (suc m)
at_number (suc n) a f zero = f zero
at_number (suc n) a f (suc m) = at_number n a (λ i. f (suc i)) m

pub there : {A : Type 0} (n : ℕ) (a : A) (f : ℕ → A) → at_number n a f n ≡ a
unfolding at_number
there zero a f = refl
there (suc n) a f = there n a (λ i. f (suc i))

before : {A : Type 0} (n : ℕ) (a : A) (f : ℕ → A) (m : ℕ) → m < n → f m ≡ at_number n a f m
unfolding at_number
before zero a f m lt = absurd (omega arith)
before (suc n) a f zero lt = refl
before (suc n) a f (suc m) lt = before n a (λ i. f (suc i)) m (omega arith)

all_of : {A : Type 0} (P : A → Type 0) (n : ℕ) (a : A) (f : ℕ → A) → P a → ((i : ℕ) → P (f i)) → (m : ℕ) → P (at_number n a f m)
unfolding at_number
all_of P zero a f p ps zero = p
all_of P zero a f p ps (suc m) = ps (suc m)
all_of P (suc n) a f p ps zero = ps zero
all_of P (suc n) a f p ps (suc m) = all_of P n a (λ i. f (suc i)) p (λ i. ps (suc i)) m

abbrev pub with_type : ℕ → Ground → Solution → Solution
with_type n t s = record { type_of = at_number n t s.type_of; field_of = s.field_of; row_of = s.row_of }

abbrev pub with_row : ℕ → GroundRow → Solution → Solution
with_row n r s = record { type_of = s.type_of; field_of = s.field_of; row_of = at_number n r s.row_of }

pub record_row : (r : GroundRow) → IsType (g_rec r) → IsRow r
record_row r h = (h.0.0, record_field r h)

pub type_agrees : (n : ℕ) (t : Ground) (s : Solution) → Agree n s (with_type n t s)
type_agrees n t s = λ m lt. (before n t s.type_of m lt, refl, refl)

pub row_agrees : (n : ℕ) (r : GroundRow) (s : Solution) → Agree n s (with_row n r s)
row_agrees n r s = λ m lt. (refl, refl, before n r s.row_of m lt)

pub type_within : (n : ℕ) (t : Ground) (s : Solution) → IsType t → Within s → Within (with_type n t s)
type_within n t s is within = (all_of IsType n t s.type_of is within.0, within.1, within.2)

pub row_within : (n : ℕ) (r : GroundRow) (s : Solution) → IsRow r → Within s → Within (with_row n r s)
row_within n r s is within = (within.0, within.1, all_of IsRow n r s.row_of is within.2)

-- a type variable that is asked to be a type
pub fresh_type : (old new : Bindings) (n : ℕ) → n ≡ next_of old → next_of old ≤ next_of new → n < next_of new
    → ((s : Solution) → Solves s new ↔ (Solves s old × IsType (s.type_of n))) → Infers (λ s t. IsType t) old new (λ s. s.type_of n)
fresh_type old new n first le lt is = record {
  more = le;
  below = λ s q agree. (agree n lt).0;
  keeps = λ s h. ((is s).0 h).0;
  sound = λ s h. ((is s).0 h).1;
  complete = complete;
}
  where
    complete : (s : Solution) → Solves s old → Within s → (t : Ground) → IsType t → (q : Solution) × Agree (next_of old) s q × Solves q new × Within q × (q.type_of n ≡ t)
    complete s h within t ty =
        let agree : Agree (next_of old) s (with_type n t s) = subst (λ m. Agree m s (with_type n t s)) first (type_agrees n t s) in
        let still : Solves (with_type n t s) old = unrestricted old s (with_type n t s) agree h in
        let found : at_number n t s.type_of n ≡ t = there n t s.type_of in
        (with_type n t s, agree, (is (with_type n t s)).1 (still, subst IsType (sym found) ty), type_within n t s ty within, found)

-- a row variable whose record is asked to be a type
pub fresh_row : (old new : Bindings) (n : ℕ) → n ≡ next_of old → next_of old ≤ next_of new → n < next_of new
    → ((s : Solution) → Solves s new ↔ (Solves s old × IsType (g_rec (s.row_of n)))) → Infers (λ s r. IsType (g_rec r)) old new (λ s. s.row_of n)
fresh_row old new n first le lt is = record {
  more = le;
  below = λ s q agree. (agree n lt).2;
  keeps = λ s h. ((is s).0 h).0;
  sound = λ s h. ((is s).0 h).1;
  complete = complete;
}
  where
    complete : (s : Solution) → Solves s old → Within s → (r : GroundRow) → IsType (g_rec r)
        → (q : Solution) × Agree (next_of old) s q × Solves q new × Within q × (q.row_of n ≡ r)
    complete s h within r ty =
        let agree : Agree (next_of old) s (with_row n r s) = subst (λ m. Agree m s (with_row n r s)) first (row_agrees n r s) in
        let still : Solves (with_row n r s) old = unrestricted old s (with_row n r s) agree h in
        let found : at_number n r s.row_of n ≡ r = there n r s.row_of in
        (with_row n r s, agree, (is (with_row n r s)).1 (still, subst (λ row. IsType (g_rec row)) (sym found) ty), row_within n r s (record_row r ty) within, found)

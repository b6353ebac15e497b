-- Solutions that agree on the numbers of a term make the same of it.
use Rattle.std.proofs.Common.{◌≡◌, refl, ap, ℕ, ◌≤◌, arith}
use Rattle.std.specs.Prelude.{if◌then◌else◌}
use Rattle.fx_base.specs.Text.{same_text}
use Rattle.fx_types.specs.Term.{Label, Term, bool, int, text, time, span, pattern, done, type_variable, array, fun, rec, stream, Labels, no_labels, more_labels, Pipe, no_pipe, by_pipe, Field, absent, is, field_variable, Fields, no_fields, more_fields, Tail, default, row_variable}
use Rattle.fx_types.specs.Ground.{GroundRow, g_array, g_fun, g_rec, g_stream, g_is}
use Rattle.fx_types.specs.Instance.{Solution, ground, ground_labels, ground_pipe, ground_field, ground_fields, ground_tail}
use Rattle.fx_types.specs.Numbers.{numbers, numbers_labels, numbers_pipe, numbers_field, numbers_fields, numbers_tail}
use Rattle.fx_types.specs.Agree.{Agree}

pub agree_less : (n m : ℕ) (s q : Solution) → Agree n s q → m ≤ n → Agree m s q
agree_less n m s q h le = λ i lt. h i (omega arith)

module _ (n : ℕ) (s q : Solution) (h : Agree n s q) where
  mutual
    pub agree_term : (t : Term) → numbers t ≤ n → ground s t ≡ ground q t
    agree_term bool le = refl
    agree_term int le = refl
    agree_term text le = refl
    agree_term time le = refl
    agree_term span le = refl
    agree_term pattern le = refl
    agree_term done le = refl
    agree_term (type_variable m) le = (h m (omega arith)).0
    agree_term (array t) le = ap g_array (agree_term t le)
    agree_term (fun ls p t) le =
        λ i. g_fun (λ l. agree_labels ls (omega arith) l i) (agree_pipe p (omega arith) i) (agree_term t (omega arith) i)
    agree_term (rec fs r) le = λ i. g_rec (λ l. agree_fields fs (ground_tail s r) (ground_tail q r) (omega arith) (λ k. agree_tail r (omega arith) k) l i)
    agree_term (stream fs r) le = λ i. g_stream (λ l. agree_fields fs (ground_tail s r) (ground_tail q r) (omega arith) (λ k. agree_tail r (omega arith) k) l i)

    agree_labels : (ls : Labels) → numbers_labels ls ≤ n → (l : Label) → ground_labels s ls l ≡ ground_labels q ls l
    agree_labels no_labels le l = refl
    agree_labels (more_labels x t ls) le l = λ i. if same_text l x then g_is (agree_term t (omega arith) i) else agree_labels ls (omega arith) l i

    agree_pipe : (p : Pipe) → numbers_pipe p ≤ n → ground_pipe s p ≡ ground_pipe q p
    agree_pipe no_pipe le = refl
    agree_pipe (by_pipe t) le = ap g_is (agree_term t le)

    agree_field : (f : Field) → numbers_field f ≤ n → ground_field s f ≡ ground_field q f
    agree_field absent le = refl
    agree_field (is t) le = ap g_is (agree_term t le)
    agree_field (field_variable m) le = (h m (omega arith)).1

    agree_fields : (fs : Fields) (r o : GroundRow) → numbers_fields fs ≤ n → ((k : Label) → r k ≡ o k) → (l : Label) → ground_fields s fs r l ≡ ground_fields q fs o l
    agree_fields no_fields r o le rest l = rest l
    agree_fields (more_fields x f fs) r o le rest l = λ i. if same_text l x then agree_field f (omega arith) i else agree_fields fs r o (omega arith) rest l i

    agree_tail : (r : Tail) → numbers_tail r ≤ n → (l : Label) → ground_tail s r l ≡ ground_tail q r l
    agree_tail (default f) le l = agree_field f le
    agree_tail (row_variable m) le l = ap (λ row. row l) (h m (omega arith)).2

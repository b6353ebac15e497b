-- Terms with greater numbers: what they become, and solutions put together.
use Rattle.std.proofs.Common.{◌≡◌, refl, ap, ◌∙◌, ℕ, zero, suc, ◌+◌, ◌≤◌, ◌<◌, arith}
use Rattle.std.specs.Prelude.{if◌then◌else◌}
use Rattle.fx_base.specs.Text.{same_text}
use Rattle.fx_types.specs.Agree.{Agree}
use Rattle.fx_types.specs.Ground.{GroundRow, g_array, g_fun, g_rec, g_stream, g_is}
use Rattle.fx_types.specs.Instance.{Solution, ground, ground_labels, ground_pipe, ground_field, ground_fields, ground_tail}
use Rattle.fx_types.specs.Numbers.{numbers, numbers_labels, numbers_pipe, numbers_field, numbers_fields, numbers_tail}
use Rattle.fx_types.specs.Raised.{raised, raised_labels, raised_pipe, raised_field, raised_fields, raised_tail, from, splice, spliced}
use Rattle.fx_types.specs.Term.{Label, Term, bool, int, text, time, span, pattern, done, type_variable, array, fun, rec, stream, Labels, no_labels, more_labels, Pipe, no_pipe, by_pipe, Field, absent, is, field_variable, Fields, no_fields, more_fields, Tail, default, row_variable}

-- the raised term becomes what the term becomes by the greater numbers
module _ (k : ℕ) (s : Solution) where
  mutual
    pub ground_raised : (t : Term) → ground s (raised k t) ≡ ground (from k s) t
    ground_raised bool = refl
    ground_raised int = refl
    ground_raised text = refl
    ground_raised time = refl
    ground_raised span = refl
    ground_raised pattern = refl
    ground_raised done = refl
    ground_raised (type_variable n) = refl
    ground_raised (array t) = ap g_array (ground_raised t)
    ground_raised (fun ls p t) = λ i. g_fun (λ l. labels_raised ls l i) (pipe_raised p i) (ground_raised t i)
    ground_raised (rec fs r) = λ i. g_rec (λ l. fields_raised fs (ground_tail s (raised_tail k r)) (ground_tail (from k s) r) (λ m. tail_raised r m) l i)
    ground_raised (stream fs r) = λ i. g_stream (λ l. fields_raised fs (ground_tail s (raised_tail k r)) (ground_tail (from k s) r) (λ m. tail_raised r m) l i)

    labels_raised : (ls : Labels) (l : Label) → ground_labels s (raised_labels k ls) l ≡ ground_labels (from k s) ls l
    labels_raised no_labels l = refl
    labels_raised (more_labels x t ls) l = λ i. if same_text l x then g_is (ground_raised t i) else labels_raised ls l i

    pipe_raised : (p : Pipe) → ground_pipe s (raised_pipe k p) ≡ ground_pipe (from k s) p
    pipe_raised no_pipe = refl
    pipe_raised (by_pipe t) = ap g_is (ground_raised t)

    field_raised : (f : Field) → ground_field s (raised_field k f) ≡ ground_field (from k s) f
    field_raised absent = refl
    field_raised (is t) = ap g_is (ground_raised t)
    field_raised (field_variable n) = refl

    fields_raised : (fs : Fields) (r o : GroundRow) → ((m : Label) → r m ≡ o m) → (l : Label) → ground_fields s (raised_fields k fs) r l ≡ ground_fields (from k s) fs o l
    fields_raised no_fields r o rest l = rest l
    fields_raised (more_fields x f fs) r o rest l = λ i. if same_text l x then field_raised f i else fields_raised fs r o rest l i

    tail_raised : (r : Tail) (l : Label) → ground_tail s (raised_tail k r) l ≡ ground_tail (from k s) r l
    tail_raised (default f) l = field_raised f
    tail_raised (row_variable n) l = refl

module _ (k : ℕ) where
  mutual
    pub numbers_raised : (t : Term) → numbers (raised k t) ≤ numbers t + k
    numbers_raised bool = omega arith
    numbers_raised int = omega arith
    numbers_raised text = omega arith
    numbers_raised time = omega arith
    numbers_raised span = omega arith
    numbers_raised pattern = omega arith
    numbers_raised done = omega arith
    numbers_raised (type_variable n) = omega arith
    numbers_raised (array t) = numbers_raised t
    numbers_raised (fun ls p t) =
        let a : numbers_labels (raised_labels k ls) ≤ numbers_labels ls + k = labels_numbers ls in
        let b : numbers_pipe (raised_pipe k p) ≤ numbers_pipe p + k = pipe_numbers p in
        let c : numbers (raised k t) ≤ numbers t + k = numbers_raised t in
        omega arith
    numbers_raised (rec fs r) =
        let a : numbers_fields (raised_fields k fs) ≤ numbers_fields fs + k = fields_numbers fs in
        let b : numbers_tail (raised_tail k r) ≤ numbers_tail r + k = tail_numbers r in
        omega arith
    numbers_raised (stream fs r) =
        let a : numbers_fields (raised_fields k fs) ≤ numbers_fields fs + k = fields_numbers fs in
        let b : numbers_tail (raised_tail k r) ≤ numbers_tail r + k = tail_numbers r in
        omega arith

    labels_numbers : (ls : Labels) → numbers_labels (raised_labels k ls) ≤ numbers_labels ls + k
    labels_numbers no_labels = omega arith
    labels_numbers (more_labels x t ls) =
        let a : numbers (raised k t) ≤ numbers t + k = numbers_raised t in
        let b : numbers_labels (raised_labels k ls) ≤ numbers_labels ls + k = labels_numbers ls in
        omega arith

    pipe_numbers : (p : Pipe) → numbers_pipe (raised_pipe k p) ≤ numbers_pipe p + k
    pipe_numbers no_pipe = omega arith
    pipe_numbers (by_pipe t) = numbers_raised t

    field_numbers : (f : Field) → numbers_field (raised_field k f) ≤ numbers_field f + k
    field_numbers absent = omega arith
    field_numbers (is t) = numbers_raised t
    field_numbers (field_variable n) = omega arith

    fields_numbers : (fs : Fields) → numbers_fields (raised_fields k fs) ≤ numbers_fields fs + k
    fields_numbers no_fields = omega arith
    fields_numbers (more_fields x f fs) =
        let a : numbers_field (raised_field k f) ≤ numbers_field f + k = field_numbers f in
        let b : numbers_fields (raised_fields k fs) ≤ numbers_fields fs + k = fields_numbers fs in
        omega arith

    tail_numbers : (r : Tail) → numbers_tail (raised_tail k r) ≤ numbers_tail r + k
    tail_numbers (default f) = field_numbers f
    tail_numbers (row_variable n) = omega arith

-- solutions put together

splice_below : {A : Type 0} (m : ℕ) (f g : ℕ → A) (n : ℕ) → n < m → f n ≡ splice m f g n
splice_below zero f g n lt = absurd (omega arith)
splice_below (suc m) f g zero lt = refl
splice_below (suc m) f g (suc n) lt = splice_below m (λ i. f (suc i)) g n (omega arith)

splice_from : {A : Type 0} (m : ℕ) (f g : ℕ → A) (n : ℕ) → splice m f g (n + m) ≡ g n
splice_from zero f g n = let same : n + 0 ≡ n = omega arith in ap g same
splice_from (suc m) f g n = let same : n + suc m ≡ suc (n + m) = omega arith in ap (splice (suc m) f g) same ∙ splice_from m (λ i. f (suc i)) g n

pub spliced_agrees : (m : ℕ) (s q : Solution) → Agree m s (spliced m s q)
spliced_agrees m s q n lt =
    (splice_below m s.type_of q.type_of n lt, splice_below m s.field_of q.field_of n lt, splice_below m s.row_of q.row_of n lt)

pub from_spliced : (m : ℕ) (s q : Solution) → from m (spliced m s q) ≡ q
from_spliced m s q =
    λ i. record {
      type_of = λ n. splice_from m s.type_of q.type_of n i;
      field_of = λ n. splice_from m s.field_of q.field_of n i;
      row_of = λ n. splice_from m s.row_of q.row_of n i;
    }

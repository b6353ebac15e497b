-- Terms in which each variable has a greater number, and what solutions give to these numbers.
use Rattle.std.specs.Prelude.{ℕ, zero, suc, ◌+◌}
use Rattle.fx_types.specs.Term.{Term, bool, int, text, time, span, pattern, done, type_variable, array, fun, rec, stream, Labels, no_labels, more_labels, Pipe, no_pipe, by_pipe, Field, absent, is, field_variable, Fields, no_fields, more_fields, Tail, default, row_variable, Function, Row}
use Rattle.fx_types.specs.Instance.{Solution}

-- each number is greater by k
abbrev mutual
  pub raised : ℕ → Term → Term
  raised k bool = bool
  raised k int = int
  raised k text = text
  raised k time = time
  raised k span = span
  raised k pattern = pattern
  raised k done = done
  raised k (type_variable n) = type_variable (n + k)
  raised k (array t) = array (raised k t)
  raised k (fun ls p t) = fun (raised_labels k ls) (raised_pipe k p) (raised k t)
  raised k (rec fs r) = rec (raised_fields k fs) (raised_tail k r)
  raised k (stream fs r) = stream (raised_fields k fs) (raised_tail k r)

  pub raised_labels : ℕ → Labels → Labels
  raised_labels k no_labels = no_labels
  raised_labels k (more_labels x t ls) = more_labels x (raised k t) (raised_labels k ls)

  pub raised_pipe : ℕ → Pipe → Pipe
  raised_pipe k no_pipe = no_pipe
  raised_pipe k (by_pipe t) = by_pipe (raised k t)

  pub raised_field : ℕ → Field → Field
  raised_field k absent = absent
  raised_field k (is t) = is (raised k t)
  raised_field k (field_variable n) = field_variable (n + k)

  pub raised_fields : ℕ → Fields → Fields
  raised_fields k no_fields = no_fields
  raised_fields k (more_fields x f fs) = more_fields x (raised_field k f) (raised_fields k fs)

  pub raised_tail : ℕ → Tail → Tail
  raised_tail k (default f) = default (raised_field k f)
  raised_tail k (row_variable n) = row_variable (n + k)

abbrev pub raised_function : ℕ → Function → Function
raised_function k f = record { required = raised_labels k f.required; pipe = raised_pipe k f.pipe; result = raised k f.result }

abbrev pub raised_row : ℕ → Row → Row
raised_row k r = record { fields = raised_fields k r.fields; rest = raised_tail k r.rest }

-- what the solution gives to the numbers from k on
abbrev pub from : ℕ → Solution → Solution
from k s = record { type_of = λ n. s.type_of (n + k); field_of = λ n. s.field_of (n + k); row_of = λ n. s.row_of (n + k) }

-- f below the number m, and g from there on
abbrev pub splice : {A : Type 0} → ℕ → (ℕ → A) → (ℕ → A) → ℕ → A
splice zero f g n = g n
splice (suc m) f g zero = f zero
splice (suc m) f g (suc n) = splice m (λ i. f (suc i)) g n

-- the first solution below the number m, and from there on the second
abbrev pub spliced : ℕ → Solution → Solution → Solution
spliced m s q =
    record {
      type_of = splice m s.type_of q.type_of;
      field_of = splice m s.field_of q.field_of;
      row_of = splice m s.row_of q.row_of;
    }

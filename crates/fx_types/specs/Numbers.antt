-- The numbers of the variables of a term: one more than the greatest, or 0 where there is none.
use Rattle.std.specs.Prelude.{ℕ, ◌+◌, max}
use Rattle.fx_types.specs.Term.{Term, type_variable, array, fun, rec, stream, Labels, no_labels, more_labels, Pipe, no_pipe, by_pipe, Field, is, field_variable, Fields, no_fields, more_fields, Tail, default, row_variable}

abbrev mutual
  pub numbers : Term → ℕ
  numbers (type_variable n) = n + 1
  numbers (array t) = numbers t
  numbers (fun ls p t) = max (max (numbers_labels ls) (numbers_pipe p)) (numbers t)
  numbers (rec fs r) = max (numbers_fields fs) (numbers_tail r)
  numbers (stream fs r) = max (numbers_fields fs) (numbers_tail r)
  numbers _ = 0

  pub numbers_labels : Labels → ℕ
  numbers_labels no_labels = 0
  numbers_labels (more_labels x t ls) = max (numbers t) (numbers_labels ls)

  pub numbers_pipe : Pipe → ℕ
  numbers_pipe no_pipe = 0
  numbers_pipe (by_pipe t) = numbers t

  pub numbers_field : Field → ℕ
  numbers_field (is t) = numbers t
  numbers_field (field_variable n) = n + 1
  numbers_field _ = 0

  pub numbers_fields : Fields → ℕ
  numbers_fields no_fields = 0
  numbers_fields (more_fields x f fs) = max (numbers_field f) (numbers_fields fs)

  pub numbers_tail : Tail → ℕ
  numbers_tail (default f) = numbers_field f
  numbers_tail (row_variable n) = n + 1

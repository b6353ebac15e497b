-- Terms in which what is bound has been put in.
use Rattle.std.specs.Prelude.{◌≡◌, ◌⊎◌, ℕ, None}
use Rattle.fx_types.specs.Term.{Label, Term, type_variable, array, fun, rec, stream, Labels, no_labels, more_labels, Pipe, no_pipe, by_pipe, Field, absent, is, field_variable, Fields, no_fields, more_fields, Tail, default, row_variable}
use Rattle.fx_types.specs.Instance.{Solution}
use Rattle.fx_unify.specs.declared.bindings.Bindings as declared
use Rattle.fx_unify.specs.Part.{Entries, Solved, type_node, field_node, slot_node}
use Rattle.fx_unify.specs.Store.{entry}

abbrev pub IsFreeType : Entries → ℕ → Type 0
IsFreeType e n = e (type_node n) ≡ None

-- the field variable is free, or it stands for a row's field at a label, which is free, and for which
-- a term has no other name
abbrev pub IsLastField : Entries → ℕ → Type 0
IsLastField e n =
    (e (field_node n) ≡ None)
    ⊎ ((r : ℕ) × (l : Label) × (e (slot_node r l) ≡ None) × ((s : Solution) → Solved s e → s.field_of n ≡ s.row_of r l))

-- each type variable of the term is free, and each field variable is one of these; row variables stay
abbrev mutual
  pub IsPutIn : Entries → Term → Type 0
  IsPutIn e (type_variable n) = IsFreeType e n
  IsPutIn e (array t) = IsPutIn e t
  IsPutIn e (fun ls p t) = LabelsPutIn e ls × PipePutIn e p × IsPutIn e t
  IsPutIn e (rec fs r) = FieldsPutIn e fs × RestPutIn e r
  IsPutIn e (stream fs r) = FieldsPutIn e fs × RestPutIn e r
  IsPutIn e _ = Unit {0}

  pub LabelsPutIn : Entries → Labels → Type 0
  LabelsPutIn e no_labels = Unit {0}
  LabelsPutIn e (more_labels x t ls) = IsPutIn e t × LabelsPutIn e ls

  pub PipePutIn : Entries → Pipe → Type 0
  PipePutIn e no_pipe = Unit {0}
  PipePutIn e (by_pipe t) = IsPutIn e t

  pub FieldPutIn : Entries → Field → Type 0
  FieldPutIn e absent = Unit {0}
  FieldPutIn e (is t) = IsPutIn e t
  FieldPutIn e (field_variable n) = IsLastField e n

  pub FieldsPutIn : Entries → Fields → Type 0
  FieldsPutIn e no_fields = Unit {0}
  FieldsPutIn e (more_fields x f fs) = FieldPutIn e f × FieldsPutIn e fs

  pub RestPutIn : Entries → Tail → Type 0
  RestPutIn e (default f) = FieldPutIn e f
  RestPutIn e (row_variable n) = Unit {0}

-- what the bindings bind has been put in
abbrev pub IsApplied : declared.Bindings → Term → Type 0
IsApplied b t = IsPutIn (entry b.store) t

use Rattle.std.proofs.Common.{sym, ap, ◌∙◌, map}
use Rattle.fx_types.specs.declared.term.FieldTy.TheViews.{out-RowTy}
use Rattle.fx_types.specs.Instance.{ground_fields, ground_tail}
use Rattle.fx_types.specs.Shape.{entry_term, rest_term, fields_of}
use Rattle.fx_unify.proofs.RowLaws.{ground_row_is}
use Rattle.fx_unify.proofs.pick.Entries.of.Goals as goal

pub returns-clause-same : goal.returns-clause-same
returns-clause-same c =
    λ s l. ap (λ es. ground_fields s (fields_of (map entry_term es)) (ground_tail s (rest_term (out-RowTy c.args.row).rest)) l) c.into_vec-fields.ensures ∙ sym (ground_row_is s c.args.row l)

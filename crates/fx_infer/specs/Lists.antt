-- Lists of labels with types, as code keeps them.
use Rattle.std.specs.Prelude.{◌≡◌, ◌↔◌, ◌≤◌, ℕ, List, map}
use Rattle.fx_types.specs.declared.term.LabelTy as entries
use Rattle.fx_types.specs.Instance.{Solution, ground_labels}
use Rattle.fx_types.specs.Numbers.{numbers_labels}
use Rattle.fx_types.specs.Raised.{from}
use Rattle.fx_types.specs.Shape.{label_term, labels_of}
use Rattle.fx_types.specs.Term.{Label, Labels}
use Rattle.fx_unify.specs.declared.bindings.Bindings.{Bindings}
use Rattle.fx_unify.specs.Solutions.{Solves, next_of}
use Rattle.fx_infer.specs.Arguments.{IsTypeOrAbsent}

abbrev pub entry_names : List entries.LabelTy → List Label
entry_names es = map (λ e. e.label) es

abbrev pub labels_in : List entries.LabelTy → Labels
labels_in es = labels_of (map label_term es)

-- rs have what the solution gives to es from the number k on, and the new bindings ask that these are types
pub record AreRaised (k : ℕ) (old : Bindings) (es : List entries.LabelTy) (new : Bindings) (rs : List entries.LabelTy) : Type 0 where
  pub same : (s : Solution) (l : Label) → ground_labels s (labels_in rs) l ≡ ground_labels (from k s) (labels_in es) l
  pub asked : (s : Solution) → Solves s new ↔ (Solves s old × ((l : Label) → IsTypeOrAbsent (ground_labels s (labels_in rs) l)))
  pub more : next_of old ≤ next_of new
  pub below : numbers_labels (labels_in rs) ≤ next_of new

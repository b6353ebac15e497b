-- A call by a line, as inference asks for it.
use Rattle.std.specs.Prelude.{◌≡◌, ◌↔◌, ◌⊎◌, ◌≤◌, List, [], ◌∷◌, Option, None, Some, if◌then◌else◌}
use Rattle.fx_base.specs.Text.{same_text}
use Rattle.fx_types.specs.declared.term.LabelTy as entries
use Rattle.fx_types.specs.Ground.{Ground, GroundField, GroundRow, g_fun, g_absent, g_is}
use Rattle.fx_types.specs.Instance.{Solution, ground_labels}
use Rattle.fx_types.specs.Size.{IsType}
use Rattle.fx_types.specs.Term.{Label}
use Rattle.fx_schemes.specs.Line.{Line}
use Rattle.fx_unify.specs.declared.bindings.Bindings.{Bindings}
use Rattle.fx_unify.specs.Solutions.{Solves, next_of}
use Rattle.fx_infer.specs.Arguments.{IsCall, IsPipe}
use Rattle.fx_infer.specs.Lists.{labels_in}

-- a call with a value from the pipe, or without one; what it gives is a type
abbrev pub IsCalled : GroundField → GroundRow → Line → Ground → Type 0
IsCalled g_absent given L t = IsType t × IsCall given L t
IsCalled (g_is u) given L t = IsType t × IsPipe u given L t

-- at one label: it isn't both required and free to be left out
abbrev pub NotBoth : GroundField → GroundField → Type 0
NotBoth (g_is t) (g_is u) = ⊥
NotBoth _ _ = Unit {0}

-- what comes by a pipe with a label has no other label
abbrev pub IsPipeApart : Option Label → GroundField → GroundRow → GroundRow → Type 0
IsPipeApart None input needs optional = Unit {0}
IsPipeApart (Some x) input needs optional = ((u : Ground) × (input ≡ g_is u)) × (needs x ≡ g_absent) × (optional x ≡ g_absent)

-- no label of the line stands for two of its parts
abbrev pub IsApart : Line → Type 0
IsApart L =
    (needs : GroundRow) (input : GroundField) (t : Ground) → L.type ≡ g_fun needs input t
    → ((l : Label) → NotBoth (needs l) (L.optional l)) × IsPipeApart L.pipe_label input needs L.optional

-- what is given where something may be left out is of its type
abbrev pub Suits : GroundField → GroundField → Type 0
Suits g_absent given = Unit {0}
Suits (g_is t) given = (given ≡ g_absent) ⊎ (given ≡ g_is t)

-- the field, unless something may be left out there
abbrev pub unless_free : GroundField → GroundField → GroundField
unless_free g_absent f = f
unless_free (g_is t) f = g_absent

abbrev pub AllSuit : Solution → List entries.LabelTy → List entries.LabelTy → Type 0
AllSuit s os es = (l : Label) → Suits (ground_labels s (labels_in os) l) (ground_labels s (labels_in es) l)

-- the new bindings ask that the arguments es are of the types of os where os has their labels; the others are ns
pub record AreSplit (old : Bindings) (es os : List entries.LabelTy) (new : Bindings) (ns : List entries.LabelTy) : Type 0 where
  pub asked : (s : Solution) → Solves s new ↔ (Solves s old × AllSuit s os es)
  pub more : next_of old ≤ next_of new
  pub others : (s : Solution) (l : Label) → ground_labels s (labels_in ns) l ≡ unless_free (ground_labels s (labels_in os) l) (ground_labels s (labels_in es) l)

-- the first entry of the label
abbrev pub entry_of : Label → List entries.LabelTy → Option entries.LabelTy
entry_of l [] = None
entry_of l (e ∷ es) = if same_text l e.label then Some e else entry_of l es

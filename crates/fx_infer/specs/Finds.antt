-- What inference answers: None where the question has no result, else bindings and what was found.
use Rattle.std.specs.Prelude.{Option, None, Some, map}
use Rattle.fx_types.specs.Ground.{Ground}
use Rattle.fx_types.specs.Instance.{Solution, ground, ground_labels}
use Rattle.fx_types.specs.Shape.{term, label_term, labels_of}
use Rattle.fx_schemes.specs.Line.{Line}
use Rattle.fx_unify.specs.declared.bindings.Bindings.{Bindings}
use Rattle.fx_infer.specs.declared.ask.Inferred as found
use Rattle.fx_infer.specs.declared.lines.LineTy as lines
use Rattle.fx_infer.specs.declared.lines.Lined as lined
use Rattle.fx_infer.specs.Infers.{Infers, Asks, HasNone}

-- a type
abbrev pub Finds : (Solution → Ground → Type 0) → Bindings → Option found.Inferred → Type 0
Finds T old None = HasNone T old
Finds T old (Some r) = Infers T old r.bindings (λ s. ground s (term r.ty))

-- the line that a line with variables stands for
abbrev pub line_under : Solution → lines.LineTy → Line
line_under s x =
    record {
      labels = x.labels;
      type = ground s (term x.ty);
      optional = ground_labels s (labels_of (map label_term x.optional));
      pipe_label = x.pipe_label;
    }

-- a line
abbrev pub FindsLine : (Solution → Line → Type 0) → Bindings → Option lined.Lined → Type 0
FindsLine T old None = HasNone T old
FindsLine T old (Some r) = Infers T old r.bindings (λ s. line_under s r.line)

-- nothing but bindings
abbrev pub FindsThat : (Solution → Type 0) → Bindings → Option Bindings → Type 0
FindsThat C old None = HasNone {R = Unit {0}} (λ s u. C s) old
FindsThat C old (Some b) = Asks C old b

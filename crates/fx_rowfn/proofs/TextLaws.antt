-- Texts, part by part.
use Rattle.std.proofs.Common.{◌≡◌, ℕ, true, List, [], ◌∷◌, ap, sym, ◌∙◌}
use Rattle.std.specs.Prelude.{Option, None, Some, Result, Ok, Err, if◌then◌else◌}
use Rattle.fx_ast.proofs.ShapeLaws.{part_hole, part_piece}
use Rattle.fx_ast.specs.Shape.{OfPart, a_piece, part, tree_of}
use Rattle.fx_ast.specs.Tree.{Parts, hole, no_parts, piece}
use Rattle.fx_ast.specs.declared.expr.Expr.{Expr}
use Rattle.fx_ast.specs.declared.expr.Part.{Part}
use Rattle.fx_ast.specs.declared.expr.Part.TheVariants as parts
use Rattle.fx_base.specs.declared.fault.FaultKind.{FaultKind}
use Rattle.fx_base.specs.declared.fault.FaultKind.TheVariants.{TooLarge}
use Rattle.fx_base.specs.declared.place.Place.{Place}
use Rattle.fx_meaning.specs.Ends.{answered, cell_at, pure}
use Rattle.fx_meaning.specs.Forms.{cell_in}
use Rattle.fx_ops.specs.Limit.{is_short, limited}
use Rattle.fx_meaning.specs.Meaning.{Tests, means_parts}
use Rattle.fx_meaning.specs.Operators.{behind, printed, text_made}
use Rattle.fx_meaning.specs.Value.{Val, cell}
use Rattle.fx_value.proofs.Ends.{later-zero}
use Rattle.fx_value.specs.Ends.{Gives, and_then, later}
use Rattle.fx_value.specs.declared.scalar.Scalar.{Scalar}
use Rattle.fx_value.specs.declared.scalar.Scalar.TheVariants.{Text}
use Rattle.fx_rowfn.specs.Frame as plain
use Rattle.fx_rowfn.specs.Frame.{Scope, calls_above, unwound}
use Rattle.fx_rowfn.specs.Parts.{with_part}
use Rattle.fx_rowfn.specs.State.{parts_left, resumed_left}
use Rattle.std.specs.Option.{IfSome}
use denote.Bor.{Bor}

pub hole_there : (p : Part) (e : Expr) (rest : Parts) → p ≡ parts.Hole e → with_part (part p) rest ≡ hole (tree_of e) rest
hole_there p e rest is = ap (λ o. with_part o rest) (ap part is ∙ part_hole e)

pub piece_there : (p : Part) (s : List ℕ) (rest : Parts) → p ≡ parts.Piece s → with_part (part p) rest ≡ piece s rest
piece_there p s rest is = ap (λ o. with_part o rest) (ap part is ∙ part_piece s)

module _ (test : Tests) (limit : ℕ) (fs : List plain.Frame) (scope : Scope) (place : Place) (before : Option (List ℕ)) (rest : Parts) where
  -- a piece is to the parts behind it what a hole is that gives its text
  pub piece_left : (s : List ℕ) → parts_left test scope place (piece s rest) before limit fs ≡ unwound test limit (plain.hole scope place before rest ∷ fs) (cell (Text s))
  piece_left s =
      ap (λ e. and_then (and_then e (text_made place)) (unwound test limit fs))
      (sym (later-zero (means_parts test (calls_above test limit fs) scope.setting rest scope.env (behind before (Some s)))))

  pub told_left : (v : Val) (a : Scalar) → cell_in v ≡ Gives a 0
      → resumed_left test (plain.hole scope place before rest) v limit fs ≡ parts_left test scope place rest (behind before (printed a)) limit fs
  told_left v a is =
      let next = λ (b : Scalar). means_parts test (calls_above test limit fs) scope.setting rest scope.env (behind before (printed b)) in
      ap (λ e. and_then (and_then (and_then e next) (text_made place)) (unwound test limit fs)) is
      ∙ ap (λ e. and_then (and_then e (text_made place)) (unwound test limit fs)) (later-zero (next a))

-- a text without holes is its piece
pub lone_left : (test : Tests) (limit : ℕ) (fs : List plain.Frame) (scope : Scope) (place : Place) (ps : Parts) (s : List ℕ) → ps ≡ piece s no_parts
    → parts_left test scope place ps (Some []) limit fs ≡ and_then (cell_at place (limited s)) (unwound test limit fs)
lone_left test limit fs scope place ps s is =
    ap (λ qs. parts_left test scope place qs (Some []) limit fs) is ∙ ap (λ e. and_then e (unwound test limit fs)) (later-zero (cell_at place (limited s)))

-- a text that isn't too long is its value
pub text_fits : (place : Place) (s : List ℕ) → is_short s ≡ true → cell_at place (limited s) ≡ Gives (cell (Text s)) 0
text_fits place s short =
    let is : ◌≡◌ {A = Result Scalar FaultKind} (limited s) (Ok (Text s)) = ap (λ b. if b then Ok (Text s) else Err TooLarge) short in
    ap (cell_at place) is ∙ ap (λ (r : Result Scalar FaultKind). later 0 (and_then (answered place r) (λ b. pure (cell b)))) is

-- no parts are left
pub no_parts_left : (test : Tests) (limit : ℕ) (fs : List plain.Frame) (scope : Scope) (place : Place) (before : Option (List ℕ)) (ps : Parts) → ps ≡ no_parts
    → parts_left test scope place ps before limit fs ≡ and_then (text_made place before) (unwound test limit fs)
no_parts_left test limit fs scope place before ps is =
    ap (λ qs. parts_left test scope place qs before limit fs) is ∙ ap (λ e. and_then e (unwound test limit fs)) (later-zero (text_made place before))

-- the first part is a piece, where one was found
pub piece_first : (ps rest : Parts) (o : OfPart) (r : Option (Bor (List ℕ))) → ps ≡ with_part o rest → IfSome r (λ s. o ≡ a_piece s.now) → IfSome r (λ s. ps ≡ piece s.now rest)
piece_first ps rest o None is found = tt
piece_first ps rest o (Some s) is found = is ∙ ap (λ q. with_part q rest) found

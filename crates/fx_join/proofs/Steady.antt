-- The works of joins have one end under each limit that suffices, where those of their row functions do.
use Rattle.std.proofs.Common.{Bool, true, false, List, [], ◌∷◌}
use Rattle.std.specs.Prelude.{Option, None, Some}
use Rattle.std.specs.FinMap as fin
use Rattle.fx_group.specs.Answer.{Row, Meaning, truth_of, line_of}
use Rattle.fx_join.specs.Join.{matched, made, made_if, paired, found_row, line_with, found_line, is_lone, longer, lone_left, line_of_left, line_row, lone_right}
use Rattle.fx_join.specs.declared.line.Line.{Line}
use Rattle.fx_join.specs.declared.side.Side.{Side}
use Rattle.fx_value.specs.Ends.{Gives, IsLimited}
use Rattle.fx_value.specs.Works.{flat_each, IsSteady}
use Rattle.fx_value.proofs.Ends.{steady_same, steady_then, steady_each, steady_limited}

module _ (on : Meaning) (on_limited : (rows : List Row) → IsLimited (on rows)) where
  pub steady_matched : (l r : Row) → IsSteady (λ n. matched on n l r)
  steady_matched l r = steady_then (on (l ∷ r ∷ [])) (λ a n. truth_of a) (steady_limited (on (l ∷ r ∷ [])) (on_limited (l ∷ r ∷ []))) (λ a. steady_same {A = Bool} (truth_of a))

module _ (both : Meaning) (both_limited : (rows : List Row) → IsLimited (both rows)) where
  pub steady_made : (l r : Row) → IsSteady (λ n. made both n l r)
  steady_made l r = steady_then (both (l ∷ r ∷ [])) (λ a n. line_of a) (steady_limited (both (l ∷ r ∷ [])) (both_limited (l ∷ r ∷ []))) (λ a. steady_same {A = Row} (line_of a))

  pub steady_made_if : (l r : Row) (wanted : Bool) → IsSteady (λ n. made_if both n l r wanted)
  steady_made_if l r true = steady_then (λ n. made both n l r) (λ row n. Gives (Some row) 0) (steady_made l r) (λ row. steady_same {A = Option Row} (Gives (Some row) 0))
  steady_made_if l r false = steady_same {A = Option Row} (Gives None 0)

  pub steady_lone_left : (side : Side) (l : Row) (x : Line) → IsSteady (λ n. lone_left both side l n x)
  steady_lone_left side l x =
      steady_then (λ n. made_if both n l fin.empty (is_lone side x)) (λ row n. Gives (longer x row) 0) (steady_made_if l fin.empty (is_lone side x))
      (λ row. steady_same {A = Line} (Gives (longer x row) 0))

  pub steady_lone_right : (r : Row) → IsSteady (λ n. lone_right both n r)
  steady_lone_right r = steady_then (λ n. made both n fin.empty r) (λ row n. Gives (row ∷ []) 0) (steady_made fin.empty r) (λ row. steady_same {A = List Row} (Gives (row ∷ []) 0))

module _ (on : Meaning) (on_limited : (rows : List Row) → IsLimited (on rows)) (both : Meaning) (both_limited : (rows : List Row) → IsLimited (both rows)) where
  pub steady_paired : (l r : Row) → IsSteady (λ n. paired on both n l r)
  steady_paired l r = steady_then (λ n. matched on n l r) (λ hit n. made_if both n l r hit) (steady_matched on on_limited l r) (λ hit. steady_made_if both both_limited l r hit)

  steady_found_row : (l r : Row) → IsSteady (λ n. found_row on both l n r)
  steady_found_row l r =
      steady_then (λ n. paired on both n l r) (λ found n. Gives (found ∷ []) 0) (steady_paired l r) (λ found. steady_same {A = List (Option Row)} (Gives (found ∷ []) 0))

  pub steady_found_line : (rights : List Row) (l : Row) → IsSteady (found_line on both rights l)
  steady_found_line rights l =
      steady_then (λ n. flat_each (found_row on both l n) rights) (λ found n. Gives (line_with found) 0) (steady_each (found_row on both l) (steady_found_row l) rights)
      (λ found. steady_same {A = Line} (Gives (line_with found) 0))

  pub steady_line : (side : Side) (rights : List Row) (l : Row) → IsSteady (line_of_left on both side rights l)
  steady_line side rights l =
      steady_then (found_line on both rights l) (λ x n. lone_left both side l n x) (steady_found_line rights l) (λ x. steady_lone_left both both_limited side l x)

  pub steady_line_row : (side : Side) (rights : List Row) (l : Row) → IsSteady (λ n. line_row on both side rights n l)
  steady_line_row side rights l =
      steady_then (line_of_left on both side rights l) (λ x n. Gives (x ∷ []) 0) (steady_line side rights l) (λ x. steady_same {A = List Line} (Gives (x ∷ []) 0))

-- Texts in a row that are borrowed, with a separator between them.
use Rattle.std.proofs.Common.{◌≡◌, List, ℕ, [], ◌∷◌, ◌++◌, map, Bor, refl, sym, ap, ◌∙◌}
use Rattle.std.specs.Prelude.{codes}
use Rattle.std.specs.List.{flat_map, join_by}
use Rattle.fx_group.specs.Answer.{Row}
use Rattle.fx_value.specs.Ends.{Gives}
use Rattle.fx_value.proofs.Loops.{told_then}
use Rattle.fx_pivot.specs.Cells.{texts_of, name_of}

rest-now : (by : List ℕ) (texts : List (Bor (List ℕ))) → flat_map (λ t. by ++ t.now) texts ≡ flat_map (λ t. by ++ t) (map (λ t. t.now) texts)
rest-now by [] = refl
rest-now by (text ∷ texts) = ap (λ rest. (by ++ text.now) ++ rest) (rest-now by texts)

join-now : (by : List ℕ) (texts : List (Bor (List ℕ))) → join_by (λ t. t.now) by texts ≡ join_by (λ t. t) by (map (λ t. t.now) texts)
join-now by [] = refl
join-now by (text ∷ texts) = ap (λ rest. text.now ++ rest) (rest-now by texts)

-- the name of several texts
pub name_is : (columns : List (List ℕ)) (row : Row) (texts : List (Bor (List ℕ))) (name : List ℕ) → texts_of columns row ≡ Gives (map (λ t. t.now) texts) 0
    → name ≡ join_by (λ t. t.now) (codes "_") texts → name_of columns row ≡ Gives name 0
name_is columns row texts name gives is =
    told_then (texts_of columns row) (λ ts. Gives (join_by (λ t. t) (codes "_") ts) 0) (map (λ t. t.now) texts) gives
    ∙ ap (λ (t : List ℕ). Gives t 0) (sym (is ∙ join-now (codes "_") texts))

-- Texts as the items of an array.
use Rattle.std.proofs.Common.{◌≡◌, ℕ, ◌+◌, ◌<◌, ◌≤◌, List, [], ◌∷◌, ◌++◌, length, get_or, take, map, refl, sym, ap, ◌∙◌}
use Rattle.std.proofs.lemmas.List.{map-append, take_all, take_more}
use Rattle.fx_meaning.specs.Natives.{texts_made}
use Rattle.fx_meaning.specs.Value.{Val, cell, more_vals}
use Rattle.fx_value.specs.declared.scalar.Scalar.TheVariants.{Text}
use Rattle.fx_values.specs.Shape.{val, vals_of}
use Rattle.fx_values.specs.declared.value.Value.{Value}
use Rattle.fx_values.specs.declared.value.Value.TheVariants as v
use Rattle.fx_values.proofs.ValueLaws.{val_cell}

abbrev pub text_val : List ℕ → Val
text_val text = cell (Text text)

texts_each : (ts : List (List ℕ)) → vals_of (map text_val ts) ≡ texts_made ts
texts_each [] = refl
texts_each (t ∷ ts) = ap (more_vals (text_val t)) (texts_each ts)

-- all texts have become items
pub texts_done : (items : List Value) (ts : List (List ℕ)) (i : ℕ) → length ts ≤ i → map val items ≡ map text_val (take i ts) → vals_of (map val items) ≡ texts_made ts
texts_done items ts i over is = ap vals_of is ∙ ap (λ l. vals_of (map text_val l)) (take_all i ts over) ∙ texts_each ts

-- one text more has become an item
pub texts_more : (items new : List Value) (ts : List (List ℕ)) (i : ℕ) (t s : List ℕ) → i < length ts → t ≡ get_or ts i t → s ≡ t
    → new ≡ items ++ v.Cell (Text s) ∷ [] → map val items ≡ map text_val (take i ts) → map val new ≡ map text_val (take (i + 1) ts)
texts_more items new ts i t s below is same pushed made =
    ap (map val) pushed ∙ map-append val items (v.Cell (Text s) ∷ [])
    ∙ ap (λ l. l ++ val (v.Cell (Text s)) ∷ []) made
    ∙ ap (λ w. map text_val (take i ts) ++ w ∷ []) (val_cell (Text s) ∙ ap text_val same)
    ∙ sym (map-append text_val (take i ts) (t ∷ []))
    ∙ ap (map text_val) (ap (λ y. take i ts ++ y ∷ []) is ∙ sym (take_more ts i t below))

-- How many items an array has.
use Rattle.std.proofs.Common.{◌≡◌, List, length, map, sym, ap, subst, ◌∙◌}
use Rattle.std.proofs.lemmas.List.{length-map}
use Rattle.std.specs.Prelude.{Result, Ok, pos}
use Rattle.fx_base.specs.declared.place.Place.{Place}
use Rattle.fx_meaning.specs.Ends.{cell_at}
use Rattle.fx_meaning.specs.Forms.{val_list}
use Rattle.fx_meaning.specs.Value.{Vals}
use Rattle.fx_value.proofs.Ends.{later-zero}
use Rattle.fx_value.specs.Ends.{End, Gives, and_then}
use Rattle.fx_value.specs.declared.scalar.Scalar.TheVariants.{Int}
use Rattle.fx_values.specs.Shape.{val, vals_of}
use Rattle.fx_values.specs.Told.{Tells}
use Rattle.fx_values.specs.declared.stop.Stop.{Stop}
use Rattle.fx_values.specs.declared.value.Value.{Value}
use Rattle.fx_values.proofs.EachLaws.{val_list_back}

count_same : (items : List Value) → length (val_list (vals_of (map val items))) ≡ length items
count_same items = ap length (val_list_back (map val items)) ∙ length-map items val

-- the count of a slice is that of the array that was found
pub count_told : (found : End Vals) (items slice : List Value) (place : Place) (answer : Result Value Stop) → found ≡ Gives (vals_of (map val items)) 0 → slice ≡ items
    → Tells val (cell_at place (Ok (Int (pos (length slice))))) answer
    → Tells val (and_then found (λ vs. cell_at place (Ok (Int (pos (length (val_list vs))))))) answer
count_told found items slice place answer told is =
    subst (λ e. Tells val e answer)
    (sym (ap (λ e. and_then e (λ vs. cell_at place (Ok (Int (pos (length (val_list vs))))))) told
    ∙ later-zero (cell_at place (Ok (Int (pos (length (val_list (vals_of (map val items))))))))
    ∙ ap (λ n. cell_at place (Ok (Int (pos n)))) (count_same items ∙ sym (ap length is))))

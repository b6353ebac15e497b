-- Lists that a loop makes, item by item.
use Rattle.std.proofs.Common.{◌≡◌, ◌∙◌, sym, ap, ℕ, ◌+◌, ◌<◌, List, [], ◌∷◌, ◌++◌, length, get_or, take, drop, map, append_assoc, add-one, drop-cons, refl, Some}
use Rattle.std.proofs.lemmas.List.{map-append, map_more}
use Rattle.std.specs.Borrow.{Bor}
use Rattle.fx_schemes.specs.declared.simple.Simple.TheVariants as simple
use Rattle.fx_schemes.specs.Given.{texts_of}
use Rattle.fx_schemes.specs.Plan.{Cell, columns_from}

-- one more item, of the i-th that is read
pub pushed : {A B D : Type 0} (f : A → D) (g : B → D) (read : List B) (i : ℕ) (d : B) (made : List A) (a : A)
    → i < length read → f a ≡ g (get_or read i d) → map f made ≡ map g (take i read)
    → map f (made ++ a ∷ []) ≡ map g (take (i + 1) read)
pushed f g read i d made a lt e h =
    map-append f made (a ∷ [])
    ∙ ap (λ ds. ds ++ f a ∷ []) h
    ∙ ap (λ x. map g (take i read) ++ x ∷ []) e
    ∙ sym (map_more g read i d lt)

-- the same, where what is read is seen through a function
pub pushed_seen : {A B C D : Type 0} (f : A → D) (h : B → C) (g : C → D) (read : List B) (i : ℕ) (d : B) (made : List A) (a : A)
    → i < length read → f a ≡ g (h (get_or read i d)) → map f made ≡ map g (map h (take i read))
    → map f (made ++ a ∷ []) ≡ map g (map h (take (i + 1) read))
pushed_seen f h g read i d made a lt e now =
    map-append f made (a ∷ [])
    ∙ ap (λ ds. ds ++ f a ∷ []) now
    ∙ ap (λ x. map g (map h (take i read)) ++ x ∷ []) e
    ∙ sym (map-append g (map h (take i read)) (h (get_or read i d) ∷ []))
    ∙ ap (map g) (sym (map_more h read i d lt))

-- one more column of a variable of its own
pub numbered_more : (labels : List (Bor (List ℕ))) (i : ℕ) (d : Bor (List ℕ)) (n : ℕ) (cells all : List Cell) → i < length labels
    → cells ++ columns_from n (texts_of (drop i labels)) ≡ all
    → (cells ++ ((get_or labels i d).now, Some (simple.Var n)) ∷ []) ++ columns_from (n + 1) (texts_of (drop (i + 1) labels)) ≡ all
numbered_more labels i d n cells all lt e =
    let dropped : drop i labels ≡ get_or labels i d ∷ drop (i + 1) labels = rw (add-one, drop-cons labels i d) refl in
    append_assoc cells (((get_or labels i d).now, Some (simple.Var n)) ∷ []) (columns_from (n + 1) (texts_of (drop (i + 1) labels)))
    ∙ ap (λ xs. cells ++ columns_from n (texts_of xs)) (sym dropped)
    ∙ e

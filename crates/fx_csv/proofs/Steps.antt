-- One more item behind those so far, and the end of a loop.
use Rattle.std.proofs.Common.{◌≡◌, ℕ, ◌+◌, ◌<◌, ◌≤◌, List, [], ◌∷◌, ◌++◌, length, map, take, get_or, ap, sym, ◌∙◌, append_assoc}
use Rattle.std.specs.List.{flat_map}
use Rattle.std.proofs.lemmas.List.{map_more, take_more, take_all, flat_map_more}

module _ {X A : Type 0} (xs : List X) (i : ℕ) where
  pub map_next : (f : X → A) (all : List A) (x : X) → i < length xs → x ≡ get_or xs i x
      → (all ++ map f (take i xs)) ++ f x ∷ [] ≡ all ++ map f (take (i + 1) xs)
  map_next f all x h is =
      append_assoc all (map f (take i xs)) (f x ∷ [])
      ∙ ap (λ l. all ++ l) (ap (λ y. map f (take i xs) ++ f y ∷ []) is ∙ sym (map_more f xs i x h))

  pub map_end : (f : X → A) (all : List A) → length xs ≤ i → all ++ map f (take i xs) ≡ all ++ map f xs
  map_end f all h = ap (λ l. all ++ map f l) (take_all i xs h)

  pub flat_map_next : (f : X → List A) (all : List A) (x : X) → i < length xs → x ≡ get_or xs i x
      → (all ++ flat_map f (take i xs)) ++ f x ≡ all ++ flat_map f (take (i + 1) xs)
  flat_map_next f all x h is =
      flat_map_more f all (take i xs) x
      ∙ ap (λ l. all ++ flat_map f l) (ap (λ y. take i xs ++ y ∷ []) is ∙ sym (take_more xs i x h))

  pub flat_map_end : (f : X → List A) (all : List A) → length xs ≤ i → all ++ flat_map f (take i xs) ≡ all ++ flat_map f xs
  flat_map_end f all h = ap (λ l. all ++ flat_map f l) (take_all i xs h)

-- A loop over a list that tells of the whole by what is left of it.
use Rattle.std.proofs.Common.{◌≡◌, ℕ, ◌+◌, ◌<◌, ◌≤◌, List, [], ◌∷◌, length, drop, get_or, sym, ap, ◌∙◌}
use Rattle.std.proofs.lemmas.List.{at_drop_more, at_drop_all}

module _ {X A : Type 0} (whole : List X → A) (xs : List X) (i : ℕ) where
  pub opened : (x : X) → i < length xs → x ≡ get_or xs i x → whole (drop i xs) ≡ whole (x ∷ drop (i + 1) xs)
  opened x below is = at_drop_more whole xs i x below ∙ ap (λ y. whole (y ∷ drop (i + 1) xs)) (sym is)

  -- an item that leaves it to those behind
  pub walk_on : (x : X) → i < length xs → x ≡ get_or xs i x → whole xs ≡ whole (drop i xs) → ((rest : List X) → whole (x ∷ rest) ≡ whole rest) → whole xs ≡ whole (drop (i + 1) xs)
  walk_on x below is inv step = inv ∙ opened x below is ∙ step (drop (i + 1) xs)

  -- an item that decides
  pub walk_stops : (x : X) (a : A) → i < length xs → x ≡ get_or xs i x → whole xs ≡ whole (drop i xs) → ((rest : List X) → whole (x ∷ rest) ≡ a) → a ≡ whole xs
  walk_stops x a below is inv step = sym (inv ∙ opened x below is ∙ step (drop (i + 1) xs))

  -- the end of the list
  pub walk_ends : (a : A) → length xs ≤ i → whole xs ≡ whole (drop i xs) → whole [] ≡ a → a ≡ whole xs
  walk_ends a over inv none = sym (inv ∙ at_drop_all whole xs i over ∙ none)

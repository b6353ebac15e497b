-- The labels of a row: those of one map, and over them those of another.
use Rattle.std.specs.Prelude.{◌≡◌, ℕ, true, List, [], ◌∷◌, Option, None, Some}
use Rattle.std.specs.Option.{is_some, option_and_then}
use Rattle.std.specs.FinMap.{FinMap, contains_key, entries, get, insert}
use Rattle.fx_base.specs.Text.{text_cmp}
use Rattle.fx_value.specs.declared.source.Source.{Source}

-- the head with these labels, one after another
abbrev pub with_all : List (List ℕ × Source) → FinMap text_cmp Source → FinMap text_cmp Source
with_all [] head = head
with_all (e ∷ es) head = with_all es (insert head e.0 e.1)

-- a row's own labels over those that it shares
abbrev pub laid : Option (FinMap text_cmp Source) → FinMap text_cmp Source → FinMap text_cmp Source
laid None shared = shared
laid (Some own) shared = with_all (entries own) shared

-- what a row's own labels answer
abbrev pub own_at : Option (FinMap text_cmp Source) → List ℕ → Option Source
own_at own label = option_and_then (λ o. get o label) own

-- each label of the second map is one of the first
abbrev pub HasAll : FinMap text_cmp Source → FinMap text_cmp Source → Type 0
HasAll labels others = (label : List ℕ) → contains_key others label ≡ true → contains_key labels label ≡ true

-- each of a row's own labels is one of these
abbrev pub HasOwn : FinMap text_cmp Source → Option (FinMap text_cmp Source) → Type 0
HasOwn labels own = (label : List ℕ) → is_some (own_at own label) ≡ true → contains_key labels label ≡ true

-- What is made of each item, as far as a loop has come.
use Rattle.std.proofs.Common.{◌≡◌, ℕ, zero, suc, ◌+◌, ◌<◌, ◌≤◌, List, [], ◌∷◌, ◌++◌, length, drop, get_or, map, append_assoc, refl, sym, ap, arith, ◌∙◌}
use Rattle.std.proofs.lemmas.List.{append-nil, at_drop_more, at_drop_all}
use Rattle.std.specs.Prelude.{Err}
use Rattle.fx_meaning.specs.Forms.{cell_in, each, val_list}
use Rattle.fx_meaning.specs.Natives.{cells_in}
use Rattle.fx_meaning.specs.Value.{Val}
use Rattle.fx_value.proofs.Ends.{later-zero, then-gives, then-then}
use Rattle.fx_value.specs.Ends.{End, Gives, and_then}
use Rattle.fx_values.specs.Shape.{val, vals_of}
use Rattle.fx_values.specs.Told.{Tells}
use Rattle.fx_values.specs.declared.stop.Stop.{Stop}
use Rattle.fx_values.specs.declared.stop.Stop.TheVariants as stop
use Rattle.fx_values.specs.declared.value.Value.{Value}

module _ {X Y : Type 0} (step : X → End Y) where
  -- the whole is what is made of the items from a place on, behind what is made already
  abbrev pub Made : List X → ℕ → List Y → Type 0
  Made xs i done = each step xs ≡ and_then (each step (drop i xs)) (λ rest. Gives (done ++ rest) 0)

  pub none_made : (xs : List X) → Made xs 0 []
  none_made xs = sym (then-gives (each step xs))

  behind : (done : List Y) (y : Y) (e : End (List Y)) (rest : End Y) → rest ≡ Gives y 0
      → and_then (and_then rest (λ z. and_then e (λ zs. Gives (z ∷ zs) 0))) (λ all. Gives (done ++ all) 0)
      ≡ and_then e (λ zs. Gives ((done ++ y ∷ []) ++ zs) 0)
  behind done y e rest is =
      ap (λ r. and_then (and_then r (λ z. and_then e (λ zs. Gives (z ∷ zs) 0))) (λ all. Gives (done ++ all) 0)) is
      ∙ ap (λ w. and_then w (λ all. Gives (done ++ all) 0)) (later-zero (and_then e (λ zs. Gives (y ∷ zs) 0)))
      ∙ then-then e (λ zs. Gives (y ∷ zs) 0) (λ all. Gives (done ++ all) 0)
      ∙ (λ i. and_then e (λ zs. Gives (sym (append_assoc done (y ∷ []) zs) i) 0))

  opened : (xs : List X) (i : ℕ) (x : X) → i < length xs → x ≡ get_or xs i x
      → each step (drop i xs) ≡ and_then (step x) (λ z. and_then (each step (drop (i + 1) xs)) (λ zs. Gives (z ∷ zs) 0))
  opened xs i x below is = at_drop_more (each step) xs i x below ∙ ap (λ w. each step (w ∷ drop (i + 1) xs)) (sym is)

  pub one_made : (xs : List X) (i : ℕ) (done : List Y) (x : X) (y : Y) → i < length xs → x ≡ get_or xs i x → step x ≡ Gives y 0
      → Made xs i done → Made xs (i + 1) (done ++ y ∷ [])
  one_made xs i done x y below is told made =
      made ∙ ap (λ e. and_then e (λ rest. Gives (done ++ rest) 0)) (opened xs i x below is)
      ∙ behind done y (each step (drop (i + 1) xs)) (step x) told

  pub all_made : (xs : List X) (i : ℕ) (done : List Y) → length xs ≤ i → Made xs i done → each step xs ≡ Gives done 0
  all_made xs i done over made =
      made ∙ ap (λ e. and_then e (λ rest. Gives (done ++ rest) 0)) (at_drop_all (each step) xs i over)
      ∙ later-zero (Gives (done ++ []) 0) ∙ ap (λ l. Gives l 0) (append-nil done)

  -- an item that ends without a value ends all
  pub made_stops : {A B : Type 0} (f : A → Y) (g : B → List Y) (xs : List X) (i : ℕ) (done : List Y) (x : X) (why : Stop) → i < length xs → x ≡ get_or xs i x
      → Made xs i done → Tells f (step x) (Err why) → Tells g (each step xs) (Err why)
  made_stops f g xs i done x (stop.Fault fault) below is made told =
      made ∙ ap (λ e. and_then e (λ rest. Gives (done ++ rest) 0))
      (opened xs i x below is ∙ ap (λ r. and_then r (λ z. and_then (each step (drop (i + 1) xs)) (λ zs. Gives (z ∷ zs) 0))) told)
  made_stops f g xs i done x stop.Stuck below is made told =
      made ∙ ap (λ e. and_then e (λ rest. Gives (done ++ rest) 0))
      (opened xs i x below is ∙ ap (λ r. and_then r (λ z. and_then (each step (drop (i + 1) xs)) (λ zs. Gives (z ∷ zs) 0))) told)
  made_stops f g xs i done x (stop.Budget ticks) below is made told = told
  made_stops f g xs i done x stop.Memory below is made told = tt

-- ---- the scalars of an array

pub each_map : {X Y Z : Type 0} (step : Y → End Z) (f : X → Y) (xs : List X) → each (λ x. step (f x)) xs ≡ each step (map f xs)
each_map step f [] = refl
each_map step f (x ∷ xs) = ap (λ e. and_then (step (f x)) (λ z. and_then e (λ zs. Gives (z ∷ zs) 0))) (each_map step f xs)

pub val_list_back : (vs : List Val) → val_list (vals_of vs) ≡ vs
val_list_back [] = refl
val_list_back (v ∷ vs) = ap (λ l. v ∷ l) (val_list_back vs)

pub cells_each : (items : List Value) → each (λ v. cell_in (val v)) items ≡ cells_in (vals_of (map val items))
cells_each items = each_map cell_in val items ∙ ap (each cell_in) (sym (val_list_back (map val items)))

-- an item is itself at its place
pub same_item : {X : Type 0} (xs : List X) (i : ℕ) (d : X) → i < length xs → get_or xs i d ≡ get_or xs i (get_or xs i d)
same_item [] i d below = absurd (omega (arith, below))
same_item (x ∷ xs) zero d below = refl
same_item (x ∷ xs) (suc i) d below = same_item xs i d (omega (arith, below))

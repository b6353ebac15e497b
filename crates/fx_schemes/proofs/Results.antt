-- What holds of a result, along equations.
use Rattle.std.proofs.Common.{◌≡◌, ◌∙◌, sym, ap, Option, None, Some, Result, Ok, Err}
use Rattle.std.specs.Prelude.{IfOk, option_map}

pub along : {A B E : Type 0} (f : A → B) (result : Result A E) (x y : B) → x ≡ y → IfOk result (λ a. f a ≡ x) → IfOk result (λ a. f a ≡ y)
along f (Ok a) x y e h = h ∙ e
along f (Err fault) x y e h = tt

pub mapped_none : {A B : Type 0} (f : A → B) (o : Option A) (x : Option B) → option_map f o ≡ x → o ≡ None → x ≡ None
mapped_none f o x e n = sym e ∙ ap (option_map f) n

pub mapped_some : {A B : Type 0} (f : A → B) (o : Option A) (x : Option B) (a : A) → option_map f o ≡ x → o ≡ Some a → x ≡ Some (f a)
mapped_some f o x a e n = sym e ∙ ap (option_map f) n

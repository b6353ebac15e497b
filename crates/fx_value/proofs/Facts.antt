-- Facts carried along equations.
use Rattle.std.proofs.Common.{◌≡◌, List, sym, ◌∙◌, subst}
use Rattle.std.specs.Prelude.{Result, IfOk, ◌↔◌}

-- a fact that holds exactly where two lists are equal holds exactly where lists equal to them are
pub equal_along : {A : Type 0} (P : Type 0) (xs ys us vs : List A) → xs ≡ us → ys ≡ vs → P ↔ (xs ≡ ys) → P ↔ (us ≡ vs)
equal_along P xs ys us vs e f h = (λ p. sym e ∙ h.0 p ∙ f, λ q. h.1 (e ∙ q ∙ sym f))

-- a result that is this value is an equal value
pub ok_along : {A E : Type 0} (r : Result A E) (x y : A) → x ≡ y → IfOk r (λ v. v ≡ x) → IfOk r (λ v. v ≡ y)
ok_along r x y e h = subst (λ z. IfOk r (λ v. v ≡ z)) e h

-- Row functions that take no ticks.
use Rattle.std.proofs.Common.{arith}
use Rattle.std.specs.Prelude.{ℕ, List, [], ◌∷◌, refl}
use Rattle.std.specs.FinMap.{FinMap}
use Rattle.fx_base.specs.Text.{text_cmp}
use Rattle.fx_value.specs.declared.answer.Answer.{Answer}
use Rattle.fx_value.specs.declared.answer.Answer.TheVariants.{Line}
use Rattle.fx_value.specs.declared.scalar.Scalar.{Scalar}
use Rattle.fx_value.specs.Ends.{End, Gives, Stuck, IsLimited}

-- a row that is made of the first row
abbrev pub made_of_first : (FinMap text_cmp Scalar → FinMap text_cmp Scalar) → List (FinMap text_cmp Scalar) → End Answer
made_of_first make [] = Stuck
made_of_first make (row ∷ rows) = Gives (Line (make row)) 0

pub always_limited : (answer : Answer) → IsLimited (λ (limit : ℕ). Gives answer 0)
always_limited answer = record { within = λ limit. omega arith; stays = λ least limit below. refl }

pub first_limited : (make : FinMap text_cmp Scalar → FinMap text_cmp Scalar) (rows : List (FinMap text_cmp Scalar)) → IsLimited (λ (limit : ℕ). made_of_first make rows)
first_limited make [] = record { within = λ limit. tt; stays = λ least limit below. refl }
first_limited make (row ∷ rows) = always_limited (Line (make row))

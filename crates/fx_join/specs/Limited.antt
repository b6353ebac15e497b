-- The equality of times ends in the same way under each limit.
use Rattle.std.proofs.Common.{arith}
use Rattle.std.specs.Prelude.{ℕ, ℤ, List, [], ◌∷◌, Option, None, Some, refl}
use Rattle.std.specs.FinMap.{get}
use Rattle.fx_group.specs.Answer.{Row}
use Rattle.fx_join.specs.SameTime.{time_of, same_time, told_time, same_times}
use Rattle.fx_value.specs.declared.answer.Answer.{Answer}
use Rattle.fx_value.specs.declared.answer.Answer.TheVariants.{Cell}
use Rattle.fx_value.specs.declared.scalar.Scalar.{Scalar}
use Rattle.fx_value.specs.declared.scalar.Scalar.TheVariants.{Null, Bool, Int, Text, Time}
use Rattle.fx_value.specs.Ends.{End, Gives, Faults, Stuck, More, later, and_then, IsWithin, Stays, IsLimited}

later_within : {A : Type 0} (limit : ℕ) (e : End A) → IsWithin limit e → IsWithin limit (later 0 e)
later_within limit (Gives v t) h = omega arith
later_within limit (Faults f t) h = omega arith
later_within limit Stuck h = tt
later_within limit More h = tt

stays : {A : Type 0} (least limit : ℕ) (e : End A) → Stays least limit e e
stays least limit (Gives v t) = λ below. refl
stays least limit (Faults f t) = λ below. refl
stays least limit Stuck = λ below. refl
stays least limit More = tt

second_within : (limit : ℕ) (a : Option ℤ) (o : Option Scalar) → IsWithin {A = Answer} limit (and_then (time_of o) (λ b. Gives (Cell (same_time a b)) 0))
second_within limit a None = omega arith
second_within limit a (Some Null) = omega arith
second_within limit a (Some (Time t)) = omega arith
second_within limit a (Some (Bool b)) = tt
second_within limit a (Some (Int n)) = tt
second_within limit a (Some (Text t)) = tt

both_within : (limit : ℕ) (o p : Option Scalar) → IsWithin {A = Answer} limit (and_then (time_of o) (λ a. and_then (time_of p) (λ b. Gives (Cell (same_time a b)) 0)))
both_within limit None p = later_within limit _ (second_within limit None p)
both_within limit (Some Null) p = later_within limit _ (second_within limit None p)
both_within limit (Some (Time t)) p = later_within limit _ (second_within limit (Some t) p)
both_within limit (Some (Bool b)) p = tt
both_within limit (Some (Int n)) p = tt
both_within limit (Some (Text t)) p = tt

pub same_times_limited : (label : List ℕ) (rows : List Row) → IsLimited (λ limit. same_times label rows limit)
same_times_limited label [] = record { within = λ limit. tt; stays = λ least limit below. refl }
same_times_limited label (l ∷ []) = record { within = λ limit. tt; stays = λ least limit below. refl }
same_times_limited label (l ∷ r ∷ []) = record {
  within = λ limit. both_within limit (get l label) (get r label);
  stays = λ least limit. stays least limit (told_time label l r);
}
same_times_limited label (l ∷ r ∷ s ∷ rows) = record { within = λ limit. tt; stays = λ least limit below. refl }

-- Tallies of integers give their sum and their spread.
use Rattle.std.proofs.Common.{◌≡◌, ◌≢◌, ◌≤◌, ◌^◌, ◌-◌, ℕ, ℤ, ◌+ℤ◌, ◌-ℤ◌, List, [], ◌∷◌, ◌++◌, refl, sym, ap, ◌∙◌, arith}
use Rattle.std.proofs.lemmas.Int.{ints}
use Rattle.std.specs.Prelude.{Option, None, Some, IfSome}
use Rattle.std.proofs.Math.IntN.{+ℤ_assoc, +ℤ_idr}
use Rattle.fx_base.specs.declared.place.Place.{Place}
use Rattle.fx_value.specs.declared.scalar.Scalar.{Scalar}
use Rattle.fx_value.specs.declared.scalar.Scalar.TheVariants.{Null}
use Rattle.fx_value.specs.Ends.{End, Gives, Faults, Stuck, More, and_then}
use Rattle.fx_value.specs.Works.{into}
use Rattle.fx_value.proofs.Ends.{passed}
use Rattle.fx_value.proofs.Loops.{told_then}
use Rattle.fx_agg.specs.Numbers.{total, least, greatest, whole, sum_of, spread_of}
use Rattle.fx_agg.specs.Tally.{with_int, tallied, IsOfAtMost, IsRoomy}
use Rattle.fx_agg.specs.declared.numbers.Tally.{Tally}

pub tallied_more : (t : Option Tally) (ns ms : List ℤ) → tallied t (ns ++ ms) ≡ tallied (tallied t ns) ms
tallied_more t [] ms = refl
tallied_more t (n ∷ ns) ms = tallied_more (Some (with_int t n)) ns ms

pub roomy : (t : Option Tally) (count : ℕ) → count ≤ 2 ^ 64 - 2 → IfSome t (λ u. IsOfAtMost count u.sum) → IfSome t (λ u. IsRoomy u.sum)
roomy None count few h = tt
roomy (Some t) count few h = (omega (arith, ints, h.0), omega (arith, ints, h.1))

-- what is gathered of an end that isn't Stuck isn't Stuck
pub into_unstuck : {Y G : Type 0} (add : G → Y → G) (g : G) (e : End Y) → e ≢ Stuck → into add g e ≢ Stuck
into_unstuck add g (Gives y t) unstuck = λ is. cc
into_unstuck add g (Faults f t) unstuck = λ is. cc
into_unstuck add g Stuck unstuck = λ _. unstuck refl
into_unstuck add g More unstuck = λ is. cc

-- the tally of one and more integers
tally_is : (t : Tally) (ns : List ℤ)
    → tallied (Some t) ns ≡ Some (record { sum = t.sum +ℤ total ns; least = least t.least ns; greatest = greatest t.greatest ns })
tally_is t [] = λ i. Some (record { sum = sym (+ℤ_idr t.sum) i; least = t.least; greatest = t.greatest })
tally_is t (n ∷ ns) =
    let next = with_int (Some t) n in
    tally_is next ns ∙ (λ i. Some (record { sum = +ℤ_assoc t.sum n (total ns) i; least = least next.least ns; greatest = greatest next.greatest ns }))

abbrev pub sum_told : Place → Option Tally → End Scalar
sum_told place None = Gives Null 0
sum_told place (Some t) = whole place t.sum

abbrev pub spread_told : Place → Option Tally → End Scalar
spread_told place None = Gives Null 0
spread_told place (Some t) = whole place (t.greatest -ℤ t.least)

sum_of_tally : (place : Place) (ns : List ℤ) → sum_of place ns ≡ sum_told place (tallied None ns)
sum_of_tally place [] = refl
sum_of_tally place (n ∷ ns) = ap (sum_told place) (sym (tally_is (with_int None n) ns))

spread_of_tally : (place : Place) (ns : List ℤ) → spread_of place ns ≡ spread_told place (tallied None ns)
spread_of_tally place [] = refl
spread_of_tally place (n ∷ ns) = ap (spread_told place) (sym (tally_is (with_int None n) ns))

module _ (found : End (List ℤ)) (t : Option Tally) (gathered : into tallied None found ≡ Gives t 0) where
  given : (next : List ℤ → End Scalar) (told : Option Tally → End Scalar) → ((ns : List ℤ) → next ns ≡ told (tallied None ns)) → and_then found next ≡ told t
  given next told same =
      let p = passed found (λ ns. Gives (tallied None ns) 0) t 0 gathered in
      let free : p.spent ≡ 0 = omega (arith, p.sum) in
      let is : tallied None p.before ≡ t = cc (p.next_gives) in
      told_then found next p.before (p.first_gives ∙ ap (λ n. Gives p.before n) free) ∙ same p.before ∙ ap told is

  pub sum_is : (place : Place) → and_then found (sum_of place) ≡ sum_told place t
  sum_is place = given (sum_of place) (sum_told place) (sum_of_tally place)

  pub spread_is : (place : Place) → and_then found (spread_of place) ≡ spread_told place t
  spread_is place = given (spread_of place) (spread_told place) (spread_of_tally place)

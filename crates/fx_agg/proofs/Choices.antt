-- To choose among rows one after another is to choose among all.
use Rattle.std.proofs.Common.{◌≡◌, Bool, true, false, refl, sym, ap, ◌∙◌}
use Rattle.std.specs.Prelude.{Option, None, Some, if◌then◌else◌}
use Rattle.std.specs.declared.cmp.Ordering.{Ordering}
use Rattle.std.specs.declared.cmp.Ordering.TheVariants.{Less, Equal, Greater}
use Rattle.std.specs.Ordering.{is_le, is_ge, ordering_reverse}
use Rattle.std.specs.Cmp.{IsTotalOrder}
use Rattle.fx_value.specs.declared.scalar.Scalar.{Scalar}
use Rattle.fx_value.specs.Scalar.{scalar_cmp}
use Rattle.fx_value.proofs.Scalars.{scalar_cmp_total}
use Rattle.fx_agg.specs.declared.agg.Agg.{Agg}
use Rattle.fx_agg.specs.declared.agg.Agg.TheVariants.{Count, Sum, Min, Max, First, Last, Spread}
use Rattle.fx_agg.specs.Chosen.{Candidate, stays, better}

-- who stays before one that stays before a third stays before it, and who doesn't, doesn't
record IsTidy {K : Type 0} (keeps : K → K → Bool) : Type 0 where
  yes : (x y z : K) → keeps x y ≡ true → keeps y z ≡ true → keeps x z ≡ true
  no : (x y z : K) → keeps x y ≡ false → keeps y z ≡ false → keeps x z ≡ false

module _ {K : Type 0} (R : K → K → Ordering) (order : IsTotalOrder R) where
  le_then : (x y z : K) (o p : Ordering) → R x y ≡ o → R y z ≡ p → is_le o ≡ true → is_le p ≡ true → is_le (R x z) ≡ true
  le_then x y z Equal p e f g h = ap is_le (order.congr x y z e ∙ f) ∙ h
  le_then x y z Less Less e f g h = ap is_le (order.trans x y z e f)
  le_then x y z Less Equal e f g h =
      let back : R z y ≡ Equal = order.antisymm z y ∙ ap ordering_reverse f in
      ap is_le (order.antisymm x z ∙ ap ordering_reverse (order.congr z y x back ∙ order.antisymm y x ∙ ap ordering_reverse e))
  le_then x y z Less Greater e f g h = absurd (cc h)
  le_then x y z Greater p e f g h = absurd (cc g)

  gt_then : (x y z : K) (o p : Ordering) → R x y ≡ o → R y z ≡ p → is_le o ≡ false → is_le p ≡ false → is_le (R x z) ≡ false
  gt_then x y z Greater Greater e f g h =
      ap is_le (order.antisymm x z ∙ ap ordering_reverse (order.trans z y x (order.antisymm z y ∙ ap ordering_reverse f) (order.antisymm y x ∙ ap ordering_reverse e)))
  gt_then x y z Greater Less e f g h = absurd (cc h)
  gt_then x y z Greater Equal e f g h = absurd (cc h)
  gt_then x y z Less p e f g h = absurd (cc g)
  gt_then x y z Equal p e f g h = absurd (cc g)

  tidy_le : IsTidy (λ x y. is_le (R x y))
  tidy_le = record {
    yes = λ x y z g h. le_then x y z (R x y) (R y z) refl refl g h;
    no = λ x y z g h. gt_then x y z (R x y) (R y z) refl refl g h;
  }

  turned_by : (o : Ordering) → is_ge (ordering_reverse o) ≡ is_le o
  turned_by Less = refl
  turned_by Equal = refl
  turned_by Greater = refl

  turned : (x y : K) → is_ge (R x y) ≡ is_le (R y x)
  turned x y = ap is_ge (order.antisymm x y) ∙ turned_by (R y x)

  tidy_ge : IsTidy (λ x y. is_ge (R x y))
  tidy_ge = record {
    yes = λ x y z g h. turned x z ∙ tidy_le.yes z y x (sym (turned y z) ∙ h) (sym (turned x y) ∙ g);
    no = λ x y z g h. turned x z ∙ tidy_le.no z y x (sym (turned y z) ∙ h) (sym (turned x y) ∙ g);
  }

tidy_true : IsTidy {K = Scalar} (λ x y. true)
tidy_true = record { yes = λ x y z g h. refl; no = λ x y z g h. g }

tidy_false : IsTidy {K = Scalar} (λ x y. false)
tidy_false = record { yes = λ x y z g h. g; no = λ x y z g h. refl }

tidy : (which : Agg) → IsTidy (stays which)
tidy Min = tidy_le scalar_cmp scalar_cmp_total
tidy Max = tidy_ge scalar_cmp scalar_cmp_total
tidy First = tidy_true
tidy Last = tidy_false
tidy Count = tidy_false
tidy Sum = tidy_false
tidy Spread = tidy_false

module _ (keeps : Scalar → Scalar → Bool) (a b c : Candidate) where
  first_later : (q : Bool) → keeps b.0 c.0 ≡ q → better keeps (Some a) (better keeps (Some b) (Some c))
      ≡ Some (if keeps a.0 (if q then b else c).0 then a else (if q then b else c))
  first_later q f = ap (λ u. Some (if keeps a.0 (if u then b else c).0 then a else (if u then b else c))) f

  first_earlier : (p : Bool) → keeps a.0 b.0 ≡ p → better keeps (better keeps (Some a) (Some b)) (Some c)
      ≡ Some (if keeps (if p then a else b).0 c.0 then (if p then a else b) else c)
  first_earlier p e = ap (λ u. Some (if keeps (if u then a else b).0 c.0 then (if u then a else b) else c)) e

  three : IsTidy keeps → (p q : Bool) → keeps a.0 b.0 ≡ p → keeps b.0 c.0 ≡ q
      → better keeps (Some a) (better keeps (Some b) (Some c)) ≡ better keeps (better keeps (Some a) (Some b)) (Some c)
  three neat true true e f =
      first_later true f ∙ ap (λ u. Some (if u then a else b)) e
      ∙ sym (first_earlier true e ∙ ap (λ u. Some (if u then a else c)) (neat.yes a.0 b.0 c.0 e f))
  three neat true false e f = first_later false f ∙ sym (first_earlier true e)
  three neat false true e f =
      first_later true f ∙ ap (λ u. Some (if u then a else b)) e
      ∙ sym (first_earlier false e ∙ ap (λ u. Some (if u then b else c)) f)
  three neat false false e f =
      first_later false f ∙ ap (λ u. Some (if u then a else c)) (neat.no a.0 b.0 c.0 e f)
      ∙ sym (first_earlier false e ∙ ap (λ u. Some (if u then b else c)) f)

pub better_three : (which : Agg) (a b c : Option Candidate) → better (stays which) a (better (stays which) b c) ≡ better (stays which) (better (stays which) a b) c
better_three which None b c = refl
better_three which (Some a) None c = refl
better_three which (Some a) (Some b) None = refl
better_three which (Some a) (Some b) (Some c) = three (stays which) a b c (tidy which) (stays which a.0 b.0) (stays which b.0 c.0) refl refl

-- nothing follows the best
pub better_last : (keeps : Scalar → Scalar → Bool) (a : Option Candidate) → better keeps a None ≡ a
better_last keeps None = refl
better_last keeps (Some a) = refl

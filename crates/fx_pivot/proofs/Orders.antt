-- Cells in the order of their places.
use Rattle.std.proofs.Common.{◌≡◌, ℕ, suc, ◌+◌, ◌<◌, Bool, true, false, List, [], ◌∷◌, length, get_or, refl, sym, ap, subst, ◌∙◌, arith}
use Rattle.std.proofs.lemmas.List.Sorted.{sorted_far}
use Rattle.std.specs.Prelude.{not, ◌&&◌}
use Rattle.std.specs.declared.cmp.Ordering.{Ordering}
use Rattle.std.specs.declared.cmp.Ordering.TheVariants.{Less, Equal, Greater}
use Rattle.std.specs.Ordering.{is_lt, is_eq, eq_by_cmp, ordering_reverse}
use Rattle.std.specs.Cmp.{IsTotalOrder, IsStrictWeakOrder}
use Rattle.std.specs.Cmp.Lexicographic.{lists_total}
use Rattle.std.specs.FinMap.{IsAntisymmetric, slice_cmp-IsAntisymmetric}
use Rattle.std.specs.List.{filter}
use Rattle.std.specs.List.Sorted.{IsSortedBy, IsStableBy, ties}
use Rattle.fx_value.proofs.Scalars.{scalar_cmp_total, scalar_same}
use Rattle.fx_pivot.specs.Cells.{values_cmp}
use Rattle.fx_pivot.specs.Ordered.{NoneBelow, Ascend}
use Rattle.fx_pivot.specs.declared.cell.Cell.{Cell}

pub values_total : IsTotalOrder values_cmp
values_total = lists_total scalar_cmp_total

pub values_same : IsAntisymmetric values_cmp
values_same = slice_cmp-IsAntisymmetric scalar_same

-- whether the place of the first is below that of the second
abbrev pub lower : Cell → Cell → Bool
lower c d = is_lt (values_cmp c.place d.place)

-- ---- an order as a test

module _ {K : Type 0} (R : K → K → Ordering) (total : IsTotalOrder R) where
  pub turned : (x y : K) (o : Ordering) → R x y ≡ o → R y x ≡ ordering_reverse o
  turned x y o is = total.antisymm y x ∙ ap ordering_reverse is

  one_way : (x y : K) (o : Ordering) → R x y ≡ o → is_lt o ≡ true → is_lt (R y x) ≡ false
  one_way x y Less is h = ap is_lt (turned x y Less is)
  one_way x y Equal is h = cc
  one_way x y Greater is h = cc

  chain : (x y z : K) (o p : Ordering) → R x y ≡ o → R y z ≡ p → is_lt o ≡ false → is_lt p ≡ false → is_lt (R x z) ≡ false
  chain x y z Less p is next h g = cc
  chain x y z Equal p is next h g = ap is_lt (total.congr x y z is ∙ next) ∙ g
  chain x y z Greater Less is next h g = cc
  chain x y z Greater Equal is next h g = ap is_lt (turned z x Less (total.congr z y x (turned y z Equal next) ∙ turned x y Greater is))
  chain x y z Greater Greater is next h g = ap is_lt (turned z x Less (total.trans z y x (turned y z Greater next) (turned x y Greater is)))

  tie_is : (x y : K) (o : Ordering) → R x y ≡ o → (not (is_lt (R x y)) && not (is_lt (R y x))) ≡ is_eq (R x y)
  tie_is x y Less is = (λ i. not (is_lt (is i)) && not (is_lt (R y x))) ∙ ap is_eq (sym is)
  tie_is x y Equal is = (λ i. not (is_lt (is i)) && not (is_lt (turned x y Equal is i))) ∙ ap is_eq (sym is)
  tie_is x y Greater is = (λ i. not (is_lt (is i)) && not (is_lt (turned x y Greater is i))) ∙ ap is_eq (sym is)

  -- a key that is not below another and not equal to it is above it
  pub strictly : (x y : K) (o : Ordering) → R x y ≡ o → is_lt (R y x) ≡ false → is_eq (R x y) ≡ false → R x y ≡ Less
  strictly x y Less is above apart = is
  strictly x y Equal is above apart = let tie : is_eq (R x y) ≡ true = ap is_eq is in cc
  strictly x y Greater is above apart = let low : is_lt (R y x) ≡ true = ap is_lt (turned x y Greater is) in cc

pub lower_orders : IsStrictWeakOrder lower
lower_orders = record {
  one_way = λ c d h. one_way values_cmp values_total c.place d.place (values_cmp c.place d.place) refl h;
  chain = λ c d e h g. chain values_cmp values_total c.place d.place e.place (values_cmp c.place d.place) (values_cmp d.place e.place) refl refl h g;
}

-- ---- sorted cells ascend

none_below : (c : Cell) (cells : List Cell) → ((j : ℕ) (d : Cell) → j < length cells → lower (get_or cells j d) c ≡ false) → NoneBelow c.place cells
none_below c [] h = tt
none_below c (d ∷ cells) h = (h 0 d (omega arith), none_below c cells (λ j e below. h (suc j) e (omega arith)))

pub ascends : (cells : List Cell) → IsSortedBy lower cells → Ascend cells
ascends [] sorted = tt
ascends (c ∷ cells) sorted = (
  none_below c cells (λ j d below. sorted_far lower lower_orders (c ∷ cells) sorted 0 (suc j) d (omega arith) (omega arith)),
  ascends cells (λ k d low high. let next : suc k + 1 ≡ suc (k + 1) = omega arith in subst (λ n. lower (get_or (c ∷ cells) n d) (get_or cells k d) ≡ false) next (sorted (suc k) d (omega arith) (omega arith))),
)

-- ---- a stable sort leaves the cells of each place as they are

filter_same : {X : Type 0} (p q : X → Bool) → ((x : X) → p x ≡ q x) → (xs : List X) → filter p xs ≡ filter q xs
filter_same p q same xs = λ i. filter (λ x. same x i) xs

pub places_kept : (old new : List Cell) → IsStableBy lower old new → (c : Cell) → filter (λ d. eq_by_cmp values_cmp c.place d.place) new ≡ filter (λ d. eq_by_cmp values_cmp c.place d.place) old
places_kept old new stable c =
    let same : (d : Cell) → ties lower c d ≡ eq_by_cmp values_cmp c.place d.place = λ d. tie_is values_cmp values_total c.place d.place (values_cmp c.place d.place) refl in
    sym (filter_same (ties lower c) (λ d. eq_by_cmp values_cmp c.place d.place) same new) ∙ stable c ∙ filter_same (ties lower c) (λ d. eq_by_cmp values_cmp c.place d.place) same old

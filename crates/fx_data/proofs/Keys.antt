-- The order of keys is total, and only equal keys tie.
use Rattle.std.proofs.Common.{◌≡◌, refl}
use Rattle.std.specs.declared.cmp.Ordering.{Ordering}
use Rattle.std.specs.declared.cmp.Ordering.TheVariants.{Less, Equal, Greater}
use Rattle.std.specs.Ordering.{ordering_then}
use Rattle.std.specs.Cmp.{IsTotalOrder, bool_cmp_total, on_total, then_total}
use Rattle.std.specs.Cmp.Lexicographic.{nat_list_cmp_total, lists_total}
use Rattle.std.specs.FinMap.{IsAntisymmetric, slice_cmp-IsAntisymmetric}
use Rattle.fx_value.proofs.Rows.{text_same}
use Rattle.fx_value.proofs.Scalars.{scalar_cmp_total, scalar_same, bool_same}
use Rattle.fx_data.specs.Key.{entry_cmp, key_cmp}

pub key_cmp_total : IsTotalOrder key_cmp
key_cmp_total =
    on_total (λ k. k.entries) (lists_total (then_total (on_total (λ e. e.label) nat_list_cmp_total)
    (then_total (on_total (λ e. e.value) scalar_cmp_total) (on_total (λ e. e.pinned) bool_cmp_total))))

-- two that are compared in turn tie only where both tie
both_tie : (a b : Ordering) → ordering_then a b ≡ Equal → (a ≡ Equal) × (b ≡ Equal)
both_tie Less b e = cc
both_tie Equal b e = (refl, e)
both_tie Greater b e = cc

entry_same : IsAntisymmetric entry_cmp
entry_same x y e =
    let label = both_tie _ _ e in
    let rest = both_tie _ _ label.1 in
    let l = text_same x.label y.label label.0 in
    let v = scalar_same x.value y.value rest.0 in
    let p = bool_same x.pinned y.pinned rest.1 in
    λ i. record { label = l i; value = v i; pinned = p i }

pub key_same : IsAntisymmetric key_cmp
key_same x y e =
    let same = slice_cmp-IsAntisymmetric entry_same x.entries y.entries e in
    λ i. record { entries = same i }

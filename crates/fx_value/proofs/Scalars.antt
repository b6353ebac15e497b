-- The order of scalars is total, and only equal scalars tie.
use Rattle.std.proofs.Common.{◌≡◌, ℕ, pos, Bool, true, false, List, [], refl, sym, ap, subst}
use Rattle.std.specs.Prelude.{ℤ}
use Rattle.std.specs.declared.cmp.Ordering.{Ordering}
use Rattle.std.specs.declared.cmp.Ordering.TheVariants.{Less, Equal, Greater}
use Rattle.std.specs.Ordering.{nat_cmp, int_cmp, bool_cmp, on, then_cmp, ordering_then}
use Rattle.std.specs.Cmp.{IsTotalOrder, bool_cmp_total, nat_cmp_total, int_cmp_total, on_total, then_total}
use Rattle.std.specs.Cmp.Lexicographic.{nat_list_cmp_total}
use Rattle.std.specs.FinMap.{IsAntisymmetric, nat_cmp-IsAntisymmetric, int_cmp-IsAntisymmetric, slice_cmp-IsAntisymmetric}
use Rattle.fx_base.specs.Text.{text_cmp}
use Rattle.fx_value.specs.Scalar.{rank, scalar_cmp}
use Rattle.fx_value.specs.contracts.scalar.ScalarOrd.TheImpl.{cmp-value}
use Rattle.fx_value.specs.declared.scalar.Scalar.{Scalar}
use Rattle.fx_value.specs.declared.scalar.Scalar.TheVariants as scalar
use Rattle.fx_value.specs.declared.scalar.Scalar.TheVariants.{Null, Int, Text, Time}

flag : Scalar → Bool
flag (scalar.Bool b) = b
flag s = false

number : Scalar → ℤ
number (Int n) = n
number (Time n) = n
number s = pos 0

bytes : Scalar → List ℕ
bytes (Text t) = t
bytes s = []

-- by rank, and then by what a scalar of that rank holds
by_keys : Scalar → Scalar → Ordering
by_keys = then_cmp (on rank nat_cmp) (then_cmp (on flag bool_cmp) (then_cmp (on number int_cmp) (on bytes text_cmp)))

then_Equal : (o : Ordering) → o ≡ ordering_then o Equal
then_Equal Less = refl
then_Equal Equal = refl
then_Equal Greater = refl

by_keys_is : (a b : Scalar) → scalar_cmp a b ≡ by_keys a b
unfolding by_keys flag number bytes
by_keys_is Null Null = refl
by_keys_is Null (scalar.Bool b) = refl
by_keys_is Null (Int b) = refl
by_keys_is Null (Text b) = refl
by_keys_is Null (Time b) = refl
by_keys_is (scalar.Bool a) Null = refl
by_keys_is (scalar.Bool a) (scalar.Bool b) = then_Equal (bool_cmp a b)
by_keys_is (scalar.Bool a) (Int b) = refl
by_keys_is (scalar.Bool a) (Text b) = refl
by_keys_is (scalar.Bool a) (Time b) = refl
by_keys_is (Int a) Null = refl
by_keys_is (Int a) (scalar.Bool b) = refl
by_keys_is (Int a) (Int b) = then_Equal (int_cmp a b)
by_keys_is (Int a) (Text b) = refl
by_keys_is (Int a) (Time b) = refl
by_keys_is (Text a) Null = refl
by_keys_is (Text a) (scalar.Bool b) = refl
by_keys_is (Text a) (Int b) = refl
by_keys_is (Text a) (Text b) = refl
by_keys_is (Text a) (Time b) = refl
by_keys_is (Time a) Null = refl
by_keys_is (Time a) (scalar.Bool b) = refl
by_keys_is (Time a) (Int b) = refl
by_keys_is (Time a) (Text b) = refl
by_keys_is (Time a) (Time b) = then_Equal (int_cmp a b)

by_keys_total : IsTotalOrder by_keys
unfolding by_keys
by_keys_total =
    then_total (on_total rank nat_cmp_total) (then_total (on_total flag bool_cmp_total) (then_total (on_total number int_cmp_total) (on_total bytes nat_list_cmp_total)))

pub scalar_cmp_total : IsTotalOrder scalar_cmp
scalar_cmp_total =
    let same : ◌≡◌ {A = Scalar → Scalar → Ordering} by_keys scalar_cmp = λ i a b. sym (by_keys_is a b) i in
    subst IsTotalOrder same by_keys_total

pub bool_same : IsAntisymmetric bool_cmp
bool_same true true e = refl
bool_same false false e = refl
bool_same true false e = cc
bool_same false true e = cc

pub scalar_same : IsAntisymmetric scalar_cmp
scalar_same Null Null e = refl
scalar_same Null (scalar.Bool b) e = cc
scalar_same Null (Int b) e = cc
scalar_same Null (Text b) e = cc
scalar_same Null (Time b) e = cc
scalar_same (scalar.Bool a) Null e = cc
scalar_same (scalar.Bool a) (scalar.Bool b) e = ap scalar.Bool (bool_same a b e)
scalar_same (scalar.Bool a) (Int b) e = cc
scalar_same (scalar.Bool a) (Text b) e = cc
scalar_same (scalar.Bool a) (Time b) e = cc
scalar_same (Int a) Null e = cc
scalar_same (Int a) (scalar.Bool b) e = cc
scalar_same (Int a) (Int b) e = ap Int (int_cmp-IsAntisymmetric a b e)
scalar_same (Int a) (Text b) e = cc
scalar_same (Int a) (Time b) e = cc
scalar_same (Text a) Null e = cc
scalar_same (Text a) (scalar.Bool b) e = cc
scalar_same (Text a) (Int b) e = cc
scalar_same (Text a) (Text b) e = ap Text (slice_cmp-IsAntisymmetric nat_cmp-IsAntisymmetric a b e)
scalar_same (Text a) (Time b) e = cc
scalar_same (Time a) Null e = cc
scalar_same (Time a) (scalar.Bool b) e = cc
scalar_same (Time a) (Int b) e = cc
scalar_same (Time a) (Text b) e = cc
scalar_same (Time a) (Time b) e = ap Time (int_cmp-IsAntisymmetric a b e)

-- the order that is derived is this one
pub derived_order : (a b : Scalar) → cmp-value.it a b ≡ scalar_cmp a b
derived_order Null Null = refl
derived_order Null (scalar.Bool b) = refl
derived_order Null (Int b) = refl
derived_order Null (Text b) = refl
derived_order Null (Time b) = refl
derived_order (scalar.Bool a) Null = refl
derived_order (scalar.Bool a) (scalar.Bool b) = refl
derived_order (scalar.Bool a) (Int b) = refl
derived_order (scalar.Bool a) (Text b) = refl
derived_order (scalar.Bool a) (Time b) = refl
derived_order (Int a) Null = refl
derived_order (Int a) (scalar.Bool b) = refl
derived_order (Int a) (Int b) = refl
derived_order (Int a) (Text b) = refl
derived_order (Int a) (Time b) = refl
derived_order (Text a) Null = refl
derived_order (Text a) (scalar.Bool b) = refl
derived_order (Text a) (Int b) = refl
derived_order (Text a) (Text b) = refl
derived_order (Text a) (Time b) = refl
derived_order (Time a) Null = refl
derived_order (Time a) (scalar.Bool b) = refl
derived_order (Time a) (Int b) = refl
derived_order (Time a) (Text b) = refl
derived_order (Time a) (Time b) = refl

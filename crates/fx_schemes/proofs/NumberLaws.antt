-- The numbers of the built-ins.
use Rattle.std.proofs.Common.{◌≡◌, refl, ap, subst, Option, None, Some, ℕ}
use Rattle.std.specs.Prelude.{option_map, slice_get}
use Rattle.fx_schemes.specs.declared.list.Builtin.{Builtin}
use Rattle.fx_schemes.specs.declared.list.Builtin.TheVariants as b
use Rattle.fx_schemes.specs.declared.name.BuiltinId as ids
use Rattle.fx_schemes.specs.Names.{all, number_of, id_of, IsId}

at_number : (x : Builtin) → slice_get all (number_of x) ≡ Some x
unfolding all
at_number b.From = refl
at_number _ = refl

pub at_its_number : (x : Builtin) (n : ℕ) → number_of x ≡ n → slice_get all n ≡ Some x
at_its_number x n e = subst (λ k. slice_get all k ≡ Some x) e (at_number x)

-- what `builtin` answers is the number of a built-in
pub known : (o : Option Builtin) (i : ids.BuiltinId) → option_map id_of o ≡ Some i → (x : Builtin) × IsId i x
known None i e = absurd cc
known (Some x) i e = let same : id_of x ≡ i = cc in (x, ap (λ j. j.number) same)

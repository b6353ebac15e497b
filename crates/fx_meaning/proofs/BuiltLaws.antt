-- What built-ins are, by their numbers.
use Rattle.std.proofs.Common.{◌≡◌, refl, ap, subst, sym, ◌∙◌, Option, None, Some, map}
use Rattle.std.specs.Prelude.{option_map, slice_get}
use Rattle.fx_schemes.specs.Names.{all, id_of, number_of}
use Rattle.fx_schemes.specs.declared.list.Builtin.{Builtin}
use Rattle.fx_schemes.specs.declared.list.Builtin.TheVariants as b
use Rattle.fx_schemes.specs.declared.name.BuiltinId as ids
use Rattle.fx_meaning.specs.Native.{built_of}

at_number : (x : Builtin) → slice_get (map built_of all) (number_of x) ≡ Some (built_of x)
unfolding all
at_number b.From = refl
at_number _ = refl

pub found_at : (o : Option Builtin) (i : ids.BuiltinId) → option_map id_of o ≡ Some i → slice_get (map built_of all) i.number ≡ option_map built_of o
found_at None i e = absurd cc
found_at (Some x) i e =
    let same : id_of x ≡ i = cc in
    subst (λ n. slice_get (map built_of all) n ≡ Some (built_of x)) (ap (λ j. j.number) same) (at_number x)

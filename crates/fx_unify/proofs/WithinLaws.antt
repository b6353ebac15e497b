-- Solutions within the limit.
use Rattle.std.proofs.Common.{inl, inr, sym, subst, ℕ, zero, suc, Bool, List, [], ◌∷◌, arith}
use Rattle.fx_types.specs.Ground.{Ground}
use Rattle.fx_types.specs.Instance.{Solution}
use Rattle.fx_types.specs.Kinds.{of_kind, IsAmong}
use Rattle.fx_types.specs.Raised.{splice, spliced}
use Rattle.fx_types.specs.Size.{IsType}
use Rattle.fx_types.proofs.PartLaws.{IsTypeField}
use Rattle.fx_value.specs.declared.scalar.Kind.{Kind}
use Rattle.fx_value.specs.declared.scalar.Kind.TheVariants as kind
use Rattle.fx_unify.specs.Work.{Within, IsRow}

-- solutions put together are within the limit where both are

all_splice : {A : Type 0} (P : A → Type 0) (m : ℕ) (f g : ℕ → A) → ((n : ℕ) → P (f n)) → ((n : ℕ) → P (g n)) → (n : ℕ) → P (splice m f g n)
all_splice P zero f g ps qs n = qs n
all_splice P (suc m) f g ps qs zero = ps zero
all_splice P (suc m) f g ps qs (suc n) = all_splice P m (λ i. f (suc i)) g (λ i. ps (suc i)) qs n

pub spliced_within : (m : ℕ) (s q : Solution) → Within s → Within q → Within (spliced m s q)
spliced_within m s q a b = (all_splice IsType m s.type_of q.type_of a.0 b.0, all_splice IsTypeField m s.field_of q.field_of a.1 b.1, all_splice IsRow m s.row_of q.row_of a.2 b.2)

-- a scalar is a type

kind_type : (k : Kind) → IsType (of_kind k)
kind_type kind.Bool = (tt, omega arith)
kind_type kind.Int = (tt, omega arith)
kind_type kind.Text = (tt, omega arith)
kind_type kind.Time = (tt, omega arith)

pub scalar_type : (ks : List Kind) (span : Bool) (g : Ground) → IsAmong ks span g → IsType g
scalar_type [] span g h = subst IsType (sym h.1) (tt, omega arith)
scalar_type (k ∷ ks) span g (inl e) = subst IsType (sym e) (kind_type k)
scalar_type (k ∷ ks) span g (inr h) = scalar_type ks span g h

-- A put is answered in one way.
use Rattle.std.proofs.Common.{◌≡◌, ℕ, List, [], ◌∷◌, Option, Some, All, sym, ap, subst, ◌∙◌}
use Rattle.std.proofs.lemmas.List.Elements.{All-head}
use Rattle.fx_value.specs.declared.scalar.Kind.{Kind}
use Rattle.fx_value.specs.Scalar.{kind_of}
use Rattle.fx_line.specs.declared.point.Point.{Point}
use Rattle.fx_line.specs.Stored.{StoredPoint, id_of, points_named, kind_of_points}
use Rattle.fx_series.specs.Put.{Agrees, Conflicts}

first_of_kind : (o : Option Kind) (old : Kind) (points : List Point) → All (λ p. kind_of p.value ≡ o) points → kind_of_points points ≡ Some old → o ≡ Some old
first_of_kind o old [] h e = cc e
first_of_kind o old (p ∷ points) h e = sym (All-head (λ p. kind_of p.value ≡ o) p points h) ∙ e

-- a point whose kind agrees with those before it is in no conflict
pub agrees_or_conflicts : (stored : List StoredPoint) (s : StoredPoint) (number : ℕ) (old new : Kind) → Agrees stored s → Conflicts stored s number old new → ⊥
agrees_or_conflicts stored s number old new agrees conflicts =
    conflicts.differ (cc (first_of_kind (kind_of s.point.value) old (points_named (id_of s) stored) agrees conflicts.earlier, conflicts.later))

-- a conflict shows one pair of kinds
pub same_kinds : (stored : List StoredPoint) (s : StoredPoint) (m n : ℕ) (old new old' new' : Kind) → Conflicts stored s m old new → Conflicts stored s n old' new' → (old ≡ old') × (new ≡ new')
same_kinds stored s m n old new old' new' g h = (cc (g.earlier, h.earlier), cc (g.later, h.later))

-- The use of a name whose type was kept, as inference.
use Rattle.std.proofs.Common.{◌≡◌, ◌↔◌, sym, subst, ℕ, ◌≤◌, max, arith}
use Rattle.fx_types.specs.Agree.{Agree}
use Rattle.fx_types.specs.Ground.{Ground}
use Rattle.fx_types.specs.Instance.{Solution, ground}
use Rattle.fx_types.specs.Numbers.{numbers}
use Rattle.fx_types.specs.Size.{IsType}
use Rattle.fx_types.specs.Term.{Term}
use Rattle.fx_types.proofs.AgreeLaws.{agree_term}
use Rattle.fx_unify.specs.declared.bindings.Bindings.{Bindings}
use Rattle.fx_unify.specs.Solutions.{Solves, next_of}
use Rattle.fx_unify.specs.Work.{Within}
use Rattle.fx_generalize.specs.Used.{Used}
use Rattle.fx_infer.specs.Infers.{Infers}

pub instance_asked : (D : Ground → Type 0) (old mid new : Bindings) (m : ℕ) (t : Term) → m ≡ next_of old → Used D old m mid t → next_of old ≤ next_of mid → ((s : Solution) → Solves s new ↔ (Solves s mid × IsType (ground s t)))
    → next_of new ≡ max (next_of mid) (numbers t) → Infers (λ s g. D g × IsType g) old new (λ s. ground s t)
instance_asked D old mid new m t first used le fits next = record {
  more = omega arith;
  below = λ s q agree. agree_term (next_of new) s q agree t (omega arith);
  keeps = λ s h. used.keeps s ((fits s).0 h).0;
  sound = λ s h. (used.sound s ((fits s).0 h).0, ((fits s).0 h).1);
  complete = complete;
}
  where
    complete : (s : Solution) → Solves s old → Within s → (g : Ground) → D g × IsType g → (q : Solution) × Agree (next_of old) s q × Solves q new × Within q × (ground q t ≡ g)
    complete s h within g d =
        let a : (q : Solution) × Agree m s q × Solves q mid × Within q × (ground q t ≡ g) = used.within s h within g d.0 d.1 in
        (a.0, subst (λ n. Agree n s a.0) first a.1, (fits a.0).1 (a.2, subst IsType (sym a.4) d.1), a.3, a.4)

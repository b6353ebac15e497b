-- From work to what is left of it where it is cut at its limit.
use Rattle.std.proofs.Common.{◌≡◌, ℕ, ◌+◌, ◌≤◌, Bool, true, false, add-zero, ap, sym, subst, arith, ◌∙◌}
use Rattle.std.specs.Prelude.{cond, nat_le}
use Rattle.std.proofs.lemmas.Bool.{le-leb}
use Rattle.fx_base.specs.declared.fault.Fault.{Fault}
use Rattle.fx_base.specs.declared.meter.Meter.{Meter}
use Rattle.fx_value.specs.Calls.{Ended, Exceeded}
use Rattle.fx_value.specs.Ends.{End, Gives, Faults, Stuck, More, IsLimited, NeverStuck, Stays, cut, later}
use Rattle.fx_rowfn.specs.Follows.{Goes, Passes}

cut_gives : {A : Type 0} (limit ticks : ℕ) (v : A) → ticks ≤ limit → cut limit (later ticks (Gives v 0)) ≡ Gives v ticks
cut_gives limit ticks v below =
    ap (λ n. cut limit (Gives v n)) (add-zero ticks) ∙ ap (λ b. cond b (Gives v ticks) More) (le-leb ticks limit below)

cut_faults : {A : Type 0} (limit ticks : ℕ) (f : Fault) → ticks ≤ limit → ◌≡◌ {A = End A} (cut limit (later ticks (Faults f 0))) (Faults f ticks)
cut_faults {A} limit ticks f below =
    ap (λ n. cut {A = A} limit (Faults f n)) (add-zero ticks) ∙ ap (λ b. cond {A = End A} b (Faults f ticks) More) (le-leb ticks limit below)

least_gives : {A : Type 0} (limit least : ℕ) (e : End A) (v : A) (ticks : ℕ) → cut limit (later least e) ≡ Gives v ticks → least ≤ ticks
least_gives {A} limit least (Gives w s) v ticks is = by (nat_le (least + s) limit) is
  where
    by : (b : Bool) → cond {A = End A} b (Gives w (least + s)) More ≡ Gives v ticks → least ≤ ticks
    by true same = let sum : least + s ≡ ticks = cc in omega (arith, sum)
    by false same = absurd cc
least_gives {A} limit least (Faults f s) v ticks is = by (nat_le (least + s) limit) is
  where
    by : (b : Bool) → cond {A = End A} b (Faults f (least + s)) More ≡ Gives v ticks → least ≤ ticks
    by true same = absurd cc
    by false same = absurd cc
least_gives limit least Stuck v ticks is = absurd cc
least_gives limit least More v ticks is = absurd cc

least_faults : {A : Type 0} (limit least : ℕ) (e : End A) (f : Fault) (ticks : ℕ) → cut limit (later least e) ≡ Faults f ticks → least ≤ ticks
least_faults {A} limit least (Gives w s) f ticks is = by (nat_le (least + s) limit) is
  where
    by : (b : Bool) → cond {A = End A} b (Gives w (least + s)) More ≡ Faults f ticks → least ≤ ticks
    by true same = absurd cc
    by false same = absurd cc
least_faults {A} limit least (Faults g s) f ticks is = by (nat_le (least + s) limit) is
  where
    by : (b : Bool) → cond {A = End A} b (Faults g (least + s)) More ≡ Faults f ticks → least ≤ ticks
    by true same = let sum : least + s ≡ ticks = cc in omega (arith, sum)
    by false same = absurd cc
least_faults limit least Stuck f ticks is = absurd cc
least_faults limit least More f ticks is = absurd cc

module _ {A : Type 0} (work : ℕ → End A) (before after : Meter) where
  abbrev told : ℕ → End A
  told limit = cut limit (work limit)

  pub value_cut : (v : A) → Goes work (λ _. Gives v 0) before after → Ended (λ limit. cut limit (work limit)) (Gives v) before after
  value_cut v g = record { ticks = g.ticks; spent = g.spent; at = λ limit below. ap (cut limit) (g.at limit below) ∙ cut_gives limit g.ticks v below }

  pub fault_cut : (f : Fault) → Goes work (λ _. Faults f 0) before after → Ended (λ limit. cut limit (work limit)) (Faults f) before after
  fault_cut f g = record { ticks = g.ticks; spent = g.spent; at = λ limit below. ap (cut limit) (g.at limit below) ∙ cut_faults {A = A} limit g.ticks f below }

  pub stuck_cut : NeverStuck (λ limit. cut limit (work limit)) → Goes work (λ _. Stuck) before after → ⊥
  stuck_cut unstuck g = unstuck g.ticks (ap (cut g.ticks) (g.at g.ticks (omega arith)))

  pub budget_cut : IsLimited (λ limit. cut limit (work limit)) → (sum : ℕ) → Passes work before sum → Exceeded (λ limit. cut limit (work limit)) before sum
  budget_cut limited sum p = record {
    past = p.past;
    gives = λ limit v ticks is.
        let most = p.ticks + ticks in
        let tick = p.at most (omega arith) in
        let stays : ticks ≤ most → told most ≡ Gives v ticks = subst (λ d. Stays limit most d (told most)) is (limited.stays limit most) in
        let least = least_gives most p.ticks tick.0 v ticks (ap (cut most) (sym tick.1) ∙ stays (omega arith)) in
        omega (arith, least, p.sum_is);
    faults = λ limit f ticks is.
        let most = p.ticks + ticks in
        let tick = p.at most (omega arith) in
        let stays : ticks ≤ most → told most ≡ Faults f ticks = subst (λ d. Stays limit most d (told most)) is (limited.stays limit most) in
        let least = least_faults most p.ticks tick.0 f ticks (ap (cut most) (sym tick.1) ∙ stays (omega arith)) in
        omega (arith, least, p.sum_is);
  }

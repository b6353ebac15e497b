-- Values that are looked at one after another, beside those that were seen.
use Rattle.std.proofs.Common.{◌≡◌, ℕ, Bool, true, false, List, [], ◌∷◌, ◌++◌, map, refl, sym, ap, ◌∙◌}
use Rattle.std.specs.Prelude.{cond, not, ◌&&◌, ◌||◌, if◌then◌else◌}
use Rattle.std.specs.FinMap as fin
use Rattle.std.specs.List.{filter, flat_map}
use Rattle.std.specs.Ordering.{eq_by_cmp}
use Rattle.fx_value.specs.declared.scalar.Scalar.{Scalar}
use Rattle.fx_value.specs.Scalar.{scalar_cmp}
use Rattle.fx_value.specs.contracts.scalar.ScalarOrd.TheImpl.{cmp-value}
use Rattle.fx_value.proofs.Scalars.{derived_order}
use Rattle.std.specs.declared.cmp.Ordering.{Ordering}
use Rattle.fx_data.specs.Gathered.{grouped, gathered, table_of}
use Rattle.fx_data.specs.Regrouped.{alone}
use Rattle.fx_data.specs.declared.table.Table.{Table}
use Rattle.fx_group.specs.Turned.{Groups}
use Rattle.fx_agg.specs.Distinct.{differing, distinct_rows, distinguished}

-- those of the values that were not seen
abbrev pub unseen : (Scalar → Bool) → List Scalar → List Scalar
unseen seen = filter (λ w. not (seen w))

-- nothing was seen
pub unseen_all : (seen : Scalar → Bool) → ((w : Scalar) → seen w ≡ false) → (ws : List Scalar) → unseen seen ws ≡ ws
unseen_all seen none [] = refl
unseen_all seen none (w ∷ ws) =
    ap (λ b. cond (not b) (w ∷ unseen seen ws) (unseen seen ws)) (none w) ∙ ap (λ vs. w ∷ vs) (unseen_all seen none ws)

module _ (first second both : Scalar → Bool) (same : (w : Scalar) → both w ≡ (first w && second w)) where
  filtered : (w : Scalar) (b : Bool) → first w ≡ b → (fs gs : List Scalar) → fs ≡ gs
      → cond b (cond (second w) (w ∷ fs) fs) fs ≡ cond (both w) (w ∷ gs) gs
  filtered w true e fs gs h =
      ap (λ us. cond (second w) (w ∷ us) us) h ∙ ap (λ b. cond b (w ∷ gs) gs) (sym (same w ∙ ap (λ b. b && second w) e))
  filtered w false e fs gs h = h ∙ ap (λ b. cond b (w ∷ gs) gs) (sym (same w ∙ ap (λ b. b && second w) e))

  -- what passes both tests passes one after the other
  filter_both : (ws : List Scalar) → filter second (filter first ws) ≡ filter both ws
  filter_both [] = refl
  filter_both (w ∷ ws) =
      let split : filter second (filter first (w ∷ ws))
      ≡ cond (first w) (cond (second w) (w ∷ filter second (filter first ws)) (filter second (filter first ws))) (filter second (filter first ws))
      = elim (first w) as (λ b. filter second (cond b (w ∷ filter first ws) (filter first ws))
      ≡ cond b (cond (second w) (w ∷ filter second (filter first ws)) (filter second (filter first ws))) (filter second (filter first ws))) [
        | true ↦ refl
        | false ↦ refl
      ] in
      split ∙ filtered w (first w) refl (filter second (filter first ws)) (filter both ws) (filter_both ws)

neither : (a b : Bool) → not (a || b) ≡ (not a && not b)
neither true b = refl
neither false b = refl

-- the next value is new or not, and then it was seen
pub unseen_next : (before after : Scalar → Bool) (v : Scalar) (vs : List Scalar) (new : Bool) → new ≡ not (before v)
    → ((w : Scalar) → after w ≡ (eq_by_cmp scalar_cmp v w || before w))
    → unseen before (differing (v ∷ vs)) ≡ (if new then v ∷ [] else []) ++ unseen after (differing vs)
unseen_next before after v vs new is seen =
    let others = filter (λ w. not (eq_by_cmp scalar_cmp v w)) (differing vs) in
    let left : unseen before others ≡ unseen after (differing vs)
    = filter_both (λ w. not (eq_by_cmp scalar_cmp v w)) (λ w. not (before w)) (λ w. not (after w))
    (λ w. ap not (seen w) ∙ neither (eq_by_cmp scalar_cmp v w) (before w)) (differing vs) in
    ap (λ b. cond b (v ∷ unseen before others) (unseen before others)) (sym is)
    ∙ elim new as (λ b. cond b (v ∷ unseen before others) (unseen before others) ≡ (if b then v ∷ [] else []) ++ unseen after (differing vs)) [
      | true ↦ ap (λ ws. v ∷ ws) left
      | false ↦ left
    ]

-- the order that is derived is this one
pub scalar_derived : ◌≡◌ {A = Scalar → Scalar → Ordering} cmp-value.it scalar_cmp
scalar_derived = λ i a b. derived_order a b i

pub seen_or : (b c : Bool) → cond b true c ≡ (b || c)
seen_or true c = refl
seen_or false c = refl

-- runs of the differing values of all tables, as tables
pub differing_is : (column : List ℕ) (tables : List Table) (runs : Groups) → runs ≡ grouped (map alone (flat_map (distinct_rows column) tables))
    → map table_of (fin.entries runs) ≡ distinguished column tables
unfolding gathered distinguished
differing_is column tables runs is = ap (λ (groups : Groups). map table_of (fin.entries groups)) is

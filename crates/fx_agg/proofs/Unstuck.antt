-- When aggregates and folds are Stuck under no limit.
use Rattle.std.proofs.Common.{◌≢◌, ℕ, List, [], ◌∷◌, ◌++◌, map, length, pos, refl}
use Rattle.std.specs.Prelude.{ℤ, ◌-ℤ◌, true, false, cond, nat_le, if◌then◌else◌}
use Rattle.std.specs.FinMap.{get}
use Rattle.std.specs.List.{AllByRecursion}
use Rattle.fx_base.specs.declared.fault.FaultKind.TheVariants.{Overflow}
use Rattle.fx_base.specs.declared.place.Place.{Place}
use Rattle.fx_value.specs.declared.scalar.Scalar.{Scalar}
use Rattle.fx_value.specs.declared.scalar.Scalar.TheVariants.{Int}
use Rattle.fx_value.specs.Ends.{End, Gives, Faults, Stuck, More, later, and_then, cut, NeverStuck}
use Rattle.fx_value.specs.Works.{flat_each}
use Rattle.fx_data.specs.declared.key.Key.{Key}
use Rattle.fx_data.specs.declared.table.Table.{Table}
use Rattle.fx_data.specs.Regrouped.{regrouped}
use Rattle.fx_group.specs.Answer.{Row, Meaning}
use Rattle.fx_group.proofs.Unstuck.{EachRow, each_of}
use Rattle.fx_agg.specs.Aggregate.{one_row, aggregated_table, aggregated_tables, aggregated}
use Rattle.fx_agg.specs.Chosen.{chosen}
use Rattle.fx_agg.specs.Numbers.{int_of, integers, in_64_bits, whole, sum_of, spread_of, summed, spread_over, total, least, greatest}
use Rattle.fx_agg.specs.OneRow.{valued, keyed}
use Rattle.fx_agg.specs.Reduce.{folded, reduced_rows, reduced_to, reduced_table, reduced_tables, reduced}
use Rattle.fx_agg.specs.declared.agg.Agg.{Agg}
use Rattle.fx_agg.specs.declared.agg.Agg.TheVariants.{Count, Sum, Min, Max, First, Last, Spread}

later_unstuck : {A : Type 0} (before : ℕ) (e : End A) → e ≢ Stuck → later before e ≢ Stuck
later_unstuck before (Gives v t) unstuck = λ is. cc
later_unstuck before (Faults f t) unstuck = λ is. cc
later_unstuck before Stuck unstuck = unstuck
later_unstuck before More unstuck = λ is. cc

then_unstuck : {A B : Type 0} (e : End A) (next : A → End B) → e ≢ Stuck → ((v : A) → next v ≢ Stuck) → and_then e next ≢ Stuck
then_unstuck (Gives v t) next unstuck after = later_unstuck t (next v) (after v)
then_unstuck (Faults f t) next unstuck after = λ is. cc
then_unstuck Stuck next unstuck after = λ _. unstuck refl
then_unstuck More next unstuck after = λ is. cc

gives_unstuck : {A : Type 0} (v : A) → Gives v 0 ≢ Stuck
gives_unstuck v = λ is. cc

each_unstuck : {X Y : Type 0} (step : X → End (List Y)) (xs : List X) → AllByRecursion (λ x. step x ≢ Stuck) xs → flat_each step xs ≢ Stuck
each_unstuck step [] unstuck = gives_unstuck []
each_unstuck step (x ∷ xs) unstuck =
    then_unstuck (step x) (λ ys. and_then (flat_each step xs) (λ zs. Gives (ys ++ zs) 0)) unstuck.0
    (λ ys. then_unstuck (flat_each step xs) (λ zs. Gives (ys ++ zs) 0) (each_unstuck step xs unstuck.1) (λ zs. gives_unstuck (ys ++ zs)))

all_items : {X : Type 0} (P : X → Type 0) → ((x : X) → P x) → (xs : List X) → AllByRecursion P xs
all_items P holds [] = tt
all_items P holds (x ∷ xs) = (holds x, all_items P holds xs)

-- ---- aggregates

whole_unstuck : (place : Place) (n : ℤ) → whole place n ≢ Stuck
whole_unstuck place n =
    elim (in_64_bits n) as (λ b. ◌≢◌ {A = End Scalar} (if b then Gives (Int n) 0 else Faults (record { kind = Overflow; place = place }) 0) Stuck) [ true ↦ λ is. cc | false ↦ λ is. cc ]

sum_unstuck : (place : Place) (ns : List ℤ) → sum_of place ns ≢ Stuck
sum_unstuck place [] = λ is. cc
sum_unstuck place (n ∷ ns) = whole_unstuck place (total (n ∷ ns))

spread_unstuck : (place : Place) (ns : List ℤ) → spread_of place ns ≢ Stuck
spread_unstuck place [] = λ is. cc
spread_unstuck place (n ∷ ns) = whole_unstuck place (greatest n ns -ℤ least n ns)

-- the row has an integer, null or nothing in the column
abbrev pub HasInt : List ℕ → Row → Type 0
HasInt column row = int_of (get row column) ≢ Stuck

-- what an aggregate asks of each row
abbrev pub Asks : Agg → List ℕ → Row → Type 0
Asks Sum column row = HasInt column row
Asks Spread column row = HasInt column row
Asks which column row = Unit {0}

module _ (place : Place) (column : List ℕ) where
  one_unstuck : (key : Key) (end : End Scalar) → end ≢ Stuck → one_row key column end ≢ Stuck
  one_unstuck key end unstuck = then_unstuck end (λ value. Gives (valued key column value ∷ []) 0) unstuck (λ value. gives_unstuck (valued key column value ∷ []))

  table_unstuck : (which : Agg) (t : Table) → AllByRecursion (Asks which column) t.rows → aggregated_table place which column t ≢ Stuck
  table_unstuck Count t asked = one_unstuck t.key (whole place (pos (length t.rows))) (whole_unstuck place (pos (length t.rows)))
  table_unstuck Sum t asked =
      one_unstuck t.key (summed place column t.rows)
      (then_unstuck (integers column t.rows) (sum_of place) (each_unstuck (λ row. int_of (get row column)) t.rows asked) (sum_unstuck place))
  table_unstuck Spread t asked =
      one_unstuck t.key (spread_over place column t.rows)
      (then_unstuck (integers column t.rows) (spread_of place) (each_unstuck (λ row. int_of (get row column)) t.rows asked) (spread_unstuck place))
  table_unstuck Min t asked = gives_unstuck (map (keyed t.key) (chosen Min column t.rows))
  table_unstuck Max t asked = gives_unstuck (map (keyed t.key) (chosen Max column t.rows))
  table_unstuck First t asked = gives_unstuck (map (keyed t.key) (chosen First column t.rows))
  table_unstuck Last t asked = gives_unstuck (map (keyed t.key) (chosen Last column t.rows))

  -- a sum or a spread is not Stuck where each row has an integer, null or nothing in the column; the others never are
  pub aggregate_never_stuck : (which : Agg) (tables : List Table) → EachRow (Asks which column) tables → aggregated place which column tables ≢ Stuck
  unfolding aggregated
  aggregate_never_stuck which tables asked =
      then_unstuck (aggregated_tables place which column tables) (λ rows. Gives (regrouped rows) 0)
      (each_unstuck (aggregated_table place which column) tables
      (each_of (λ t. AllByRecursion (Asks which column) t.rows) (λ t. aggregated_table place which column t ≢ Stuck) (table_unstuck which) tables asked))
      (λ rows. gives_unstuck (regrouped rows))

-- ---- `reduce`

cut_free : {A : Type 0} (limit : ℕ) (e : End A) → e ≢ Stuck → cut limit e ≢ Stuck
cut_free {A} limit (Gives v t) unstuck =
    elim (nat_le t limit) as (λ b. ◌≢◌ {A = End A} (cond b (Gives v t) More) Stuck) [ true ↦ λ is. cc | false ↦ λ is. cc ]
cut_free {A} limit (Faults f t) unstuck =
    elim (nat_le t limit) as (λ b. ◌≢◌ {A = End A} (cond b (Faults f t) More) Stuck) [ true ↦ λ is. cc | false ↦ λ is. cc ]
cut_free limit Stuck unstuck = unstuck
cut_free limit More unstuck = λ is. cc

module _ (means : Meaning) (limit : ℕ) (folds : (accumulator row : Row) → folded means limit accumulator row ≢ Stuck) where
  rows_unstuck : (accumulator : Row) (rows : List Row) → reduced_rows means accumulator rows limit ≢ Stuck
  rows_unstuck accumulator [] = gives_unstuck accumulator
  rows_unstuck accumulator (row ∷ rows) =
      then_unstuck (folded means limit accumulator row) (λ next. reduced_rows means next rows limit) (folds accumulator row) (λ next. rows_unstuck next rows)

  reduced_unstuck : (identity : Row) (t : Table) → reduced_table means identity limit t ≢ Stuck
  reduced_unstuck identity t =
      then_unstuck (reduced_rows means identity t.rows limit) (λ row. Gives (reduced_to t.key row ∷ []) 0) (rows_unstuck identity t.rows)
      (λ row. gives_unstuck (reduced_to t.key row ∷ []))

-- `reduce` is Stuck under no limit where its function makes a row of each two rows
pub reduce_never_stuck : (means : Meaning) (identity : Row) (tables : List Table) → ((limit : ℕ) (accumulator row : Row) → folded means limit accumulator row ≢ Stuck)
    → NeverStuck (reduced means identity tables)
unfolding reduced
reduce_never_stuck means identity tables folds limit =
    cut_free limit (and_then (reduced_tables means identity tables limit) (λ rows. Gives (regrouped rows) 0))
    (then_unstuck (reduced_tables means identity tables limit) (λ rows. Gives (regrouped rows) 0)
    (each_unstuck (reduced_table means identity limit) tables
    (all_items (λ t. reduced_table means identity limit t ≢ Stuck) (reduced_unstuck means limit (folds limit) identity) tables))
    (λ rows. gives_unstuck (regrouped rows)))

-- `sort` of streams that fit is safe.
use Rattle.std.proofs.Common.{refl, Bool, true, false, List, [], ◌∷◌, Option, Some, None}
use Rattle.std.specs.Prelude.{codes, if◌then◌else◌}
use Rattle.std.specs.List.{AllByRecursion}
use Rattle.std.specs.Ordering.{is_gt}
use Rattle.std.specs.declared.cmp.Ordering.{Ordering}
use Rattle.fx_base.specs.declared.place.Place.{Place}
use Rattle.fx_value.specs.declared.scalar.Kind.TheVariants as kind
use Rattle.fx_types.specs.Ground.{GroundRow, g_bool, g_stream}
use Rattle.fx_types.specs.Term.{Label}
use Rattle.fx_data.specs.declared.table.Table.{Table}
use Rattle.fx_schemes.specs.Builtins.{IsLine}
use Rattle.fx_schemes.specs.Given.{list_at}
use Rattle.fx_schemes.specs.Line.{from_tables, parameters, put}
use Rattle.fx_shape.specs.Sort.{directed_cmp, in_order, placed, rows_sorted}
use Rattle.fx_meaning.specs.declared.stream.StreamFn.TheVariants as s
use Rattle.fx_meaning.specs.Ends.{◌>>=◌, pure}
use Rattle.fx_meaning.specs.Meaning.{Tests}
use Rattle.fx_meaning.specs.Rows.{Row}
use Rattle.fx_meaning.specs.Value.{Val, cell, Slots, look}
use Rattle.fx_build.specs.Bound.{typed}
use Rattle.fx_build.specs.Fit.{fits, keeps_at}
use Rattle.fx_plan.specs.Operators.{flag_at, flag_or_false, sorted_in}
use Rattle.fx_build.specs.Rows.{RowFits, TablesFit}
use Rattle.fx_build.specs.Safe.{IsSafe}
use Rattle.fx_plan.specs.Sources.{Stored}
use Rattle.fx_build.proofs.ColumnCalls.{word_safe}
use Rattle.fx_build.proofs.KindLaws.{of_cell, of_flag}
use Rattle.fx_build.proofs.OperatorCalls.{OperatorIsSafe, by_line, one_safe}
use Rattle.fx_build.proofs.SafeLaws.{safe_then}
use Rattle.fx_build.proofs.SlotLaws.{AtSlot, keeps_out}

module _ (P : Row → Type 0) where
  step_all : (c : Bool) (row next : Row) (rows rest : List Row) → P row → P next → AllByRecursion P rows → AllByRecursion P rest → AllByRecursion P (if c then next ∷ rest else row ∷ next ∷ rows)
  step_all true row next rows rest h k all later = (k, later)
  step_all false row next rows rest h k all later = (h, (k, all))

  placed_all : (cmp : Row → Row → Ordering) (row : Row) (rows : List Row) → P row → AllByRecursion P rows → AllByRecursion P (placed cmp row rows)
  placed_all cmp row [] h all = (h, tt)
  placed_all cmp row (next ∷ rows) h all = step_all (is_gt (cmp row next)) row next rows (placed cmp row rows) h all.0 all.1 (placed_all cmp row rows h all.1)

  order_all : (cmp : Row → Row → Ordering) (rows : List Row) → AllByRecursion P rows → AllByRecursion P (in_order cmp rows)
  order_all cmp [] h = tt
  order_all cmp (row ∷ rows) h = placed_all cmp row (in_order cmp rows) h.0 (order_all cmp rows h.1)

pub sorted_all : (r : GroundRow) (columns : List Label) (desc : Bool) (tables : List Table) → TablesFit r tables → TablesFit r (rows_sorted columns desc tables)
unfolding rows_sorted
sorted_all r columns desc [] h = tt
sorted_all r columns desc (t ∷ tables) h = ((h.0.0, order_all (RowFits r) (directed_cmp desc columns) t.rows h.0.1), sorted_all r columns desc tables h.1)

pub flag_safe : (place : Place) (v : Val) → fits v g_bool → IsSafe (λ b. Unit {0}) (flag_at place v)
flag_safe place v h = of_cell kind.Bool v (λ y. IsSafe (λ b. Unit {0}) (flag_at place y)) h (λ a is. of_flag a (λ c. IsSafe (λ b. Unit {0}) (flag_at place (cell c))) is tt (λ b. tt))

desc_safe : (place : Place) (args : Slots) → keeps_at args (codes "desc") (typed g_bool) (Unit {0}) → IsSafe (λ b. Unit {0}) (flag_or_false place (look (codes "desc") args))
desc_safe place args h = at (look (codes "desc") args) (keeps_out args (codes "desc") (typed g_bool) (Unit {0}) h)
  where
    at : (o : Option Val) → AtSlot o (typed g_bool) (Unit {0}) → IsSafe (λ b. Unit {0}) (flag_or_false place o)
    at None k = tt
    at (Some v) k = flag_safe place v k

pub sort_safe : (test : Tests) (stored : Stored) → OperatorIsSafe test stored s.Sort
unfolding IsLine
sort_safe test stored place w L needs input r args limit tss line =
    let xs = line.0 in
    let q = line.2.0 in
    by_line test stored s.Sort w (from_tables q (codes "columns" ∷ []) [] ((codes "desc", g_bool) ∷ []) (g_stream q)) _ _ _ refl
    (λ place args limit tss is have further. one_safe (TablesFit q) (put (codes "tables") (g_stream q) (parameters [])) (codes "tables") q (sorted_in w place args) tss refl have
    (λ ts fit. word_safe (TablesFit q) (list_at w (codes "columns") (Some (codes "_value" ∷ []))) xs (λ columns. flag_or_false place (look (codes "desc") args) >>= (λ desc. pure (rows_sorted columns desc ts))) line.1
    (safe_then (λ b. Unit {0}) (TablesFit q) (flag_or_false place (look (codes "desc") args)) (λ desc. pure (rows_sorted xs desc ts)) (desc_safe place args (further (codes "desc")))
    (λ desc _. sorted_all q xs desc ts fit)))) place L needs input r args limit tss line.2.2

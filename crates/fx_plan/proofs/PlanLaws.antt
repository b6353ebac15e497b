-- The streams of plans, operator by operator.
use Rattle.std.proofs.Common.{◌≡◌, sym, ap, ◌∙◌, List, map}
use Rattle.std.specs.Prelude.{codes}
use Rattle.fx_base.specs.declared.place.Place.{Place}
use Rattle.fx_value.specs.declared.scalar.Kind.{Kind}
use Rattle.fx_meaning.specs.declared.stream.StreamFn.TheVariants as s
use Rattle.fx_meaning.specs.Value.{Stream, applied, no_streams, push}
use Rattle.fx_values.specs.declared.value.Closure.{Closure}
use Rattle.fx_values.specs.declared.value.Slot.{Slot}
use Rattle.fx_plan.specs.Plans.{args_of, literal, literals_behind, one, op_shape, stored_fn, stream_of, streams_in, two}
use Rattle.fx_plan.specs.declared.op.Op.{Op}
use Rattle.fx_plan.specs.declared.op.Op.TheFolds.{fold-roll-Op}
use Rattle.fx_plan.specs.declared.op.Op.TheOpen.{Op-F}
use Rattle.fx_plan.specs.declared.op.Op.TheVariants as o

pub of_from : (place : Place) (args : List Slot) (k : Kind) → stream_of (o.From place args k) ≡ applied (stored_fn k) place no_streams (args_of args)
unfolding stream_of
of_from place args k = ap stream_of (sym (o.rolls-From place args k)) ∙ fold-roll-Op Stream op_shape (Op-F.From place args k)

pub of_array_from : (place : Place) (args : List Slot) → stream_of (o.ArrayFrom place args) ≡ applied s.ArrayFrom place no_streams (args_of args)
unfolding stream_of
of_array_from place args = ap stream_of (sym (o.rolls-ArrayFrom place args)) ∙ fold-roll-Op Stream op_shape (Op-F.ArrayFrom place args)

pub of_range : (place : Place) (args : List Slot) (input : Op) → stream_of (o.Range place args input) ≡ applied s.Range place (one (stream_of input)) (args_of args)
unfolding stream_of
of_range place args input = ap stream_of (sym (o.rolls-Range place args input)) ∙ fold-roll-Op Stream op_shape (Op-F.Range place args input)

pub of_filter : (place : Place) (args : List Slot) (fs : List Closure) (input : Op) → stream_of (o.Filter place args fs input) ≡ applied s.Filter place (one (stream_of input)) (literals_behind (args_of args) (codes "fn") fs)
unfolding stream_of
of_filter place args fs input = ap stream_of (sym (o.rolls-Filter place args fs input)) ∙ fold-roll-Op Stream op_shape (Op-F.Filter place args fs input)

pub of_map : (place : Place) (args : List Slot) (f : Closure) (input : Op) → stream_of (o.Map place args f input) ≡ applied s.Map place (one (stream_of input)) (push (args_of args) (codes "fn") (literal f))
unfolding stream_of
of_map place args f input = ap stream_of (sym (o.rolls-Map place args f input)) ∙ fold-roll-Op Stream op_shape (Op-F.Map place args f input)

pub of_group : (place : Place) (args : List Slot) (input : Op) → stream_of (o.Group place args input) ≡ applied s.Group place (one (stream_of input)) (args_of args)
unfolding stream_of
of_group place args input = ap stream_of (sym (o.rolls-Group place args input)) ∙ fold-roll-Op Stream op_shape (Op-F.Group place args input)

pub of_window : (place : Place) (args : List Slot) (input : Op) → stream_of (o.Window place args input) ≡ applied s.Window place (one (stream_of input)) (args_of args)
unfolding stream_of
of_window place args input = ap stream_of (sym (o.rolls-Window place args input)) ∙ fold-roll-Op Stream op_shape (Op-F.Window place args input)

pub of_aggregate_window : (place : Place) (args : List Slot) (input : Op) → stream_of (o.AggregateWindow place args input) ≡ applied s.AggregateWindow place (one (stream_of input)) (args_of args)
unfolding stream_of
of_aggregate_window place args input = ap stream_of (sym (o.rolls-AggregateWindow place args input)) ∙ fold-roll-Op Stream op_shape (Op-F.AggregateWindow place args input)

pub of_reduce : (place : Place) (args : List Slot) (f : Closure) (input : Op) → stream_of (o.Reduce place args f input) ≡ applied s.Reduce place (one (stream_of input)) (push (args_of args) (codes "fn") (literal f))
unfolding stream_of
of_reduce place args f input = ap stream_of (sym (o.rolls-Reduce place args f input)) ∙ fold-roll-Op Stream op_shape (Op-F.Reduce place args f input)

pub of_count : (place : Place) (args : List Slot) (input : Op) → stream_of (o.Count place args input) ≡ applied s.Count place (one (stream_of input)) (args_of args)
unfolding stream_of
of_count place args input = ap stream_of (sym (o.rolls-Count place args input)) ∙ fold-roll-Op Stream op_shape (Op-F.Count place args input)

pub of_sum : (place : Place) (args : List Slot) (input : Op) → stream_of (o.Sum place args input) ≡ applied s.Sum place (one (stream_of input)) (args_of args)
unfolding stream_of
of_sum place args input = ap stream_of (sym (o.rolls-Sum place args input)) ∙ fold-roll-Op Stream op_shape (Op-F.Sum place args input)

pub of_spread : (place : Place) (args : List Slot) (input : Op) → stream_of (o.Spread place args input) ≡ applied s.Spread place (one (stream_of input)) (args_of args)
unfolding stream_of
of_spread place args input = ap stream_of (sym (o.rolls-Spread place args input)) ∙ fold-roll-Op Stream op_shape (Op-F.Spread place args input)

pub of_distinct : (place : Place) (args : List Slot) (input : Op) → stream_of (o.Distinct place args input) ≡ applied s.Distinct place (one (stream_of input)) (args_of args)
unfolding stream_of
of_distinct place args input = ap stream_of (sym (o.rolls-Distinct place args input)) ∙ fold-roll-Op Stream op_shape (Op-F.Distinct place args input)

pub of_min : (place : Place) (args : List Slot) (input : Op) → stream_of (o.Min place args input) ≡ applied s.Min place (one (stream_of input)) (args_of args)
unfolding stream_of
of_min place args input = ap stream_of (sym (o.rolls-Min place args input)) ∙ fold-roll-Op Stream op_shape (Op-F.Min place args input)

pub of_max : (place : Place) (args : List Slot) (input : Op) → stream_of (o.Max place args input) ≡ applied s.Max place (one (stream_of input)) (args_of args)
unfolding stream_of
of_max place args input = ap stream_of (sym (o.rolls-Max place args input)) ∙ fold-roll-Op Stream op_shape (Op-F.Max place args input)

pub of_first : (place : Place) (args : List Slot) (input : Op) → stream_of (o.First place args input) ≡ applied s.First place (one (stream_of input)) (args_of args)
unfolding stream_of
of_first place args input = ap stream_of (sym (o.rolls-First place args input)) ∙ fold-roll-Op Stream op_shape (Op-F.First place args input)

pub of_last : (place : Place) (args : List Slot) (input : Op) → stream_of (o.Last place args input) ≡ applied s.Last place (one (stream_of input)) (args_of args)
unfolding stream_of
of_last place args input = ap stream_of (sym (o.rolls-Last place args input)) ∙ fold-roll-Op Stream op_shape (Op-F.Last place args input)

pub of_keep : (place : Place) (args : List Slot) (input : Op) → stream_of (o.Keep place args input) ≡ applied s.Keep place (one (stream_of input)) (args_of args)
unfolding stream_of
of_keep place args input = ap stream_of (sym (o.rolls-Keep place args input)) ∙ fold-roll-Op Stream op_shape (Op-F.Keep place args input)

pub of_drop_columns : (place : Place) (args : List Slot) (input : Op) → stream_of (o.DropColumns place args input) ≡ applied s.DropColumns place (one (stream_of input)) (args_of args)
unfolding stream_of
of_drop_columns place args input = ap stream_of (sym (o.rolls-DropColumns place args input)) ∙ fold-roll-Op Stream op_shape (Op-F.DropColumns place args input)

pub of_rename : (place : Place) (args : List Slot) (input : Op) → stream_of (o.Rename place args input) ≡ applied s.Rename place (one (stream_of input)) (args_of args)
unfolding stream_of
of_rename place args input = ap stream_of (sym (o.rolls-Rename place args input)) ∙ fold-roll-Op Stream op_shape (Op-F.Rename place args input)

pub of_duplicate : (place : Place) (args : List Slot) (input : Op) → stream_of (o.Duplicate place args input) ≡ applied s.Duplicate place (one (stream_of input)) (args_of args)
unfolding stream_of
of_duplicate place args input = ap stream_of (sym (o.rolls-Duplicate place args input)) ∙ fold-roll-Op Stream op_shape (Op-F.Duplicate place args input)

pub of_set : (place : Place) (args : List Slot) (input : Op) → stream_of (o.Set place args input) ≡ applied s.Set place (one (stream_of input)) (args_of args)
unfolding stream_of
of_set place args input = ap stream_of (sym (o.rolls-Set place args input)) ∙ fold-roll-Op Stream op_shape (Op-F.Set place args input)

pub of_fill : (place : Place) (args : List Slot) (input : Op) → stream_of (o.Fill place args input) ≡ applied s.Fill place (one (stream_of input)) (args_of args)
unfolding stream_of
of_fill place args input = ap stream_of (sym (o.rolls-Fill place args input)) ∙ fold-roll-Op Stream op_shape (Op-F.Fill place args input)

pub of_sort : (place : Place) (args : List Slot) (input : Op) → stream_of (o.Sort place args input) ≡ applied s.Sort place (one (stream_of input)) (args_of args)
unfolding stream_of
of_sort place args input = ap stream_of (sym (o.rolls-Sort place args input)) ∙ fold-roll-Op Stream op_shape (Op-F.Sort place args input)

pub of_limit : (place : Place) (args : List Slot) (input : Op) → stream_of (o.Limit place args input) ≡ applied s.Limit place (one (stream_of input)) (args_of args)
unfolding stream_of
of_limit place args input = ap stream_of (sym (o.rolls-Limit place args input)) ∙ fold-roll-Op Stream op_shape (Op-F.Limit place args input)

pub of_tail : (place : Place) (args : List Slot) (input : Op) → stream_of (o.Tail place args input) ≡ applied s.Tail place (one (stream_of input)) (args_of args)
unfolding stream_of
of_tail place args input = ap stream_of (sym (o.rolls-Tail place args input)) ∙ fold-roll-Op Stream op_shape (Op-F.Tail place args input)

pub of_difference : (place : Place) (args : List Slot) (input : Op) → stream_of (o.Difference place args input) ≡ applied s.Difference place (one (stream_of input)) (args_of args)
unfolding stream_of
of_difference place args input = ap stream_of (sym (o.rolls-Difference place args input)) ∙ fold-roll-Op Stream op_shape (Op-F.Difference place args input)

pub of_cumulative_sum : (place : Place) (args : List Slot) (input : Op) → stream_of (o.CumulativeSum place args input) ≡ applied s.CumulativeSum place (one (stream_of input)) (args_of args)
unfolding stream_of
of_cumulative_sum place args input = ap stream_of (sym (o.rolls-CumulativeSum place args input)) ∙ fold-roll-Op Stream op_shape (Op-F.CumulativeSum place args input)

pub of_elapsed : (place : Place) (args : List Slot) (input : Op) → stream_of (o.Elapsed place args input) ≡ applied s.Elapsed place (one (stream_of input)) (args_of args)
unfolding stream_of
of_elapsed place args input = ap stream_of (sym (o.rolls-Elapsed place args input)) ∙ fold-roll-Op Stream op_shape (Op-F.Elapsed place args input)

pub of_union : (place : Place) (args : List Slot) (inputs : List Op) → stream_of (o.Union place args inputs) ≡ applied s.Union place (streams_in inputs) (args_of args)
unfolding stream_of
of_union place args inputs = ap stream_of (sym (o.rolls-Union place args inputs)) ∙ fold-roll-Op Stream op_shape (Op-F.Union place args inputs)

pub of_pivot : (place : Place) (args : List Slot) (input : Op) → stream_of (o.Pivot place args input) ≡ applied s.Pivot place (one (stream_of input)) (args_of args)
unfolding stream_of
of_pivot place args input = ap stream_of (sym (o.rolls-Pivot place args input)) ∙ fold-roll-Op Stream op_shape (Op-F.Pivot place args input)

pub of_join_inner : (place : Place) (args : List Slot) (on : Closure) (both : Closure) (left : Op) (right : Op) → stream_of (o.JoinInner place args on both left right) ≡ applied s.JoinInner place (two (stream_of left) (stream_of right)) (push (push (args_of args) (codes "on") (literal on)) (codes "as") (literal both))
unfolding stream_of
of_join_inner place args on both left right = ap stream_of (sym (o.rolls-JoinInner place args on both left right)) ∙ fold-roll-Op Stream op_shape (Op-F.JoinInner place args on both left right)

pub of_join_left : (place : Place) (args : List Slot) (on : Closure) (both : Closure) (left : Op) (right : Op) → stream_of (o.JoinLeft place args on both left right) ≡ applied s.JoinLeft place (two (stream_of left) (stream_of right)) (push (push (args_of args) (codes "on") (literal on)) (codes "as") (literal both))
unfolding stream_of
of_join_left place args on both left right = ap stream_of (sym (o.rolls-JoinLeft place args on both left right)) ∙ fold-roll-Op Stream op_shape (Op-F.JoinLeft place args on both left right)

pub of_join_right : (place : Place) (args : List Slot) (on : Closure) (both : Closure) (left : Op) (right : Op) → stream_of (o.JoinRight place args on both left right) ≡ applied s.JoinRight place (two (stream_of left) (stream_of right)) (push (push (args_of args) (codes "on") (literal on)) (codes "as") (literal both))
unfolding stream_of
of_join_right place args on both left right = ap stream_of (sym (o.rolls-JoinRight place args on both left right)) ∙ fold-roll-Op Stream op_shape (Op-F.JoinRight place args on both left right)

pub of_join_full : (place : Place) (args : List Slot) (on : Closure) (both : Closure) (left : Op) (right : Op) → stream_of (o.JoinFull place args on both left right) ≡ applied s.JoinFull place (two (stream_of left) (stream_of right)) (push (push (args_of args) (codes "on") (literal on)) (codes "as") (literal both))
unfolding stream_of
of_join_full place args on both left right = ap stream_of (sym (o.rolls-JoinFull place args on both left right)) ∙ fold-roll-Op Stream op_shape (Op-F.JoinFull place args on both left right)

pub of_join_time : (place : Place) (args : List Slot) (both : Closure) (left : Op) (right : Op) → stream_of (o.JoinTime place args both left right) ≡ applied s.JoinTime place (two (stream_of left) (stream_of right)) (push (args_of args) (codes "as") (literal both))
unfolding stream_of
of_join_time place args both left right = ap stream_of (sym (o.rolls-JoinTime place args both left right)) ∙ fold-roll-Op Stream op_shape (Op-F.JoinTime place args both left right)

pub of_texts : (place : Place) (args : List Slot) (k : Kind) → stream_of (o.Texts place args k) ≡ applied (stored_fn k) place no_streams (args_of args)
unfolding stream_of
of_texts place args k = ap stream_of (sym (o.rolls-Texts place args k)) ∙ fold-roll-Op Stream op_shape (Op-F.Texts place args k)

pub of_bools : (place : Place) (args : List Slot) (k : Kind) → stream_of (o.Bools place args k) ≡ applied (stored_fn k) place no_streams (args_of args)
unfolding stream_of
of_bools place args k = ap stream_of (sym (o.rolls-Bools place args k)) ∙ fold-roll-Op Stream op_shape (Op-F.Bools place args k)

pub ruleset stream_laws = (of_from, of_array_from, of_range, of_filter, of_map, of_group, of_window, of_aggregate_window, of_reduce, of_count, of_sum, of_spread, of_distinct, of_min, of_max, of_first, of_last, of_keep, of_drop_columns, of_rename, of_duplicate, of_set, of_fill, of_sort, of_limit, of_tail, of_difference, of_cumulative_sum, of_elapsed, of_union, of_pivot, of_join_inner, of_join_left, of_join_right, of_join_full, of_join_time, of_texts, of_bools)

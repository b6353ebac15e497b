use Rattle.std.proofs.Common.{ℕ, List, ◌++◌, take, map}
use Rattle.fx_csv.specs.Heads.{head_field}
use Rattle.fx_csv.specs.Lines.{HasFields}
use Rattle.fx_csv.proofs.head.push_fields.Given as goal

abbrev pub invariant-loop-column : goal.invariant-loop-column
invariant-loop-column l =
    (all : List (List ℕ)) → HasFields l.initial.line all → HasFields l.line (all ++ map (head_field l.head) (take l.column-index l.columns))

use Rattle.std.proofs.Common.{◌≡◌, ◌++◌, map, take}
use Rattle.std.specs.List.{filter}
use Rattle.fx_ast.specs.Free.{free_fun, name_of}
use Rattle.fx_ast.specs.Shape.{body, param, params_of}
use Rattle.fx_values.specs.Shape.{slot}
use Rattle.fx_rowfn.proofs.functions.kept_free.Given as goal

abbrev pub invariant-loop-from : goal.invariant-loop-from
invariant-loop-from l = map slot l.kept ≡ map slot l.fn.before ++ filter (λ o. free_fun (params_of (map param l.params)) (body l.of).lets (body l.of).result (name_of o.label)) (map slot (take l.from-index l.slots))

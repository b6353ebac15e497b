use Rattle.std.proofs.Common.{map}
use Rattle.fx_ast.specs.Free.{free_fun, name_of}
use Rattle.fx_ast.specs.Shape.{body, param, params_of}
use Rattle.fx_values.specs.Shape.{slot}
use Rattle.fx_rowfn.proofs.FunctionLaws.{kept_all, kept_more}
use Rattle.fx_rowfn.proofs.functions.kept_free.Goals as goal

pub loop-from-preserved : goal.loop-from-preserved
loop-from-preserved c =
    let k = body c.args.of.now in
    kept_more (λ x. free_fun (params_of (map param c.args.params.now)) k.lets k.result (name_of x)) (map slot c.args.before) (map slot c.loop-from.kept) (map slot c.keep_free.new.kept) c.args.slots.now
    c.loop-from.from-index c.from-item.result c.loop-from-test.true c.from-item.is c.loop-from.invariant c.in_ok-keep_free.ensures

pub returns : goal.returns
returns c =
    let k = body c.args.of.now in
    kept_all (λ x. free_fun (params_of (map param c.args.params.now)) k.lets k.result (name_of x)) (map slot c.args.before) (map slot c.loop-from.kept) c.args.slots.now
    c.loop-from.from-index c.loop-from-test.false c.loop-from.invariant

use Rattle.std.proofs.Common.{sym, ◌∙◌, subst}
use Rattle.std.specs.Prelude.{All}
use Rattle.fx_line.specs.Line.{Gives}
use Rattle.fx_line.specs.Stored.{IsLawful}
use Rattle.fx_load.proofs.LoadLemmas.{line_of_points}
use Rattle.fx_load.proofs.KnownLemmas.{fits_put}
use Rattle.fx_load.proofs.load.load_new.Goals as goal

pub put_points-requires-clause-lawful : goal.put_points-requires-clause-lawful
put_points-requires-clause-lawful c = subst (All IsLawful) (sym c.into_vec.ensures) c.in-Ok.ensures.lawful

pub returns-in-Ok-clause-loads : goal.returns-in-Ok-clause-loads
returns-in-Ok-clause-loads c = λ buckets stored stands.
    line_of_points c.args.mode buckets c.args.bucket.now c.args.line.now c.into_vec.result.items stored c.put_points.new.store c.put_points.result
    (subst (Gives c.args.mode c.args.line.now) (sym c.into_vec.ensures) c.in-Ok.ensures.points) (c.put_points.ensures buckets stored stands)

pub returns-in-Ok-clause-fits : goal.returns-in-Ok-clause-fits
returns-in-Ok-clause-fits c =
    let ready = c.requires.ready in
    fits_put c.args.mode c.args.bucket.now c.learn.new.memo c.args.store.now c.put_points.new.store c.into_vec.result.items c.put_points.result ready (c.put_points.ensures ready.buckets ready.stored ready.stands) c.learn.ensures

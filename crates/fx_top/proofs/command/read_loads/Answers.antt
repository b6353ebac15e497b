use Rattle.std.proofs.Common.{sym, subst}
use Rattle.fx_top.specs.Command.{IsLoad}
use Rattle.fx_top.proofs.CommandLemmas.{loaded_word, loads_on, no_loads}
use Rattle.fx_top.proofs.command.read_loads.Goals as goal

pub returns-in_default : goal.returns-in_default
returns-in_default c =
    no_loads c.args.words.now c.loop-word.word-index c.word-item.result c.loop-word-test.true c.word-item.is
    (λ l h. c.in_default.ensures.none l.bucket l.file (subst (λ w. IsLoad w l.bucket l.file) (sym c.as_str.ensures) h))

pub loop-word-preserved : goal.loop-word-preserved
loop-word-preserved c =
    loads_on c.args.words.now c.loop-word.loads c.push.new.self c.loop-word.word-index c.word-item.result (record { bucket = c.in_ok-of.field-0; file = c.in_ok-of-2.field-0 }) c.loop-word-test.true c.word-item.is
    c.in_ok-push.ensures.ok c.loop-word.invariant
    (loaded_word c.word-item.result c.as_str.result.now c.in-Some.bucket.now c.in_ok-of.field-0 c.in-Some.file.now c.in_ok-of-2.field-0 c.as_str.ensures c.in_ok-of.ensures c.in_ok-of-2.ensures c.in-Some.ensures.some)

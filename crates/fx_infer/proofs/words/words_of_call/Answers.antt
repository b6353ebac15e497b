use Rattle.std.proofs.Common.{◌∙◌, sym}
use Rattle.fx_infer.proofs.WrittenLaws.{words_in, no_form, with_form, read_more, read_past, read_none}
use Rattle.fx_infer.proofs.words.words_of_call.Goals as goal

pub loop-arg-preserved-in-None : goal.loop-arg-preserved-in-None
loop-arg-preserved-in-None c b is =
    read_past (words_in b) c.args.args.now c.loop-arg.arg-index c.loop-arg.given c.arg-item.result c.loop-arg-test.true c.arg-item.is (c.loop-arg.invariant b is) (no_form b c.arg-item.result _ (sym (c.form_of.ensures b is) ∙ c.in-None.is))

pub returns-in-None-2 : goal.returns-in-None-2
returns-in-None-2 c b is =
    sym (read_none (words_in b) c.args.args.now c.loop-arg.arg-index c.loop-arg.given c.arg-item.result c.loop-arg-test.true c.arg-item.is (c.loop-arg.invariant b is)
    (with_form b c.arg-item.result _ c.in-Some.form _ (sym (c.form_of.ensures b is) ∙ c.in-Some.is) (sym c.in-None-2.is ∙ c.in_ok-words.ensures)))

pub loop-arg-preserved : goal.loop-arg-preserved
loop-arg-preserved c b is =
    read_more (words_in b) c.args.args.now c.loop-arg.arg-index c.loop-arg.given c.arg-item.result c.loop-arg-test.true c.arg-item.is (c.loop-arg.invariant b is) c.in-Some-2.words _
    (with_form b c.arg-item.result _ c.in-Some.form _ (sym (c.form_of.ensures b is) ∙ c.in-Some.is) (sym c.in-Some-2.is ∙ c.in_ok-words.ensures)) c.in_ok-push.ensures.ok

use Rattle.fx_parse.proofs.tokens.SpanLemmas.{cut_by, shorter_by}
use Rattle.fx_parse.proofs.span.first_pair.Goals as goal

pub returns-clause-pair : goal.returns-clause-pair
returns-clause-pair c = cut_by c.args.text.now c.split_at.result.0.now c.split_at.result.1.now c.split_at-2.result.0.now c.split_at-2.result.1.now
    c.digits_len.result c.unit_len.result c.number_of.result c.unit_of.result c.digits_len.ensures.value c.split_at.ensures.front c.split_at.ensures.back
    c.unit_len.ensures.value c.split_at-2.ensures.front c.split_at-2.ensures.back c.number_of.ensures c.unit_of.ensures

pub returns-clause-shorter : goal.returns-clause-shorter
returns-clause-shorter c = shorter_by c.args.text.now c.split_at.result.1.now c.split_at-2.result.1.now c.digits_len.result c.unit_len.result
    c.digits_len.ensures.value c.split_at.ensures.back c.unit_len.ensures.value c.split_at-2.ensures.back

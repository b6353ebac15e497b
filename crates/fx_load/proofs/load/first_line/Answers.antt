use Rattle.std.proofs.Common.{◌∙◌, ◌∷◌, ap, sym, length, length-append, arith}
use Rattle.fx_load.specs.Bytes.{lines_of}
use Rattle.fx_load.proofs.BytesLemmas.{lines_of-cut, lines_of-end, return_short}
use Rattle.fx_load.proofs.load.first_line.Goals as goal

pub returns-in-Some-clause-lines : goal.returns-in-Some-clause-lines
returns-in-Some-clause-lines c =
    ap lines_of c.in-Some.ensures.parts ∙ lines_of-cut c.in-Some.line.now c.in-Some.behind.now c.in-Some.ensures.first ∙ ap (λ l. l ∷ lines_of c.in-Some.behind.now) (sym c.without_return.ensures)

pub returns-in-Some-clause-small : goal.returns-in-Some-clause-small
returns-in-Some-clause-small c =
    omega (arith, ap length c.without_return.ensures, return_short c.in-Some.line.now, ap length c.in-Some.ensures.parts, length-append c.in-Some.line.now (10 ∷ c.in-Some.behind.now))

pub returns-in-None-clause-lines : goal.returns-in-None-clause-lines
returns-in-None-clause-lines c = lines_of-end c.args.text.now c.in-None.ensures.none

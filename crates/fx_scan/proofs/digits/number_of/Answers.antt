use Rattle.std.proofs.Common.{arith}
use Rattle.fx_scan.proofs.NumberLemmas.{number_over, digit_at}
use Rattle.fx_scan.proofs.digits.number_of.Goals as goal

pub overflow_sub-number : goal.overflow_sub-number
overflow_sub-number c = digit_at c.args.digits.now c.digits.digit-index c.requires (omega arith)

pub returns-then-number-gt-GREATEST-clause-value : goal.returns-then-number-gt-GREATEST-clause-value
returns-then-number-gt-GREATEST-clause-value c =
    number_over c.args.digits.now c.digits.digit-index c.digits.number (omega arith) c.digits.invariant.value (omega arith)

use Rattle.fx_line.proofs.PieceLaw.{int_at, found_short, int_cut}
use Rattle.fx_line.proofs.pieces.read_int.Goals as goal

pub overflow_sub-bytes : goal.overflow_sub-bytes
overflow_sub-bytes c =
    found_short c.args.bytes.now c.in_ok-behind.behind.now
    (int_at c.args.bytes.now c.without_minus-digits.result.now c.behind_digits.result.now c.in_ok-behind.behind.now c.without_minus-digits.ensures c.if-not-begins_with_digit.ensures c.behind_digits.ensures c.in_ok-behind.ensures)

pub returns : goal.returns
returns c =
    let found = int_at c.args.bytes.now c.without_minus-digits.result.now c.behind_digits.result.now c.in_ok-behind.behind.now c.without_minus-digits.ensures c.if-not-begins_with_digit.ensures c.behind_digits.ensures c.in_ok-behind.ensures in
    int_cut c.args.bytes.now c.in_ok-behind.behind.now c.split_at.result.0.now c.split_at.result.1.now c.in_ok-number.number found
    c.split_at.ensures.front c.split_at.ensures.back c.in_ok-number.ensures.exact c.in_ok-number.ensures.fits

use Rattle.std.proofs.Common.{◌≡◌, true, false, take, drop, sym, ap, ◌∙◌}
use Rattle.fx_scan.specs.Forms.{is_digit}
use Rattle.fx_scan.specs.Readers.{int_fits}
use Rattle.fx_scan.proofs.Runs.{run_passes}
use Rattle.fx_scan.proofs.FoundLemmas.{int_at, no_int_at}
use Rattle.fx_scan.proofs.front.int_at.Goals as goal

pub is_int-requires : goal.is_int-requires
is_int-requires c = rw (c.front.ensures, c.digits_len-len.ensures.value) (run_passes is_digit c.args.s.now)

pub returns-then-is_int : goal.returns-then-is_int
returns-then-is_int c =
    let fits : int_fits (take c.digits_len-len.result c.args.s.now) (drop c.digits_len-len.result c.args.s.now) ≡ true =
    ap (λ x. int_fits x (drop c.digits_len-len.result c.args.s.now)) (sym c.front.ensures) ∙ ap (int_fits c.front.result.now) (sym c.past.ensures) ∙ sym c.is_int.ensures ∙ c.if-is_int.true in
    int_at c.args.mode c.args.s.now c.digits_len-len.result c.requires.digits c.requires.no_time c.requires.no_span c.digits_len-len.ensures.value fits

pub returns-else-is_int : goal.returns-else-is_int
returns-else-is_int c =
    let fails : int_fits (take c.digits_len-len.result c.args.s.now) (drop c.digits_len-len.result c.args.s.now) ≡ false =
    ap (λ x. int_fits x (drop c.digits_len-len.result c.args.s.now)) (sym c.front.ensures) ∙ ap (int_fits c.front.result.now) (sym c.past.ensures) ∙ sym c.is_int.ensures ∙ c.if-is_int.false in
    no_int_at c.args.mode c.args.s.now c.digits_len-len.result c.requires.digits c.requires.no_time c.requires.no_span c.digits_len-len.ensures.value fails

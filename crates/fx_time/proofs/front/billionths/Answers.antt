use Rattle.std.proofs.Common.{◌≡◌, suc, ◌+◌, ◌-◌, ◌*◌, ◌/◌, ◌^◌, ◌≤◌, length, get_or, get_or-take, ap, ◌∙◌, arith}
use Rattle.std.proofs.Math.Nat.{mul-le-mul_right}
use Rattle.std.proofs.lemmas.Grind.{common_steps}
use Rattle.std.proofs.lemmas.Bool.Decides.{nat_tests}
use Rattle.std.proofs.lemmas.List.{at_drop_all}
use Rattle.jiff_fmt.specs.Reader.{fraction_value}
use Rattle.jiff_fmt.proofs.ReaderLemmas.{fraction_value-nil, fraction_value-drop, tenth, ten_pow-pos}
use Rattle.fx_time.specs.Front.{billionths}
use Rattle.fx_time.proofs.front.billionths.Goals as goal

-- one digit more is worth a tenth of the place before
pub digits-preserved : goal.digits-preserved
digits-preserved c =
    let l = c.digits in
    let i = l.digit-index in
    let digits = c.split_at.result.0.now in
    let short : length digits ≤ 9 = omega (arith, c.split_at.ensures.front_len) in
    let left = 9 - (i + 1) in
    let next : 9 - i ≡ suc left = omega arith in
    let place : l.place / 10 ≡ 10 ^ left = omega (arith, tenth _ left next) in
    let read : get_or digits i 0 ≡ get_or c.args.s.now i 0 =
    ap (λ xs. get_or xs i 0) c.split_at.ensures.front ∙ get_or-take _ _ i 0 (omega (arith, c.split_at.ensures.front_len)) in
    let digit : get_or digits i 0 - 48 ≤ 9 = omega (arith, c.digits_len-len.ensures.digits i (omega (arith, c.split_at.ensures.front_len))) in
    let worth : (get_or digits i 0 - 48) * (l.place / 10) ≤ 9 * (l.place / 10) = mul-le-mul_right _ digit in
    let step = fraction_value-drop _ left digits i next c.digits-test.true in
    let same : (get_or digits i 0 - 48) * (l.place / 10) ≡ (get_or digits i 0 - 48) * 10 ^ left = rw place in
    (place, omega arith, short, omega arith)

pub returns-clause-value : goal.returns-clause-value
unfolding billionths
returns-clause-value c =
    let l = c.digits in
    let none = at_drop_all (fraction_value (9 - l.digit-index)) _ _ c.digits-test.false ∙ fraction_value-nil _ in
    let value : l.value ≡ fraction_value 9 c.split_at.result.0.now = omega arith in
    grind (arith, nat_tests, common_steps)

pub returns-clause-bound : goal.returns-clause-bound
returns-clause-bound c = omega (arith, ten_pow-pos (9 - c.digits.digit-index))

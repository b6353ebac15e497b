use Rattle.std.proofs.Common.{◌≡◌, sym, subst, rules}
use Rattle.std.specs.Prelude.{Err}
use Rattle.std.specs.FinMap as fin
use Rattle.fx_value.specs.Calls.{Answers, Ended, heard}
use Rattle.fx_value.specs.Ends.{Gives}
use Rattle.fx_value.proofs.Loops.{goes_unstuck, goes_then, goes_ends, goes_stops}
use Rattle.fx_join.specs.Join.{made_if, longer, lone_left}
use Rattle.fx_join.specs.declared.line.Line.{Line}
use Rattle.fx_join.proofs.Lines.{lone_ahead}
use Rattle.fx_join.proofs.Steady.{steady_made_if, steady_lone_left}
use Rattle.fx_join.proofs.line.with_lone.Goals as goal

pub make_left-requires-clause-unstuck : goal.make_left-requires-clause-unstuck
make_left-requires-clause-unstuck g c =
    let says = heard (g.G.RowFun.numbers c.args.both.now) (g.P.Patterns.test c.args.patterns.now) in
    let both = g.G.RowFun.means c.args.both.now says in
    let l = c.args.left.now in
    let w = c.is_lone-wanted.result in
    goes_unstuck (λ n. lone_left both c.args.side l n c.args.line) (λ n. made_if both n l fin.empty w) (λ row n. Gives (longer c.args.line row) 0) c.args.meter.now c.args.meter.now
    (lone_ahead both c.args.side l c.args.line w c.args.meter.now c.requires.ready.spent c.is_lone-wanted.ensures)
    (steady_made_if both (g.met.G.RowFun.limited c.args.both.now says) l fin.empty w) c.requires.unstuck

pub returns-in_err-lone-clause-answer : goal.returns-in_err-lone-clause-answer
returns-in_err-lone-clause-answer g c =
    let says = heard (g.G.RowFun.numbers c.args.both.now) (g.P.Patterns.test c.args.patterns.now) in
    let both = g.G.RowFun.means c.args.both.now says in
    let l = c.args.left.now in
    let w = c.is_lone-wanted.result in
    let why = c.in_err-lone.field-0.0 in
    let same : c.from_residual.result ≡ Err c.in_err-lone.field-0.0 = search rules in
    subst (Answers (λ n. lone_left both c.args.side l n c.args.line) c.args.meter.now c.make_left.new.meter) (sym same)
    (goes_stops (λ n. lone_left both c.args.side l n c.args.line) (λ n. made_if both n l fin.empty w) (λ row n. Gives (longer c.args.line row) 0) c.args.meter.now c.args.meter.now
    (lone_ahead both c.args.side l c.args.line w c.args.meter.now c.requires.ready.spent c.is_lone-wanted.ensures)
    c.make_left.new.meter c.in_err-lone.ensures.metered why (steady_lone_left both (g.met.G.RowFun.limited c.args.both.now says) c.args.side l c.args.line) c.in_err-lone.ensures.answer)

pub returns-clause-answer : goal.returns-clause-answer
returns-clause-answer g c =
    let says = heard (g.G.RowFun.numbers c.args.both.now) (g.P.Patterns.test c.args.patterns.now) in
    let both = g.G.RowFun.means c.args.both.now says in
    let l = c.args.left.now in
    let w = c.is_lone-wanted.result in
    subst (λ (x : Line). Ended (λ n. lone_left both c.args.side l n c.args.line) (Gives x) c.args.meter.now c.make_left.new.meter) (sym c.in_ok-longer.ensures)
    (goes_ends (λ n. lone_left both c.args.side l n c.args.line) (longer c.args.line c.in_ok-lone.lone) c.args.meter.now c.make_left.new.meter
    (goes_then (λ n. lone_left both c.args.side l n c.args.line) (λ n. made_if both n l fin.empty w) (λ row n. Gives (longer c.args.line row) 0) c.args.meter.now c.args.meter.now
    (lone_ahead both c.args.side l c.args.line w c.args.meter.now c.requires.ready.spent c.is_lone-wanted.ensures)
    c.make_left.new.meter c.in_ok-lone.ensures.metered c.in_ok-lone.lone c.in_ok-lone.ensures.answer))

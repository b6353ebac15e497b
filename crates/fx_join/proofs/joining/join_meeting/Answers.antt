use Rattle.std.proofs.Common.{◌≡◌, List, ℕ, sym, ap, subst, ◌∙◌, rules}
use Rattle.std.specs.Prelude.{Err}
use Rattle.fx_value.specs.Calls.{Answers, Ended, heard}
use Rattle.fx_value.specs.Ends.{End, Gives, and_then, NeverStuck}
use Rattle.fx_value.specs.Works.{flat_each, into}
use Rattle.fx_value.proofs.Loops.{Goes, goes_unstuck, goes_stops, goes_answers}
use Rattle.fx_group.specs.Answer.{Row}
use Rattle.fx_group.specs.Turned.{Groups, with_rows}
use Rattle.fx_group.proofs.Patterns.{unstuck_still, answers_still}
use Rattle.fx_join.specs.Join.{no_marks, left_over, lone_right}
use Rattle.fx_join.specs.Joined.{lines_of, met_rows}
use Rattle.fx_join.specs.Part.{with_keyed, with_lines}
use Rattle.fx_join.specs.declared.joining.Part.{Part}
use Rattle.fx_join.proofs.Pairs.{last_unstuck}
use Rattle.fx_join.proofs.Parts.{begun, rights_joined, lefts_ahead, rights_ahead}
use Rattle.fx_join.proofs.SteadyJoins.{steady_part, steady_rights, steady_meeting}
use Rattle.fx_join.proofs.joining.join_meeting.Goals as goal

pub join_lefts-requires-clause-unstuck : goal.join_lefts-requires-clause-unstuck
join_lefts-requires-clause-unstuck g c =
    let on_says = heard (g.F.RowFun.numbers c.args.on.now) (g.P.Patterns.test c.args.patterns.now) in
    let says = heard (g.G.RowFun.numbers c.args.both.now) (g.P.Patterns.test c.args.patterns.now) in
    let on = g.F.RowFun.means c.args.on.now on_says in
    let both = g.G.RowFun.means c.args.both.now says in
    let side = c.args.side in
    let m = c.args.meeting in
    let groups = c.args.runs in
    let whole : ℕ → End Groups = λ n. into with_rows groups (met_rows on both side n m) in
    let lines : ℕ → End Part = λ n. into (with_lines m.key) (begun on both side groups m c.in_ok-marks.marks) (lines_of on both side m.rights m.lefts n) in
    let marks : c.in_ok-marks.marks ≡ no_marks m.rights = c.in_ok-marks.ensures ∙ ap no_marks c.as_slice.ensures in
    let ahead : Goes whole (λ n. and_then (lines n) (λ part. rights_joined on both side groups m part n)) c.args.meter.now c.args.meter.now
    = lefts_ahead on both side groups m c.in_ok-marks.marks c.args.meter.now c.requires.ready.spent marks in
    subst (λ (rights : List Row). NeverStuck (λ n. into (with_lines m.key) (begun on both side groups m c.in_ok-marks.marks) (lines_of on both side rights m.lefts n)))
    (sym c.as_slice-2.ensures)
    (goes_unstuck whole lines (λ part. rights_joined on both side groups m part) c.args.meter.now c.args.meter.now ahead
    (steady_part on (g.met.F.RowFun.limited c.args.on.now on_says) both (g.met.G.RowFun.limited c.args.both.now says) side m.key (begun on both side groups m c.in_ok-marks.marks) m.rights m.lefts)
    c.requires.unstuck)

pub returns-in_err-part-clause-answer : goal.returns-in_err-part-clause-answer
returns-in_err-part-clause-answer g c =
    let on_says = heard (g.F.RowFun.numbers c.args.on.now) (g.P.Patterns.test c.args.patterns.now) in
    let says = heard (g.G.RowFun.numbers c.args.both.now) (g.P.Patterns.test c.args.patterns.now) in
    let on = g.F.RowFun.means c.args.on.now on_says in
    let both = g.G.RowFun.means c.args.both.now says in
    let side = c.args.side in
    let m = c.args.meeting in
    let groups = c.args.runs in
    let whole : ℕ → End Groups = λ n. into with_rows groups (met_rows on both side n m) in
    let lines : ℕ → End Part = λ n. into (with_lines m.key) (begun on both side groups m c.in_ok-marks.marks) (lines_of on both side m.rights m.lefts n) in
    let marks : c.in_ok-marks.marks ≡ no_marks m.rights = c.in_ok-marks.ensures ∙ ap no_marks c.as_slice.ensures in
    let ahead : Goes whole (λ n. and_then (lines n) (λ part. rights_joined on both side groups m part n)) c.args.meter.now c.args.meter.now
    = lefts_ahead on both side groups m c.in_ok-marks.marks c.args.meter.now c.requires.ready.spent marks in
    let why = c.in_err-part.field-0.0 in
    let same : c.from_residual-in_err-part.result ≡ Err c.in_err-part.field-0.0 = search rules in
    subst (Answers whole c.args.meter.now c.join_lefts.new.meter) (sym same)
    (goes_stops whole lines (λ part. rights_joined on both side groups m part) c.args.meter.now c.args.meter.now ahead c.join_lefts.new.meter c.in_err-part.ensures.metered why
    (steady_meeting on (g.met.F.RowFun.limited c.args.on.now on_says) both (g.met.G.RowFun.limited c.args.both.now says) side groups m)
    (subst (λ (rights : List Row). Answers (λ n. into (with_lines m.key) (begun on both side groups m c.in_ok-marks.marks) (lines_of on both side rights m.lefts n)) c.args.meter.now c.join_lefts.new.meter (Err why))
    c.as_slice-2.ensures c.in_err-part.ensures.answer))

pub join_rights-requires-clause-unstuck : goal.join_rights-requires-clause-unstuck
join_rights-requires-clause-unstuck g c =
    let on_says = heard (g.F.RowFun.numbers c.args.on.now) (g.P.Patterns.test c.args.patterns.now) in
    let says = heard (g.G.RowFun.numbers c.args.both.now) (g.P.Patterns.test c.args.patterns.now) in
    let on = g.F.RowFun.means c.args.on.now on_says in
    let both = g.G.RowFun.means c.args.both.now says in
    let side = c.args.side in
    let m = c.args.meeting in
    let groups = c.args.runs in
    let whole : ℕ → End Groups = λ n. into with_rows groups (met_rows on both side n m) in
    let lines : ℕ → End Part = λ n. into (with_lines m.key) (begun on both side groups m c.in_ok-marks.marks) (lines_of on both side m.rights m.lefts n) in
    let marks : c.in_ok-marks.marks ≡ no_marks m.rights = c.in_ok-marks.ensures ∙ ap no_marks c.as_slice.ensures in
    let ahead : Goes whole (λ n. and_then (lines n) (λ part. rights_joined on both side groups m part n)) c.args.meter.now c.args.meter.now
    = lefts_ahead on both side groups m c.in_ok-marks.marks c.args.meter.now c.requires.ready.spent marks in
    let part = c.in_ok-part.part in
    let alone = c.in_ok-alone.alone in
    let left : alone ≡ left_over side part.marks m.rights = c.in_ok-alone.ensures ∙ (λ i. left_over side (c.as_slice-3.ensures i) (c.as_slice-4.ensures i)) in
    let work : ℕ → End Groups = λ n. into (with_keyed m.key) part.runs (flat_each (lone_right both n) alone) in
    let goes : Goes whole work c.args.meter.now c.join_lefts.new.meter
    = rights_ahead on both side groups m c.in_ok-marks.marks c.args.meter.now c.join_lefts.new.meter c.requires.ready.spent marks c.in_ok-part.ensures.metered part
    (subst (λ (rights : List Row). Ended (λ n. into (with_lines m.key) (begun on both side groups m c.in_ok-marks.marks) (lines_of on both side rights m.lefts n)) (Gives part) c.args.meter.now c.join_lefts.new.meter)
    c.as_slice-2.ensures c.in_ok-part.ensures.answer) alone left in
    unstuck_still g.P.Patterns.built g.P.Patterns.refusals g.P.Patterns.test (g.G.RowFun.numbers c.args.both.now)
    c.args.patterns.now c.join_lefts.new.patterns c.in_ok-part.ensures.patterns c.requires.both_given
    (λ says n. into (with_keyed m.key) part.runs (flat_each (lone_right (g.G.RowFun.means c.args.both.now says) n) alone))
    (last_unstuck whole work c.args.meter.now c.join_lefts.new.meter goes (steady_rights both (g.met.G.RowFun.limited c.args.both.now says) m.key part.runs alone) c.requires.unstuck)

pub returns-clause-answer : goal.returns-clause-answer
returns-clause-answer g c =
    let on_says = heard (g.F.RowFun.numbers c.args.on.now) (g.P.Patterns.test c.args.patterns.now) in
    let says = heard (g.G.RowFun.numbers c.args.both.now) (g.P.Patterns.test c.args.patterns.now) in
    let on = g.F.RowFun.means c.args.on.now on_says in
    let both = g.G.RowFun.means c.args.both.now says in
    let side = c.args.side in
    let m = c.args.meeting in
    let groups = c.args.runs in
    let whole : ℕ → End Groups = λ n. into with_rows groups (met_rows on both side n m) in
    let lines : ℕ → End Part = λ n. into (with_lines m.key) (begun on both side groups m c.in_ok-marks.marks) (lines_of on both side m.rights m.lefts n) in
    let marks : c.in_ok-marks.marks ≡ no_marks m.rights = c.in_ok-marks.ensures ∙ ap no_marks c.as_slice.ensures in
    let ahead : Goes whole (λ n. and_then (lines n) (λ part. rights_joined on both side groups m part n)) c.args.meter.now c.args.meter.now
    = lefts_ahead on both side groups m c.in_ok-marks.marks c.args.meter.now c.requires.ready.spent marks in
    let part = c.in_ok-part.part in
    let alone = c.in_ok-alone.alone in
    let left : alone ≡ left_over side part.marks m.rights = c.in_ok-alone.ensures ∙ (λ i. left_over side (c.as_slice-3.ensures i) (c.as_slice-4.ensures i)) in
    let work : ℕ → End Groups = λ n. into (with_keyed m.key) part.runs (flat_each (lone_right both n) alone) in
    let goes : Goes whole work c.args.meter.now c.join_lefts.new.meter
    = rights_ahead on both side groups m c.in_ok-marks.marks c.args.meter.now c.join_lefts.new.meter c.requires.ready.spent marks c.in_ok-part.ensures.metered part
    (subst (λ (rights : List Row). Ended (λ n. into (with_lines m.key) (begun on both side groups m c.in_ok-marks.marks) (lines_of on both side rights m.lefts n)) (Gives part) c.args.meter.now c.join_lefts.new.meter)
    c.as_slice-2.ensures c.in_ok-part.ensures.answer) alone left in
    goes_answers whole work c.args.meter.now c.join_lefts.new.meter c.join_rights.new.meter goes c.join_rights.ensures.metered
    (steady_meeting on (g.met.F.RowFun.limited c.args.on.now on_says) both (g.met.G.RowFun.limited c.args.both.now says) side groups m) c.join_rights.result
    (answers_still g.P.Patterns.built g.P.Patterns.refusals g.P.Patterns.test (g.G.RowFun.numbers c.args.both.now)
    c.args.patterns.now c.join_lefts.new.patterns c.in_ok-part.ensures.patterns c.requires.both_given
    (λ says n. into (with_keyed m.key) part.runs (flat_each (lone_right (g.G.RowFun.means c.args.both.now says) n) alone))
    c.join_lefts.new.meter c.join_rights.new.meter c.join_rights.result c.join_rights.ensures.answer)

use Rattle.std.proofs.Common.{◌≡◌, [], ◌∷◌, ℕ, sym, subst, rules}
use Rattle.std.specs.FinMap as fin
use Rattle.std.specs.Prelude.{Ok, Err}
use Rattle.fx_value.specs.Calls.{Answers, heard}
use Rattle.fx_value.specs.Ends.{End}
use Rattle.fx_value.specs.Works.{flat_each, into}
use Rattle.fx_value.proofs.Calls.{same_patterns_on}
use Rattle.fx_group.specs.Answer.{Row}
use Rattle.fx_group.specs.Turned.{Groups}
use Rattle.fx_group.proofs.Gathering.{item_unstuck, item_done, item_stops}
use Rattle.fx_group.proofs.Patterns.{unstuck_still, answers_still}
use Rattle.fx_join.specs.Join.{made, lone_right}
use Rattle.fx_join.specs.Part.{with_keyed}
use Rattle.fx_join.proofs.Parts.{keyed_more}
use Rattle.fx_join.proofs.Steady.{steady_made}
use Rattle.fx_join.proofs.SteadyJoins.{steady_rights}
use Rattle.fx_join.proofs.joining.join_rights.Goals as goal

pub make_right-requires-clause-unstuck : goal.make_right-requires-clause-unstuck
make_right-requires-clause-unstuck g c =
    let says = heard (g.G.RowFun.numbers c.args.both.now) (g.P.Patterns.test c.args.patterns.now) in
    let both = g.G.RowFun.means c.args.both.now says in
    let key = c.args.key.now in
    let r = c.in-Some.right in
    let whole : ℕ → End Groups = λ n. into (with_keyed key) c.args.runs (flat_each (lone_right both n) c.args.rights) in
    unstuck_still g.P.Patterns.built g.P.Patterns.refusals g.P.Patterns.test (g.G.RowFun.numbers c.args.both.now)
    c.args.patterns.now c.loop-right.patterns c.loop-right.invariant.patterns c.requires.given
    (λ says n. made (g.G.RowFun.means c.args.both.now says) n fin.empty r)
    (item_unstuck {X = Row} (with_keyed key) (keyed_more key) (λ n x. made both n fin.empty x) (λ x row. row ∷ []) whole c.loop-right.runs c.loop-right.right-iterator.rest.items
    c.args.meter.now c.loop-right.meter c.loop-right.invariant.goes r c.next.new.self.rest.items c.in-Some.ensures.steps.0
    (steady_made both (g.met.G.RowFun.limited c.args.both.now says) fin.empty r) c.requires.unstuck)

pub returns-in_err-made-clause-answer : goal.returns-in_err-made-clause-answer
returns-in_err-made-clause-answer g c =
    let says = heard (g.G.RowFun.numbers c.args.both.now) (g.P.Patterns.test c.args.patterns.now) in
    let both = g.G.RowFun.means c.args.both.now says in
    let key = c.args.key.now in
    let r = c.in-Some.right in
    let whole : ℕ → End Groups = λ n. into (with_keyed key) c.args.runs (flat_each (lone_right both n) c.args.rights) in
    let why = c.in_err-made.field-0.0 in
    let same : c.from_residual.result ≡ Err c.in_err-made.field-0.0 = search rules in
    subst (Answers whole c.args.meter.now c.make_right.new.meter) (sym same)
    (item_stops {X = Row} (with_keyed key) (keyed_more key) (λ n x. made both n fin.empty x) (λ x row. row ∷ []) whole c.loop-right.runs c.loop-right.right-iterator.rest.items
    c.args.meter.now c.loop-right.meter c.loop-right.invariant.goes r c.next.new.self.rest.items c.in-Some.ensures.steps.0 c.make_right.new.meter c.in_err-made.ensures.metered why
    (steady_rights both (g.met.G.RowFun.limited c.args.both.now says) key c.args.runs c.args.rights)
    (answers_still g.P.Patterns.built g.P.Patterns.refusals g.P.Patterns.test (g.G.RowFun.numbers c.args.both.now)
    c.args.patterns.now c.loop-right.patterns c.loop-right.invariant.patterns c.requires.given
    (λ says n. made (g.G.RowFun.means c.args.both.now says) n fin.empty r) c.loop-right.meter c.make_right.new.meter (Err why) c.in_err-made.ensures.answer))

pub loop-right-preserved : goal.loop-right-preserved
loop-right-preserved g c =
    let says = heard (g.G.RowFun.numbers c.args.both.now) (g.P.Patterns.test c.args.patterns.now) in
    let both = g.G.RowFun.means c.args.both.now says in
    let key = c.args.key.now in
    let r = c.in-Some.right in
    let whole : ℕ → End Groups = λ n. into (with_keyed key) c.args.runs (flat_each (lone_right both n) c.args.rights) in
    record {
      goes = item_done {X = Row} (with_keyed key) (keyed_more key) (λ n x. made both n fin.empty x) (λ x row. row ∷ []) whole c.loop-right.runs c.loop-right.right-iterator.rest.items
          c.args.meter.now c.loop-right.meter c.loop-right.invariant.goes r c.next.new.self.rest.items c.in-Some.ensures.steps.0 c.make_right.new.meter c.in_ok-made.ensures.metered c.in_ok-made.made
          (answers_still g.P.Patterns.built g.P.Patterns.refusals g.P.Patterns.test (g.G.RowFun.numbers c.args.both.now)
          c.args.patterns.now c.loop-right.patterns c.loop-right.invariant.patterns c.requires.given
          (λ says n. made (g.G.RowFun.means c.args.both.now says) n fin.empty r) c.loop-right.meter c.make_right.new.meter (Ok c.in_ok-made.made) c.in_ok-made.ensures.answer)
          _ c.in_ok-runs.ensures;
      patterns = same_patterns_on g.P.Patterns.built g.P.Patterns.refusals g.P.Patterns.test c.args.patterns.now c.loop-right.patterns c.make_right.new.patterns
          c.loop-right.invariant.patterns c.in_ok-made.ensures.patterns;
    }

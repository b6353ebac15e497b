use Rattle.std.proofs.Common.{◌≡◌, ◌+◌, ◌≤◌, ℤ, List, length, drop, sym, ap, ◌∙◌, subst, IfOk, OnErr, to_z, of_z}
use Rattle.std.specs.Int.{w64}
use Rattle.std.proofs.lemmas.Int.{to_z-of_z}
use Rattle.fx_series.specs.declared.series.TimeValue.{TimeValue}
use Rattle.fx_series.specs.Read.{pairs, between}
use Rattle.fx_series.specs.Blocks.{entries_in, Belongs, looked}
use Rattle.fx_series.proofs.ReadBlocks.{read_values, read_few, steps_enough, steps_few, steps_most, few_here, few_in_all}
use Rattle.fx_series.proofs.blocks.Blocks.read.Goals as goal

pub returns-clause-values : goal.returns-clause-values
returns-clause-values g c =
    let bs = c.self.inside.blocks.items in
    let place = c.block_of-place.result in
    let first : to_z w64 (of_z w64 c.args.first) ≡ c.args.first = to_z-of_z w64 c.args.first c.ranges.first in
    let last : to_z w64 (of_z w64 c.args.last) ≡ c.args.last = to_z-of_z w64 c.args.last c.ranges.last in
    let belongs : Belongs bs c.args.first place = subst (λ (t : ℤ). Belongs bs t place) first (subst (λ (l : List (List TimeValue)). Belongs l (to_z w64 (of_z w64 c.args.first)) place) c.as_slice.ensures.value c.block_of-place.ensures) in
    let rest : c.split_at.result.1.now ≡ drop place bs = c.split_at.ensures.back ∙ ap (drop place) c.as_slice-2.ensures.value in
    let is = (λ i. between (first i) (last i) (entries_in (looked (last i) (rest i)))) ∙ read_values bs place c.args.first c.args.last c.self.invariant belongs ∙ ap (between c.args.first c.args.last) c.self.view_is in
    subst (λ l. IfOk c.walk.result (λ r. pairs r ≡ l)) is c.walk.ensures.values

pub returns-clause-enough : goal.returns-clause-enough
returns-clause-enough g c =
    steps_enough (to_z w64 (of_z w64 c.args.first)) (to_z w64 (of_z w64 c.args.last)) (entries_in (looked (to_z w64 (of_z w64 c.args.last)) c.split_at.result.1.now)) c.args.steps.now c.walk.new.steps c.walk.result c.walk.ensures.values c.walk.ensures.steps

pub returns-clause-few : goal.returns-clause-few
returns-clause-few g c =
    let bs = c.self.inside.blocks.items in
    let place = c.block_of-place.result in
    let f = to_z w64 (of_z w64 c.args.first) in
    let l = to_z w64 (of_z w64 c.args.last) in
    let first : f ≡ c.args.first = to_z-of_z w64 c.args.first c.ranges.first in
    let last : l ≡ c.args.last = to_z-of_z w64 c.args.last c.ranges.last in
    let belongs : Belongs bs c.args.first place = subst (λ (t : ℤ). Belongs bs t place) first (subst (λ (b : List (List TimeValue)). Belongs b f place) c.as_slice.ensures.value c.block_of-place.ensures) in
    let rest : c.split_at.result.1.now ≡ drop place bs = c.split_at.ensures.back ∙ ap (drop place) c.as_slice-2.ensures.value in
    steps_few f l (entries_in (looked l c.split_at.result.1.now)) c.args.steps.now c.walk.new.steps c.walk.result (few_here bs c.split_at.result.1.now place c.args.first c.args.last f l c.self.invariant belongs first last rest) c.walk.ensures.values c.walk.ensures.steps

pub returns-clause-most : goal.returns-clause-most
returns-clause-most g c =
    let bs = c.self.inside.blocks.items in
    let place = c.block_of-place.result in
    let f = to_z w64 (of_z w64 c.args.first) in
    let l = to_z w64 (of_z w64 c.args.last) in
    let first : f ≡ c.args.first = to_z-of_z w64 c.args.first c.ranges.first in
    let last : l ≡ c.args.last = to_z-of_z w64 c.args.last c.ranges.last in
    let belongs : Belongs bs c.args.first place = subst (λ (t : ℤ). Belongs bs t place) first (subst (λ (b : List (List TimeValue)). Belongs b f place) c.as_slice.ensures.value c.block_of-place.ensures) in
    let rest : c.split_at.result.1.now ≡ drop place bs = c.split_at.ensures.back ∙ ap (drop place) c.as_slice-2.ensures.value in
    steps_most f l (entries_in (looked l c.split_at.result.1.now)) c.args.steps.now c.walk.new.steps c.walk.result (length (between c.args.first c.args.last c.args.self.now))
    (few_in_all bs c.split_at.result.1.now place c.args.first c.args.last l c.args.self.now c.self.invariant belongs last rest c.self.view_is) c.walk.ensures.most

use Rattle.std.proofs.Common.{◌≡◌, ◌≤◌, ◌+◌, ℤ, List, length, IfOk, OnErr, slice_get, ap, sym, subst, ◌∙◌, w64}
use Rattle.std.specs.Map.Iter.{deref_pair}
use Rattle.std.specs.Option.{option_map}
use Rattle.std.proofs.lemmas.Int.{to_z-of_z}
use Rattle.fx_value.specs.declared.scalar.Scalar.{Scalar}
use Rattle.fx_line.specs.Stored.{Series}
use Rattle.fx_series.specs.Read.{between, pairs}
use Rattle.fx_series.proofs.MapPut.{shown_at}
use Rattle.fx_series.proofs.series_map.SeriesMap.read.Goals as goal

-- what the code reads is what the series has between the times
part : {first' first last' last : ℤ} {values : List (ℤ × Scalar)} (s : Series) → first' ≡ first → last' ≡ last → values ≡ s.values → between first' last' values ≡ between first last s.values
part s f l v = λ i. between (f i) (l i) (v i)

pub returns-clause-values : goal.returns-clause-values
returns-clause-values g c = λ s at.
    let entry = ap (option_map deref_pair) (sym c.unwrap.ensures) ∙ c.get_index.ensures.entry in
    let series = shown_at c.self.inside.entries.entries c.args.number (c.unwrap.result.0.now, c.unwrap.result.1.now) s (sym entry) (ap (λ l. slice_get l c.args.number) c.self.view_is ∙ at) in
    let first = to_z-of_z w64 c.args.first c.ranges.first in
    let last = to_z-of_z w64 c.args.last c.ranges.last in
    subst (λ l. IfOk c.read.result (λ r. pairs r ≡ l)) (part s first last (ap (λ t. t.values) series)) c.read.ensures.values

pub returns-clause-most : goal.returns-clause-most
returns-clause-most g c = λ s at.
    let entry = ap (option_map deref_pair) (sym c.unwrap.ensures) ∙ c.get_index.ensures.entry in
    let series = shown_at c.self.inside.entries.entries c.args.number (c.unwrap.result.0.now, c.unwrap.result.1.now) s (sym entry) (ap (λ l. slice_get l c.args.number) c.self.view_is ∙ at) in
    let first = to_z-of_z w64 c.args.first c.ranges.first in
    let last = to_z-of_z w64 c.args.last c.ranges.last in
    subst (λ l. OnErr c.read.result ((c.args.steps.now ≤ c.read.new.steps) × (c.read.new.steps ≤ c.args.steps.now + length l + 2048))) (part s first last (ap (λ t. t.values) series)) c.read.ensures.most

use Rattle.fx_unify.specs.Sums.{names}
use Rattle.fx_unify.proofs.PlaceLaws.{hashed_place, listed_place}
use Rattle.fx_unify.proofs.pick.Entries.place_of.Goals as goal

pub returns-then-self : goal.returns-then-self
returns-then-self c =
    hashed_place c.args.label.now c.args.self.now.labels.keys (names c.args.self.now.fields.items) c.get_index_of.result c.get_index_of.ensures.index (c.requires c.if-self.true)

pub returns : goal.returns
returns c = listed_place c.args.label.now c.as_slice.result.now c.args.self.now.fields.items c.find_label.result c.as_slice.ensures.value c.find_label.ensures

use Rattle.std.proofs.Common.{ap, ◌∙◌, rules}
use Rattle.std.proofs.lemmas.Fn.{filter_same}
use Rattle.std.specs.List.{filter}
use Rattle.fx_group.specs.Bounds.{lies_between}
use Rattle.fx_group.proofs.ranging.keep_between.Goals as goal

pub returns : goal.returns
returns c =
    let between = lies_between c.args.bounds.now.start c.args.bounds.now.stop in
    c.of.ensures ∙ filter_same _ between _ (λ x b q k. search rules) c.into_vec-rows.result.items c.retain.new.self.items c.retain.ensures.filtered
    ∙ ap (filter between) c.into_vec-rows.ensures

use Rattle.std.proofs.Common.{rules}
use Rattle.std.proofs.lemmas.Fn.{always_returns_same}
use Rattle.fx_data.specs.Key.{key_cmp}
use Rattle.fx_data.proofs.Placed.{search_found, search_missed}
use Rattle.fx_data.proofs.runs.place_of.Goals as goal

pub returns-clause-found : goal.returns-clause-found
returns-clause-found c =
    search_found c.args.key.now c.args.tables.now c.binary_search_by.result c.binary_search_by.ensures.bound
    (c.binary_search_by.ensures.position (λ t. key_cmp t.key c.args.key.now) (always_returns_same _ _ _ (λ a r k q. search rules)))

pub returns-clause-missed : goal.returns-clause-missed
returns-clause-missed c =
    search_missed c.args.key.now c.args.tables.now c.binary_search_by.result c.binary_search_by.ensures.bound
    (c.binary_search_by.ensures.position (λ t. key_cmp t.key c.args.key.now) (always_returns_same _ _ _ (λ a r k q. search rules))) c.requires

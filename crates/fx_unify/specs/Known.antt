-- Hashed labels.
use Rattle.std.specs.Prelude.{◌≡◌, true, List}
use Rattle.fx_types.specs.Ground.{listed}
use Rattle.fx_types.specs.Term.{Label}
use Rattle.fx_unify.specs.declared.known.Known as declared
use Rattle.fx_unify.specs.declared.pick.Entries as picks
use Rattle.fx_unify.specs.Sums.{names}

-- the hashed labels are those of the list
abbrev pub Knows : declared.Known → List Label → Type 0
Knows k ls = (l : Label) → listed l k.labels.keys ≡ listed l ls

-- where the labels of a row's fields are hashed, they stand in the order of the fields
abbrev pub AreHashed : picks.Entries → Type 0
AreHashed e = e.hashed ≡ true → e.labels.keys ≡ names e.fields.items

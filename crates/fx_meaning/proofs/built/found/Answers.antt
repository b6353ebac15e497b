use Rattle.std.proofs.Common.{◌≡◌, ◌∙◌, Some}
use Rattle.std.specs.Prelude.{option_map}
use Rattle.fx_schemes.specs.Names.{builtin_of, id_of}
use Rattle.fx_meaning.proofs.BuiltLaws.{found_at}
use Rattle.fx_meaning.proofs.built.found.Goals as goal

pub returns-in-Some : goal.returns-in-Some
returns-in-Some c =
    let found : option_map id_of (builtin_of c.args.path.now c.args.name.now) ≡ Some c.in-Some.id = cc (c.in-Some.ensures, c.in_ok-path.ensures) in
    c.numbered.ensures ∙ found_at (builtin_of c.args.path.now c.args.name.now) c.in-Some.id found

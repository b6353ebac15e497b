-- What the parser answers, by the reading of the items.
use Rattle.std.specs.Prelude.{◌≡◌, Result, Ok, Err}
use Rattle.fx_ast.specs.declared.script.Script.{Script}
use Rattle.fx_ast.specs.Shape.{script_tree}
use Rattle.fx_ast.specs.Tree.{ScriptTree}
use Rattle.fx_scan.specs.Forms.{Bytes}
use Rattle.fx_parse.specs.declared.fault.ParseFault.{ParseFault}
use Rattle.fx_parse.specs.declared.fault.ParseFault.TheVariants as fault
use Rattle.fx_parse.specs.Items.{Items}
use Rattle.fx_parse.specs.Parsed.{place_left}
use Rattle.fx_parse.specs.Readings.{Out, Got, Bad}

abbrev pub Told : Bytes → Out ScriptTree → Result Script ParseFault → Type 0
Told text o (Ok s) = (rest : Items) × (o ≡ Got (script_tree s) rest)
Told text o (Err fault.Memory) = Unit {0}
Told text o (Err (fault.Refused place deep)) = (rest : Items) × (o ≡ Bad deep rest) × (place.at ≡ place_left text rest)

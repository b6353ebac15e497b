use Rattle.fx_parse.specs.ReadExprs.{read_expr}
use Rattle.fx_parse.specs.ReadScripts.{read_script}
use Rattle.fx_parse.specs.Telling.{Told}
use Rattle.fx_parse.proofs.outcome.Told.{told_ok, told_only, told_refused, told_none}
use Rattle.fx_parse.proofs.parser.parse.Goals as goal

pub returns : goal.returns
returns c =
    let text = c.args.text.now in
    let tokens = c.args.tokens.now in
    let items = c.in_ok-items.items.items in
    let read = c.in_ok-items.ensures.read in
    let only = c.in_ok-items.ensures.only in
    let outcome = c.script_of.result in
    let told : Told text (read_script (read_expr 64) items) outcome = rw c.as_slice.ensures.value at c.script_of.ensures in
    record {
      ok = told_ok text tokens items read only outcome told;
      only = told_only text tokens items read only outcome told;
      refused = told_refused text tokens items read only outcome told;
      none = told_none text tokens items read only outcome told;
    }

use Rattle.std.proofs.Common.{◌≡◌, sym, ap, ◌∙◌}
use Rattle.fx_parse.specs.Grammar.{is_call}
use Rattle.fx_parse.specs.Measures.{plain_of}
use Rattle.fx_ast.proofs.ShapeLaws.{tree_made}
use Rattle.fx_parse.proofs.turns.MadeLaws.{made_levels}
use Rattle.fx_parse.proofs.measured.made.Goals as goal

pub invariant_of-result : goal.invariant_of-result
invariant_of-result c =
    let is : c.in_ok-new.field-0 ≡ c.args.node = c.in_ok-new.ensures in
    rw is (record {
      tall = made_levels c.args.place c.args.node c.args.lower c.saturating_add.result c.requires.tall c.saturating_add.ensures;
      calls = c.requires.calls ∙ sym (ap is_call (tree_made c.args.place c.args.node));
      says = c.requires.says ∙ sym (ap plain_of (tree_made c.args.place c.args.node));
    })

pub returns : goal.returns
returns c = rw c.in_ok-new.ensures (tree_made c.args.place c.args.node)

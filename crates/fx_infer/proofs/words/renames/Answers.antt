use Rattle.std.proofs.Common.{◌≡◌, ap, sym, map, subst, IfOk}
use Rattle.fx_ast.specs.Shape.{prop, props_of}
use Rattle.fx_ast.specs.Tree.{tree, rec}
use Rattle.fx_schemes.specs.declared.form.Form.TheVariants as form
use Rattle.fx_infer.specs.Words.{said}
use Rattle.fx_infer.proofs.words.renames.Goals as goal

pub returns-in-Some : goal.returns-in-Some
returns-in-Some c place = sym (ap (λ b. said form.Renames c.args.label.now (tree place (rec b (props_of (map prop c.args.props.now))))) c.in-Some.is)

pub returns-in-None : goal.returns-in-None
returns-in-None c place =
    subst (λ w. IfOk c.labels_and_texts.result (λ o. o ≡ w)) (sym (ap (λ b. said form.Renames c.args.label.now (tree place (rec b (props_of (map prop c.args.props.now))))) c.in-None.is)) c.labels_and_texts.ensures

-- What the reading of a script's items lets the parser promise.
use Rattle.std.proofs.Common.{◌≡◌, Bool, Result, Ok, Err, IfOk, IsErrOf, List, sym, ap, ◌∙◌}
use Rattle.fx_base.specs.declared.place.Place.{Place}
use Rattle.fx_ast.specs.declared.script.Script.{Script}
use Rattle.fx_ast.specs.Shape.{script_tree}
use Rattle.fx_ast.specs.Tree.{ScriptTree}
use Rattle.fx_scan.specs.Forms.{Bytes}
use Rattle.fx_scan.specs.declared.token.Token.{Token}
use Rattle.fx_parse.specs.declared.fault.ParseFault.{ParseFault}
use Rattle.fx_parse.specs.declared.fault.ParseFault.TheVariants as fault
use Rattle.fx_parse.specs.Items.{Items}
use Rattle.fx_parse.specs.Lexemes.{AllRead}
use Rattle.fx_parse.specs.Parsed.{IsTreeOf, IsParsed, IsUnparsed}
use Rattle.fx_parse.specs.ReadExprs.{read_expr}
use Rattle.fx_parse.specs.ReadScripts.{read_script}
use Rattle.fx_parse.specs.Telling.{Told}
use Rattle.fx_parse.specs.Readings.{Bad}
use Rattle.fx_parse.proofs.outcome.Parsing.{parsed, unparsed, unparsed_none, one_tree_of}

module _ (text : Bytes) (tokens : List Token) (items : Items) (all : AllRead text tokens items) (one : (others : Items) → AllRead text tokens others → others ≡ items) where
  pub told_ok : (r : Result Script ParseFault) → Told text (read_script (read_expr 64) items) r → IfOk r (λ s. IsParsed text tokens (script_tree s))
  told_ok (Ok s) h = parsed text tokens items all (script_tree s) h.0 h.1
  told_ok (Err e) h = tt

  pub told_only : (r : Result Script ParseFault) → Told text (read_script (read_expr 64) items) r → IfOk r (λ s. (t : ScriptTree) → IsTreeOf text tokens t → t ≡ script_tree s)
  told_only (Ok s) h = λ t is. one_tree_of text tokens items one t (script_tree s) is (parsed text tokens items all (script_tree s) h.0 h.1).is
  told_only (Err e) h = tt

  pub told_refused : (r : Result Script ParseFault) → Told text (read_script (read_expr 64) items) r → (place : Place) (deep : Bool) → IsErrOf r (fault.Refused place deep)
      → IsUnparsed text tokens place.at deep
  told_refused (Ok s) h place deep e = absurd cc
  told_refused (Err fault.Memory) h place deep e = absurd cc
  told_refused (Err (fault.Refused at levels)) h place deep e =
      let same_place : at ≡ place = cc in
      let same_deep : levels ≡ deep = cc in
      unparsed text tokens items all deep h.0 (h.1 ∙ ap (λ d. Bad d h.0) same_deep) place.at (ap (λ p. p.at) (sym same_place) ∙ h.2)

  pub told_none : (r : Result Script ParseFault) → Told text (read_script (read_expr 64) items) r → (place : Place) (deep : Bool) → IsErrOf r (fault.Refused place deep)
      → (t : ScriptTree) → IsParsed text tokens t → ⊥
  told_none r h place deep e = unparsed_none text tokens items one place.at deep (told_refused r h place deep e)

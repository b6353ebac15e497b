use Rattle.std.proofs.Common.{◌≡◌, Option, IfSome, IfNone, sym, ap, ◌∙◌, subst, arith, false}
use Rattle.std.specs.Prelude.{All}
use Rattle.std.specs.Str.{IsUtf8}
use Rattle.std.proofs.lemmas.Result.{IfOk-weaker}
use Rattle.fx_line.specs.declared.line.LineError.{LineError}
use Rattle.fx_line.specs.declared.line.LineError.TheVariants.{Syntax}
use Rattle.fx_line.specs.Collected.{IsMade}
use Rattle.fx_line.specs.Stored.{IsLawful}
use Rattle.fx_line.specs.Line.{Written, trimmed, is_blank, IsSpelled, IsRefused}
use Rattle.fx_line.proofs.Texts.{spelled_texts, few_fields}
use Rattle.fx_line.proofs.OneAnswer.{wrong_refused, no_form_refused, made_lawful}
use Rattle.fx_line.proofs.reader.read_line.Goals as goal

pub read_points-requires-clause-texts : goal.read_points-requires-clause-texts
read_points-requires-clause-texts c =
    let found : IsUtf8 c.args.line.now × IsSpelled (trimmed c.args.line.now) c.in-Some.parts =
    subst (λ (o : Option Written). IfSome o (λ w. IsUtf8 c.args.line.now × IsSpelled (trimmed c.args.line.now) w)) c.in-Some.is c.in_ok-parts.ensures.found in
    spelled_texts c.args.line.now c.in-Some.parts found.0 found.1

pub read_points-requires-clause-few : goal.read_points-requires-clause-few
read_points-requires-clause-few c =
    let found : IsUtf8 c.args.line.now × IsSpelled (trimmed c.args.line.now) c.in-Some.parts =
    subst (λ (o : Option Written). IfSome o (λ w. IsUtf8 c.args.line.now × IsSpelled (trimmed c.args.line.now) w)) c.in-Some.is c.in_ok-parts.ensures.found in
    omega (arith, few_fields c.args.line.now c.in-Some.parts found.1, c.requires.bytes)

pub returns-in-Some-clause-lawful : goal.returns-in-Some-clause-lawful
returns-in-Some-clause-lawful c =
    IfOk-weaker c.read_points.result (λ r. IsMade c.args.mode c.in-Some.parts r) (λ r. All IsLawful r.points)
    (λ r h. made_lawful c.args.mode c.in-Some.parts r h) c.read_points.ensures.made

pub returns-in-Some-clause-refused : goal.returns-in-Some-clause-refused
returns-in-Some-clause-refused c = λ e is.
    let found : IsUtf8 c.args.line.now × IsSpelled (trimmed c.args.line.now) c.in-Some.parts =
    subst (λ (o : Option Written). IfSome o (λ w. IsUtf8 c.args.line.now × IsSpelled (trimmed c.args.line.now) w)) c.in-Some.is c.in_ok-parts.ensures.found in
    let shown : is_blank (trimmed c.args.line.now) ≡ false = ap is_blank (sym c.trimmed.ensures) ∙ sym c.if-is_blank.ensures in
    wrong_refused c.args.mode c.args.line.now c.in-Some.parts e shown found.0 found.1 (c.read_points.ensures.wrong e is)

pub returns-in-None-clause-refused : goal.returns-in-None-clause-refused
returns-in-None-clause-refused c = λ e is.
    let shown : is_blank (trimmed c.args.line.now) ≡ false = ap is_blank (sym c.trimmed.ensures) ∙ sym c.if-is_blank.ensures in
    let none : (w : Written) → IsUtf8 c.args.line.now → IsSpelled (trimmed c.args.line.now) w → ⊥ =
    subst (λ (o : Option Written). IfNone o ((w : Written) → IsUtf8 c.args.line.now → IsSpelled (trimmed c.args.line.now) w → ⊥)) c.in-None.is c.in_ok-parts.ensures.none in
    let same : Syntax ≡ e = cc is in
    subst (λ (x : LineError). IsRefused c.args.mode c.args.line.now x) same (no_form_refused c.args.mode c.args.line.now shown none)

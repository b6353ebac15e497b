use Rattle.std.proofs.Common.{◌∷◌, [], ◌++◌, false, sym, ap, ◌∙◌}
use Rattle.std.proofs.lemmas.List.{append_assoc}
use Rattle.fx_scan.specs.Forms.{Bytes}
use Rattle.fx_parse.specs.Escapes.{taken}
use Rattle.fx_parse.proofs.tokens.EscapeLemmas.{taken_waits, taken_itself}
use Rattle.fx_parse.proofs.escapes.push_meant.Goals as goal

pub returns-then-byte-eq92 : goal.returns-then-byte-eq92
returns-then-byte-eq92 c = λ rest. ap (λ (x : Bytes). c.args.bytes.now.items ++ x) (sym (taken_waits c.args.quotes c.args.after_backslash c.args.byte rest c.if-after_backslash.false c.if-byte-eq92.true))

pub returns : goal.returns
returns c = λ rest.
    let is = taken_itself c.args.quotes c.args.after_backslash c.args.byte rest c.if-after_backslash.false c.if-byte-eq92.false in
    let meant = taken c.args.quotes false rest in
    ap (λ (x : Bytes). x ++ meant) c.in_ok-push.ensures.items ∙ append_assoc c.args.bytes.now.items (c.args.byte ∷ []) meant
    ∙ ap (λ (x : Bytes). c.args.bytes.now.items ++ x) (sym is)

use Rattle.std.proofs.Common.{◌≡◌, IfOk, subst, sym, ap, ◌∙◌}
use Rattle.fx_meaning.specs.Meaning.{pipe_label, pipe_of}
use Rattle.fx_values.specs.Shape.{closed, val}
use Rattle.fx_values.proofs.ValueLaws.{val_fun, val_native}
use Rattle.fx_rowfn.proofs.PipeLaws.{no_label}
use Rattle.fx_rowfn.proofs.pipes.pipe_of.Goals as goal

pub returns-in-Fun : goal.returns-in-Fun
returns-in-Fun c =
    subst (λ told. IfOk c.pipe_param.result (λ label. label ≡ told))
    (ap (λ k. pipe_of (closed k).params) c.as_ref.ensures ∙ sym (ap pipe_label (ap val c.in-Fun.is ∙ val_fun c.in-Fun.closure)))
    c.pipe_param.ensures

pub returns-in-Native : goal.returns-in-Native
returns-in-Native c =
    subst (λ told. IfOk c.text_of.result (λ label. label ≡ told))
    (c.pipe_label.ensures ∙ sym (ap pipe_label (ap val c.in-Native.is ∙ val_native c.in-Native.which)))
    c.text_of.ensures

pub returns-in_default : goal.returns-in_default
returns-in_default c = sym (no_label c.args.callee.now c.in_default.not-Fun c.in_default.not-Native)

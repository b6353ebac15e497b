use Rattle.std.proofs.Common.{sym, ◌∙◌, ap, cond, false, rules, ◌++◌, ◌∷◌, [], refl}
use Rattle.fx_line.specs.declared.word.Word.TheVariants as word
use Rattle.fx_line.specs.Word.{said}
use Rattle.fx_line.specs.Value.{is_float}
use Rattle.fx_line.specs.Line.{Pair}
use Rattle.fx_line.proofs.Collecting.{with_point}
use Rattle.fx_line.proofs.points.Collected.take.Goals as goal

pub returns : goal.returns
returns c = record {
  more = λ later h. with_point c.args.head.now.measurement c.args.head.now.tags.items c.args.head.now.time c.args.field.now later c.args.self.now _ c.in_ok-name.name h (record {
    name_is = c.in_ok-name.ensures ∙ ap (λ (p : Pair). said word.Name false p.key) c.field.view_is;
    fresh = sym c.if-contains.ensures;
    names = search rules;
    whole = ap (λ (p : Pair). is_float p.value) (sym c.field.view_is) ∙ sym c.if-is_float.ensures;
    points = search rules;
    skipped = refl;
  });
}

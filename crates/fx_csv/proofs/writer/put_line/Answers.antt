-- What the crate's writer appends is the record's bytes.
use Rattle.std.proofs.Common.{◌≢◌, ◌∙◌}
use Rattle.csv.specs.Writing.{writer_setup}
use Rattle.csv.specs.declared.writer.QuoteStyle.TheVariants as style
use Rattle.fx_csv.proofs.RecordBytes.{row_text_is}
use Rattle.fx_csv.proofs.writer.put_line.Goals as goal

pub returns : goal.returns
returns c bytes all h f two =
    let plain : (writer_setup c.args.writer.now).style ≢ style.NonNumeric = rw h.setup (λ e. cc e) in
    let told = c.in-Ok.ensures.bytes h.fields h.clean plain in
    record {
      setup = c.in-Ok.ensures.setup ∙ h.setup;
      fields = c.in-Ok.ensures.ended;
      clean = c.in-Ok.ensures.clean;
      text = rw (h.text, h.setup, f.fields, row_text_is all two) at told;
    }

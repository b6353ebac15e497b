-- What a writer of records holds.
use Rattle.std.specs.Prelude.{◌≡◌, ℕ, false, List, ◌++◌}
use Rattle.std.specs.declared.vec.Vec.{Vec}
use Rattle.std.specs.declared.alloc.Global.{Global}
use Rattle.csv.specs.Writing.{default_writer, with_terminator, writer_setup, fields_written, has_written, writer_under, writer_pending}
use Rattle.csv.specs.declared.parser.Terminator.TheVariants as term
use Rattle.csv.specs.declared.writer.Writer.{Writer}
use Rattle.csv.specs.declared.writer.WriterBuilder.{WriterBuilder}

-- records end in CR LF, and a field is quoted only where it must be
abbrev pub crlf : WriterBuilder
crlf = with_terminator default_writer term.CRLF

-- the writer stands between two records, and these bytes were written
pub record Holds (w : Writer (Vec ℕ Global)) (bytes : List ℕ) : Type 0 where
  pub setup : writer_setup w ≡ crlf
  pub fields : fields_written w ≡ 0
  pub clean : has_written w ≡ false
  pub text : (writer_under w).items ++ writer_pending w ≡ bytes

use Rattle.std.proofs.Common.{FitsSigned, w64, subst, sym, ◌∙◌}
use Rattle.std.proofs.lemmas.Int.{to_z-of_z}
use Rattle.fx_time.specs.Time.{IsTime}
use Rattle.fx_time.proofs.RoundTrip.{time_text-is_time}
use Rattle.fx_time.proofs.round_trip.printed_and_read.Goals as goal

pub returns : goal.returns
returns c =
    let f : FitsSigned w64 c.args.t = c.ranges.t in
    let shown = simp to_z-of_z at c.stamp-text.ensures in
    let text = c.as_bytes.ensures.value ∙ c.as_str.ensures.value ∙ shown in
    (c.read_time.ensures.is c.args.t).0 (subst (λ x. IsTime x c.args.t) (sym text) (time_text-is_time c.args.t f))

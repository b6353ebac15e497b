use Rattle.std.proofs.Common.{◌≡◌, inl, inr, Some, None, sym, ap, subst, ◌∙◌, arith}
use Rattle.fx_time.specs.Time.{IsTime}
use Rattle.fx_scan.specs.Forms.{begins, is_name_byte}
use Rattle.fx_scan.proofs.TimeLemmas.{no_time, unread_time}
use Rattle.fx_scan.proofs.clock.time_len.Goals as goal
use Rattle.fx_scan.proofs.clock.time_len.Goals.{then-s-len-via-then-s-len, then-s-len-via-else-s-len+then-begins_name_byte}

pub returns-then-s-len : goal.returns-then-s-len
returns-then-s-len c =
    let s = c.args.s.now in
    let len = c.len_by_form-len in
    elim c.then-s-len.branch [
      | then-s-len-via-then-s-len w ↦ no_time s len.result len.ensures (inl (omega arith))
      | then-s-len-via-else-s-len+then-begins_name_byte w ↦
          no_time s len.result len.ensures (inr (ap (begins is_name_byte) (sym w.past.ensures) ∙ sym w.begins_name_byte.ensures ∙ w.if-begins_name_byte.true))
    ]

pub returns-in-None : goal.returns-in-None
returns-in-None c =
    unread_time c.args.s.now c.len_by_form-len.result c.len_by_form-len.ensures
    (λ t h.
    let read = (c.read_time.ensures.is t).0 (subst (λ x. IsTime x t) (sym c.front.ensures) h) in
    let e : None ≡ Some t = sym c.in-None.is ∙ read in
    cc)

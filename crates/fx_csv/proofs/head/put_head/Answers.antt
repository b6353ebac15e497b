-- The record is filled field by field.
use Rattle.std.proofs.Common.{[], ◌∷◌, ◌++◌, ◌≤◌, length, map, subst, OnOk, arith}
use Rattle.fx_csv.specs.Heads.{head_field}
use Rattle.fx_csv.specs.Records.{record_bytes}
use Rattle.fx_csv.specs.Writers.{Holds}
use Rattle.fx_csv.proofs.head.put_head.Goals as goal

pub returns : goal.returns
returns c bytes h =
    let a = c.head_lead.result.0.now in
    let b = c.head_lead.result.1.now in
    let d = c.head_lead.result.2.now in
    let fields = map (head_field c.args.head) c.args.columns.now in
    let two : 2 ≤ length (a ∷ b ∷ d ∷ fields) = omega arith in
    let first = c.in_ok-push.ensures [] c.clear.ensures in
    let second = c.in_ok-push-2.ensures (a ∷ []) first in
    let third = c.in_ok-push-3.ensures (a ∷ b ∷ []) second in
    let last = c.in_ok-push_fields.ensures (a ∷ b ∷ d ∷ []) third in
    subst (λ lead. OnOk c.put_line.result (Holds c.put_line.new.writer (bytes ++ record_bytes (lead ++ fields)))) c.head_lead.ensures
    (c.put_line.ensures bytes (a ∷ b ∷ d ∷ fields) h last two)

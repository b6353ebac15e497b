-- Four records stand one behind the other.
use Rattle.std.proofs.Common.{◌≡◌, ℕ, List, [], ◌++◌, subst, OnOk, append_assoc, append-nil}
use Rattle.fx_csv.specs.declared.head.Head.TheVariants.{Datatype, Group, Default, Label}
use Rattle.fx_csv.specs.Heads.{head_record}
use Rattle.fx_csv.specs.Records.{record_bytes}
use Rattle.fx_csv.specs.Writers.{Holds}
use Rattle.fx_csv.proofs.head.put_heads.Goals as goal

joined : (bytes p q r s : List ℕ) → (((bytes ++ p) ++ q) ++ r) ++ s ≡ bytes ++ (p ++ (q ++ (r ++ (s ++ []))))
joined bytes p q r s = simp (append_assoc, append-nil)

pub returns : goal.returns
returns c bytes h =
    let text = λ (x : _). record_bytes (head_record c.args.name.now c.args.columns.now x) in
    let p = text Datatype in
    let q = text Group in
    let r = text Default in
    let s = text Label in
    let one = c.in_ok-put_head.ensures bytes h in
    let two = c.in_ok-put_head-2.ensures (bytes ++ p) one in
    let three = c.in_ok-put_head-3.ensures ((bytes ++ p) ++ q) two in
    subst (λ all. OnOk c.put_head-4.result (Holds c.put_head-4.new.writer all)) (joined bytes p q r s)
    (c.put_head-4.ensures (((bytes ++ p) ++ q) ++ r) three)

use Rattle.std.proofs.Common.{◌≡◌, [], ◌∷◌, ◌++◌, sym, ◌∙◌}
use Rattle.std.proofs.lemmas.Result.{IfOk-weaker}
use Rattle.std.specs.List.{flat_map}
use Rattle.fx_window.specs.Reaches.{AllBatches, made_of}
use Rattle.fx_window.proofs.Batches.{reach_same, longer_makes, longer_all, lone_makes, lone_all}
use Rattle.fx_window.proofs.batch.with_row.Goals as goal

pub returns-then-eq-clause-made : goal.returns-then-eq-clause-made
returns-then-eq-clause-made c each =
    let old = c.args.batches.items in
    let front = c.pop.new.self.items in
    let longer = c.in_ok-longer-in-Some.field-0 in
    let same : c.in-Some.last.reach ≡ c.args.reach = reach_same c.in-Some.last.reach c.args.reach (sym c.eq.ensures ∙ c.if-eq.true) in
    IfOk-weaker c.with_batch-then-eq.result (λ bs. bs.items ≡ front ++ longer ∷ []) (λ bs. flat_map (made_of each) bs.items ≡ flat_map (made_of each) old ++ each c.args.reach c.args.row)
    (λ bs is. longer_makes old bs.items front c.in-Some.last longer c.args.reach c.args.row c.in-Some.ensures.items same c.in_ok-longer-in-Some.ensures is each)
    c.with_batch-then-eq.ensures

pub returns-then-eq-clause-all : goal.returns-then-eq-clause-all
returns-then-eq-clause-all c every period entries all near has =
    let old = c.args.batches.items in
    let front = c.pop.new.self.items in
    let longer = c.in_ok-longer-in-Some.field-0 in
    let same : c.in-Some.last.reach ≡ c.args.reach = reach_same c.in-Some.last.reach c.args.reach (sym c.eq.ensures ∙ c.if-eq.true) in
    IfOk-weaker c.with_batch-then-eq.result (λ bs. bs.items ≡ front ++ longer ∷ []) (λ bs. AllBatches every period entries bs.items)
    (λ bs is. longer_all old bs.items front c.in-Some.last longer c.args.reach c.args.row c.in-Some.ensures.items same c.in_ok-longer-in-Some.ensures is every period entries all has)
    c.with_batch-then-eq.ensures

pub returns-in_ok-lone-in-Some-clause-made : goal.returns-in_ok-lone-in-Some-clause-made
returns-in_ok-lone-in-Some-clause-made c each =
    let old = c.args.batches.items in
    let front = c.in_ok-batches-in-Some.batches.items in
    let lone = c.in_ok-lone-in-Some.field-0 in
    IfOk-weaker c.with_batch-in-Some-2.result (λ bs. bs.items ≡ front ++ lone ∷ []) (λ bs. flat_map (made_of each) bs.items ≡ flat_map (made_of each) old ++ each c.args.reach c.args.row)
    (λ bs is. lone_makes old bs.items front lone c.args.reach c.args.row (c.in_ok-batches-in-Some.ensures ∙ sym c.in-Some.ensures.items) c.in_ok-lone-in-Some.ensures is each)
    c.with_batch-in-Some-2.ensures

pub returns-in_ok-lone-in-Some-clause-all : goal.returns-in_ok-lone-in-Some-clause-all
returns-in_ok-lone-in-Some-clause-all c every period entries all near has =
    let old = c.args.batches.items in
    let front = c.in_ok-batches-in-Some.batches.items in
    let lone = c.in_ok-lone-in-Some.field-0 in
    IfOk-weaker c.with_batch-in-Some-2.result (λ bs. bs.items ≡ front ++ lone ∷ []) (λ bs. AllBatches every period entries bs.items)
    (λ bs is. lone_all old bs.items front lone c.args.reach c.args.row (c.in_ok-batches-in-Some.ensures ∙ sym c.in-Some.ensures.items) c.in_ok-lone-in-Some.ensures is every period entries all near has)
    c.with_batch-in-Some-2.ensures

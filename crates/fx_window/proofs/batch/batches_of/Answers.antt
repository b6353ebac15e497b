use Rattle.std.proofs.Common.{◌≡◌, List, [], ◌∷◌, ◌++◌, sym, ap, subst, ◌∙◌, append_assoc}
use Rattle.std.specs.List.{flat_map, AllByRecursion}
use Rattle.fx_data.specs.Table.{HasKey}
use Rattle.fx_window.specs.Reaches.{AllBatches, copies_of, made_of}
use Rattle.fx_window.specs.Window.{copies}
use Rattle.fx_window.specs.declared.batch.Batch.{Batch}
use Rattle.fx_window.specs.declared.standing.Placed.{Placed}
use Rattle.fx_window.proofs.batch.batches_of.Goals as goal

pub loop-placed-init : goal.loop-placed-init
loop-placed-init c =
    let left = c.into_iter-placed-iterator.result.rest.items in
    let all : left ≡ c.args.placed.items = c.into_iter-placed-iterator.ensures.into_iter_gives.0 in
    let none : c.new-batches.result.items ≡ [] = c.new-batches.ensures.items in
    let every = c.args.frame.now.every in
    let period = c.args.frame.now.period in
    record {
      made = λ key.
          ap (λ (bs : List Batch). flat_map (made_of (λ r. copies_of every period r key)) bs ++ flat_map (copies every period key) left) none
          ∙ ap (flat_map (copies every period key)) all;
      all = λ entries h. (subst (AllBatches every period entries) (sym none) tt, subst (AllByRecursion (λ (p : Placed). HasKey entries p.row)) (sym all) h);
    }

pub loop-placed-preserved : goal.loop-placed-preserved
loop-placed-preserved c =
    let every = c.args.frame.now.every in
    let period = c.args.frame.now.period in
    let p = c.in-Some.placed in
    let left = c.next.new.self.rest.items in
    let old = c.loop-placed.batches.items in
    record {
      made = λ key.
          ap (λ rows. rows ++ flat_map (copies every period key) left) (c.in_ok-batches.ensures.made key)
          ∙ append_assoc (flat_map (made_of (λ r. copies_of every period r key)) old) (copies every period key p) (flat_map (copies every period key) left)
          ∙ ap (λ (ps : List Placed). flat_map (made_of (λ r. copies_of every period r key)) old ++ flat_map (copies every period key) ps) (sym c.in-Some.ensures.steps.0)
          ∙ c.loop-placed.invariant.made key;
      all = λ entries h.
          let before = c.loop-placed.invariant.all entries h in
          let split : AllByRecursion (λ (q : Placed). HasKey entries q.row) (p ∷ left) = subst (AllByRecursion (λ (q : Placed). HasKey entries q.row)) c.in-Some.ensures.steps.0 before.1 in
          (c.in_ok-batches.ensures.all entries before.0 split.0, split.1);
    }

pub returns-clause-all : goal.returns-clause-all
returns-clause-all c entries h = (c.loop-placed.invariant.all entries h).0

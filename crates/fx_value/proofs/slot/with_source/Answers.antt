use Rattle.std.proofs.Common.{◌≡◌, ℕ, List, Vec, Global, get_or, ◌∙◌, ap}
use Rattle.std.specs.FinMap.Entries.{put}
use Rattle.std.specs.List.{insert}
use Rattle.std.proofs.Math.ListN.{set}
use Rattle.fx_base.specs.Text.{text_cmp}
use Rattle.fx_value.specs.declared.slot.Slot.{Slot}
use Rattle.fx_value.specs.declared.source.Source.{Source}
use Rattle.fx_value.specs.Place.{StandsAt, BelongsAt}
use Rattle.fx_value.specs.Slots.{entry_of, entries_of}
use Rattle.fx_value.proofs.Place.{put-at, put-in}
use Rattle.fx_value.proofs.slot.with_source.Goals as goal
use Rattle.fx_value.proofs.slot.with_source.Goals.{in-Ok, in-Err+in_ok-label-in-Err+in_ok-insert-in-Err}

refilled : (cs : List Slot) (k : List ℕ) (s : Source) (i : ℕ) (old new : Slot) → StandsAt text_cmp k (entries_of cs) i
    → old ≡ get_or cs i old → new ≡ record { label = old.label; source = s } → entries_of (set cs i new) ≡ put text_cmp k s (entries_of cs)
refilled cs k s i old new at was is =
    put-at text_cmp entry_of k s cs i new old at (ap entry_of is ∙ ap (λ (c : Slot). (c.label, s)) was)

added : (cs : List Slot) (k l : List ℕ) (s : Source) (i : ℕ) → BelongsAt text_cmp k (entries_of cs) i
    → l ≡ k → entries_of (insert cs i (record { label = l; source = s })) ≡ put text_cmp k s (entries_of cs)
added cs k l s i at is = put-in text_cmp entry_of k s cs i _ at (ap (λ n. (n, s)) is)

pub returns : goal.returns
returns c =
    elim c.match-place_of.branch [
      | in-Ok w ↦ ap (λ (v : Vec Slot Global). entries_of v.items) w.copies-is
          ∙ refilled c.in_ok-copies.copies.items _ _ _ w.index_mut.result.now w.refill.new.self w.in-Ok.ensures w.index_mut.ensures.value w.refill.ensures
          ∙ ap (λ (cs : List Slot). put text_cmp c.args.label.now c.args.source (entries_of cs)) c.in_ok-copies.ensures
      | in-Err+in_ok-label-in-Err+in_ok-insert-in-Err w ↦ ap (λ (v : Vec Slot Global). entries_of v.items) w.copies-is
          ∙ ap entries_of w.in_ok-insert-in-Err.ensures.items
          ∙ added c.in_ok-copies.copies.items _ _ _ _ w.in-Err.ensures w.in_ok-label-in-Err.ensures
          ∙ ap (λ (cs : List Slot). put text_cmp c.args.label.now c.args.source (entries_of cs)) c.in_ok-copies.ensures
    ]

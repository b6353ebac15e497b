use Rattle.std.proofs.Common.{◌≡◌, ℕ, List, Vec, Global, map, get_or, ◌∙◌, ap}
use Rattle.std.specs.Prelude.{false}
use Rattle.std.specs.FinMap.Entries.{put}
use Rattle.std.specs.List.{insert}
use Rattle.std.proofs.Math.ListN.{set}
use Rattle.fx_base.specs.Text.{text_cmp}
use Rattle.fx_value.specs.declared.scalar.Scalar.{Scalar}
use Rattle.fx_value.specs.Place.{StandsAt, BelongsAt}
use Rattle.fx_value.proofs.Place.{put-at, put-in}
use Rattle.fx_data.specs.Columns.{parts_of}
use Rattle.fx_data.specs.declared.key.KeyEntry.{KeyEntry}
use Rattle.fx_data.proofs.column.with_column.Goals as goal
use Rattle.fx_data.proofs.column.with_column.Goals.{in-Ok, in-Err+in_ok-label-in-Err+in_ok-insert-in-Err}

refilled : (es : List KeyEntry) (k : List ℕ) (v : Scalar) (i : ℕ) (old new : KeyEntry) → StandsAt text_cmp k (map parts_of es) i
    → old ≡ get_or es i old → new ≡ record old { value = v; pinned = false } → map parts_of (set es i new) ≡ put text_cmp k (v, false) (map parts_of es)
refilled es k v i old new at was is =
    put-at text_cmp parts_of k (v, false) es i new old at (ap parts_of is ∙ ap (λ (e : KeyEntry). (e.label, (v, false))) was)

added : (es : List KeyEntry) (k l : List ℕ) (v : Scalar) (i : ℕ) → BelongsAt text_cmp k (map parts_of es) i
    → l ≡ k → map parts_of (insert es i (record { label = l; value = v; pinned = false })) ≡ put text_cmp k (v, false) (map parts_of es)
added es k l v i at is = put-in text_cmp parts_of k (v, false) es i _ at (ap (λ n. (n, (v, false))) is)

pub returns : goal.returns
returns c =
    elim c.match-place_of.branch [
      | in-Ok w ↦ ap (λ (v : Vec KeyEntry Global). map parts_of v.items) w.entries-is
          ∙ refilled c.in_ok-entries.entries.items _ _ _ w.index_mut.result.now w.refill.new.entry w.in-Ok.ensures w.index_mut.ensures.value w.refill.ensures
          ∙ ap (λ (es : List KeyEntry). put text_cmp c.args.label.now (c.args.value, false) (map parts_of es)) c.in_ok-entries.ensures
      | in-Err+in_ok-label-in-Err+in_ok-insert-in-Err w ↦ ap (λ (v : Vec KeyEntry Global). map parts_of v.items) w.entries-is
          ∙ ap (map parts_of) w.in_ok-insert-in-Err.ensures.items
          ∙ added c.in_ok-entries.entries.items _ _ _ _ w.in-Err.ensures w.in_ok-label-in-Err.ensures
          ∙ ap (λ (es : List KeyEntry). put text_cmp c.args.label.now (c.args.value, false) (map parts_of es)) c.in_ok-entries.ensures
    ]

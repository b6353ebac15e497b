-- Rows in batches that go to the same windows.
use Rattle.std.proofs.Common.{◌≡◌, true, List, [], ◌∷◌, ◌++◌, sym, ap, subst, ◌∙◌, append_assoc, arith}
use Rattle.std.proofs.lemmas.List.{append-nil}
use Rattle.std.proofs.lemmas.Int.{ints}
use Rattle.std.specs.List.{flat_map, AllByRecursion}
use Rattle.std.specs.Ordering.{int_eq}
use Rattle.std.specs.Prelude.{◌&&◌}
use Rattle.fx_time.specs.declared.span.Span.{Span}
use Rattle.fx_data.specs.Table.{HasKey}
use Rattle.fx_data.specs.declared.key.KeyEntry.{KeyEntry}
use Rattle.fx_data.specs.declared.keyed_row.KeyedRow.{KeyedRow}
use Rattle.fx_data.proofs.Lawful.{all-append}
use Rattle.fx_group.specs.Answer.{Row}
use Rattle.fx_window.specs.Reaches.{AllBatches, AreNear, made_of}
use Rattle.fx_window.specs.declared.batch.Batch.{Batch}
use Rattle.fx_window.specs.declared.reach.Reach.{Reach}

-- windows of which the numbers and the bounds are found equal are the same
pub reach_same : (a b : Reach) → (int_eq a.first b.first && (int_eq a.next b.next && (int_eq a.low b.low && int_eq a.high b.high))) ≡ true → a ≡ b
reach_same a b e =
    let first : a.first ≡ b.first = grind (arith, ints) in
    let next : a.next ≡ b.next = grind (arith, ints) in
    let low : a.low ≡ b.low = grind (arith, ints) in
    let high : a.high ≡ b.high = grind (arith, ints) in
    λ i. record { first = first i; next = next i; low = low i; high = high i }

-- what is made of batches and of one more
pub made_push : (each : Reach → Row → List KeyedRow) (bs : List Batch) (b : Batch) → flat_map (made_of each) (bs ++ b ∷ []) ≡ flat_map (made_of each) bs ++ made_of each b
made_push each [] b = append-nil (made_of each b)
made_push each (c ∷ bs) b =
    ap (λ xs. made_of each c ++ xs) (made_push each bs b) ∙ sym (append_assoc (made_of each c) (flat_map (made_of each) bs) (made_of each b))

flat_push : (f : Row → List KeyedRow) (rows : List Row) (row : Row) → flat_map f (rows ++ row ∷ []) ≡ flat_map f rows ++ f row
flat_push f [] row = append-nil (f row)
flat_push f (r ∷ rows) row = ap (λ xs. f r ++ xs) (flat_push f rows row) ∙ sym (append_assoc (f r) (flat_map f rows) (f row))

split : (every period : Span) (entries : List KeyEntry) (front : List Batch) (last : Batch) → AllBatches every period entries (front ++ last ∷ [])
    → AllBatches every period entries front × (AreNear every period last.reach × AllByRecursion (HasKey entries) last.rows)
split every period entries [] last all = (tt, all.0)
split every period entries (b ∷ front) last all = let rest = split every period entries front last all.1 in ((all.0, rest.0), rest.1)

-- the last batch with one more row
module _ (old new front : List Batch) (last longer : Batch) (reach : Reach) (row : Row) (before : old ≡ front ++ last ∷ []) (same : last.reach ≡ reach)
    (is : longer ≡ record { reach = last.reach; rows = last.rows ++ row ∷ [] }) (after : new ≡ front ++ longer ∷ []) where
  pub longer_makes : (each : Reach → Row → List KeyedRow) → flat_map (made_of each) new ≡ flat_map (made_of each) old ++ each reach row
  longer_makes each =
      ap (flat_map (made_of each)) after ∙ made_push each front longer
      ∙ ap (λ (b : Batch). flat_map (made_of each) front ++ made_of each b) is
      ∙ ap (λ xs. flat_map (made_of each) front ++ xs) (flat_push (each last.reach) last.rows row)
      ∙ sym (append_assoc (flat_map (made_of each) front) (made_of each last) (each last.reach row))
      ∙ ap (λ xs. xs ++ each last.reach row) (sym (made_push each front last) ∙ ap (flat_map (made_of each)) (sym before))
      ∙ ap (λ (r : Reach). flat_map (made_of each) old ++ each r row) same

  pub longer_all : (every period : Span) (entries : List KeyEntry) → AllBatches every period entries old → HasKey entries row → AllBatches every period entries new
  longer_all every period entries all has =
      let parts = split every period entries front last (subst (AllBatches every period entries) before all) in
      subst (AllBatches every period entries) (sym after)
      (all-append (λ (b : Batch). AreNear every period b.reach × AllByRecursion (HasKey entries) b.rows) front (longer ∷ []) parts.0 (
        subst (λ (b : Batch). AreNear every period b.reach × AllByRecursion (HasKey entries) b.rows) (sym is)
            (parts.1.0, all-append (HasKey entries) last.rows (row ∷ []) parts.1.1 (has, tt)),
        tt,
      ))

-- a batch of one row
module _ (old new front : List Batch) (lone : Batch) (reach : Reach) (row : Row) (before : front ≡ old) (is : lone ≡ record { reach = reach; rows = row ∷ [] })
    (after : new ≡ front ++ lone ∷ []) where
  pub lone_makes : (each : Reach → Row → List KeyedRow) → flat_map (made_of each) new ≡ flat_map (made_of each) old ++ each reach row
  lone_makes each =
      ap (flat_map (made_of each)) after ∙ made_push each front lone
      ∙ ap (λ (bs : List Batch). flat_map (made_of each) bs ++ made_of each lone) before
      ∙ ap (λ (b : Batch). flat_map (made_of each) old ++ made_of each b) is
      ∙ ap (λ xs. flat_map (made_of each) old ++ xs) (append-nil (each reach row))

  pub lone_all : (every period : Span) (entries : List KeyEntry) → AllBatches every period entries old → AreNear every period reach → HasKey entries row
      → AllBatches every period entries new
  lone_all every period entries all near has =
      subst (AllBatches every period entries) (sym after)
      (all-append (λ (b : Batch). AreNear every period b.reach × AllByRecursion (HasKey entries) b.rows) front (lone ∷ []) (subst (AllBatches every period entries) (sym before) all)
      (subst (λ (b : Batch). AreNear every period b.reach × AllByRecursion (HasKey entries) b.rows) (sym is) (near, (has, tt)), tt))

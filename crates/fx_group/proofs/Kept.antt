-- What is kept of lawful tables is lawful.
use Rattle.std.proofs.Common.{◌≡◌, ℕ, Bool, true, false, List, [], ◌∷◌, ◌++◌, sym, subst, append_assoc}
use Rattle.std.proofs.lemmas.List.{append-nil}
use Rattle.std.specs.Prelude.{Result, if◌then◌else◌}
use Rattle.std.specs.List.{AllByRecursion}
use Rattle.fx_base.specs.declared.halt.Halt.{Halt}
use Rattle.fx_base.specs.declared.meter.Meter.{Meter}
use Rattle.fx_data.specs.declared.table.Table.{Table}
use Rattle.fx_data.specs.Table.{HasKey, AreLawful}
use Rattle.fx_data.proofs.Lawful.{all-append, without_table, with_rows}
use Rattle.fx_group.specs.Answer.{Row, Meaning, tested}
use Rattle.fx_group.specs.Filter.{kept_row, kept_rows, table_if, kept_tables, filtered}
use Rattle.fx_value.specs.Calls.{Answers}
use Rattle.fx_value.specs.Ends.{Gives, and_then, NeverStuck}
use Rattle.fx_value.proofs.Ends.{passed}
use Rattle.fx_value.proofs.Loops.{cut_unstuck, cut_answers}

one_kept : (P : Row → Type 0) (row : Row) (wanted : Bool) → P row → AllByRecursion P (if wanted then row ∷ [] else [])
one_kept P row true h = (h, tt)
one_kept P row false h = tt

-- what holds of all rows holds of those that are kept
pub kept_all : (P : Row → Type 0) (means : Meaning) (limit : ℕ) (rows kept : List Row) (ticks : ℕ) → AllByRecursion P rows → kept_rows means rows limit ≡ Gives kept ticks
    → AllByRecursion P kept
kept_all P means limit [] kept ticks h is =
    let none : [] ≡ kept = cc in subst (AllByRecursion P) none tt
kept_all P means limit (row ∷ rows) kept ticks h is =
    let first = passed (kept_row means limit row) (λ us. and_then (kept_rows means rows limit) (λ zs. Gives (us ++ zs) 0)) kept ticks is in
    let rest = passed (kept_rows means rows limit) (λ zs. Gives (first.before ++ zs) 0) kept first.rest first.next_gives in
    let one = passed (tested means limit row) (λ wanted. Gives (if wanted then row ∷ [] else []) 0) first.before first.spent first.first_gives in
    let here : (if one.before then row ∷ [] else []) ≡ first.before = cc (one.next_gives) in
    let whole : first.before ++ rest.before ≡ kept = cc (rest.next_gives) in
    subst (AllByRecursion P) whole
    (all-append P first.before rest.before (subst (AllByRecursion P) here (one_kept P row one.before h.0))
    (kept_all P means limit rows rest.before rest.spent h.1 rest.first_gives))

-- tables of which one has other rows with its key, or is dropped where it has none
pub kept_lawful : (kept left : List Table) (t : Table) (rows : List Row) → AreLawful (kept ++ t ∷ left) → AllByRecursion (HasKey t.key.entries) rows
    → AreLawful ((kept ++ table_if t.key rows) ++ left)
kept_lawful kept left t [] h columns = subst (λ ts. AreLawful (ts ++ left)) (sym (append-nil kept)) (without_table kept left t h)
kept_lawful kept left t (row ∷ rows) h columns =
    subst AreLawful (sym (append_assoc kept (table_if t.key (row ∷ rows)) left)) (with_rows kept left t (row ∷ rows) h columns)

-- ---- `filter` is the kept tables, cut at the limit

module _ (means : Meaning) (tables listed : List Table) (same : listed ≡ tables) where
  pub filter_unstuck : NeverStuck (filtered means tables) → NeverStuck (kept_tables means listed)
  unfolding filtered
  filter_unstuck unstuck = subst (λ ts. NeverStuck (kept_tables means ts)) (sym same) (cut_unstuck (kept_tables means tables) unstuck)

  pub filter_answers : (before after : Meter) (answer : Result (List Table) Halt) → Answers (kept_tables means listed) before after answer
      → Answers (filtered means tables) before after answer
  unfolding filtered
  filter_answers before after answer told =
      cut_answers (kept_tables means tables) before after answer (subst (λ ts. Answers (kept_tables means ts) before after answer) same told)

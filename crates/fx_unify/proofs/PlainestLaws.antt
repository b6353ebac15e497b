-- What variables that nothing is bound to stand for in the least solution.
use Rattle.std.proofs.Common.{◌≡◌, inl, inr, refl, sym, ap, ◌∙◌, ℕ, Bool, true, false, List, None}
use mathlib.Core.Bool.{true≢false}
use Rattle.fx_types.specs.Ground.{g_span, is_column}
use Rattle.fx_types.specs.Instance.{Solution}
use Rattle.fx_unify.specs.declared.bound.Bound as bounds
use Rattle.fx_unify.specs.declared.sorts.Sorts as sorts
use Rattle.fx_unify.specs.declared.store.Store as stores
use Rattle.fx_unify.specs.Bounds.{Keeps, Narrowed}
use Rattle.fx_unify.specs.Measure.{least}
use Rattle.fx_unify.specs.Part.{Solved, type_node}
use Rattle.fx_unify.specs.Plainest.{IsPlainType, IsPlainest}
use Rattle.fx_unify.specs.Sorts.{allows, plainest_of, plain_values, set_at}
use Rattle.fx_unify.specs.Store.{entry}
use Rattle.fx_unify.proofs.LeastLaws.{free_type, free_field, free_slot}
use Rattle.fx_unify.proofs.WeighLaws.{allows_column}
use Rattle.fx_types.proofs.Choices.{never, by_cases}

abbrev flags : Bool → Bool → Bool → Bool → Bool → Bool → sorts.Sorts
flags b i t m p o = record { boolean = b; integer = i; text = t; time = m; span = p; other = o }

-- where a set has no kind of columns, a duration is left
by_flags : (b i t m p o : Bool) → (o ≡ true → i ≡ true) → allows (flags b i t m p o) (plainest_of (flags b i t m p o)) ≡ true → is_column (plainest_of (flags b i t m p o)) ≡ false
    → plainest_of (flags b i t m p o) ≡ g_span
by_flags b true t m p o h a c = absurd (true≢false c)
by_flags true false t m p o h a c = absurd (true≢false c)
by_flags false false true m p o h a c = absurd (true≢false c)
by_flags false false false true p o h a c = absurd (true≢false c)
by_flags false false false false true o h a c = refl
by_flags false false false false false o h a c = absurd (true≢false (sym (h a)))

module _ (st : stores.Store) (ks : List sorts.Sorts) (bs : List bounds.Bound) (narrowed : Narrowed st ks bs) (k : ℕ) where
  plain_type : (n : ℕ) → entry st (type_node n) ≡ None → IsPlainType st bs (least st ks k) n
  plain_type n free = by_cases (is_column (plainest_of set)) (λ e. inl (ap is_column same ∙ e)) (λ e. inr (same ∙ by_flags set.boolean set.integer set.text set.time set.span set.other (narrowed.3 n) (narrowed.2 n) e, no_column e))
    where
      set : sorts.Sorts
      set = set_at ks n

      same : (least st ks k).type_of n ≡ plainest_of (set_at ks n)
      same = free_type (entry st) (plain_values ks) n k free

      no_column : is_column (plainest_of (set_at ks n)) ≡ false → (q : Solution) → Solved q (entry st) → Keeps q bs → is_column (q.type_of n) ≡ false
      no_column e q solved keeps =
          by_cases (is_column (q.type_of n)) (λ c. never (is_column (plainest_of (set_at ks n))) (allows_column (set_at ks n) (q.type_of n) (narrowed.0 q solved keeps n) c) e) (λ c. c)

  pub least_plainest : IsPlainest st bs (least st ks k)
  least_plainest = (plain_type, λ n free. free_field (entry st) (plain_values ks) n k free, λ r l free. free_slot (entry st) (plain_values ks) r l k free)

-- What changes labels alone makes of the rows of a head what it makes of the head.
use Rattle.std.proofs.Common.{refl, ap, sym, ◌∙◌}
use Rattle.std.specs.Prelude.{◌≡◌, Bool, true, false, cond, List, [], ◌∷◌, Option, None, Some, fold}
use Rattle.std.specs.Cmp.Lexicographic.{nat_list_cmp_total}
use Rattle.std.specs.FinMap.{FinMap, empty, entries, get, get-retain_keys, retain_keys, same_map}
use Rattle.std.specs.Option.{option_map}
use Rattle.fx_base.specs.Text.{text_cmp}
use Rattle.fx_value.specs.Row.{filled, row_of}
use Rattle.fx_value.specs.Source.{value_at}
use Rattle.fx_value.specs.declared.scalar.Scalar.{Scalar}
use Rattle.fx_value.specs.declared.source.Source.{Source}
use Rattle.fx_value.proofs.Rows.{entries-row_of, get-row_of, row_of-empty, row_of-insert, row_of-remove, text_same}
use Rattle.fx_shape.specs.Columns.{Label, as_there, doubled}
use Rattle.fx_shape.specs.Relabelled.{put_as, relabelled}

module _ (head : FinMap text_cmp Source) (first second : Scalar) where
  there_by_heads : (source : Option Source) (label : Label)
      → row_of (as_there source label head) first second ≡ as_there (option_map (value_at first second) source) label (row_of head first second)
  there_by_heads None label = row_of-remove first second head label
  there_by_heads (Some source) label = row_of-insert first second head label source

  pub doubled_by_heads : (label copy : Label) → row_of (doubled label copy head) first second ≡ doubled label copy (row_of head first second)
  doubled_by_heads label copy =
      there_by_heads (get head label) copy
      ∙ ap (λ value. as_there value copy (row_of head first second)) (sym (get-row_of first second head label))

-- ---- labels that go

get_retained : {A : Type 0} (map : FinMap text_cmp A) (stays : Label → Bool) (q : Label) → get (retain_keys map stays) q ≡ cond (stays q) (get map q) None
get_retained map stays q = get-retain_keys map stays q (λ x tie. ap stays (sym (text_same q x tie)))

module _ (first second : Scalar) where
  map_kept : (b : Bool) (o : Option Source) → option_map (value_at first second) (cond b o None) ≡ cond b (option_map (value_at first second) o) None
  map_kept true o = refl
  map_kept false o = refl

  retained_by_heads : (head : FinMap text_cmp Source) (stays : Label → Bool) → row_of (retain_keys head stays) first second ≡ retain_keys (row_of head first second) stays
  retained_by_heads head stays =
      same_map nat_list_cmp_total text_same _ _ (λ q.
      get-row_of first second (retain_keys head stays) q
      ∙ ap (option_map (value_at first second)) (get_retained head stays q)
      ∙ map_kept (stays q) (get head q)
      ∙ ap (λ o. cond (stays q) o None) (sym (get-row_of first second head q))
      ∙ sym (get_retained (row_of head first second) stays q))

  -- ---- labels that get other names

  put_by_heads : (name : Label → Label) (out : FinMap text_cmp Source) (es : List (Label × Source))
      → row_of (fold (put_as name) out es) first second ≡ fold (put_as name) (row_of out first second) (filled first second es)
  put_by_heads name out [] = refl
  put_by_heads name out (e ∷ es) =
      put_by_heads name (put_as name out e) es
      ∙ ap (λ map. fold (put_as name) map (filled first second es)) (row_of-insert first second out (name e.0) e.1)

  pub relabelled_by_heads : (stays : Label → Bool) (name : Label → Label) (head : FinMap text_cmp Source)
      → row_of (relabelled stays name head) first second ≡ relabelled stays name (row_of head first second)
  relabelled_by_heads stays name head =
      put_by_heads name empty (entries (retain_keys head stays))
      ∙ ap (λ map. fold (put_as name) map (filled first second (entries (retain_keys head stays)))) (row_of-empty first second)
      ∙ ap (fold (put_as name) empty) (sym (entries-row_of first second (retain_keys head stays)) ∙ ap entries (retained_by_heads head stays))

-- The values that a function literal keeps.
use Rattle.std.proofs.Common.{◌≡◌, ℕ, ◌+◌, ◌<◌, ◌≤◌, List, [], ◌∷◌, ◌++◌, length, get_or, take, map, append_assoc, sym, ap, ◌∙◌}
use Rattle.std.specs.Prelude.{Bool}
use Rattle.std.specs.List.{filter}
use Rattle.std.proofs.lemmas.List.{map-append, take_all, take_more}
use Rattle.std.proofs.lemmas.List.Elements.{filter-append}
use Rattle.std.specs.declared.alloc.Global.{Global}
use Rattle.std.specs.declared.rc.Rc.{Rc}
use Rattle.fx_ast.specs.Shape.{body, param, params_of}
use Rattle.fx_ast.specs.declared.expr.Body.{Body}
use Rattle.fx_ast.specs.declared.expr.Param.{Param}
use Rattle.fx_meaning.specs.Value.{Label, Stream, Val, keep}
use Rattle.fx_meaning.specs.declared.setting.Setting.{Setting}
use Rattle.fx_values.specs.Shape.{OfClosure, OfShown, OfSlot, closed, closure_shape, shown_shape, slot, slot_shape, slots_of, stream_shape, val, value_shape}
use Rattle.fx_values.specs.declared.value.Closure.{roll-Closure}
use Rattle.fx_values.specs.declared.value.Value.TheFolds.{fold-roll-Closure}
use Rattle.fx_values.specs.declared.value.Slot.{Slot}
use Rattle.fx_values.proofs.KeptLaws.{keep_filter}

module _ (test : Label → Bool) where
  abbrev kept : List OfSlot → List OfSlot
  kept os = filter (λ o. test o.label) os

  -- one slot more was looked at
  pub kept_more : (before now after : List OfSlot) (ss : List Slot) (i : ℕ) (s : Slot) → i < length ss → s ≡ get_or ss i s
      → now ≡ before ++ filter (λ o. test o.label) (map slot (take i ss)) → after ≡ now ++ filter (λ o. test o.label) (slot s ∷ [])
      → after ≡ before ++ filter (λ o. test o.label) (map slot (take (i + 1) ss))
  kept_more before now after ss i s below is inv more =
      more ∙ ap (λ l. l ++ kept (slot s ∷ [])) inv ∙ append_assoc before (kept (map slot (take i ss))) (kept (slot s ∷ []))
      ∙ ap (λ l. before ++ l)
      (sym (filter-append (λ o. test o.label) (map slot (take i ss)) (slot s ∷ []))
      ∙ ap kept (sym (map-append slot (take i ss) (s ∷ [])) ∙ ap (map slot) (ap (λ y. take i ss ++ y ∷ []) is ∙ sym (take_more ss i s below))))

  pub kept_all : (before now : List OfSlot) (ss : List Slot) (i : ℕ) → length ss ≤ i → now ≡ before ++ filter (λ o. test o.label) (map slot (take i ss))
      → now ≡ before ++ filter (λ o. test o.label) (map slot ss)
  kept_all before now ss i over inv = inv ∙ ap (λ l. before ++ kept (map slot l)) (take_all i ss over)

  -- the outer slots and then the inner ones
  pub kept_both : (first last outer inner : List Slot) → map slot first ≡ [] ++ filter (λ o. test o.label) (map slot outer)
      → map slot last ≡ map slot first ++ filter (λ o. test o.label) (map slot inner)
      → slots_of (map slot last) ≡ keep test (slots_of (map slot outer ++ map slot inner))
  kept_both first last outer inner front back =
      ap slots_of (back ∙ ap (λ l. l ++ kept (map slot inner)) front ∙ sym (filter-append (λ o. test o.label) (map slot outer) (map slot inner)))
      ∙ sym (keep_filter test (map slot outer ++ map slot inner))

pub closed_made : (ps : List Param) (b : Body) (c : Rc (List Slot) Global) (s : Rc Setting Global)
    → closed (roll-Closure (record { params = ps; body = b; captured = c; setting = s })) ≡ record { params = params_of (map param ps); lets = (body b).lets; result = (body b).result; captured = slots_of (map slot c.value); setting = s.value }
unfolding val slot closed
closed_made ps b c s = fold-roll-Closure Val OfClosure OfShown OfSlot Stream value_shape closure_shape shown_shape slot_shape stream_shape (record { params = ps; body = b; captured = c; setting = s })

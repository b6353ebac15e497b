-- How a `Boxed` holds its value, for a type that leads back to itself through one: as the value.
use mathlib.Core.Path.{refl}
use mathlib.Core.Former.{Former, this, const, pair, via}
use base.Stored.{gnil}
use base.Fml.{ftrue}
use denote.RattleType.{RattleType}
use denote.Memory.{part_of}
use denote.RawPtr.{Ptr}
use denote.Sharing.{nothing}
use denote.HoleLaws.{Alike}
use denote.HolePlaces.{Recodes, struct_places, laid, one_value}
use denote.Hole.Fix.{over}
use denote.Param.Weighed.{Weighed}
use denote.Model.Placed.{view_places}
use Rattle.std.specs.declared.boxed.Box.{Box}
use Rattle.std.specs.contracts.boxed.Box as boxes
use Rattle.std.specs.declared.alloc.Global.{Global}
use Rattle.std.specs.contracts.alloc.Global as global
use Rattle.std.specs.contracts.impls.GlobalAllocator.TheImpl.{ghosts}
use Rattle.fx_base.specs.declared.boxed.Boxed.TheInside.{Inside}
use Rattle.fx_base.specs.declared.boxed.Boxed.TheView.{view, invariant}
use Rattle.fx_base.specs.contracts.boxed.Boxed.{the_row}
use Rattle.fx_base.specs.contracts.boxed.Boxed.TheInside as inside

abbrev pub the_former : Former {0} → Former {0}
the_former value = value

abbrev pub the_weighed : {value : Former {0}} → Weighed value → Weighed (the_former value)
the_weighed weight = weight

-- the one field, a `Box`: its pointer, its allocator and the value
abbrev box_field : Former {0}
box_field =
    via (pair (const (Ptr × Global)) this) Inside (λ T it. ((it.inner.ptr, it.inner.alloc), it.inner.value))
    (λ T parts. record { inner = record { ptr = parts.0.0; alloc = parts.0.1; value = parts.1 } }) (λ T it. refl) (λ T parts. refl)

abbrev global_box : RattleType → RattleType
global_box A = boxes.the_row A global.the_row ghosts

-- the same box around another value
abbrev around : {T U : Type 0} → Box T Global → U → Box U Global
around it value = record { ptr = it.ptr; alloc = it.alloc; value = value }

module _ (A B : RattleType) (f : A.Denot → B.Denot) where
  boxes_alike : Alike A B f → Alike (global_box A) (global_box B) (λ it. around it (f it.value))
  unfolding part_of
  boxes_alike alike = record {
    mir_same = λ i. (global_box (one_value A (alike.mir_same i) (λ _. ftrue) (λ _ _. nothing) gnil)).mir;
    own_same = λ it i.
        (global_box (one_value A (alike.mir_same i) (alike.own_same it.value i) (alike.shr_same it.value i) gnil)).own_val (around it tt);
    shr_same = λ it i.
        (global_box (one_value A (alike.mir_same i) (alike.own_same it.value i) (alike.shr_same it.value i) gnil)).shr_at (around it tt);
  }

  pub the_places : Alike A B f → Alike (the_row A) (the_row B) ((the_former this).map A.Denot B.Denot f)
  the_places alike =
      view_places box_field this view (λ T U g v. refl) (λ T v. refl)
      A.Denot B.Denot f (the_row A).coded (the_row B).coded
      (invariant A.Denot) (invariant B.Denot) (λ v p q. refl) (λ v p q. refl) (λ v e. tt) (λ v e. tt)
      (over (inside.the_row A)) (over (inside.the_row B))
      (struct_places (inside.the_type A) (inside.the_type B) ((λ it. around it (f it.value)), tt) _ (λ v. refl) refl
      (laid _ _ _ (boxes_alike alike), tt))

  pub the_codes_placed : Recodes A B f → Recodes (the_row A) (the_row B) ((the_former this).map A.Denot B.Denot f)
  the_codes_placed recodes value = recodes value

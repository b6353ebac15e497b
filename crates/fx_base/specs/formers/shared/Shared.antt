-- How a `Shared` holds its value, for a type that leads back to itself through one: as the value.
use mathlib.Core.Path.{refl}
use mathlib.Core.Former.{Former, this, const, pair, via}
use base.Stored.{gnil}
use base.Fml.{ftrue}
use denote.RattleType.{RattleType}
use denote.Memory.{part_of}
use denote.RawPtr.{Ptr}
use denote.Sharing.{nothing}
use denote.HoleLaws.{Alike}
use denote.HolePlaces.{Recodes, struct_places, laid, one_value}
use denote.Hole.Fix.{over}
use denote.Param.Weighed.{Weighed}
use denote.Model.Placed.{view_places}
use Rattle.std.specs.declared.rc.Rc.{Rc}
use Rattle.std.specs.contracts.rc.Rc as rcs
use Rattle.std.specs.declared.alloc.Global.{Global}
use Rattle.std.specs.contracts.alloc.Global as global
use Rattle.std.specs.contracts.impls.GlobalAllocator.TheImpl.{ghosts}
use Rattle.fx_base.specs.declared.shared.Shared.TheInside.{Inside}
use Rattle.fx_base.specs.declared.shared.Shared.TheView.{view, invariant}
use Rattle.fx_base.specs.contracts.shared.Shared.{the_row}
use Rattle.fx_base.specs.contracts.shared.Shared.TheInside as inside

abbrev pub the_former : Former {0} → Former {0}
the_former value = value

abbrev pub the_weighed : {value : Former {0}} → Weighed value → Weighed (the_former value)
the_weighed weight = weight

-- the one field, an `Rc`: its pointer and the value
abbrev rc_field : Former {0}
rc_field =
    via (pair (const Ptr) this) Inside (λ T it. (it.inner.ptr, it.inner.value))
    (λ T parts. record { inner = record { ptr = parts.0; value = parts.1 } }) (λ T it. refl) (λ T parts. refl)

abbrev global_rc : RattleType → RattleType
global_rc A = rcs.the_row A global.the_row ghosts

-- the same handle on another value
abbrev around : {T U : Type 0} → Rc T Global → U → Rc U Global
around it value = record { ptr = it.ptr; value = value }

module _ (A B : RattleType) (f : A.Denot → B.Denot) where
  rcs_alike : Alike A B f → Alike (global_rc A) (global_rc B) (λ it. around it (f it.value))
  unfolding part_of
  rcs_alike alike = record {
    mir_same = λ i. (global_rc (one_value A (alike.mir_same i) (λ _. ftrue) (λ _ _. nothing) gnil)).mir;
    own_same = λ it i.
        (global_rc (one_value A (alike.mir_same i) (alike.own_same it.value i) (alike.shr_same it.value i) gnil)).own_val (around it tt);
    shr_same = λ it i.
        (global_rc (one_value A (alike.mir_same i) (alike.own_same it.value i) (alike.shr_same it.value i) gnil)).shr_at (around it tt);
  }

  pub the_places : Alike A B f → Alike (the_row A) (the_row B) ((the_former this).map A.Denot B.Denot f)
  the_places alike =
      view_places rc_field this view (λ T U g v. refl) (λ T v. refl)
      A.Denot B.Denot f (the_row A).coded (the_row B).coded
      (invariant A.Denot) (invariant B.Denot) (λ v p q. refl) (λ v p q. refl) (λ v e. tt) (λ v e. tt)
      (over (inside.the_row A)) (over (inside.the_row B))
      (struct_places (inside.the_type A) (inside.the_type B) ((λ it. around it (f it.value)), tt) _ (λ v. refl) refl
      (laid _ _ _ (rcs_alike alike), tt))

  pub the_codes_placed : Recodes A B f → Recodes (the_row A) (the_row B) ((the_former this).map A.Denot B.Denot f)
  the_codes_placed recodes value = recodes value

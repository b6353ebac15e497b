-- How a `List` holds its items, for a type that leads back to itself through one: as the list of
-- them, with nothing beside it.
use mathlib.Core.Path.{◌≡◌, refl, sym}
use mathlib.Core.List.{List, []}
use mathlib.Core.Former.{Former, this, list, via, children}
use base.Stored.{code_map}
use denote.RattleType.{RattleType}
use denote.HoleLaws.{Alike}
use denote.HolePlaces.{Recodes, struct_places, laid}
use denote.Hole.Carrier.{listed, list-listed}
use denote.Hole.Fix.{over}
use denote.Param.Weighed.{Weighed, w_list}
use denote.Model.Placed.{view_places}
use Rattle.std.specs.formers.vec.Vec as held
use Rattle.std.specs.declared.alloc.Global.{Global}
use Rattle.std.specs.contracts.alloc.Global as global
use Rattle.std.specs.contracts.impls.GlobalAllocator.TheImpl.{ghosts}
use Rattle.fx_base.specs.declared.list.List.TheInside.{Inside}
use Rattle.fx_base.specs.declared.list.List.TheView.{view, invariant}
use Rattle.fx_base.specs.contracts.list.List.{the_row}
use Rattle.fx_base.specs.contracts.list.List.TheInside as inside

abbrev pub the_former : Former {0} → Former {0}
the_former item = list item

abbrev pub the_weighed : {item : Former {0}} → Weighed item → Weighed (the_former item)
the_weighed weight = w_list weight

pub the_empty : List ⊥
the_empty = []

abbrev pub the_items : (T : Type 0) → List T → List T
the_items T items = items

pub the_items_listed : (T : Type 0) (items : List T) → listed _ (children (the_former this) T items) ≡ the_items T items
the_items_listed T items = list-listed T items

-- the one field, a `Vec`
abbrev vec_field : Former {0}
vec_field = via (held.the_former this Global) Inside (λ T list. list.items) (λ T vec. record { items = vec }) (λ T list. refl) (λ T vec. refl)

module _ (A B : RattleType) (f : A.Denot → B.Denot) where
  pub the_places : Alike A B f → Alike (the_row A) (the_row B) ((the_former this).map A.Denot B.Denot f)
  the_places alike =
      view_places vec_field (list this) view (λ T U g v. refl) (λ T v. refl)
      A.Denot B.Denot f (the_row A).coded (the_row B).coded
      (invariant A.Denot) (invariant B.Denot) (λ v p q. refl) (λ v p q. refl) (λ v e. tt) (λ v e. tt)
      (over (inside.the_row A)) (over (inside.the_row B))
      (struct_places (inside.the_type A) (inside.the_type B) (held.mapped f, tt) _ (λ v. refl) refl
      (laid _ _ _ (held.the_places global.the_row ghosts A B f alike), tt))

  pub the_codes_placed : Recodes A B f → Recodes (the_row A) (the_row B) ((the_former this).map A.Denot B.Denot f)
  the_codes_placed recodes items = sym (code_map A.coded.code B.coded.code f (λ item. sym (recodes item)) items)

-- What is bound to names.
use Rattle.std.proofs.Common.{◌≡◌, List, [], ◌∷◌, ◌++◌, ap, refl, sym, ◌∙◌}
use Rattle.std.specs.Prelude.{None, Some, Option, if◌then◌else◌}
use Rattle.fx_base.specs.Text.{same_text}
use Rattle.fx_meaning.specs.Value.{Label, Val, look, or_else}
use Rattle.fx_values.specs.Shape.{OfSlot, slots_of}

or_none : (o : Option Val) → o ≡ or_else o None
or_none None = refl
or_none (Some v) = refl

or_else_twice : (a b c : Option Val) → or_else (or_else a b) c ≡ or_else a (or_else b c)
or_else_twice None b c = refl
or_else_twice (Some v) b c = refl

-- of two lists of slots one behind the other, the later one is asked first
pub look_behind : (x : Label) (os ps : List OfSlot) → look x (slots_of (os ++ ps)) ≡ or_else (look x (slots_of ps)) (look x (slots_of os))
look_behind x [] ps = or_none (look x (slots_of ps))
look_behind x (o ∷ os) ps =
    let own = if same_text x o.label then Some o.value else None in
    ap (λ found. or_else found own) (look_behind x os ps) ∙ or_else_twice (look x (slots_of ps)) (look x (slots_of os)) own

pub found_inside : (x : Label) (os ps : List OfSlot) (v : Val) → Some v ≡ look x (slots_of ps) → Some v ≡ look x (slots_of (os ++ ps))
found_inside x os ps v is = ap (λ found. or_else found (look x (slots_of os))) is ∙ sym (look_behind x os ps)

pub found_outside : (x : Label) (os ps : List OfSlot) → None ≡ look x (slots_of ps) → look x (slots_of os) ≡ look x (slots_of (os ++ ps))
found_outside x os ps is = ap (λ found. or_else found (look x (slots_of os))) is ∙ sym (look_behind x os ps)

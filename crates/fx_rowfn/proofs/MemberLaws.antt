-- Members of values that have none, and items at an index.
use Rattle.std.proofs.Common.{◌≡◌, ◌<◌, ◌≤◌, List, ℕ, get_or, length, map, ap, refl, sym, ◌∙◌}
use Rattle.std.proofs.lemmas.Option.{slice_get-get_or, slice_get-map, slice_get_past}
use Rattle.std.specs.Prelude.{Some, Ok, Err, slice_get, option_map, pos}
use Rattle.std.specs.declared.alloc.Global.{Global}
use Rattle.std.specs.declared.rc.Rc.{Rc}
use Rattle.fx_base.specs.declared.fault.FaultKind.TheVariants.{IndexRange}
use Rattle.fx_meaning.specs.Operators.{item, item_or_fault, member_of}
use Rattle.fx_meaning.specs.Value.{Label, Val, cell, span, pattern, array, rec, closure, native, in_package, stream, shown}
use Rattle.fx_meaning.specs.declared.package.Package.{Package}
use Rattle.fx_value.specs.Ends.{Stuck}
use Rattle.fx_values.specs.Shape.{val, vals_of}
use Rattle.fx_values.specs.declared.value.Slot.{Slot}
use Rattle.fx_values.specs.declared.value.Value.{Value}
use Rattle.fx_values.specs.declared.value.Value.TheVariants as v
use Rattle.fx_values.proofs.EachLaws.{val_list_back}
use Rattle.fx_values.proofs.ValueLaws.{Opens, opens}

member_else : (w : Value) (d : Val) (x : Label) → Opens w d → ((a : Rc (List Slot) Global) → ¬ (w ≡ v.Rec a)) → ((p : Package) → ¬ (w ≡ v.Package p)) → member_of d x ≡ Stuck
member_else w (cell a) x o records packages = refl
member_else w (span a) x o records packages = refl
member_else w (pattern a) x o records packages = refl
member_else w (array a) x o records packages = refl
member_else w (rec a) x o records packages = absurd (records o.0 o.1)
member_else w (closure a b c d e) x o records packages = refl
member_else w (native a) x o records packages = refl
member_else w (in_package p) x o records packages = absurd (packages p o)
member_else w (stream a) x o records packages = refl
member_else w (shown a b c) x o records packages = refl

pub not_member : (w : Value) (x : Label) → ((a : Rc (List Slot) Global) → ¬ (w ≡ v.Rec a)) → ((p : Package) → ¬ (w ≡ v.Package p)) → member_of (val w) x ≡ Stuck
not_member w x records packages = member_else w (val w) x (opens w) records packages

item_got : (items : List Value) (n : ℕ) → item (vals_of (map val items)) (pos n) ≡ item_or_fault (option_map val (slice_get items n))
item_got items n = ap (λ vs. item_or_fault (slice_get vs n)) (val_list_back (map val items)) ∙ ap item_or_fault (slice_get-map val items n)

pub item_there : (items : List Value) (n : ℕ) (x : Value) → n < length items → x ≡ get_or items n x → item (vals_of (map val items)) (pos n) ≡ Ok (val x)
item_there items n x below is = item_got items n ∙ ap (λ o. item_or_fault (option_map val o)) (slice_get-get_or items n x below ∙ ap (λ y. Some y) (sym is))

pub item_past : (items : List Value) (n : ℕ) → length items ≤ n → item (vals_of (map val items)) (pos n) ≡ Err IndexRange
item_past items n over = item_got items n ∙ ap (λ o. item_or_fault (option_map val o)) (slice_get_past items n over)

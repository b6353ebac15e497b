-- The steps of the sums that count nodes, cut off at the greatest number of 64 bits.
use Rattle.std.proofs.Common.{◌≡◌, ◌≢◌, refl, sym, ap, ◌∙◌, ℕ, ◌+◌, ◌-◌, ◌^◌, ◌≤◌, ◌<◌, Bool, true, false, List, [], ◌∷◌, ◌++◌, map, take, drop, length, get_or, min, arith}
use Rattle.std.specs.Prelude.{if◌then◌else◌}
use Rattle.std.proofs.lemmas.List.{drop_more, take_more, map-append}
use Rattle.std.proofs.Math.ListN.{drop_of_length-le}
use Rattle.fx_types.specs.declared.term.LabelField.{LabelField}
use Rattle.fx_types.specs.declared.term.LabelTy.{LabelTy}
use Rattle.fx_types.specs.Term.{Label, Term, Field, absent, is, field_variable, default}
use Rattle.fx_types.specs.Ground.{is_column, is_plain, listed}
use Rattle.fx_types.specs.Instance.{ground, ground_field, plainest}
use Rattle.fx_types.specs.Nodes.{nodes, nodes_labels, nodes_field, nodes_fields, nodes_tail, capped}
use Rattle.fx_types.specs.Shape.{term, field_term, entry_term, label_term, labels_of, fields_of}
use Rattle.fx_types.proofs.Choices.{by_cases}
use Rattle.fx_types.proofs.ShapeLaws.{entry_is, labelled_is}

pub capped_within : (n r : ℕ) → r ≡ min n (2 ^ 64 - 1) → r ≤ 2 ^ 64 - 1
capped_within n r e = omega arith

pub one_more : (a x r : ℕ) → x ≡ capped a → r ≡ min (x + 1) (2 ^ 64 - 1) → r ≡ capped (a + 1)
one_more a x r e f = omega arith

pub sum_of_two : (a b x y r q : ℕ) → x ≡ capped a → y ≡ b → r ≡ min (x + y) (2 ^ 64 - 1) → q ≡ min (r + 1) (2 ^ 64 - 1) → q ≡ capped (a + b + 1)
sum_of_two a b x y r q e f g h = omega arith

pub sum_of_three : (a b c x y z r q p : ℕ) → x ≡ capped a → y ≡ capped b → z ≡ capped c → r ≡ min (x + y) (2 ^ 64 - 1) → q ≡ min (r + z) (2 ^ 64 - 1)
    → p ≡ min (q + 1) (2 ^ 64 - 1) → p ≡ capped (a + b + c + 1)
sum_of_three a b c x y z r q p d e f g h i = omega arith

-- what is left to count after an entry of weight w
rest_of_sum : (s w x r left more whole : ℕ) → x ≡ capped w → r ≡ min (s + x) (2 ^ 64 - 1) → left ≡ w + more → capped (s + left) ≡ whole → capped (r + more) ≡ whole
rest_of_sum s w x r left more whole e f g h = omega arith

all_counted : (s left whole : ℕ) → s ≤ 2 ^ 64 - 1 → left ≡ 0 → capped (s + left) ≡ whole → s ≡ whole
all_counted s left whole le e h = omega arith

abbrev labels : List LabelTy → List Label
labels = map (λ e. e.label)

labels_split : (es : List LabelTy) (i : ℕ) (e : LabelTy) → drop i es ≡ e ∷ drop (i + 1) es → labels (take (i + 1) es) ≡ labels (take i es) ++ e.label ∷ []
    → nodes_labels (labels (take i es)) (labels_of (map label_term (drop i es)))
    ≡ (if listed e.label (labels (take i es)) then 0 else nodes (term e.ty) + 1) + nodes_labels (labels (take (i + 1) es)) (labels_of (map label_term (drop (i + 1) es)))
labels_split es i e split more = rw (split, labelled_is e, more) refl

pub labels_step : (es : List LabelTy) (i : ℕ) (e : LabelTy) (s x r whole : ℕ) → i < length es → e ≡ get_or es i e
    → x ≡ capped (if listed e.label (labels (take i es)) then 0 else nodes (term e.ty) + 1) → r ≡ min (s + x) (2 ^ 64 - 1)
    → capped (s + nodes_labels (labels (take i es)) (labels_of (map label_term (drop i es)))) ≡ whole
    → capped (r + nodes_labels (labels (take (i + 1) es)) (labels_of (map label_term (drop (i + 1) es)))) ≡ whole
labels_step es i e s x r whole lt at size sum h =
    let split : drop i es ≡ e ∷ drop (i + 1) es = drop_more es i e lt ∙ ap (λ d. d ∷ drop (i + 1) es) (sym at) in
    let more : labels (take (i + 1) es) ≡ labels (take i es) ++ e.label ∷ [] =
    ap labels (take_more es i e lt ∙ ap (λ d. take i es ++ d ∷ []) (sym at)) ∙ map-append (λ d. d.label) (take i es) (e ∷ []) in
    rest_of_sum s _ x r _ _ whole size sum (labels_split es i e split more) h

pub labels_end : (es : List LabelTy) (i s whole : ℕ) → length es ≤ i → s ≤ 2 ^ 64 - 1
    → capped (s + nodes_labels (labels (take i es)) (labels_of (map label_term (drop i es)))) ≡ whole → s ≡ whole
labels_end es i s whole le small h = all_counted s _ whole small (ap (λ ds. nodes_labels (labels (take i es)) (labels_of (map label_term ds))) (drop_of_length-le es le)) h

abbrev names : List LabelField → List Label
names = map (λ e. e.label)

fields_split : (es : List LabelField) (i : ℕ) (e : LabelField) → drop i es ≡ e ∷ drop (i + 1) es → names (take (i + 1) es) ≡ names (take i es) ++ e.label ∷ []
    → nodes_fields (names (take i es)) (fields_of (map entry_term (drop i es)))
    ≡ (if listed e.label (names (take i es)) then 0 else nodes_field (field_term e.field)) + nodes_fields (names (take (i + 1) es)) (fields_of (map entry_term (drop (i + 1) es)))
fields_split es i e split more = rw (split, entry_is e, more) refl

pub fields_step : (es : List LabelField) (i : ℕ) (e : LabelField) (s x r whole : ℕ) → i < length es → e ≡ get_or es i e
    → x ≡ capped (if listed e.label (names (take i es)) then 0 else nodes_field (field_term e.field)) → r ≡ min (s + x) (2 ^ 64 - 1)
    → capped (s + nodes_fields (names (take i es)) (fields_of (map entry_term (drop i es)))) ≡ whole
    → capped (r + nodes_fields (names (take (i + 1) es)) (fields_of (map entry_term (drop (i + 1) es)))) ≡ whole
fields_step es i e s x r whole lt at size sum h =
    let split : drop i es ≡ e ∷ drop (i + 1) es = drop_more es i e lt ∙ ap (λ d. d ∷ drop (i + 1) es) (sym at) in
    let more : names (take (i + 1) es) ≡ names (take i es) ++ e.label ∷ [] =
    ap names (take_more es i e lt ∙ ap (λ d. take i es ++ d ∷ []) (sym at)) ∙ map-append (λ d. d.label) (take i es) (e ∷ []) in
    rest_of_sum s _ x r _ _ whole size sum (fields_split es i e split more) h

pub fields_end : (es : List LabelField) (i s whole : ℕ) → length es ≤ i → s ≤ 2 ^ 64 - 1
    → capped (s + nodes_fields (names (take i es)) (fields_of (map entry_term (drop i es)))) ≡ whole → s ≡ whole
fields_end es i s whole le small h = all_counted s _ whole small (ap (λ ds. nodes_fields (names (take i es)) (fields_of (map entry_term ds))) (drop_of_length-le es le)) h

-- an entry counts nothing where its label stands before it
pub passed_over : (b : Bool) (w : ℕ) → b ≡ true → 0 ≡ capped (if b then 0 else w)
passed_over b w e = ap (λ c. capped (if c then 0 else w)) (sym e)

pub counted : (b : Bool) (w x : ℕ) → b ≡ false → x ≡ capped w → x ≡ capped (if b then 0 else w)
counted b w x e h = h ∙ ap (λ c. capped (if c then 0 else w)) (sym e)

pub counts_nothing : (b : Bool) (w x : ℕ) → x ≡ 0 → x ≡ capped w → 0 ≡ capped (if b then 0 else w)
counts_nothing true w x e h = refl
counts_nothing false w x e h = sym e ∙ h

-- the default of a row counts nothing, or has no end

pub column_size : (t : Term) (b : Bool) → b ≡ is_column (ground plainest t) → b ≡ true → 0 ≡ capped (nodes_field (is t))
column_size t b e f = ap (λ c. capped (if c then 0 else nodes t + 1)) (sym f ∙ e)

pub other_size : (t : Term) (b : Bool) (x r : ℕ) → b ≡ is_column (ground plainest t) → b ≡ false → x ≡ capped (nodes t) → r ≡ min (x + 1) (2 ^ 64 - 1)
    → r ≡ capped (nodes_field (is t))
other_size t b x r e f h g = one_more (nodes t) x r h g ∙ ap (λ c. capped (if c then 0 else nodes t + 1)) (sym f ∙ e)

nothing_plain : (f : Field) → nodes_field f ≡ 0 → is_plain (ground_field plainest f) ≡ true
nothing_plain absent h = refl
nothing_plain (field_variable n) h = refl
nothing_plain (is t) h =
    by_cases (is_column (ground plainest t)) (λ e. e)
    (λ e. let some : nodes_field (is t) ≡ nodes t + 1 = ap (λ c. if c then 0 else nodes t + 1) e in absurd (omega arith))

pub plain_nothing : (f : Field) → is_plain (ground_field plainest f) ≡ true → nodes_field f ≡ 0
plain_nothing absent e = refl
plain_nothing (field_variable n) e = refl
plain_nothing (is t) e = ap (λ c. if c then 0 else nodes t + 1) e

pub default_plain : (f : Field) (x : ℕ) → x ≡ capped (nodes_field f) → x ≡ 0 → 0 ≡ nodes_tail (default f)
default_plain f x e h = ap (λ c. if c then 0 else 2 ^ 64 - 1) (sym (nothing_plain f (omega arith)))

pub default_endless : (f : Field) (x : ℕ) → x ≡ capped (nodes_field f) → x ≢ 0 → 2 ^ 64 - 1 ≡ nodes_tail (default f)
default_endless f x e h =
    by_cases (is_plain (ground_field plainest f))
    (λ p. let none : nodes_field f ≡ 0 = plain_nothing f p in absurd (h (omega arith)))
    (λ p. ap (λ c. if c then 0 else 2 ^ 64 - 1) (sym p))

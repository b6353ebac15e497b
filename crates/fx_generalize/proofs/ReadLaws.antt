-- Terms that are read, part by part.
use Rattle.std.proofs.Common.{◌≡◌, refl, sym, ap, subst, ◌∙◌, ℕ, ◌+◌, ◌≤◌, ◌<◌, Bool, true, false, List, [], ◌∷◌, ◌++◌, map, take, get_or, length, Option, None, Some, option_map}
use Rattle.std.specs.Prelude.{if◌then◌else◌}
use mathlib.Core.Bool.{true≢false}
use Rattle.std.proofs.lemmas.List.{take_more}
use Rattle.fx_base.specs.Text.{same_text}
use Rattle.fx_types.proofs.Choices.{by_cases, chosen, passed, never}
use Rattle.fx_types.proofs.Lists.{take_all}
use Rattle.fx_types.proofs.RowSums.{same_is}
use Rattle.fx_types.proofs.ShapeLaws.{entry_is, labelled_is, row_is, function_is, term_bool, term_int, term_text, term_time, term_span, term_pattern, term_done, term_variable, term_array, term_fun, term_rec, term_stream, field_absent, field_is, field_var, tail_default, tail_var}
use Rattle.fx_types.specs.declared.term.FieldTy.{FieldTy}
use Rattle.fx_types.specs.declared.term.FunTy.{FunTy}
use Rattle.fx_types.specs.declared.term.LabelField.{LabelField}
use Rattle.fx_types.specs.declared.term.LabelTy.{LabelTy}
use Rattle.fx_types.specs.declared.term.Rest.{Rest}
use Rattle.fx_types.specs.declared.term.RowTy.{RowTy}
use Rattle.fx_types.specs.declared.term.Ty.{Ty}
use Rattle.fx_types.specs.declared.term.Ty.TheVariants as ty
use Rattle.fx_types.specs.declared.term.FieldTy.TheVariants as fields
use Rattle.fx_types.specs.declared.term.Rest.TheVariants as rests
use Rattle.fx_types.specs.declared.term.FieldTy.TheViews.{out-FunTy, roll-FunTy, out-roll-FunTy, out-RowTy, roll-RowTy, out-roll-RowTy}
use Rattle.fx_types.specs.Term.{Label, Term, type_variable, fun, Labels, no_labels, more_labels, Row}
use Rattle.fx_types.specs.Ground.{GroundRow, g_array, g_fun, g_rec, g_stream, g_absent, g_is, listed}
use Rattle.fx_types.specs.Instance.{Solution, ground, ground_labels, ground_pipe, ground_field, ground_fields, ground_tail}
use Rattle.fx_types.specs.Shape.{term, field_term, rest_term, fun_term, row_term, entry_term, label_term, labels_of, fields_of, pipe_of}
use Rattle.fx_unify.specs.declared.store.Root as roots
use Rattle.fx_unify.specs.declared.store.Root.TheVariants as root
use Rattle.fx_unify.specs.declared.store.Store as stores
use Rattle.fx_unify.specs.declared.view.View as views
use Rattle.fx_unify.specs.declared.view.View.TheVariants as view
use Rattle.fx_unify.specs.Part.{Part, p_is, p_field, p_slot, part_of, value, Entries, Solved}
use Rattle.fx_unify.specs.Rows.{ground_row}
use Rattle.fx_unify.specs.Store.{entry, root_at, bound_to, IsFree, KeepsRoot}
use Rattle.fx_unify.specs.Sums.{names}
use Rattle.fx_unify.specs.View.{part_seen}
use Rattle.fx_unify.proofs.Cases.{Form, is_bool, is_int, is_text, is_time, is_span, is_pattern, is_done, is_variable, is_array, is_fun, is_rec, is_stream, form_of}
use Rattle.fx_unify.proofs.HeadLaws.{ground_array, ground_fun, ground_rec, ground_stream}
use Rattle.fx_unify.proofs.LabelLaws.{listed_one_more, not_before}
use Rattle.fx_unify.proofs.RowLaws.{value_of, ground_row_is, off_fields}
use Rattle.fx_unify.proofs.SolvingLaws.{type_is}
use Rattle.fx_generalize.specs.declared.names.Names.{Names}
use Rattle.fx_generalize.specs.Named.{type_place, row_place, field_place, Through, IsReading, IsPipeReading, IsFieldReading, IsRowReading, IsOpenRead, IsAtRoot, IsLeft, IsRootRead, AreLabelsRead, AreFieldsRead, AreSlotsRead, AreNamedAmong, labels_over}
use Rattle.fx_generalize.proofs.OpenLaws.{free_row}

-- an entry behind the others stands in the row below them

label_last : (s : Solution) (xs : List LabelTy) (x : LabelTy) (r : GroundRow) (l : Label)
    → labels_over s (labels_of (map label_term (xs ++ x ∷ []))) r l ≡ labels_over s (labels_of (map label_term xs)) (λ k. if same_text k x.label then g_is (ground s (term x.ty)) else r k) l
label_last s [] x r l = ap (λ o. if same_text l o.label then g_is (ground s o.type) else r l) (labelled_is x)
label_last s (y ∷ ys) x r l = ap (λ g. if same_text l (label_term y).label then g_is (ground s (label_term y).type) else g) (label_last s ys x r l)

field_last : (s : Solution) (xs : List LabelField) (x : LabelField) (r : GroundRow) (l : Label)
    → ground_fields s (fields_of (map entry_term (xs ++ x ∷ []))) r l ≡ ground_fields s (fields_of (map entry_term xs)) (λ k. if same_text k x.label then ground_field s (field_term x.field) else r k) l
field_last s [] x r l = ap (λ o. if same_text l o.label then ground_field s o.field else r l) (entry_is x)
field_last s (y ∷ ys) x r l = ap (λ g. if same_text l (entry_term y).label then ground_field s (entry_term y).field else g) (field_last s ys x r l)

fields_joined : (s : Solution) (xs ys : List LabelField) (r : GroundRow) (l : Label)
    → ground_fields s (fields_of (map entry_term (xs ++ ys))) r l ≡ ground_fields s (fields_of (map entry_term xs)) (ground_fields s (fields_of (map entry_term ys)) r) l
fields_joined s [] ys r l = refl
fields_joined s (x ∷ xs) ys r l = ap (λ g. if same_text l (entry_term x).label then ground_field s (entry_term x).field else g) (fields_joined s xs ys r l)

labels_whole : (s : Solution) (ls : Labels) (l : Label) → labels_over s ls (λ k. g_absent) l ≡ ground_labels s ls l
labels_whole s no_labels l = refl
labels_whole s (more_labels x t ls) l = ap (λ g. if same_text l x then g_is (ground s t) else g) (labels_whole s ls l)

same_both : {A : Type 0} (b : Bool) (x y : A) → y ≡ x → (if b then x else y) ≡ x
same_both true x y h = refl
same_both false x y h = h

-- at a listed label the row below says nothing
at_names : (s : Solution) (es : List LabelField) (r q : GroundRow) (l : Label) → listed l (names es) ≡ true
    → ground_fields s (fields_of (map entry_term es)) r l ≡ ground_fields s (fields_of (map entry_term es)) q l
at_names s [] r q l h = absurd (true≢false (sym h))
at_names s (e ∷ es) r q l h =
    by_cases (same_text l e.label)
    (λ t. (let first : same_text l (entry_term e).label ≡ true = ap (λ o. same_text l o.label) (entry_is e) ∙ t in
    chosen (same_text l (entry_term e).label) (ground_field s (entry_term e).field) (ground_fields s (fields_of (map entry_term es)) r l) first
    ∙ sym (chosen (same_text l (entry_term e).label) (ground_field s (entry_term e).field) (ground_fields s (fields_of (map entry_term es)) q l) first)))
    (λ t. ap (λ g. if same_text l (entry_term e).label then ground_field s (entry_term e).field else g) (at_names s es r q l (sym (passed (same_text l e.label) true (listed l (names es)) t) ∙ h)))

-- rows that are the same off the listed labels are the same below them
over_off : (s : Solution) (es : List LabelField) (r q : GroundRow) → ((l : Label) → listed l (names es) ≡ false → r l ≡ q l) → (l : Label)
    → ground_fields s (fields_of (map entry_term es)) r l ≡ ground_fields s (fields_of (map entry_term es)) q l
over_off s es r q h l = by_cases (listed l (names es)) (λ there. at_names s es r q l there) (λ off. off_fields s es r l off ∙ h l off ∙ sym (off_fields s es q l off))

-- a type without parts that is no variable is the same under all solutions

form_bare : (t : Ty) → Form t → ((n : ℕ) → t ≡ ty.Var n → ⊥) → ((x : Ty) → t ≡ ty.Array x → ⊥) → ((x : FunTy) → t ≡ ty.Fun x → ⊥) → ((x : RowTy) → t ≡ ty.Rec x → ⊥)
    → ((x : RowTy) → t ≡ ty.Stream x → ⊥) → (q s : Solution) → ground q (term t) ≡ ground s (term t)
form_bare t (is_bool h) v a b c d q s = ap (ground q) (ap term h ∙ term_bool) ∙ sym (ap (ground s) (ap term h ∙ term_bool))
form_bare t (is_int h) v a b c d q s = ap (ground q) (ap term h ∙ term_int) ∙ sym (ap (ground s) (ap term h ∙ term_int))
form_bare t (is_text h) v a b c d q s = ap (ground q) (ap term h ∙ term_text) ∙ sym (ap (ground s) (ap term h ∙ term_text))
form_bare t (is_time h) v a b c d q s = ap (ground q) (ap term h ∙ term_time) ∙ sym (ap (ground s) (ap term h ∙ term_time))
form_bare t (is_span h) v a b c d q s = ap (ground q) (ap term h ∙ term_span) ∙ sym (ap (ground s) (ap term h ∙ term_span))
form_bare t (is_pattern h) v a b c d q s = ap (ground q) (ap term h ∙ term_pattern) ∙ sym (ap (ground s) (ap term h ∙ term_pattern))
form_bare t (is_done h) v a b c d q s = ap (ground q) (ap term h ∙ term_done) ∙ sym (ap (ground s) (ap term h ∙ term_done))
form_bare t (is_variable n h) v a b c d q s = absurd (v n h)
form_bare t (is_array x h) v a b c d q s = absurd (a x h)
form_bare t (is_fun x h) v a b c d q s = absurd (b x h)
form_bare t (is_rec x h) v a b c d q s = absurd (c x h)
form_bare t (is_stream x h) v a b c d q s = absurd (d x h)

module _ (e : Entries) (m : Names) where
  -- labels

  pub no_labels_read : (xs us : List LabelTy) → xs ≡ [] → us ≡ [] → AreLabelsRead e m xs us
  no_labels_read xs us none same = subst (λ zs. AreLabelsRead e m xs zs) (sym same) (subst (λ zs. AreLabelsRead e m zs []) (sym none) (λ s q solved through r l. refl))

  pub label_read : (us more es : List LabelTy) (i : ℕ) (x d : LabelTy) → more ≡ us ++ x ∷ [] → x.label ≡ d.label → IsReading e m (term d.ty) (term x.ty) → i < length es → d ≡ get_or es i d
      → AreLabelsRead e m (take i es) us → AreLabelsRead e m (take (i + 1) es) more
  label_read us more es i x d pushed label type lt at h s q solved through r l =
      let next : take (i + 1) es ≡ take i es ++ d ∷ [] = take_more es i d lt ∙ ap (λ z. take i es ++ z ∷ []) (sym at) in
      ap (λ ys. labels_over q (labels_of (map label_term ys)) r l) pushed ∙ label_last q us x r l ∙ h s q solved through (λ k. if same_text k x.label then g_is (ground q (term x.ty)) else r k) l
      ∙ (λ j. labels_over s (labels_of (map label_term (take i es))) (λ k. if same_text k (label j) then g_is (type s q solved through j) else r k) l)
      ∙ sym (ap (λ ys. labels_over s (labels_of (map label_term ys)) r l) next ∙ label_last s (take i es) d r l)

  pub labels_read : (us es xs : List LabelTy) (i : ℕ) → es ≡ xs → length es ≤ i → AreLabelsRead e m (take i es) us → AreLabelsRead e m xs us
  labels_read us es xs i same le h = subst (λ zs. AreLabelsRead e m zs us) (take_all es i le ∙ same) h

  -- fields

  pub no_fields_read : (us : List LabelField) → us ≡ [] → AreFieldsRead e m [] us
  no_fields_read us same = subst (AreFieldsRead e m []) (sym same) (λ s q solved through r l. refl)

  pub field_read : (us more es : List LabelField) (i : ℕ) (x d : LabelField) → more ≡ us ++ x ∷ [] → x.label ≡ d.label → IsFieldReading e m (λ s. ground_field s (field_term d.field)) (field_term x.field)
      → i < length es → d ≡ get_or es i d → AreFieldsRead e m (take i es) us → AreFieldsRead e m (take (i + 1) es) more
  field_read us more es i x d pushed label field lt at h s q solved through r l =
      let next : take (i + 1) es ≡ take i es ++ d ∷ [] = take_more es i d lt ∙ ap (λ z. take i es ++ z ∷ []) (sym at) in
      ap (λ ys. ground_fields q (fields_of (map entry_term ys)) r l) pushed ∙ field_last q us x r l
      ∙ h s q solved through (λ k. if same_text k x.label then ground_field q (field_term x.field) else r k) l
      ∙ (λ j. ground_fields s (fields_of (map entry_term (take i es))) (λ k. if same_text k (label j) then field s q solved through j else r k) l)
      ∙ sym (ap (λ ys. ground_fields s (fields_of (map entry_term ys)) r l) next ∙ field_last s (take i es) d r l)

  pub fields_read : (us es xs : List LabelField) (i : ℕ) → es ≡ xs → length es ≤ i → AreFieldsRead e m (take i es) us → AreFieldsRead e m xs us
  fields_read us es xs i same le h = subst (λ zs. AreFieldsRead e m zs us) (take_all es i le ∙ same) h

  -- functions

  fun_parts : (s : Solution) (f : FunTy) → ground s (fun (fun_term f).required (fun_term f).pipe (fun_term f).result)
      ≡ g_fun (labels_over s (labels_of (map label_term (out-FunTy f).required)) (λ k. g_absent)) (ground_pipe s (pipe_of (option_map term (out-FunTy f).pipe))) (ground s (term (out-FunTy f).result))
  fun_parts s f =
      ap (λ g. ground s (fun g.required g.pipe g.result)) (function_is f)
      ∙ (λ j. g_fun (λ l. sym (labels_whole s (labels_of (map label_term (out-FunTy f).required)) l) j) (ground_pipe s (pipe_of (option_map term (out-FunTy f).pipe))) (ground s (term (out-FunTy f).result)))

  pub parts_read : (f : FunTy) (required : List LabelTy) (pipe : Option Ty) (result : Ty) → AreLabelsRead e m (out-FunTy f).required required
      → IsPipeReading e m (pipe_of (option_map term (out-FunTy f).pipe)) (pipe_of (option_map term pipe)) → IsReading e m (term (out-FunTy f).result) (term result)
      → IsReading e m (fun (fun_term f).required (fun_term f).pipe (fun_term f).result)
      (fun (fun_term (roll-FunTy (record { required = required; pipe = pipe; result = result }))).required (fun_term (roll-FunTy (record { required = required; pipe = pipe; result = result }))).pipe
      (fun_term (roll-FunTy (record { required = required; pipe = pipe; result = result }))).result)
  parts_read f required pipe result one two three s q solved through =
      fun_parts q (roll-FunTy (record { required = required; pipe = pipe; result = result }))
      ∙ ap (λ o. g_fun (labels_over q (labels_of (map label_term o.required)) (λ k. g_absent)) (ground_pipe q (pipe_of (option_map term o.pipe))) (ground q (term o.result)))
      (out-roll-FunTy (record { required = required; pipe = pipe; result = result }))
      ∙ (λ j. g_fun (λ l. one s q solved through (λ k. g_absent) l j) (two s q solved through j) (three s q solved through j)) ∙ sym (fun_parts s f)

  -- rows

  pub closed_read : (r : RowTy) (d rest : FieldTy) (us : List LabelField) → (out-RowTy r).rest ≡ rests.Default d → AreFieldsRead e m (out-RowTy r).fields us
      → IsFieldReading e m (λ s. ground_field s (field_term d)) (field_term rest) → IsRowReading e m (row_term r) (row_term (roll-RowTy (record { fields = us; rest = rests.Default rest })))
  closed_read r d rest us is fields_are default_is s q solved through l =
      ground_row_is q (roll-RowTy (record { fields = us; rest = rests.Default rest })) l
      ∙ ap (λ o. ground_fields q (fields_of (map entry_term o.fields)) (ground_tail q (rest_term o.rest)) l) (out-roll-RowTy (record { fields = us; rest = rests.Default rest }))
      ∙ fields_are s q solved through (ground_tail q (rest_term (rests.Default rest))) l
      ∙ ap (λ b. ground_fields s (fields_of (map entry_term (out-RowTy r).fields)) b l) (λ j k. tails k j) ∙ sym (ground_row_is s r l)
    where
      tails : (k : Label) → ground_tail q (rest_term (rests.Default rest)) k ≡ ground_tail s (rest_term (out-RowTy r).rest) k
      tails k =
          ap (λ t. ground_tail q t k) (tail_default rest) ∙ default_is s q solved through ∙ sym (ap (λ t. ground_tail s t k) (ap rest_term is ∙ tail_default d))

  pub row_over : (r : RowTy) (n : ℕ) (open_row u : RowTy) (us : List LabelField) → (out-RowTy r).rest ≡ rests.Var n → AreFieldsRead e m (out-RowTy r).fields us
      → IsOpenRead e m (names (out-RowTy r).fields) n (row_term open_row)
      → row_term u ≡ record { fields = fields_of (map entry_term (us ++ (out-RowTy open_row).fields)); rest = rest_term (out-RowTy open_row).rest } → IsRowReading e m (row_term r) (row_term u)
  row_over r n open_row u us is fields_are opened joined s q solved through l =
      ap (λ o. ground_row q o l) joined ∙ fields_joined q us (out-RowTy open_row).fields (ground_tail q (rest_term (out-RowTy open_row).rest)) l
      ∙ fields_are s q solved through (ground_fields q (fields_of (map entry_term (out-RowTy open_row).fields)) (ground_tail q (rest_term (out-RowTy open_row).rest))) l
      ∙ over_off s (out-RowTy r).fields (ground_fields q (fields_of (map entry_term (out-RowTy open_row).fields)) (ground_tail q (rest_term (out-RowTy open_row).rest))) (ground_tail s (rest_term (out-RowTy r).rest))
      (λ k off. sym (ground_row_is q open_row k) ∙ opened s q solved through k off ∙ sym (ap (λ t. ground_tail s t k) (ap rest_term is ∙ tail_var n))) l
      ∙ sym (ground_row_is s r l)

  -- slots

  module _ (r : ℕ) (o : roots.Root) (hidden : List Label) where
    pub no_slots_read : (us : List LabelField) → us ≡ [] → AreSlotsRead e m r o hidden [] us
    no_slots_read us same = subst (AreSlotsRead e m r o hidden []) (sym same) (λ s q solved through b left l off. refl)

    pub slots_read : (ls : List Label) (i : ℕ) (us : List LabelField) → length ls ≤ i → AreSlotsRead e m r o hidden (take i ls) us → AreSlotsRead e m r o hidden ls us
    slots_read ls i us le h = subst (λ ks. AreSlotsRead e m r o hidden ks us) (take_all ls i le) h

    module _ (ls : List Label) (i : ℕ) (x : Label) (lt : i < length ls) (at : x ≡ get_or ls i x) where
      one_more : (l : Label) → listed l (take (i + 1) ls) ≡ (if same_text l x then true else listed l (take i ls))
      one_more l = ap (listed l) (take_more ls i x lt ∙ ap (λ d. take i ls ++ d ∷ []) (sym at)) ∙ listed_one_more l x (take i ls)

      -- a label whose field is right anyway, or that is hidden
      passed_over : (us : List LabelField) → ((s q : Solution) → Solved s e → Through e m s q → (b : GroundRow) → ((l : Label) → IsLeft e m r o l → b l ≡ s.row_of r l) → listed x hidden ≡ false → b x ≡ s.row_of r x)
          → AreSlotsRead e m r o hidden (take i ls) us → AreSlotsRead e m r o hidden (take (i + 1) ls) us
      passed_over us right h s q solved through b left l off =
          h s q solved through b left l off ∙ by_cases (same_text l x) (λ t. at_x t) (λ t. ap (λ c. if c then s.row_of r l else b l) (sym (one_more l ∙ passed (same_text l x) true (listed l (take i ls)) t)))
        where
          at_x : same_text l x ≡ true → (if listed l (take i ls) then s.row_of r l else b l) ≡ (if listed l (take (i + 1) ls) then s.row_of r l else b l)
          at_x t =
              let here : b l ≡ s.row_of r l = subst (λ k. b k ≡ s.row_of r k) (sym (same_is l x t)) (right s q solved through b left (subst (λ k. listed k hidden ≡ false) (same_is l x t) off)) in
              same_both (listed l (take i ls)) (s.row_of r l) (b l) here ∙ sym (ap (λ c. if c then s.row_of r l else b l) (one_more l ∙ chosen (same_text l x) true (listed l (take i ls)) t))

      pub slot_hidden : (us : List LabelField) → listed x hidden ≡ true → AreSlotsRead e m r o hidden (take i ls) us → AreSlotsRead e m r o hidden (take (i + 1) ls) us
      slot_hidden us there = passed_over us (λ s q solved through b left off. never (listed x hidden) there off)

      pub slot_left : (us : List LabelField) → IsLeft e m r o x → AreSlotsRead e m r o hidden (take i ls) us → AreSlotsRead e m r o hidden (take (i + 1) ls) us
      slot_left us is_left = passed_over us (λ s q solved through b left off. left x is_left)

      pub slot_read : (us more : List LabelField) (u : LabelField) → more ≡ us ++ u ∷ [] → u.label ≡ x → IsFieldReading e m (λ s. s.row_of r x) (field_term u.field)
          → AreSlotsRead e m r o hidden (take i ls) us → AreSlotsRead e m r o hidden (take (i + 1) ls) more
      slot_read us more u pushed label field h s q solved through b left l off =
          ap (λ ys. ground_fields q (fields_of (map entry_term ys)) b l) pushed ∙ field_last q us u b l
          ∙ ap (λ c. ground_fields q (fields_of (map entry_term us)) c l) (λ j k. if same_text k (label j) then field s q solved through j else b k)
          ∙ h s q solved through put put_left l off ∙ by_cases (same_text l x) there elsewhere
        where
          put : GroundRow
          put k = if same_text k x then s.row_of r x else b k

          put_left : (k : Label) → IsLeft e m r o k → put k ≡ s.row_of r k
          put_left k is_left =
              by_cases (same_text k x) (λ t. chosen (same_text k x) (s.row_of r x) (b k) t ∙ ap (s.row_of r) (sym (same_is k x t))) (λ t. passed (same_text k x) (s.row_of r x) (b k) t ∙ left k is_left)

          there : same_text l x ≡ true → (if listed l (take i ls) then s.row_of r l else put l) ≡ (if listed l (take (i + 1) ls) then s.row_of r l else b l)
          there t =
              same_both (listed l (take i ls)) (s.row_of r l) (put l) (chosen (same_text l x) (s.row_of r x) (b l) t ∙ ap (s.row_of r) (sym (same_is l x t)))
              ∙ sym (ap (λ c. if c then s.row_of r l else b l) (one_more l ∙ chosen (same_text l x) true (listed l (take i ls)) t))

          elsewhere : same_text l x ≡ false → (if listed l (take i ls) then s.row_of r l else put l) ≡ (if listed l (take (i + 1) ls) then s.row_of r l else b l)
          elsewhere t =
              ap (λ g. if listed l (take i ls) then s.row_of r l else g) (passed (same_text l x) (s.row_of r x) (b l) t)
              ∙ ap (λ c. if c then s.row_of r l else b l) (sym (one_more l ∙ passed (same_text l x) true (listed l (take i ls)) t))

  -- what the row variable has at a label is what its root has there
  pub left_at_root : (r : ℕ) (o : roots.Root) (x : Label) (p : Part) → bound_to e p ≡ None → ((s : Solution) → Solved s e → value s p ≡ s.row_of r x) → IsAtRoot m o x p → IsLeft e m r o x
  left_at_root r (root.Default d) x p free same h = absurd h
  left_at_root r (root.Var v) x p free same h =
      (subst (λ y. bound_to e y ≡ None) h.0 free, h.1, λ s solved. sym (ap (value s) h.0) ∙ same s solved)

  -- the root of a row

  pub default_read : (o : roots.Root) (d x : FieldTy) → o ≡ root.Default d → IsFieldReading e m (λ s. ground_field s (field_term d)) (field_term x) → IsRootRead e m o (rest_term (rests.Default x))
  default_read o d x is h = subst (λ y. IsRootRead e m y (rest_term (rests.Default x))) (sym is) (λ s q solved through l. ap (λ t. ground_tail q t l) (tail_default x) ∙ h s q solved through)

  pub variable_read : (o : roots.Root) (v j : ℕ) → o ≡ root.Var v → row_place m v ≡ Some j → IsRootRead e m o (rest_term (rests.Var j))
  variable_read o v j is at =
      subst (λ y. IsRootRead e m y (rest_term (rests.Var j))) (sym is) (λ s q solved through l free none. ap (λ t. ground_tail q t l) (tail_var j) ∙ sym (through.3 v l j free none at))

  -- types

  module _ (t head : Ty) (same : (s : Solution) → Solved s e → value s (p_is (term head)) ≡ value s (p_is (term t))) where
    to_type : (s : Solution) → Solved s e → ground s (term head) ≡ ground s (term t)
    to_type s solved = (type_is (ground s (term head)) (ground s (term t))).0 (same s solved)

    pub array_read : (x u : Ty) → head ≡ ty.Array u → IsReading e m (term u) (term x) → IsReading e m (term t) (term (ty.Array x))
    array_read x u is h s q solved through = ap (ground q) (term_array x) ∙ ap g_array (h s q solved through) ∙ sym (ground_array s head u is) ∙ to_type s solved

    pub fun_read : (x u : FunTy) → head ≡ ty.Fun u → IsReading e m (fun (fun_term u).required (fun_term u).pipe (fun_term u).result) (fun (fun_term x).required (fun_term x).pipe (fun_term x).result)
        → IsReading e m (term t) (term (ty.Fun x))
    fun_read x u is h s q solved through = ap (ground q) (term_fun x) ∙ h s q solved through ∙ sym (ground_fun s head u is) ∙ to_type s solved

    pub rec_read : (x u : RowTy) → head ≡ ty.Rec u → IsRowReading e m (row_term u) (row_term x) → IsReading e m (term t) (term (ty.Rec x))
    rec_read x u is h s q solved through = ap (ground q) (term_rec x) ∙ ap g_rec (λ j l. h s q solved through l j) ∙ sym (ground_rec s head u is) ∙ to_type s solved

    pub stream_read : (x u : RowTy) → head ≡ ty.Stream u → IsRowReading e m (row_term u) (row_term x) → IsReading e m (term t) (term (ty.Stream x))
    stream_read x u is h s q solved through = ap (ground q) (term_stream x) ∙ ap g_stream (λ j l. h s q solved through l j) ∙ sym (ground_stream s head u is) ∙ to_type s solved

    pub type_variable_read : (n i : ℕ) → head ≡ ty.Var n → bound_to e (p_is (term head)) ≡ None → type_place m n ≡ Some i → IsReading e m (term t) (term (ty.Var i))
    type_variable_read n i is free at s q solved through =
        let var : term head ≡ type_variable n = ap term is ∙ term_variable n in
        ap (ground q) (term_variable i) ∙ sym (through.0 n i (ap (λ y. bound_to e (p_is y)) (sym var) ∙ free) at) ∙ sym (ap (ground s) var) ∙ to_type s solved

    -- a type that has no parts is what it was
    pub bare_read : (x : Ty) → x ≡ head → ((n : ℕ) → head ≡ ty.Var n → ⊥) → ((u : Ty) → head ≡ ty.Array u → ⊥) → ((u : FunTy) → head ≡ ty.Fun u → ⊥) → ((u : RowTy) → head ≡ ty.Rec u → ⊥)
        → ((u : RowTy) → head ≡ ty.Stream u → ⊥) → IsReading e m (term t) (term x)
    bare_read x is v a b c d s q solved through = ap (λ u. ground q (term u)) is ∙ form_bare head (form_of head) v a b c d q s ∙ to_type s solved

  -- fields

  pub view_absent : (v : views.View) → v ≡ view.Absent → IsFieldReading e m (λ s. value s (part_seen v)) (field_term fields.Absent)
  view_absent v is s q solved through = ap (ground_field q) field_absent ∙ sym (ap (λ w. value s (part_seen w)) is)

  pub view_is : (v : views.View) (p : Part) (x : Ty) (t : Term) → p ≡ p_is t → part_seen v ≡ p → IsReading e m t (term x) → IsFieldReading e m (λ s. value s (part_seen v)) (field_term (fields.Is x))
  view_is v p x t is seen h s q solved through = ap (ground_field q) (field_is x) ∙ ap g_is (h s q solved through) ∙ sym (ap (value s) (seen ∙ is))

  pub view_variable : (p : Part) (n i : ℕ) → p ≡ p_field n → bound_to e p ≡ None → field_place m p ≡ Some i → IsFieldReading e m (λ s. value s p) (field_term (fields.Var i))
  view_variable p n i is free at s q solved through =
      ap (ground_field q) (field_var i) ∙ sym (through.1 n i (ap (bound_to e) (sym is) ∙ free) (ap (field_place m) (sym is) ∙ at)) ∙ sym (ap (value s) is)

  pub view_slot : (p : Part) (r : ℕ) (l : Label) (i : ℕ) → p ≡ p_slot r l → bound_to e p ≡ None → field_place m p ≡ Some i → IsFieldReading e m (λ s. value s p) (field_term (fields.Var i))
  view_slot p r l i is free at s q solved through =
      ap (ground_field q) (field_var i) ∙ sym (through.2 r l i (ap (bound_to e) (sym is) ∙ free) (ap (field_place m) (sym is) ∙ at)) ∙ sym (ap (value s) is)

  pub seen_read : (p : Part) (f : FieldTy) (v : Part) (x : FieldTy) → ((s : Solution) → Solved s e → value s p ≡ value s v) → v ≡ part_of (field_term f)
      → IsFieldReading e m (λ s. value s p) (field_term x) → IsFieldReading e m (λ s. ground_field s (field_term f)) (field_term x)
  seen_read p f v x same is h s q solved through = h s q solved through ∙ same s solved ∙ ap (value s) is ∙ value_of s (field_term f)

-- the row of a variable

module _ (st : stores.Store) (m : Names) (r : ℕ) (hidden ls ms : List Label) (us : List LabelField) (rest : Rest) where
  over_root : (o : roots.Root) → IsFree st o → KeepsRoot st o ls → ((l : Label) → listed l ls ≡ true → listed l ms ≡ true) → AreNamedAmong m o ms
      → ((s : Solution) → Solved s (entry st) → (l : Label) → listed l ls ≡ false → value s (root_at l o) ≡ s.row_of r l) → IsRootRead (entry st) m o (rest_term rest)
      → (s q : Solution) → Solved s (entry st) → Through (entry st) m s q → ((l : Label) → IsLeft (entry st) m r o l → ground_tail q (rest_term rest) l ≡ s.row_of r l)
      × ((l : Label) → listed l ms ≡ false → ground_tail q (rest_term rest) l ≡ s.row_of r l)
  over_root (root.Default d) free kept more named same read s q solved through =
      (λ l left. absurd left, λ l off. read s q solved through l ∙ sym (value_of s (field_term d)) ∙ same s solved l (not_before ls ms l more off))
  over_root (root.Var v) free kept more named same read s q solved through = (
    λ l left. read s q solved through l left.0 left.1 ∙ left.2 s solved,
    λ l off. read s q solved through l (free_row st v ls free kept l (not_before ls ms l more off)) (named l off) ∙ same s solved l (not_before ls ms l more off),
  )

  pub open_read : (o : roots.Root) → ((s : Solution) → Solved s (entry st) → (l : Label) → listed l ls ≡ false → value s (root_at l o) ≡ ground_tail s (rest_term (rests.Var r)) l) → IsFree st o → KeepsRoot st o ls
      → ((l : Label) → listed l ls ≡ true → listed l ms ≡ true) → AreNamedAmong m o ms → AreSlotsRead (entry st) m r o hidden ms us → IsRootRead (entry st) m o (rest_term rest)
      → IsOpenRead (entry st) m hidden r (row_term (roll-RowTy (record { fields = us; rest = rest })))
  open_read o same free kept more named slots read s q solved through l off =
      let base : ((l : Label) → IsLeft (entry st) m r o l → ground_tail q (rest_term rest) l ≡ s.row_of r l) × ((l : Label) → listed l ms ≡ false → ground_tail q (rest_term rest) l ≡ s.row_of r l) =
      over_root o free kept more named (λ t solves k apart. same t solves k apart ∙ ap (λ y. ground_tail t y k) (tail_var r)) read s q solved through in
      ground_row_is q (roll-RowTy (record { fields = us; rest = rest })) l
      ∙ ap (λ y. ground_fields q (fields_of (map entry_term y.fields)) (ground_tail q (rest_term y.rest)) l) (out-roll-RowTy (record { fields = us; rest = rest }))
      ∙ slots s q solved through (ground_tail q (rest_term rest)) base.0 l off
      ∙ by_cases (listed l ms) (λ t. chosen (listed l ms) (s.row_of r l) (ground_tail q (rest_term rest) l) t) (λ t. passed (listed l ms) (s.row_of r l) (ground_tail q (rest_term rest) l) t ∙ base.1 l t)

-- entries put before those of a row
pub fields_over : (fs all : List LabelField) (r : RowTy) → all ≡ fs ++ (out-RowTy r).fields
    → row_term (roll-RowTy (record { fields = all; rest = (out-RowTy r).rest })) ≡ record { fields = fields_of (map entry_term (fs ++ (out-RowTy r).fields)); rest = rest_term (out-RowTy r).rest }
fields_over fs all r joined =
    row_is (roll-RowTy (record { fields = all; rest = (out-RowTy r).rest }))
    ∙ ap {B = Row} (λ o. record { fields = fields_of (map entry_term o.fields); rest = rest_term o.rest }) (out-roll-RowTy (record { fields = all; rest = (out-RowTy r).rest }))
    ∙ ap {B = Row} (λ es. record { fields = fields_of (map entry_term es); rest = rest_term (out-RowTy r).rest }) joined

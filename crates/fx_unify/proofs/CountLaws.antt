-- What each function that counts has to show.
use Rattle.std.proofs.Common.{◌≡◌, ◌≢◌, refl, sym, ap, subst, ◌∙◌, ℕ, zero, suc, ◌+◌, ◌-◌, ◌≤◌, ◌<◌, Bool, true, false, List, [], ◌∷◌, ◌++◌, map, take, drop, get_or, length, None, Result, Ok, Err, arith}
use Rattle.std.specs.Prelude.{if◌then◌else◌}
use Rattle.std.proofs.lemmas.List.{drop_more, take_more, map-append}
use Rattle.fx_base.specs.Text.{same_text}
use Rattle.fx_types.proofs.ShapeLaws.{entry_is, labelled_is, term_bool, term_int, term_text, term_time, term_span, term_pattern, term_done, term_variable}
use Rattle.fx_types.specs.declared.term.FunTy.{FunTy}
use Rattle.fx_types.specs.declared.term.LabelField.{LabelField}
use Rattle.fx_types.specs.declared.term.LabelTy.{LabelTy}
use Rattle.fx_types.specs.declared.term.RowTy.{RowTy}
use Rattle.fx_types.specs.declared.term.Ty.{Ty}
use Rattle.fx_types.specs.declared.term.Ty.TheVariants as ty
use Rattle.fx_types.specs.declared.term.FieldTy.TheViews.{out-RowTy}
use Rattle.fx_types.specs.Term.{Label, Term, type_variable, fun}
use Rattle.fx_types.specs.Ground.{Ground, GroundField, GroundRow, g_bool, g_int, g_text, g_time, g_span, g_pattern, g_done, g_array, g_rec, g_stream, g_absent, g_is, listed, IsWellFormed}
use Rattle.fx_types.specs.Instance.{Solution, ground, ground_field, ground_fields, ground_labels, ground_tail}
use Rattle.fx_types.specs.Shape.{term, field_term, entry_term, label_term, rest_term, row_term, fun_term, fields_of, labels_of}
use Rattle.fx_types.specs.Size.{AtMost, Weighs, Takes, Pipes}
use Rattle.fx_unify.specs.declared.fault.UnifyFault.{UnifyFault}
use Rattle.fx_unify.specs.declared.fault.UnifyFault.TheVariants as fault
use Rattle.fx_unify.specs.declared.sorts.Sorts as sorts
use Rattle.fx_unify.specs.declared.store.Store as stores
use Rattle.fx_unify.specs.Least.{Leads}
use Rattle.fx_unify.specs.Measure.{least, Admits, Measuring, RowMeasuring}
use Rattle.fx_unify.specs.Part.{p_is, value, type_node, Solved}
use Rattle.fx_unify.specs.Rows.{ground_row}
use Rattle.fx_unify.specs.Sorts.{plain_values, plainest_of, set_at}
use Rattle.fx_unify.specs.Store.{entry, bound_to}
use Rattle.fx_unify.specs.Sums.{Summed, Summing, names, row_names, required_names}
use Rattle.fx_unify.proofs.Cases.{Form, is_bool, is_int, is_text, is_time, is_span, is_pattern, is_done, is_variable, is_array, is_fun, is_rec, is_stream, form_of}
use Rattle.fx_unify.proofs.HeadLaws.{ground_array, ground_fun, ground_rec, ground_stream}
use Rattle.fx_unify.proofs.LeastLaws.{free_type, led}
use Rattle.fx_unify.proofs.MeasureLaws.{more_weight, more_taken, one_node, restated_measure, measured_array, array_over, measured_record, record_over, measured_stream, stream_over, measured_taken, taken_over, taken_no_room}
use Rattle.fx_types.proofs.Lists.{take_all}
use Rattle.fx_unify.proofs.RowLaws.{ground_row_is}
use Rattle.fx_unify.proofs.SumLaws.{sum_skip, sum_add, sum_over}
use Rattle.fx_types.proofs.Choices.{chosen, passed, never, by_cases}
use Rattle.fx_types.proofs.RowSums.{same_is, same_itself}
use Rattle.fx_unify.proofs.LabelLaws.{listed_one_more}

-- the plainest type of a set

if_case : (P : Ground → Type 0) (b : Bool) (x y : Ground) → P x → P y → P (if b then x else y)
if_case P true x y p q = p
if_case P false x y p q = q

plainest_case : (P : Ground → Type 0) (k : sorts.Sorts) → P g_int → P g_bool → P g_text → P g_time → P g_span → P g_pattern → P (plainest_of k)
plainest_case P k i b t m d o =
    if_case P k.integer _ _ i (if_case P k.boolean _ _ b (if_case P k.text _ _ t (if_case P k.time _ _ m (if_case P k.span _ _ d o))))

pub plainest_formed : (k : sorts.Sorts) → IsWellFormed (plainest_of k)
plainest_formed k = plainest_case IsWellFormed k tt tt tt tt tt tt

pub plainest_one : (k : sorts.Sorts) → AtMost (plainest_of k) 1
plainest_one k = plainest_case (λ t. AtMost t 1) k (omega arith) (omega arith) (omega arith) (omega arith) (omega arith) (omega arith)

-- a type variable that is light nowhere is so in no solution

module _ (st : stores.Store) (ks : List sorts.Sorts) (t head : Ty) (way : Leads (entry st) (p_is (term t)) (p_is (term head)))
    (same : (s : Solution) → Solved s (entry st) → value s (p_is (term head)) ≡ value s (p_is (term t))) where
  pub answered : (C : GroundField → ℕ → Type 0) (f : Solution → Ground) → ((s : Solution) → ground s (term head) ≡ f s) → (r : Result ℕ UnifyFault) (room : ℕ)
      → Measuring r (least st ks) (Admits st ks) C (λ s. g_is (f s)) room → Measuring r (least st ks) (Admits st ks) C (λ s. g_is (ground s (term t))) room
  answered C f is r room h =
      led st ks C (p_is (term t)) (p_is (term head)) way same r room
      (restated_measure (least st ks) (Admits st ks) C (λ s. g_is (ground s (term head))) (λ s. g_is (f s)) (λ s. ap g_is (is s)) r room h)

  pub array_ok : (x : Ty) (n room : ℕ) → head ≡ ty.Array x → 1 ≤ room → Measuring (Ok n) (least st ks) (Admits st ks) Pipes (λ s. g_is (ground s (term x))) (room - 1)
      → Measuring (Ok (n + 1)) (least st ks) (Admits st ks) Pipes (λ s. g_is (ground s (term t))) room
  array_ok x n room e one h =
      answered Pipes (λ s. g_array (ground s (term x))) (λ s. ground_array s head x e) (Ok (n + 1)) room
      (measured_array (least st ks) (Admits st ks) (λ s. ground s (term x)) n h.0, (let le : n ≤ room - 1 = h.1 in omega arith))

  pub array_err : (x : Ty) (f : UnifyFault) (room : ℕ) → head ≡ ty.Array x → 1 ≤ room → Measuring (Err f) (least st ks) (Admits st ks) Pipes (λ s. g_is (ground s (term x))) (room - 1)
      → Measuring (Err f) (least st ks) (Admits st ks) Pipes (λ s. g_is (ground s (term t))) room
  array_err x fault.Clash room e one h =
      answered Pipes (λ s. g_array (ground s (term x))) (λ s. ground_array s head x e) (Err fault.Clash) room
      (array_over (least st ks) (Admits st ks) (λ s. ground s (term x)) room one h)
  array_err x fault.Memory room e one h = tt

  pub record_ok : (x : RowTy) (n room : ℕ) → head ≡ ty.Rec x → 1 ≤ room → RowMeasuring (Ok n) (least st ks) (Admits st ks) (λ s. ground_row s (row_term x)) (room - 1)
      → Measuring (Ok (n + 1)) (least st ks) (Admits st ks) Pipes (λ s. g_is (ground s (term t))) room
  record_ok x n room e one h =
      answered Pipes (λ s. g_rec (ground_row s (row_term x))) (λ s. ground_rec s head x e) (Ok (n + 1)) room
      (measured_record (least st ks) (Admits st ks) (λ s. ground_row s (row_term x)) n h.0, (let le : n ≤ room - 1 = h.1 in omega arith))

  pub record_err : (x : RowTy) (f : UnifyFault) (room : ℕ) → head ≡ ty.Rec x → 1 ≤ room → RowMeasuring (Err f) (least st ks) (Admits st ks) (λ s. ground_row s (row_term x)) (room - 1)
      → Measuring (Err f) (least st ks) (Admits st ks) Pipes (λ s. g_is (ground s (term t))) room
  record_err x fault.Clash room e one h =
      answered Pipes (λ s. g_rec (ground_row s (row_term x))) (λ s. ground_rec s head x e) (Err fault.Clash) room
      (record_over (least st ks) (Admits st ks) (λ s. ground_row s (row_term x)) room one h)
  record_err x fault.Memory room e one h = tt

  pub stream_ok : (x : RowTy) (n room : ℕ) → head ≡ ty.Stream x → 1 ≤ room → RowMeasuring (Ok n) (least st ks) (Admits st ks) (λ s. ground_row s (row_term x)) 0
      → Measuring (Ok 1) (least st ks) (Admits st ks) Pipes (λ s. g_is (ground s (term t))) room
  stream_ok x n room e one h =
      answered Pipes (λ s. g_stream (ground_row s (row_term x))) (λ s. ground_stream s head x e) (Ok 1) room
      (measured_stream (least st ks) (Admits st ks) (λ s. ground_row s (row_term x)) n h.1 h.0, one)

  pub stream_err : (x : RowTy) (f : UnifyFault) (room : ℕ) → head ≡ ty.Stream x → RowMeasuring (Err f) (least st ks) (Admits st ks) (λ s. ground_row s (row_term x)) 0
      → Measuring (Err f) (least st ks) (Admits st ks) Pipes (λ s. g_is (ground s (term t))) room
  stream_err x fault.Clash room e h =
      answered Pipes (λ s. g_stream (ground_row s (row_term x))) (λ s. ground_stream s head x e) (Err fault.Clash) room
      (stream_over (least st ks) (Admits st ks) (λ s. ground_row s (row_term x)) room h)
  stream_err x fault.Memory room e h = tt

  pub function_any : (x : FunTy) (r : Result ℕ UnifyFault) (room : ℕ) → head ≡ ty.Fun x
      → Measuring r (least st ks) (Admits st ks) Pipes (λ s. g_is (ground s (fun (fun_term x).required (fun_term x).pipe (fun_term x).result))) room
      → Measuring r (least st ks) (Admits st ks) Pipes (λ s. g_is (ground s (term t))) room
  function_any x r room e h =
      answered Pipes (λ s. ground s (fun (fun_term x).required (fun_term x).pipe (fun_term x).result)) (λ s. ground_fun s head x e) r room h

  constant : (x : Term) (g : Ground) (room : ℕ) → term head ≡ x → ((s : Solution) → ground s x ≡ g) → IsWellFormed g → AtMost g 1 → 1 ≤ room
      → Measuring (Ok 1) (least st ks) (Admits st ks) Pipes (λ s. g_is (ground s (term t))) room
  constant x g room e is formed h one =
      answered Pipes (λ s. g) (λ s. ap (ground s) e ∙ is s) (Ok 1) room (one_node (least st ks) (Admits st ks) (λ s. g) g (λ n. refl) formed h, one)

  basic_form : Form head → (room : ℕ) → bound_to (entry st) (p_is (term head)) ≡ None → ((x : Ty) → head ≡ ty.Array x → ⊥) → ((x : FunTy) → head ≡ ty.Fun x → ⊥)
      → ((x : RowTy) → head ≡ ty.Rec x → ⊥) → ((x : RowTy) → head ≡ ty.Stream x → ⊥) → 1 ≤ room
      → Measuring (Ok 1) (least st ks) (Admits st ks) Pipes (λ s. g_is (ground s (term t))) room
  basic_form (is_bool q) room free a f r m one = constant _ g_bool room (ap term q ∙ term_bool) (λ s. refl) tt (omega arith) one
  basic_form (is_int q) room free a f r m one = constant _ g_int room (ap term q ∙ term_int) (λ s. refl) tt (omega arith) one
  basic_form (is_text q) room free a f r m one = constant _ g_text room (ap term q ∙ term_text) (λ s. refl) tt (omega arith) one
  basic_form (is_time q) room free a f r m one = constant _ g_time room (ap term q ∙ term_time) (λ s. refl) tt (omega arith) one
  basic_form (is_span q) room free a f r m one = constant _ g_span room (ap term q ∙ term_span) (λ s. refl) tt (omega arith) one
  basic_form (is_pattern q) room free a f r m one = constant _ g_pattern room (ap term q ∙ term_pattern) (λ s. refl) tt (omega arith) one
  basic_form (is_done q) room free a f r m one = constant _ g_done room (ap term q ∙ term_done) (λ s. refl) tt (omega arith) one
  basic_form (is_variable n q) room free a f r m one =
      let is : term head ≡ type_variable n = ap term q ∙ term_variable n in
      let open_there : entry st (type_node n) ≡ None = ap (λ x. bound_to (entry st) (p_is x)) (sym is) ∙ free in
      answered Pipes (λ s. s.type_of n) (λ s. ap (ground s) is) (Ok 1) room (
        one_node (least st ks) (Admits st ks) (λ s. s.type_of n) (plainest_of (set_at ks n)) (λ i. free_type (entry st) (plain_values ks) n i open_there) (plainest_formed (set_at ks n))
            (plainest_one (set_at ks n)),
        one,
      )
  basic_form (is_array x q) room free a f r m one = absurd (a x q)
  basic_form (is_fun x q) room free a f r m one = absurd (f x q)
  basic_form (is_rec x q) room free a f r m one = absurd (r x q)
  basic_form (is_stream x q) room free a f r m one = absurd (m x q)

  pub basic_ok : (room : ℕ) → bound_to (entry st) (p_is (term head)) ≡ None → ((x : Ty) → head ≡ ty.Array x → ⊥) → ((x : FunTy) → head ≡ ty.Fun x → ⊥)
      → ((x : RowTy) → head ≡ ty.Rec x → ⊥) → ((x : RowTy) → head ≡ ty.Stream x → ⊥) → 1 ≤ room
      → Measuring (Ok 1) (least st ks) (Admits st ks) Pipes (λ s. g_is (ground s (term t))) room
  basic_ok room free a f r m one = basic_form (form_of head) room free a f r m one

-- entries of rows

skip_listed : (s : Solution) (es : List LabelField) (i : ℕ) (q : GroundRow) (l : Label) → listed l (names (take i es)) ≡ false
    → ground_fields s (fields_of (map entry_term es)) q l ≡ ground_fields s (fields_of (map entry_term (drop i es))) q l
skip_listed s [] zero q l h = refl
skip_listed s [] (suc i) q l h = refl
skip_listed s (e ∷ es) zero q l h = refl
skip_listed s (e ∷ es) (suc i) q l h =
    by_cases (same_text l e.label) (λ t. never (if same_text l e.label then true else listed l (names (take i es))) (chosen (same_text l e.label) true (listed l (names (take i es))) t) h)
    (λ t. rw (entry_is e) (passed (same_text l e.label) (ground_field s (field_term e.field)) (ground_fields s (fields_of (map entry_term es)) q l) t)
    ∙ skip_listed s es i q l (sym (passed (same_text l e.label) true (listed l (names (take i es))) t) ∙ h))

at_first : (s : Solution) (es : List LabelField) (i : ℕ) (e : LabelField) (q : GroundRow) → i < length es → e ≡ get_or es i e
    → ground_fields s (fields_of (map entry_term (drop i es))) q e.label ≡ ground_field s (field_term e.field)
at_first s es i e q lt at =
    let split : drop i es ≡ e ∷ drop (i + 1) es = drop_more es i e lt ∙ ap (λ d. d ∷ drop (i + 1) es) (sym at) in
    rw (split, entry_is e) (chosen (same_text e.label e.label) (ground_field s (field_term e.field)) (ground_fields s (fields_of (map entry_term (drop (i + 1) es))) q e.label) (same_itself e.label))

row_first : (s : Solution) (row : RowTy) (es : List LabelField) (i : ℕ) (e : LabelField) → es ≡ (out-RowTy row).fields → i < length es → e ≡ get_or es i e
    → listed e.label (names (take i es)) ≡ false → ground_row s (row_term row) e.label ≡ ground_field s (field_term e.field)
row_first s row es i e same lt at new =
    ground_row_is s row e.label ∙ ap (λ fs. ground_fields s (fields_of (map entry_term fs)) (ground_tail s (rest_term (out-RowTy row).rest)) e.label) (sym same)
    ∙ skip_listed s es i _ e.label new ∙ at_first s es i e _ lt at

names_more : (es : List LabelField) (i : ℕ) (e : LabelField) → i < length es → e ≡ get_or es i e → names (take (i + 1) es) ≡ names (take i es) ++ e.label ∷ []
names_more es i e lt at = ap names (take_more es i e lt ∙ ap (λ d. take i es ++ d ∷ []) (sym at)) ∙ map-append (λ d. d.label) (take i es) (e ∷ [])

listed_again : (ls ms : List Label) (x : Label) → ms ≡ ls ++ x ∷ [] → listed x ls ≡ true → (l : Label) → listed l ms ≡ listed l ls
listed_again ls ms x e h l =
    ap (listed l) e ∙ listed_one_more l x ls
    ∙ by_cases (same_text l x) (λ t. chosen (same_text l x) true (listed l ls) t ∙ sym (ap (λ y. listed y ls) (same_is l x t) ∙ h)) (λ t. passed (same_text l x) true (listed l ls) t)

module _ (st : stores.Store) (ks : List sorts.Sorts) (row : RowTy) (es : List LabelField) (i : ℕ) (e : LabelField) (same : es ≡ (out-RowTy row).fields) (lt : i < length es) (at : e ≡ get_or es i e)
    (sum room : ℕ) (before : Summed (least st ks) (Admits st ks) Weighs (λ s. ground_row s (row_term row)) (names (take i es)) sum × (sum ≤ room)) where
  abbrev Here : Type 0
  Here = Summed (least st ks) (Admits st ks) Weighs (λ s. ground_row s (row_term row)) (names (take (i + 1) es)) sum × (sum ≤ room)

  abbrev Weighed : Result ℕ UnifyFault → Type 0
  Weighed w = Measuring w (least st ks) (Admits st ks) Weighs (λ s. ground_field s (field_term e.field)) (room - sum)

  as_row : listed e.label (names (take i es)) ≡ false → (w : Result ℕ UnifyFault) → Weighed w
      → Measuring w (least st ks) (Admits st ks) Weighs (λ s. ground_row s (row_term row) e.label) (room - sum)
  as_row new w h =
      restated_measure (least st ks) (Admits st ks) Weighs (λ s. ground_row s (row_term row) e.label) (λ s. ground_field s (field_term e.field)) (λ s. row_first s row es i e same lt at new) w (room - sum) h

  pub field_again : listed e.label (names (take i es)) ≡ true → Here
  field_again h = (
    sum_skip (least st ks) (Admits st ks) Weighs (λ s. ground_row s (row_term row)) (names (take i es)) (names (take (i + 1) es)) sum
        (listed_again (names (take i es)) (names (take (i + 1) es)) e.label (names_more es i e lt at) h) before.0,
    before.1,
  )

  pub field_added : (w : ℕ) → listed e.label (names (take i es)) ≡ false → Weighed (Ok w)
      → Summed (least st ks) (Admits st ks) Weighs (λ s. ground_row s (row_term row)) (names (take (i + 1) es)) (sum + w) × (sum + w ≤ room)
  field_added w new h = (
    sum_add (least st ks) (Admits st ks) Weighs (λ s. ground_row s (row_term row)) (names (take i es)) (names (take (i + 1) es)) e.label sum w new
        (λ l. ap (listed l) (names_more es i e lt at) ∙ listed_one_more l e.label (names (take i es))) before.0 (as_row new (Ok w) h).0,
    (let fits : w ≤ room - sum = h.1 in let le : sum ≤ room = before.1 in omega arith),
  )

  pub field_light : (w : Result ℕ UnifyFault) → w ≡ Ok 0 → Weighed w → Here
  field_light w none h =
      by_cases (listed e.label (names (take i es))) field_again
      (λ new. let more : Summed (least st ks) (Admits st ks) Weighs (λ s. ground_row s (row_term row)) (names (take (i + 1) es)) (sum + 0) × (sum + 0 ≤ room) =
      field_added 0 new (subst Weighed none h) in
      let zero_more : sum + 0 ≡ sum = omega arith in
      subst (λ n. Summed (least st ks) (Admits st ks) Weighs (λ s. ground_row s (row_term row)) (names (take (i + 1) es)) n × (n ≤ room)) zero_more more)

  refused : (f : UnifyFault) → listed e.label (names (take i es)) ≡ false → Weighed (Err f)
      → Summing (Err f) (least st ks) (Admits st ks) Weighs (λ s. ground_row s (row_term row)) (row_names row) room
  refused fault.Clash new h =
      sum_over (least st ks) (Admits st ks) Weighs (λ s. ground_row s (row_term row)) (names (take i es)) e.label sum room more_weight new before.1 before.0 (as_row new (Err fault.Clash) h)
  refused fault.Memory new h = tt

  pub field_refused : (w : Result ℕ UnifyFault) (f : UnifyFault) → w ≡ Err f → listed e.label (names (take i es)) ≡ false → Weighed w
      → Summing (Err f) (least st ks) (Admits st ks) Weighs (λ s. ground_row s (row_term row)) (row_names row) room
  field_refused w f is new h = refused f new (subst Weighed is h)

  pub field_counted : (w : Result ℕ UnifyFault) (n : ℕ) → w ≡ Ok n → listed e.label (names (take i es)) ≡ false → Weighed w
      → Summed (least st ks) (Admits st ks) Weighs (λ s. ground_row s (row_term row)) (names (take (i + 1) es)) (sum + n) × (sum + n ≤ room)
  field_counted w n is new h = field_added n new (subst Weighed is h)

pub fields_done : (st : stores.Store) (ks : List sorts.Sorts) (row : RowTy) (es : List LabelField) (i sum room : ℕ) → es ≡ (out-RowTy row).fields → length es ≤ i
    → Summed (least st ks) (Admits st ks) Weighs (λ s. ground_row s (row_term row)) (names (take i es)) sum × (sum ≤ room)
    → Summed (least st ks) (Admits st ks) Weighs (λ s. ground_row s (row_term row)) (row_names row) sum × (sum ≤ room)
fields_done st ks row es i sum room same le h =
    (subst (λ xs. Summed (least st ks) (Admits st ks) Weighs (λ s. ground_row s (row_term row)) (names xs) sum) (take_all es i le ∙ same) h.0, h.1)

pub labels_done : (st : stores.Store) (ks : List sorts.Sorts) (ls es : List LabelTy) (i sum room : ℕ) → es ≡ ls → length es ≤ i
    → Summed (least st ks) (Admits st ks) Takes (λ s. ground_labels s (labels_of (map label_term ls))) (required_names (take i es)) sum × (sum ≤ room)
    → Summed (least st ks) (Admits st ks) Takes (λ s. ground_labels s (labels_of (map label_term ls))) (required_names ls) sum × (sum ≤ room)
labels_done st ks ls es i sum room same le h =
    (subst (λ xs. Summed (least st ks) (Admits st ks) Takes (λ s. ground_labels s (labels_of (map label_term ls))) (required_names xs) sum) (take_all es i le ∙ same) h.0, h.1)

-- required labels

skip_required : (s : Solution) (es : List LabelTy) (i : ℕ) (l : Label) → listed l (required_names (take i es)) ≡ false
    → ground_labels s (labels_of (map label_term es)) l ≡ ground_labels s (labels_of (map label_term (drop i es))) l
skip_required s [] zero l h = refl
skip_required s [] (suc i) l h = refl
skip_required s (e ∷ es) zero l h = refl
skip_required s (e ∷ es) (suc i) l h =
    by_cases (same_text l e.label) (λ t. never (if same_text l e.label then true else listed l (required_names (take i es))) (chosen (same_text l e.label) true (listed l (required_names (take i es))) t) h)
    (λ t. rw (labelled_is e) (passed (same_text l e.label) (g_is (ground s (term e.ty))) (ground_labels s (labels_of (map label_term es)) l) t)
    ∙ skip_required s es i l (sym (passed (same_text l e.label) true (listed l (required_names (take i es))) t) ∙ h))

at_first_required : (s : Solution) (es : List LabelTy) (i : ℕ) (e : LabelTy) → i < length es → e ≡ get_or es i e
    → ground_labels s (labels_of (map label_term (drop i es))) e.label ≡ g_is (ground s (term e.ty))
at_first_required s es i e lt at =
    let split : drop i es ≡ e ∷ drop (i + 1) es = drop_more es i e lt ∙ ap (λ d. d ∷ drop (i + 1) es) (sym at) in
    rw (split, labelled_is e) (chosen (same_text e.label e.label) (g_is (ground s (term e.ty))) (ground_labels s (labels_of (map label_term (drop (i + 1) es))) e.label) (same_itself e.label))

pub off_required : (s : Solution) (es : List LabelTy) (l : Label) → listed l (required_names es) ≡ false → ground_labels s (labels_of (map label_term es)) l ≡ g_absent
off_required s [] l h = refl
off_required s (e ∷ es) l h =
    by_cases (same_text l e.label) (λ t. never (if same_text l e.label then true else listed l (required_names es)) (chosen (same_text l e.label) true (listed l (required_names es)) t) h)
    (λ t. rw (labelled_is e) (passed (same_text l e.label) (g_is (ground s (term e.ty))) (ground_labels s (labels_of (map label_term es)) l) t)
    ∙ off_required s es l (sym (passed (same_text l e.label) true (listed l (required_names es)) t) ∙ h))

required_more : (es : List LabelTy) (i : ℕ) (e : LabelTy) → i < length es → e ≡ get_or es i e → required_names (take (i + 1) es) ≡ required_names (take i es) ++ e.label ∷ []
required_more es i e lt at = ap required_names (take_more es i e lt ∙ ap (λ d. take i es ++ d ∷ []) (sym at)) ∙ map-append (λ d. d.label) (take i es) (e ∷ [])

module _ (st : stores.Store) (ks : List sorts.Sorts) (ls es : List LabelTy) (i : ℕ) (e : LabelTy) (same : es ≡ ls) (lt : i < length es) (at : e ≡ get_or es i e)
    (sum room : ℕ) (before : Summed (least st ks) (Admits st ks) Takes (λ s. ground_labels s (labels_of (map label_term ls))) (required_names (take i es)) sum × (sum ≤ room)) where
  abbrev row : Solution → GroundRow
  row s = ground_labels s (labels_of (map label_term ls))

  at_label : listed e.label (required_names (take i es)) ≡ false → (s : Solution) → row s e.label ≡ g_is (ground s (term e.ty))
  at_label new s =
      ap (λ fs. ground_labels s (labels_of (map label_term fs)) e.label) (sym same) ∙ skip_required s es i e.label new ∙ at_first_required s es i e lt at

  pub label_again : listed e.label (required_names (take i es)) ≡ true → Summed (least st ks) (Admits st ks) Takes row (required_names (take (i + 1) es)) sum × (sum ≤ room)
  label_again h = (
    sum_skip (least st ks) (Admits st ks) Takes row (required_names (take i es)) (required_names (take (i + 1) es)) sum
        (listed_again (required_names (take i es)) (required_names (take (i + 1) es)) e.label (required_more es i e lt at) h) before.0,
    before.1,
  )

  pub label_added : (n : ℕ) → listed e.label (required_names (take i es)) ≡ false → sum ≢ room
      → Measuring (Ok n) (least st ks) (Admits st ks) Pipes (λ s. g_is (ground s (term e.ty))) (room - sum - 1)
      → Summed (least st ks) (Admits st ks) Takes row (required_names (take (i + 1) es)) (sum + (n + 1)) × (sum + (n + 1) ≤ room)
  label_added n new more h =
      let le : sum ≤ room = before.1 in
      let lt : sum < room = omega arith in (
        sum_add (least st ks) (Admits st ks) Takes row (required_names (take i es)) (required_names (take (i + 1) es)) e.label sum (n + 1) new
            (λ l. ap (listed l) (required_more es i e lt' at) ∙ listed_one_more l e.label (required_names (take i es))) before.0
            (restated_measure (least st ks) (Admits st ks) Takes (λ s. row s e.label) (λ s. g_is (ground s (term e.ty))) (at_label new) (Ok (n + 1)) (n + 1)
            (measured_taken (least st ks) (Admits st ks) (λ s. ground s (term e.ty)) n h.0, omega arith)).0,
        (let fits : n ≤ room - sum - 1 = h.1 in omega arith),
      )
    where
      lt' : i < length es
      lt' = lt

  pub label_refused : (f : UnifyFault) → listed e.label (required_names (take i es)) ≡ false → sum ≢ room
      → Measuring (Err f) (least st ks) (Admits st ks) Pipes (λ s. g_is (ground s (term e.ty))) (room - sum - 1)
      → Summing (Err f) (least st ks) (Admits st ks) Takes row (required_names ls) room
  label_refused fault.Clash new more h =
      let le : sum ≤ room = before.1 in
      let one : 1 ≤ room - sum = omega arith in
      sum_over (least st ks) (Admits st ks) Takes row (required_names (take i es)) e.label sum room more_taken new before.1 before.0
      (restated_measure (least st ks) (Admits st ks) Takes (λ s. row s e.label) (λ s. g_is (ground s (term e.ty))) (at_label new) (Err fault.Clash) (room - sum)
      (taken_over (least st ks) (Admits st ks) (λ s. ground s (term e.ty)) (room - sum) one h))
  label_refused fault.Memory new more h = tt

  pub label_no_room : listed e.label (required_names (take i es)) ≡ false → sum ≡ room → Summing (Err fault.Clash) (least st ks) (Admits st ks) Takes row (required_names ls) room
  label_no_room new full =
      let none : room - sum ≡ 0 = omega arith in
      sum_over (least st ks) (Admits st ks) Takes row (required_names (take i es)) e.label sum room more_taken new before.1 before.0
      (restated_measure (least st ks) (Admits st ks) Takes (λ s. row s e.label) (λ s. g_is (ground s (term e.ty))) (at_label new) (Err fault.Clash) (room - sum)
      (taken_no_room (least st ks) (Admits st ks) (λ s. ground s (term e.ty)) (room - sum) none))

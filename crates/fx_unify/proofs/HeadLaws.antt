-- Equations between types of one form, by their parts.
use Rattle.std.proofs.Common.{◌≡◌, ◌↔◌, sym, ap, ◌∙◌, map, Result}
use Rattle.std.specs.Prelude.{option_map}
use Rattle.fx_types.specs.declared.term.FunTy.{FunTy}
use Rattle.fx_types.specs.declared.term.RowTy.{RowTy}
use Rattle.fx_types.specs.declared.term.Ty.{Ty}
use Rattle.fx_types.specs.declared.term.Ty.TheVariants as ty
use Rattle.fx_types.specs.declared.term.FieldTy.TheViews.{out-FunTy}
use Rattle.fx_types.specs.Term.{Label, fun}
use Rattle.fx_types.specs.Ground.{Ground, GroundField, GroundRow, g_array, g_fun, g_rec, g_stream, g_absent, g_is}
use Rattle.fx_types.specs.Instance.{Solution, ground, ground_labels, ground_pipe}
use Rattle.fx_types.specs.Shape.{term, row_term, fun_term, label_term, labels_of, pipe_of}
use Rattle.fx_types.proofs.ShapeLaws.{term_array, term_fun, term_rec, term_stream, function_is}
use Rattle.fx_unify.specs.declared.fault.UnifyFault.{UnifyFault}
use Rattle.fx_unify.specs.declared.store.Store as stores
use Rattle.fx_unify.specs.Part.{Part, value, Variable, Solved}
use Rattle.fx_unify.specs.Store.{entry}
use Rattle.fx_unify.specs.Rows.{ground_row}
use Rattle.fx_unify.specs.Work.{Hold, Holds, Solving}
use Rattle.fx_unify.proofs.SolvingLaws.{restated, after, type_is}

-- what stands in an array, a function, a record or a stream

element_of : Ground → Ground
element_of (g_array t) = t
element_of t = t

row_in : GroundRow → Ground → GroundRow
row_in d (g_rec r) = r
row_in d (g_stream r) = r
row_in d (g_fun r p t) = r
row_in d _ = d

pipe_in : Ground → GroundField
pipe_in (g_fun r p t) = p
pipe_in _ = g_absent

result_in : Ground → Ground
result_in (g_fun r p t) = t
result_in t = t

pub array_same : (t u : Ground) → (g_array t ≡ g_array u) ↔ (t ≡ u)
unfolding element_of
array_same t u = (λ e. ap element_of e, λ e. ap g_array e)

pub rec_same : (r q : GroundRow) → (r ≡ q) ↔ (g_rec r ≡ g_rec q)
unfolding row_in
rec_same r q = (λ e. ap g_rec e, λ e. ap (row_in r) e)

pub stream_same : (r q : GroundRow) → (r ≡ q) ↔ (g_stream r ≡ g_stream q)
unfolding row_in
stream_same r q = (λ e. ap g_stream e, λ e. ap (row_in r) e)

pub fun_same : (r q : GroundRow) (p o : GroundField) (t u : Ground) → (((p ≡ o) × (g_is t ≡ g_is u)) × (r ≡ q)) ↔ (g_fun r p t ≡ g_fun q o u)
unfolding row_in pipe_in result_in
fun_same r q p o t u = (
  λ h i. g_fun (h.1 i) (h.0.0 i) ((type_is t u).0 h.0.1 i),
  λ e. ((ap pipe_in e, ap (λ g. g_is (result_in g)) e), ap (row_in r) e),
)

-- the instance of each form

pub ground_array : (s : Solution) (t x : Ty) → t ≡ ty.Array x → ground s (term t) ≡ g_array (ground s (term x))
ground_array s t x e = ap (ground s) (ap term e ∙ term_array x)

pub ground_fun : (s : Solution) (t : Ty) (f : FunTy) → t ≡ ty.Fun f → ground s (term t) ≡ ground s (fun (fun_term f).required (fun_term f).pipe (fun_term f).result)
ground_fun s t f e = ap (ground s) (ap term e ∙ term_fun f)

pub ground_rec : (s : Solution) (t : Ty) (r : RowTy) → t ≡ ty.Rec r → ground s (term t) ≡ g_rec (ground_row s (row_term r))
ground_rec s t r e = ap (ground s) (ap term e ∙ term_rec r)

pub ground_stream : (s : Solution) (t : Ty) (r : RowTy) → t ≡ ty.Stream r → ground s (term t) ≡ g_stream (ground_row s (row_term r))
ground_stream s t r e = ap (ground s) (ap term e ∙ term_stream r)

-- equations whose sides are known by others

pub replaced : {A : Type 0} (r : Result A UnifyFault) (old new : stores.Store) (x y z w : Solution → Ground) → ((s : Solution) → x s ≡ z s) → ((s : Solution) → y s ≡ w s)
    → Solving r old new (λ s. z s ≡ w s) → Solving r old new (λ s. g_is (x s) ≡ g_is (y s))
replaced r old new x y z w left right h =
    restated r old new (λ s. z s ≡ w s) (λ s. g_is (x s) ≡ g_is (y s))
    (λ s. (λ e. ap g_is (left s ∙ e ∙ sym (right s)), λ e. sym (left s) ∙ (type_is (x s) (y s)).0 e ∙ right s)) h

pub to_records : {A : Type 0} (r : Result A UnifyFault) (old new : stores.Store) (a b : RowTy) (t : Ty) → t ≡ ty.Rec b
    → Solving r old new (λ s. ground_row s (row_term a) ≡ ground_row s (row_term b)) → Solving r old new (λ s. g_rec (ground_row s (row_term a)) ≡ ground s (term t))
to_records r old new a b t e h =
    restated r old new (λ s. ground_row s (row_term a) ≡ ground_row s (row_term b)) (λ s. g_rec (ground_row s (row_term a)) ≡ ground s (term t))
    (λ s. (
      λ k. (rec_same (ground_row s (row_term a)) (ground_row s (row_term b))).0 k ∙ sym (ground_rec s t b e),
      λ k. (rec_same (ground_row s (row_term a)) (ground_row s (row_term b))).1 (k ∙ ground_rec s t b e),
    )) h

pub to_streams : {A : Type 0} (r : Result A UnifyFault) (old new : stores.Store) (a b : RowTy) (t : Ty) → t ≡ ty.Stream b
    → Solving r old new (λ s. ground_row s (row_term a) ≡ ground_row s (row_term b)) → Solving r old new (λ s. g_stream (ground_row s (row_term a)) ≡ ground s (term t))
to_streams r old new a b t e h =
    restated r old new (λ s. ground_row s (row_term a) ≡ ground_row s (row_term b)) (λ s. g_stream (ground_row s (row_term a)) ≡ ground s (term t))
    (λ s. (
      λ k. (stream_same (ground_row s (row_term a)) (ground_row s (row_term b))).0 k ∙ sym (ground_stream s t b e),
      λ k. (stream_same (ground_row s (row_term a)) (ground_row s (row_term b))).1 (k ∙ ground_stream s t b e),
    )) h

pub to_functions : {A : Type 0} (r : Result A UnifyFault) (old new : stores.Store) (a b : FunTy) (t : Ty) → t ≡ ty.Fun b
    → Solving r old new (λ s. ground s (fun (fun_term a).required (fun_term a).pipe (fun_term a).result) ≡ ground s (fun (fun_term b).required (fun_term b).pipe (fun_term b).result))
    → Solving r old new (λ s. ground s (fun (fun_term a).required (fun_term a).pipe (fun_term a).result) ≡ ground s (term t))
to_functions r old new a b t e h =
    restated r old new (λ s. ground s (fun (fun_term a).required (fun_term a).pipe (fun_term a).result) ≡ ground s (fun (fun_term b).required (fun_term b).pipe (fun_term b).result))
    (λ s. ground s (fun (fun_term a).required (fun_term a).pipe (fun_term a).result) ≡ ground s (term t))
    (λ s. (λ k. k ∙ sym (ground_fun s t b e), λ k. k ∙ ground_fun s t b e)) h

-- an equation that was put off

pub pushed : {E F : Type 0} (st st' : stores.Store) (s : Solution) → E ↔ F → (Hold s st'.work.items ↔ (Hold s st.work.items × E))
    → (Solved s (entry st) × Hold s st'.work.items) ↔ (Holds s st × F)
pushed st st' s same h = (λ k. ((k.0, (h.0 k.1).0), same.0 (h.0 k.1).1), λ k. (k.0.0, h.1 (k.0.1, same.1 k.1)))

pub arrays : (s : Solution) (t u r o : Ty) → u ≡ r → o ≡ ty.Array r → (g_is (ground s (term t)) ≡ g_is (ground s (term u))) ↔ (g_array (ground s (term t)) ≡ ground s (term o))
arrays s t u r o same e =
    let to : ground s (term o) ≡ g_array (ground s (term u)) = ground_array s o r e ∙ ap (λ x. g_array (ground s (term x))) (sym same) in
    (λ k. ap g_array ((type_is (ground s (term t)) (ground s (term u))).0 k) ∙ sym to, λ k. ap g_is ((array_same (ground s (term t)) (ground s (term u))).0 (k ∙ to)))

-- the parts of two functions: what they take from a pipe, their results, and their labels as rows

pub parts : (r : Result (Unit {0}) UnifyFault) (old st new : stores.Store) (f g : FunTy) (a b : RowTy) (p q x y : Part)
    → ((v : Variable) → entry st v ≡ entry old v)
    → ((s : Solution) → Hold s st.work.items ↔ ((Hold s old.work.items × (value s p ≡ value s q)) × (value s x ≡ value s y)))
    → ((s : Solution) → value s p ≡ ground_pipe s (fun_term f).pipe) → ((s : Solution) → value s q ≡ ground_pipe s (fun_term g).pipe)
    → ((s : Solution) → value s x ≡ g_is (ground s (fun_term f).result)) → ((s : Solution) → value s y ≡ g_is (ground s (fun_term g).result))
    → ((s : Solution) (l : Label) → ground_row s (row_term a) l ≡ ground_labels s (fun_term f).required l) → ((s : Solution) (l : Label) → ground_row s (row_term b) l ≡ ground_labels s (fun_term g).required l)
    → Solving r st new (λ s. ground_row s (row_term a) ≡ ground_row s (row_term b))
    → Solving r old new (λ s. ground s (fun (fun_term f).required (fun_term f).pipe (fun_term f).result) ≡ ground s (fun (fun_term g).required (fun_term g).pipe (fun_term g).result))
parts r old st new f g a b p q x y same hold pf pg rf rg lf lg h =
    restated r old new (λ s. Before s × Rows s) (λ s. ground s (fun (fun_term f).required (fun_term f).pipe (fun_term f).result) ≡ ground s (fun (fun_term g).required (fun_term g).pipe (fun_term g).result))
    whole (after r old st new Before Rows before h)
  where
    Before : Solution → Type 0
    Before s = (value s p ≡ value s q) × (value s x ≡ value s y)

    Rows : Solution → Type 0
    Rows s = ground_row s (row_term a) ≡ ground_row s (row_term b)

    before : (s : Solution) → Holds s st ↔ (Holds s old × ((value s p ≡ value s q) × (value s x ≡ value s y)))
    before s = (
      λ k. ((λ v o at. k.0 v o (same v ∙ at), ((hold s).0 k.1).0.0), (((hold s).0 k.1).0.1, ((hold s).0 k.1).1)),
      λ k. (λ v o at. k.0.0 v o (sym (same v) ∙ at), (hold s).1 ((k.0.1, k.1.0), k.1.1)),
    )

    rows_f : (s : Solution) → ground_row s (row_term a) ≡ ground_labels s (fun_term f).required
    rows_f s = λ i l. lf s l i

    rows_g : (s : Solution) → ground_row s (row_term b) ≡ ground_labels s (fun_term g).required
    rows_g s = λ i l. lg s l i

    whole : (s : Solution) → (((value s p ≡ value s q) × (value s x ≡ value s y)) × (ground_row s (row_term a) ≡ ground_row s (row_term b)))
        ↔ (ground s (fun (fun_term f).required (fun_term f).pipe (fun_term f).result) ≡ ground s (fun (fun_term g).required (fun_term g).pipe (fun_term g).result))
    whole s =
        let same_fun = fun_same (ground_labels s (fun_term f).required) (ground_labels s (fun_term g).required) (ground_pipe s (fun_term f).pipe) (ground_pipe s (fun_term g).pipe)
        (ground s (fun_term f).result) (ground s (fun_term g).result) in (
          λ k. same_fun.0 ((sym (pf s) ∙ k.0.0 ∙ pg s, sym (rf s) ∙ k.0.1 ∙ rg s), sym (rows_f s) ∙ k.1 ∙ rows_g s),
          λ e. let k = same_fun.1 e in ((pf s ∙ k.0.0 ∙ sym (pg s), rf s ∙ k.0.1 ∙ sym (rg s)), rows_f s ∙ k.1 ∙ sym (rows_g s)),
        )

pub pipe_part : (s : Solution) (f : FunTy) → ground_pipe s (pipe_of (option_map term (out-FunTy f).pipe)) ≡ ground_pipe s (fun_term f).pipe
pipe_part s f = ap (λ x. ground_pipe s x.pipe) (sym (function_is f))

pub result_part : (s : Solution) (f : FunTy) → g_is (ground s (term (out-FunTy f).result)) ≡ g_is (ground s (fun_term f).result)
result_part s f = ap (λ x. g_is (ground s x.result)) (sym (function_is f))

pub labels_part : (s : Solution) (f : FunTy) (l : Label) → ground_labels s (labels_of (map label_term (out-FunTy f).required)) l ≡ ground_labels s (fun_term f).required l
labels_part s f l = ap (λ x. ground_labels s x.required l) (sym (function_is f))

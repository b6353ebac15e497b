-- No term is smaller under another solution than under the least one.
use Rattle.std.proofs.Common.{◌≡◌, refl, sym, subst, ◌∙◌, ℕ, zero, suc, Bool, true, false, List, Option, None, Some, option_map, get_or}
use Rattle.std.specs.Prelude.{if◌then◌else◌}
use mathlib.Core.Bool.{true≢false}
use Rattle.fx_base.specs.Text.{same_text}
use Rattle.fx_types.specs.declared.term.Ty.{Ty}
use Rattle.fx_types.specs.Term.{Label, Term, bool, int, text, time, span, pattern, done, type_variable, array, fun, rec, stream, Labels, no_labels, more_labels, Pipe, no_pipe, by_pipe, Field, absent, is, field_variable, Fields, no_fields, more_fields, Tail, default, row_variable}
use Rattle.fx_types.specs.Ground.{Ground, GroundField, GroundRow, g_bool, g_int, g_text, g_time, g_span, g_pattern, g_done, g_array, g_fun, g_rec, g_stream, g_absent, g_is, is_column}
use Rattle.fx_types.specs.Instance.{Solution, ground, ground_labels, ground_pipe, ground_field, ground_fields, ground_tail}
use Rattle.fx_types.specs.Shape.{term}
use Rattle.fx_types.specs.Size.{AtMost, Weighs, Takes, Pipes}
use Rattle.fx_unify.specs.declared.sorts.Sorts as sorts
use Rattle.fx_unify.specs.declared.store.Store as stores
use Rattle.fx_unify.specs.Least.{type_or, value_or}
use Rattle.fx_unify.specs.Measure.{least, Admits}
use Rattle.fx_unify.specs.Part.{Part, p_absent, p_is, p_field, p_slot, value, type_node, field_node, slot_node}
use Rattle.fx_unify.specs.Smaller.{Less, LessField, LessSolution, IsSmaller}
use Rattle.fx_unify.specs.Sorts.{plainest_of, set_at, allows}
use Rattle.fx_unify.specs.Store.{entry}
use Rattle.fx_unify.proofs.CountLaws.{plainest_one}
use Rattle.fx_types.proofs.PartLaws.{more_nodes}
use Rattle.fx_unify.proofs.MeasureLaws.{some_node}
use Rattle.fx_unify.proofs.WeighLaws.{allows_column}
use Rattle.fx_types.proofs.Choices.{by_cases}

less_itself : (t : Ground) → Less t t
less_itself t = (λ e. e, λ n h. h)

weighs_less : (g f : GroundField) (n : ℕ) → LessField g f → Weighs f n → Weighs g n
weighs_less g_absent f n less h = tt
weighs_less (g_is t) g_absent n less h = absurd less
weighs_less (g_is t) (g_is u) n less h =
    λ e. (let heavy : is_column u ≡ false = by_cases (is_column u) (λ c. absurd (true≢false (sym (less.0 c) ∙ e))) (λ c. c) in ((h heavy).0, less.1 (h heavy).0 (h heavy).1, (h heavy).2))

takes_less : (g f : GroundField) (n : ℕ) → LessField g f → Takes f n → Takes g n
takes_less g_absent f n less h = tt
takes_less (g_is t) g_absent n less h = absurd less
takes_less (g_is t) (g_is u) n less h = (h.0, less.1 h.0 h.1, h.2)

pipes_less : (g f : GroundField) (n : ℕ) → LessField g f → Pipes f n → Pipes g n
pipes_less g_absent f n less h = tt
pipes_less (g_is t) g_absent n less h = absurd less
pipes_less (g_is t) (g_is u) n less h = less.1 n h

never_column : {A : Type 0} → false ≡ true → A
never_column e = absurd (true≢false (sym e))

array_less : (t u : Ground) → Less t u → Less (g_array t) (g_array u)
array_less t u less = (λ e. never_column e, λ n h. (h.0, less.1 h.0 h.1, h.2))

fun_less : (r q : GroundRow) (p o : GroundField) (t u : Ground) → ((l : Label) → LessField (r l) (q l)) → LessField p o → Less t u → Less (g_fun r p t) (g_fun q o u)
fun_less r q p o t u labels pipe less =
    (λ e. never_column e, λ n h. (h.0, h.1, h.2, λ l. takes_less (r l) (q l) (h.0 l) (labels l) (h.3 l), pipes_less p o h.1 pipe h.4, less.1 h.2 h.5, h.6))

rec_less : (r q : GroundRow) → ((l : Label) → LessField (r l) (q l)) → Less (g_rec r) (g_rec q)
rec_less r q less = (λ e. never_column e, λ n h. (h.0, λ l. weighs_less (r l) (q l) (h.0 l) (less l) (h.1 l), h.2))

stream_less : (r q : GroundRow) → ((l : Label) → LessField (r l) (q l)) → Less (g_stream r) (g_stream q)
stream_less r q less = (λ e. never_column e, λ n h. (h.0, λ l. weighs_less (r l) (q l) (h.0 l) (less l) (h.1 l), h.2))

chosen_less : (b : Bool) (g h f k : GroundField) → LessField g f → LessField h k → LessField (if b then g else h) (if b then f else k)
chosen_less true g h f k first second = first
chosen_less false g h f k first second = second

module _ (s q : Solution) (all : LessSolution s q) where
  mutual
    pub less_term : (t : Term) → Less (ground s t) (ground q t)
    less_term bool = less_itself g_bool
    less_term int = less_itself g_int
    less_term text = less_itself g_text
    less_term time = less_itself g_time
    less_term span = less_itself g_span
    less_term pattern = less_itself g_pattern
    less_term done = less_itself g_done
    less_term (type_variable n) = all.0 n
    less_term (array t) = array_less (ground s t) (ground q t) (less_term t)
    less_term (fun ls p t) = fun_less (ground_labels s ls) (ground_labels q ls) (ground_pipe s p) (ground_pipe q p) (ground s t) (ground q t) (λ l. less_labels ls l) (less_pipe p) (less_term t)
    less_term (rec fs r) =
        rec_less (ground_fields s fs (ground_tail s r)) (ground_fields q fs (ground_tail q r)) (λ l. less_fields fs (ground_tail s r) (ground_tail q r) (λ k. less_tail r k) l)
    less_term (stream fs r) =
        stream_less (ground_fields s fs (ground_tail s r)) (ground_fields q fs (ground_tail q r)) (λ l. less_fields fs (ground_tail s r) (ground_tail q r) (λ k. less_tail r k) l)

    less_labels : (ls : Labels) (l : Label) → LessField (ground_labels s ls l) (ground_labels q ls l)
    less_labels no_labels l = tt
    less_labels (more_labels x t ls) l =
        chosen_less (same_text l x) (g_is (ground s t)) (ground_labels s ls l) (g_is (ground q t)) (ground_labels q ls l) (less_term t) (less_labels ls l)

    less_pipe : (p : Pipe) → LessField (ground_pipe s p) (ground_pipe q p)
    less_pipe no_pipe = tt
    less_pipe (by_pipe t) = less_term t

    less_field : (f : Field) → LessField (ground_field s f) (ground_field q f)
    less_field absent = tt
    less_field (is t) = less_term t
    less_field (field_variable n) = all.1 n

    less_fields : (fs : Fields) (r o : GroundRow) → ((k : Label) → LessField (r k) (o k)) → (l : Label) → LessField (ground_fields s fs r l) (ground_fields q fs o l)
    less_fields no_fields r o rest l = rest l
    less_fields (more_fields x f fs) r o rest l =
        chosen_less (same_text l x) (ground_field s f) (ground_fields s fs r l) (ground_field q f) (ground_fields q fs o l) (less_field f) (less_fields fs r o rest l)

    less_tail : (r : Tail) (l : Label) → LessField (ground_tail s r l) (ground_tail q r l)
    less_tail (default f) l = less_field f
    less_tail (row_variable n) l = all.2 n l

less_value : (s q : Solution) → LessSolution s q → (p : Part) → LessField (value s p) (value q p)
less_value s q all p_absent = tt
less_value s q all (p_is t) = less_term s q all t
less_value s q all (p_field n) = all.1 n
less_value s q all (p_slot r l) = all.2 r l

pub less_smaller : (s q : Solution) → LessSolution s q → IsSmaller s q
less_smaller s q all t n h = (less_term s q all t).1 n h

pub int_less : (t : Ground) → Less g_int t
int_less t = (λ c. refl, λ n h. some_node t n h)

-- the plainest type of a set is no larger than any that the set allows

plainest_less : (k : sorts.Sorts) (t : Ground) → allows k t ≡ true → Less (plainest_of k) t
plainest_less k t e = (λ c. allows_column k t e c, λ n h. more_nodes (plainest_of k) 1 n (plainest_one k) (some_node t n h))

module _ (st : stores.Store) (ks : List sorts.Sorts) (q : Solution) (among : Admits st ks q) where
  type_step : (n m : ℕ) → LessSolution (least st ks m) q → (o : Option Ty) → entry st (type_node n) ≡ option_map (λ u. p_is (term u)) o
      → Less (type_or (plainest_of (set_at ks n)) (value_or (g_is (plainest_of (set_at ks n))) (least st ks m) (option_map (λ u. p_is (term u)) o))) (q.type_of n)
  type_step n m before None e = plainest_less (set_at ks n) (q.type_of n) (among.1 n)
  type_step n m before (Some u) e =
      let same : g_is (q.type_of n) ≡ g_is (ground q (term u)) = among.0 (type_node n) (p_is (term u)) e in
      subst (λ g. LessField (g_is (ground (least st ks m) (term u))) g) (sym same) (less_term (least st ks m) q before (term u))

  field_step : (n m : ℕ) → LessSolution (least st ks m) q → (o : Option Part) → entry st (field_node n) ≡ o → LessField (value_or g_absent (least st ks m) o) (q.field_of n)
  field_step n m before None e = tt
  field_step n m before (Some p) e = subst (LessField (value (least st ks m) p)) (sym (among.0 (field_node n) p e)) (less_value (least st ks m) q before p)

  slot_step : (r : ℕ) (l : Label) (m : ℕ) → LessSolution (least st ks m) q → (o : Option Part) → entry st (slot_node r l) ≡ o → LessField (value_or g_absent (least st ks m) o) (q.row_of r l)
  slot_step r l m before None e = tt
  slot_step r l m before (Some p) e = subst (LessField (value (least st ks m) p)) (sym (among.0 (slot_node r l) p e)) (less_value (least st ks m) q before p)

  pub least_less : (m : ℕ) → LessSolution (least st ks m) q
  least_less zero = (λ n. plainest_less (set_at ks n) (q.type_of n) (among.1 n), λ n. tt, λ r l. tt)
  least_less (suc m) = (
    λ n. type_step n m (least_less m) (get_or st.types.items n None) refl,
    λ n. field_step n m (least_less m) (entry st (field_node n)) refl,
    λ r l. slot_step r l m (least_less m) (entry st (slot_node r l)) refl,
  )

  pub least_smallest : (m : ℕ) (t : Term) (n : ℕ) → AtMost (ground q t) n → AtMost (ground (least st ks m) t) n
  least_smallest m t n h = (less_term (least st ks m) q (least_less m) t).1 n h

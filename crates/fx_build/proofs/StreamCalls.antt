-- Calls of the built-ins that make or show streams are safe: what they make fits by the very line.
use Rattle.std.proofs.Common.{◌≡◌, refl, sym, ap, subst, ◌∙◌, Bool, true, false, not, List, [], ◌∷◌, ℤ, Some, None, is_none}
use Rattle.std.specs.Prelude.{if◌then◌else◌, codes, IsTrue, Option}
use Rattle.std.specs.List.{list_all}
use Rattle.std.specs.Cmp.Lexicographic.{same_text as equal_text}
use mathlib.Core.Bool.{true≢false, false≢true}
use Rattle.fx_base.specs.Text.{same_text}
use Rattle.fx_base.specs.declared.place.Place.{Place}
use Rattle.fx_value.specs.Ends.{Stuck}
use Rattle.fx_value.specs.declared.scalar.Scalar.TheVariants as scalar
use Rattle.fx_value.specs.declared.scalar.Kind.TheVariants as kind
use Rattle.fx_ops.specs.Whole.{in_64_bits}
use Rattle.fx_types.specs.Ground.{Ground, GroundField, GroundRow, g_text, g_done, g_array, g_fun, g_stream, g_absent, g_is, listed}
use Rattle.fx_types.specs.Size.{IsType}
use Rattle.fx_types.specs.Term.{Label}
use Rattle.fx_types.proofs.Choices.{chosen, passed}
use Rattle.fx_schemes.specs.Builtins.{IsLine}
use Rattle.fx_schemes.specs.Given.{Given}
use Rattle.fx_schemes.specs.Line.{Line, parameters}
use Rattle.fx_schemes.specs.Signature.{form_of}
use Rattle.fx_schemes.specs.declared.form.Form.{Form}
use Rattle.fx_schemes.specs.declared.list.Builtin.TheVariants as b
use Rattle.fx_meaning.specs.declared.native.Native.TheVariants as n
use Rattle.fx_meaning.specs.declared.stream.StreamFn.{StreamFn}
use Rattle.fx_meaning.specs.declared.stream.StreamFn.TheVariants as s
use Rattle.fx_meaning.specs.Ends.{◌>>=◌, pure}
use Rattle.fx_meaning.specs.Forms.{each, items_of, stream_in, streams_from, val_list}
use Rattle.fx_meaning.specs.Meaning.{Calls}
use Rattle.fx_meaning.specs.Native.{stream_builtin}
use Rattle.fx_meaning.specs.Natives.{further_args, given_name, input_labels, inputs_of, is_name, shown_as, stream_call, stream_made, stream_of, with_moment, yielded}
use Rattle.fx_meaning.specs.Value.{Val, cell, stream, shown, Vals, no_vals, more_vals, Slots, no_slots, more_slots, look, or_else, keep, Stream, applied}
use Rattle.fx_build.specs.Bound.{typed}
use Rattle.fx_build.specs.Fit.{ArgumentFits, FurtherFit, FurtherFits, InputsFit, IsMoment, each_fits, fits, inputs_at, inputs_fit, is_now, keeps_at, stream_fits, with_input}
use Rattle.fx_build.specs.Safe.{IsSafe}
use Rattle.fx_plan.specs.Said.{said_in}
use Rattle.fx_build.proofs.Callable.{NativeRuns}
use Rattle.fx_build.proofs.KindLaws.{of_cell, of_text}
use Rattle.fx_plan.proofs.SaidLaws.{kept_says, said_push}
use Rattle.fx_build.proofs.ParamLaws.{Suits, absent_suits}
use Rattle.fx_build.proofs.PlainCalls.{IsAt, argument_then, items_safe}
use Rattle.fx_build.proofs.SafeLaws.{safe_as, safe_then}
use Rattle.fx_plan.proofs.SlotLaws.{look_keep, look_push, same_itself}
use Rattle.fx_build.proofs.SlotLaws.{AtSlot, keeps_in}
use Rattle.fx_build.proofs.StreamLines.{AreStreams, HasInputs, stream_lined}
use Rattle.fx_build.proofs.TakenLaws.{line_taken, listed_passes, no_form}

-- ---- inputs

pub of_stream : (r : GroundRow) (v : Val) (P : Val → Type 0) → fits v (g_stream r) → ((call : Stream) → stream_fits call (g_stream r) → P (stream call)) → P v
of_stream r (stream call) P h f = f call h
of_stream r (cell a) P h f = absurd (false≢true h)
of_stream r _ P h f = absurd h

is_at : (args : Slots) (x : Label) (u : Ground) (o : Option Val) (needs optional : GroundField) → needs ≡ g_is u → Suits o needs optional → Suits o (g_is u) g_absent
is_at args x u o needs optional e suit = alone o (subst (λ f. Suits o f optional) e suit)
  where
    alone : (o : Option Val) → Suits o (g_is u) optional → Suits o (g_is u) g_absent
    alone (Some v) h = h
    alone None h = h

input_safe : (r : GroundRow) (args : Slots) (x : Label) → IsAt args x (g_stream r) → IsSafe (λ call. stream_fits call (g_stream r)) (stream_of x args)
input_safe r args x h =
    argument_then (λ call. stream_fits call (g_stream r)) (g_stream r) args x stream_in h
    (λ v fit. of_stream r v (λ y. IsSafe (λ call. stream_fits call (g_stream r)) (stream_in y)) fit (λ call fits. fits))

labels_safe : (args : Slots) (needs optional : GroundRow) (xs : List Label) → AreStreams xs needs → ((l : Label) → listed l xs ≡ true → Suits (look l args) (needs l) (optional l))
    → IsSafe (λ calls. inputs_at (streams_from calls) xs needs) (each (λ x. stream_of x args) xs)
labels_safe args needs optional [] h suit = refl
labels_safe args needs optional (x ∷ xs) h suit =
    safe_then (λ call. stream_fits call (g_stream h.0.0)) (λ calls. inputs_at (streams_from calls) (x ∷ xs) needs) (stream_of x args)
    (λ call. each (λ x. stream_of x args) xs >>= (λ calls. pure (call ∷ calls)))
    (input_safe h.0.0 args x (is_at args x (g_stream h.0.0) (look x args) (needs x) (optional x) h.0.1 (suit x (first (same_text x x) (same_itself x)))))
    (λ call fit. safe_then (λ calls. inputs_at (streams_from calls) xs needs) (λ calls. inputs_at (streams_from calls) (x ∷ xs) needs) (each (λ x. stream_of x args) xs) (λ calls. pure (call ∷ calls))
    (labels_safe args needs optional xs h.1 (λ l is. suit l (behind (same_text l x) (listed l xs) is)))
    (λ calls fits. ((g_stream h.0.0, h.0.1, fit), fits)))
  where
    first : (c : Bool) → c ≡ true → (if c then true else listed x xs) ≡ true
    first true e = refl
    first false e = absurd (false≢true e)

    behind : (c d : Bool) → d ≡ true → (if c then true else d) ≡ true
    behind true d e = refl
    behind false d e = e

items_streams : (r : GroundRow) (vs : Vals) → each_fits vs (g_stream r) → IsSafe (λ calls. inputs_fit (streams_from calls) (g_stream r)) (each stream_in (val_list vs))
items_streams r no_vals h = tt
items_streams r (more_vals v vs) h =
    safe_then (λ call. stream_fits call (g_stream r)) (λ calls. inputs_fit (streams_from calls) (g_stream r)) (stream_in v) (λ call. each stream_in (val_list vs) >>= (λ calls. pure (call ∷ calls)))
    (of_stream r v (λ y. IsSafe (λ call. stream_fits call (g_stream r)) (stream_in y)) h.0 (λ call fits. fits))
    (λ call fit. safe_then (λ calls. inputs_fit (streams_from calls) (g_stream r)) (λ calls. inputs_fit (streams_from calls) (g_stream r)) (each stream_in (val_list vs)) (λ calls. pure (call ∷ calls))
    (items_streams r vs h.1) (λ calls fits. (fit, fits)))

module _ (args : Slots) (needs optional : GroundRow) where
  pub inputs_safe : (g : StreamFn) → HasInputs g needs → ((l : Label) → listed l (input_labels g) ≡ true → Suits (look l args) (needs l) (optional l))
      → IsSafe (λ calls. InputsFit g (inputs_fit (streams_from calls)) (inputs_at (streams_from calls)) needs) (inputs_of g args)
  inputs_safe s.Union h suit =
      safe_then (λ vs. each_fits vs (g_stream h.0)) (λ calls. InputsFit s.Union (inputs_fit (streams_from calls)) (inputs_at (streams_from calls)) needs) (items_of (codes "tables") args) (λ vs. each stream_in (val_list vs))
      (items_safe (g_stream h.0) args (codes "tables") (is_at args (codes "tables") (g_array (g_stream h.0)) (look (codes "tables") args) (needs (codes "tables")) (optional (codes "tables")) h.1 (suit (codes "tables") refl)))
      (λ vs fits. safe_as (λ calls. inputs_fit (streams_from calls) (g_stream h.0)) (λ calls. InputsFit s.Union (inputs_fit (streams_from calls)) (inputs_at (streams_from calls)) needs) (each stream_in (val_list vs))
      (λ calls fit. (g_stream h.0, h.1, fit)) (items_streams h.0 vs fits))
  inputs_safe s.From h suit = labels_safe args needs optional (input_labels s.From) h suit
  inputs_safe g h suit = labels_safe args needs optional (input_labels g) h suit

-- no input is a word
all_unworded : (g : StreamFn) → list_all (λ l. is_none (form_of (stream_builtin g) l)) (input_labels g) ≡ true
all_unworded s.From = refl
all_unworded _ = refl

input_unworded : (g : StreamFn) (l : Label) → listed l (input_labels g) ≡ true → form_of (stream_builtin g) l ≡ None
input_unworded g l h =
    no_form (form_of (stream_builtin g) l) (listed_passes (λ l. is_none (form_of (stream_builtin g) l)) (input_labels g) l (all_unworded g) h)

-- ---- the words of what is kept

untrue : (c : Bool) → not c ≡ false → c ≡ true
untrue true h = refl
untrue false h = absurd (true≢false h)

moment_says : (g : StreamFn) (moment : ℤ) (args : Slots) → said_in (Some (stream_builtin g)) (with_moment g moment args) ≡ said_in (Some (stream_builtin g)) args
moment_says s.Range moment args = said_push b.Range args (codes "now") (cell (scalar.Time moment)) refl
moment_says s.From moment args = refl
moment_says _ moment args = refl

-- the stream's words are the call's
pub made_says : (g : StreamFn) (moment : ℤ) (args : Slots) → said_in (Some (stream_builtin g)) (with_moment g moment (further_args g args)) ≡ said_in (Some (stream_builtin g)) args
made_says g moment args =
    moment_says g moment (further_args g args)
    ∙ kept_says (stream_builtin g) (λ x. not (listed x (input_labels g))) args (λ l e. input_unworded g l (untrue (listed l (input_labels g)) e))

-- ---- what stands at a label of the stream

out_step : (c t : Bool) (v : Val) (l x : Label) (rest : Slots) → c ≡ same_text l x → (c ≡ true → t ≡ false) → look l rest ≡ None → look l (if t then more_slots x v rest else rest) ≡ None
out_step c false v l x rest e out none = none
out_step true true v l x rest e out none = absurd (true≢false (out refl))
out_step false true v l x rest e out none = ap (λ d. or_else (look l rest) (if d then Some v else None)) (sym e) ∙ ap (λ o. or_else o None) none

look_out : (test : Label → Bool) (slots : Slots) (l : Label) → test l ≡ false → look l (keep test slots) ≡ None
look_out test no_slots l e = refl
look_out test (more_slots x v slots) l e =
    out_step (same_text l x) (test x) v l x (keep test slots) refl (λ same. ap test (sym (equal_text l x (sym same))) ∙ e) (look_out test slots l e)

module _ (moment : ℤ) (within : IsTrue (in_64_bits moment)) (args : Slots) where
  abbrev made_args : StreamFn → Slots
  made_args g = with_moment g moment (further_args g args)

  pushed : (l : Label) → look l (made_args s.Range) ≡ or_else (if same_text l (codes "now") then Some (cell (scalar.Time moment)) else None) (look l (further_args s.Range args))
  pushed l = look_push (further_args s.Range args) (codes "now") (cell (scalar.Time moment)) l

  input_gone : (g : StreamFn) (l : Label) → listed l (input_labels g) ≡ true → look l (further_args g args) ≡ None
  input_gone g l e = look_out (λ x. not (listed x (input_labels g))) args l (ap not e)

  tables_alone : (c : Bool) → (if c then true else false) ≡ true → c ≡ true
  tables_alone true e = refl
  tables_alone false e = absurd (false≢true e)

  gone : (g : StreamFn) (l : Label) → listed l (input_labels g) ≡ true → look l (made_args g) ≡ None
  gone s.Range l e =
      pushed l
      ∙ ap (λ o. or_else (if same_text l (codes "now") then Some (cell (scalar.Time moment)) else None) o) (input_gone s.Range l e)
      ∙ ap (λ k. or_else (if same_text k (codes "now") then Some (cell (scalar.Time moment)) else None) None) (equal_text l (codes "tables") (sym (tables_alone (same_text l (codes "tables")) e)))
  gone s.From l e = input_gone s.From l e
  gone g l e = input_gone g l e

  moment_there : (g : StreamFn) (l : Label) → is_now g l ≡ true → IsMoment (look l (made_args g))
  moment_there s.Range l e = (
    moment,
    pushed l ∙ ap (λ o. or_else o (look l (further_args s.Range args))) (chosen (same_text l (codes "now")) (Some (cell (scalar.Time moment))) None e),
    within,
  )
  moment_there s.From l e = absurd (false≢true e)
  moment_there _ l e = absurd (false≢true e)

  kept_there : (g : StreamFn) (l : Label) → listed l (input_labels g) ≡ false → look l (further_args g args) ≡ look l args
  kept_there g l e = look_keep (λ x. not (listed x (input_labels g))) args l (ap not e)

  same_there : (g : StreamFn) (l : Label) → listed l (input_labels g) ≡ false → is_now g l ≡ false → look l (made_args g) ≡ look l args
  same_there s.Range l out other =
      pushed l ∙ ap (λ o. or_else o (look l (further_args s.Range args))) (passed (same_text l (codes "now")) (Some (cell (scalar.Time moment))) None other) ∙ kept_there s.Range l out
  same_there s.From l out other = kept_there s.From l out
  same_there g l out other = kept_there g l out

argument_fits : (slots : Slots) (l : Label) (needs optional : GroundField) → Suits (look l slots) needs optional → ArgumentFits (look l slots) (keeps_at slots l) needs optional
argument_fits slots l (g_is t) optional h = keeps_in slots l (typed t) ⊥ (required_there (look l slots) h)
  where
    required_there : (o : Option Val) → Suits o (g_is t) optional → AtSlot o (typed t) ⊥
    required_there (Some v) h = h
    required_there None h = h
argument_fits slots l g_absent (g_is t) h = keeps_in slots l (typed t) (Unit {0}) (optional_there (look l slots) h)
  where
    optional_there : (o : Option Val) → Suits o g_absent (g_is t) → AtSlot o (typed t) (Unit {0})
    optional_there (Some v) h = h
    optional_there None h = tt
argument_fits slots l g_absent g_absent h = absent_suits (look l slots) h

further_fits : (c d : Bool) (f : Option Form) (o : Option Val) (Argument : Type 0) → (c ≡ true → o ≡ None) → (d ≡ true → IsMoment o)
    → (c ≡ false → d ≡ false → f ≡ None → Argument) → FurtherFits c d f o Argument
further_fits true now f o Argument none moment argument = none refl
further_fits false true f o Argument none moment argument = moment refl
further_fits false false (Some f) o Argument none moment argument = tt
further_fits false false None o Argument none moment argument = argument refl refl refl

-- ---- the stream that a call makes

module _ (place : Place) (moment : ℤ) (within : IsTrue (in_64_bits moment)) (args : Slots) (g : StreamFn) (w : Given) (L : Line) (needs : GroundRow) (input : GroundField)
    (suit : (l : Label) → form_of (stream_builtin g) l ≡ None → Suits (look l args) (with_input L.pipe_label input needs l) (L.optional l)) where
  further_fit : FurtherFit g (made_args moment within args g) (keeps_at (made_args moment within args g)) (with_input L.pipe_label input needs) L.optional
  further_fit l =
      further_fits (listed l (input_labels g)) (is_now g l) (form_of (stream_builtin g) l) (look l (made_args moment within args g)) _
      (gone moment within args g l) (moment_there moment within args g l)
      (λ out other none. argument_fits (made_args moment within args g) l (with_input L.pipe_label input needs l) (L.optional l)
      (subst (λ o. Suits o (with_input L.pipe_label input needs l) (L.optional l)) (sym (same_there moment within args g l out other)) (suit l none)))

  pub made_safe : (r : GroundRow) → IsLine (stream_builtin g) w L → IsType L.type → L.type ≡ g_fun needs input (g_stream r) → said_in (Some (stream_builtin g)) args ≡ Some w
      → HasInputs g (with_input L.pipe_label input needs) → IsSafe (λ v. fits v (g_stream r)) (stream_made place moment g args)
  made_safe r line is type says inputs =
      safe_then (λ calls. InputsFit g (inputs_fit (streams_from calls)) (inputs_at (streams_from calls)) (with_input L.pipe_label input needs)) (λ v. fits v (g_stream r)) (inputs_of g args)
      (λ calls. pure (stream (applied g place (streams_from calls) (made_args moment within args g))))
      (inputs_safe args (with_input L.pipe_label input needs) L.optional g inputs (λ l is. suit l (input_unworded g l is)))
      (λ calls fit. (w, L, needs, input, made_says g moment args ∙ says, line, is, type, fit, further_fit))

-- ---- `yield`

name_safe : (o : Option Val) → Suits o g_absent (g_is g_text) → IsSafe (λ a. IsTrue (is_name a)) (given_name o)
name_safe None h = refl
name_safe (Some v) h = of_cell kind.Text v (λ y. IsSafe (λ a. IsTrue (is_name a)) (given_name (Some y))) h (λ a is. of_text a (λ b. IsTrue (is_name b)) is refl (λ t. refl))

yielded_safe : (place : Place) (r : GroundRow) (args : Slots) → IsAt args (codes "tables") (g_stream r) → Suits (look (codes "name") args) g_absent (g_is g_text)
    → IsSafe (λ v. fits v g_done) (yielded place args)
yielded_safe place r args tables name =
    safe_then (λ call. stream_fits call (g_stream r)) (λ v. fits v g_done) (stream_of (codes "tables") args) (λ call. given_name (look (codes "name") args) >>= shown_as place call)
    (input_safe r args (codes "tables") tables)
    (λ call fit. safe_then (λ a. IsTrue (is_name a)) (λ v. fits v g_done) (given_name (look (codes "name") args)) (shown_as place call) (name_safe (look (codes "name") args) name)
    (λ a is. subst (λ c. IsSafe (λ v. fits v g_done) (if c then pure (shown a place call) else Stuck)) (sym is) (is, (r, fit))))

-- ---- all of them

module _ (calls : Calls) (place : Place) (moment : ℤ) (w : Given) (L : Line) (needs : GroundRow) (input : GroundField) (t : Ground) (args : Slots) (within : IsTrue (in_64_bits moment)) where
  abbrev Answers : StreamFn → Type 0
  Answers g =
      IsLine (stream_builtin g) w L → IsType L.type → L.type ≡ g_fun needs input t → said_in (Some (stream_builtin g)) args ≡ Some w
      → ((l : Label) → form_of (stream_builtin g) l ≡ None → Suits (look l args) (with_input L.pipe_label input needs l) (L.optional l))
      → IsSafe (λ v. fits v t) (stream_call place moment g args)

  abbrev IsMade : StreamFn → Type 0
  IsMade g = (needs : GroundRow) × (input : GroundField) × (r : GroundRow) × (L.type ≡ g_fun needs input (g_stream r)) × HasInputs g (with_input L.pipe_label input needs)

  made_answers : (g : StreamFn) → IsMade g → IsLine (stream_builtin g) w L → IsType L.type → L.type ≡ g_fun needs input t → said_in (Some (stream_builtin g)) args ≡ Some w
      → ((l : Label) → form_of (stream_builtin g) l ≡ None → Suits (look l args) (with_input L.pipe_label input needs l) (L.optional l))
      → IsSafe (λ v. fits v t) (stream_made place moment g args)
  made_answers g k line is type says suit =
      let made : g_fun k.0 k.1 (g_stream k.2) ≡ g_fun needs input t = sym k.3 ∙ type in
      let same_needs : k.0 ≡ needs = cc in
      let same_input : k.1 ≡ input = cc in
      let same : g_stream k.2 ≡ t = cc in
      subst (λ u. IsSafe (λ v. fits v u) (stream_made place moment g args)) same
      (made_safe place moment within args g w L needs input suit k.2 line is (type ∙ ap (g_fun needs input) (sym same)) says
      (subst (λ i. HasInputs g (with_input L.pipe_label i needs)) same_input (subst (λ q. HasInputs g (with_input L.pipe_label k.1 q)) same_needs k.4)))

  yield_answers : Answers s.Yield
  yield_answers line is type says suit =
      let k = stream_lined s.Yield w L line in
      let made : g_fun (parameters []) (g_is (g_stream k.0)) g_done ≡ g_fun needs input t = sym (ap (λ l. l.type) k.1) ∙ type in
      let same_needs : parameters [] ≡ needs = cc in
      let same_input : g_is (g_stream k.0) ≡ input = cc in
      let same : g_done ≡ t = cc in
      let pipe : L.pipe_label ≡ Some (codes "tables") = ap (λ l. l.pipe_label) k.1 in
      let row : with_input L.pipe_label input needs ≡ with_input (Some (codes "tables")) (g_is (g_stream k.0)) (parameters []) =
      ap (λ p. with_input p input needs) pipe ∙ ap (λ i. with_input (Some (codes "tables")) i needs) (sym same_input) ∙ ap (λ q. with_input (Some (codes "tables")) (g_is (g_stream k.0)) q) (sym same_needs) in
      subst (λ u. IsSafe (λ v. fits v u) (yielded place args)) same
      (yielded_safe place k.0 args
      (is_at args (codes "tables") (g_stream k.0) (look (codes "tables") args) (with_input L.pipe_label input needs (codes "tables")) (L.optional (codes "tables")) (ap (λ q. q (codes "tables")) row) (suit (codes "tables") refl))
      (subst (λ q. Suits (look (codes "name") args) (q (codes "name")) (g_is g_text)) row
      (subst (λ l. Suits (look (codes "name") args) (with_input L.pipe_label input needs (codes "name")) (l.optional (codes "name"))) k.1 (suit (codes "name") refl))))

  answers : (g : StreamFn) → Answers g
  answers s.Yield = yield_answers
  answers s.From = λ line is type says suit. made_answers s.From (stream_lined s.From w L line) line is type says suit
  answers g = λ line is type says suit. made_answers g (stream_lined g w L line) line is type says suit

pub stream_runs : (calls : Calls) (g : StreamFn) → NativeRuns calls (n.Stream g)
stream_runs calls g place moment w L needs input t args within line is type says suit =
    subst (λ c. IsSafe (λ v. fits v t) (if c then stream_call place moment g args else Stuck)) (sym (line_taken (stream_builtin g) w L needs input t args line type says suit))
    (answers calls place moment w L needs input t args within g line is type says suit)

-- Calls of `now`, of conversions, and of `length`, `contains` and `split` are safe.
use Rattle.std.proofs.Common.{◌≡◌, refl, sym, ap, subst, ◌∙◌, true, [], ◌∷◌, ℤ, pos, Some, None, Ok, length}
use Rattle.std.specs.Prelude.{if◌then◌else◌, codes, IsTrue, Option}
use Rattle.std.specs.List.{list_all}
use Rattle.std.proofs.lemmas.Bool.{and_from, and_parts}
use Rattle.fx_base.specs.declared.place.Place.{Place}
use Rattle.fx_value.specs.Ends.{End, Stuck}
use Rattle.fx_value.specs.declared.scalar.Kind.{Kind}
use Rattle.fx_value.specs.declared.scalar.Kind.TheVariants as kind
use Rattle.fx_value.specs.declared.scalar.Scalar.TheVariants as scalar
use Rattle.fx_ops.specs.Kinds.{is_kind, is_whole}
use Rattle.fx_ops.specs.Whole.{in_64_bits}
use Rattle.fx_types.specs.Ground.{Ground, GroundField, g_int, g_time, g_array, g_fun, g_absent, g_is}
use Rattle.fx_types.specs.Kinds.{of_kind}
use Rattle.fx_types.specs.Term.{Label}
use Rattle.fx_schemes.specs.Builtins.{IsLine}
use Rattle.fx_schemes.specs.Given.{Given}
use Rattle.fx_schemes.specs.Line.{Line, Parameters, call, parameters}
use Rattle.fx_schemes.specs.Signature.{form_of}
use Rattle.fx_meaning.specs.declared.native.Native.{Native}
use Rattle.fx_meaning.specs.declared.native.Native.TheVariants as n
use Rattle.fx_meaning.specs.Ends.{◌>>=◌, cell_at, found, pure}
use Rattle.fx_meaning.specs.Forms.{cell_in, cell_of, each, items_in, items_of, val_list}
use Rattle.fx_meaning.specs.Meaning.{Calls}
use Rattle.fx_meaning.specs.Native.{native_builtin}
use Rattle.fx_meaning.specs.Natives.{native_call}
use Rattle.fx_meaning.specs.Value.{Val, Vals, no_vals, more_vals, Slots, look}
use Rattle.fx_build.specs.Fit.{each_fits, fits, is_cell, with_input}
use Rattle.fx_build.specs.Safe.{IsSafe}
use Rattle.fx_build.proofs.Callable.{NativeRuns}
use Rattle.fx_build.proofs.KindLaws.{cell_at_safe, of_array, of_cell}
use Rattle.fx_build.proofs.ParamLaws.{Suits}
use Rattle.fx_build.proofs.SafeLaws.{safe_then}
use Rattle.fx_build.proofs.TakenLaws.{line_taken}

-- ---- arguments

argument_safe : (u : Ground) (optional : GroundField) (o : Option Val) → Suits o (g_is u) optional → IsSafe (λ v. fits v u) (found o)
argument_safe u optional (Some v) h = h
argument_safe u optional None h = absurd h

-- what stands at a label that takes a type
abbrev pub IsAt : Slots → Label → Ground → Type 0
IsAt args x u = Suits (look x args) (g_is u) g_absent

pub argument_then : {B : Type 0} (Q : B → Type 0) (u : Ground) (args : Slots) (x : Label) (f : Val → End B) → IsAt args x u → ((v : Val) → fits v u → IsSafe Q (f v))
    → IsSafe Q (found (look x args) >>= f)
argument_then Q u args x f h next = safe_then (λ v. fits v u) Q (found (look x args)) f (argument_safe u g_absent (look x args) h) next

pub cell_safe : (k : Kind) (args : Slots) (x : Label) → IsAt args x (of_kind k) → IsSafe (λ a. IsTrue (is_cell (Some k) a)) (cell_of x args)
cell_safe k args x h =
    argument_then (λ a. IsTrue (is_cell (Some k) a)) (of_kind k) args x cell_in h
    (λ v fit. of_cell k v (λ y. IsSafe (λ a. IsTrue (is_cell (Some k) a)) (cell_in y)) fit (λ a is. is))

pub items_safe : (u : Ground) (args : Slots) (x : Label) → IsAt args x (g_array u) → IsSafe (λ vs. each_fits vs u) (items_of x args)
items_safe u args x h =
    argument_then (λ vs. each_fits vs u) (g_array u) args x items_in h
    (λ v fit. of_array u v (λ y. IsSafe (λ vs. each_fits vs u) (items_in y)) fit (λ vs fits. fits))

-- the scalars of an array of a kind
pub cells_safe : (k : Kind) (vs : Vals) → each_fits vs (of_kind k) → IsSafe (λ items. list_all (λ a. is_kind a k) items ≡ true) (each cell_in (val_list vs))
cells_safe k no_vals h = refl
cells_safe k (more_vals v vs) h =
    safe_then (λ a. IsTrue (is_cell (Some k) a)) (λ items. list_all (λ a. is_kind a k) items ≡ true) (cell_in v) (λ a. each cell_in (val_list vs) >>= (λ items. pure (a ∷ items)))
    (of_cell k v (λ y. IsSafe (λ a. IsTrue (is_cell (Some k) a)) (cell_in y)) h.0 (λ a is. is))
    (λ a is. safe_then (λ items. list_all (λ a. is_kind a k) items ≡ true) (λ items. list_all (λ a. is_kind a k) items ≡ true) (each cell_in (val_list vs)) (λ items. pure (a ∷ items))
    (cells_safe k vs h.1)
    (λ items all. and_from (is_kind a k) (list_all (λ a. is_kind a k) items) (and_parts (is_kind a k) (is_whole a) is).0 all))

-- ---- calls of a line that takes nothing by a pipe

-- what the call of a built-in owes where its arguments stand at the parameters of a line without a pipe
abbrev pub Answers : Native → Parameters → Ground → Type 0
Answers g ps t =
    (place : Place) (moment : ℤ) (args : Slots) → IsTrue (in_64_bits moment)
    → ((l : Label) → form_of (native_builtin g) l ≡ None → Suits (look l args) (parameters ps l) g_absent)
    → IsSafe (λ v. fits v t) (native_call place moment args g)

-- a built-in each of whose lines is a call that is answered runs
pub call_runs : (calls : Calls) (g : Native)
    → ((w : Given) (L : Line) → IsLine (native_builtin g) w L → (ps : Parameters) × (t : Ground) × (L ≡ call ps [] t) × Answers g ps t) → NativeRuns calls g
call_runs calls g lines place moment w L needs input t args within line is type says suit =
    let k = lines w L line in
    let made : g_fun (parameters k.0) g_absent k.1 ≡ g_fun needs input t = sym (ap (λ l. l.type) k.2) ∙ type in
    let same_needs : parameters k.0 ≡ needs = cc in
    let same_input : g_absent ≡ input = cc in
    let same_result : k.1 ≡ t = cc in
    subst (λ c. IsSafe (λ v. fits v t) (if c then native_call place moment args g else Stuck)) (sym (line_taken (native_builtin g) w L needs input t args line type says suit))
    (subst (λ u. IsSafe (λ v. fits v u) (native_call place moment args g)) same_result
    (k.3 place moment args within
    (λ l none. subst (λ l2. Suits (look l args) (parameters k.0 l) (l2.optional l)) k.2
    (subst (λ r. Suits (look l args) (r l) (L.optional l)) (sym same_needs)
    (subst (λ p. Suits (look l args) (with_input p input needs l) (L.optional l)) (ap (λ l2. l2.pipe_label) k.2) (suit l none))))))

-- each line of the built-in is such a call
abbrev pub Lined : Native → Type 0
Lined g = (w : Given) (L : Line) → IsLine (native_builtin g) w L → (ps : Parameters) × (t : Ground) × (L ≡ call ps [] t) × Answers g ps t

-- ---- `now`, `length`

length_answers : (u : Ground) → Answers n.Length ((codes "arr", g_array u) ∷ []) g_int
length_answers u place moment args within suit =
    safe_then (λ vs. each_fits vs u) (λ v. fits v g_int) (items_of (codes "arr") args) (λ vs. cell_at place (Ok (scalar.Int (pos (length (val_list vs))))))
    (items_safe u args (codes "arr") (suit (codes "arr") refl))
    (λ vs each. cell_at_safe place kind.Int (Ok (scalar.Int (pos (length (val_list vs))))) refl)

now_lined : Lined n.Now
unfolding IsLine
now_lined w L h = ([], g_time, h, λ place moment args within suit. within)

length_lined : Lined n.Length
unfolding IsLine
length_lined w L h = ((codes "arr", g_array h.0) ∷ [], g_int, h.1, length_answers h.0)

pub now_runs : (calls : Calls) → NativeRuns calls n.Now
now_runs calls = call_runs calls n.Now now_lined

pub length_runs : (calls : Calls) → NativeRuns calls n.Length
length_runs calls = call_runs calls n.Length length_lined

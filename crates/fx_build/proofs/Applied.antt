-- Calls and pipes of values that may be called.
use Rattle.std.proofs.Common.{◌≡◌, refl, sym, ap, subst, ◌∙◌, inl, ℤ, Some, None}
use Rattle.std.specs.Prelude.{Option}
use Rattle.fx_base.specs.Text.{same_text}
use Rattle.fx_base.specs.declared.place.Place.{Place}
use Rattle.fx_types.specs.Term.{Label}
use Rattle.fx_types.specs.Ground.{Ground, GroundField, GroundRow, g_fun, g_absent, g_is}
use Rattle.fx_schemes.specs.Given.{Given}
use Rattle.fx_schemes.specs.Line.{Line, put, value}
use Rattle.fx_ast.specs.Tree.{Tree, Props, Params}
use Rattle.fx_meaning.specs.declared.setting.Setting.{Setting}
use Rattle.fx_meaning.specs.Meaning.{Calls, applied_to, pipe_label, piped_to}
use Rattle.fx_meaning.specs.Value.{Val, closure, Slots, look, push}
use Rattle.fx_infer.proofs.CallLaws.{value_called, value_piped}
use Rattle.fx_infer.specs.Arguments.{IsCall, IsPipe, TakesByLabel, Takes}
use Rattle.fx_infer.specs.Environment.{Env}
use Rattle.fx_infer.specs.Parameters.{field_if, first, input_of, line_of, type_of, piped}
use Rattle.fx_build.specs.Fit.{fits, holds, with_input}
use Rattle.fx_build.specs.Safe.{IsSafe}
use Rattle.fx_build.proofs.ArgLaws.{IsGiven, given_fits}
use Rattle.fx_build.proofs.Entered.{HasParts}
use Rattle.fx_build.proofs.ParamLaws.{AreServed, Suits, absent_suits, all_needs, needs_of, optional_of as optional_row, pipe_apart, pipe_is, served, suits, suits_push, taken, takes_row}
use Rattle.fx_plan.proofs.SlotLaws.{look_push}

-- the calls of literals whose captured values meet an environment, with arguments for the parameters
abbrev pub CallsAreSafe : Calls → Type 0
CallsAreSafe calls =
    (ps : Params) (lets : Props) (e : Tree) (captured args : Slots) (setting : Setting) (env : Env) (P : Label → Ground) (t : Ground)
    → HasParts ps lets e env P t → holds (closure ps lets e captured setting) env → AreServed ps P args
    → IsSafe (λ v. fits v t) (calls ps lets e captured setting args)

-- ---- what a call gives, for what a line takes

abbrev pub AllSuit : Line → GroundRow → GroundField → Slots → Type 0
AllSuit L needs input args = (l : Label) → Suits (look l args) (with_input L.pipe_label input needs l) (L.optional l)

takes_itself : (given optional : GroundField) → Takes given optional given
takes_itself (g_is t) optional = refl
takes_itself g_absent optional = inl refl

by_label : (x : Option Label) (given optional : GroundRow) → TakesByLabel x g_absent given optional given
by_label None given optional l = takes_itself (given l) (optional l)
by_label (Some x) given optional l = takes_itself (given l) (optional l)

-- a value is called as what it is: what its type takes, its line takes
pub call_along : (t : Ground) (L : Line) (given : GroundRow) (u : Ground) → L.type ≡ t → IsCall given (value t) u → IsCall given L u
call_along t L given u e h = (given, g_absent, e ∙ (value_called t given u).0 h, by_label L.pipe_label given L.optional)

pub pipe_along : (t : Ground) (L : Line) (given : GroundRow) (w u : Ground) → L.type ≡ t → IsPipe w given (value t) u → IsPipe w given L u
pipe_along t L given w u e h = (given, e ∙ (value_piped t w given u).0 h, λ l. takes_itself (given l) (L.optional l))

pub call_suits : {ps : Props} {w : Given} {args : Slots} (L : Line) (needs given : GroundRow) (input : GroundField) → TakesByLabel L.pipe_label input needs L.optional given
    → IsGiven None ps w given args → AllSuit L needs input args
call_suits {args = args} L needs given input takes_it is l =
    suits (with_input L.pipe_label input needs l) (L.optional l) (given l) (look l args) (takes_row L.pipe_label input needs L.optional given takes_it l) (given_fits is l refl)

-- ---- literals

module _ (calls : Calls) (safe : CallsAreSafe calls) (place : Place) (moment : ℤ) where
  pub literal_runs : (ps : Params) (lets : Props) (e : Tree) (captured args : Slots) (setting : Setting) (env : Env) (P : Label → Ground) (t : Ground)
      → HasParts ps lets e env P t → holds (closure ps lets e captured setting) env → ((l : Label) → Suits (look l args) (all_needs ps P l) (optional_row ps P l))
      → IsSafe (λ v. fits v t) (applied_to calls place moment args (closure ps lets e captured setting))
  literal_runs ps lets e captured args setting env P t h met suit =
      rw (taken ps P args h.0.2 suit) (safe ps lets e captured args setting env P t h met (served ps P args h.0.2 suit))

  pub literal_called : (ps : Params) (lets : Props) (e : Tree) (captured args : Slots) (setting : Setting) (env : Env) (P : Label → Ground) (u t : Ground) (L : Line) (needs : GroundRow) (input : GroundField)
      → line_of ps P u ≡ L → L.type ≡ g_fun needs input t → HasParts ps lets e env P u → holds (closure ps lets e captured setting) env → AllSuit L needs input args
      → IsSafe (λ v. fits v t) (applied_to calls place moment args (closure ps lets e captured setting))
  literal_called ps lets e captured args setting env P u t L needs input line e_type h met suit =
      let type : type_of ps P u ≡ g_fun needs input t = ap (λ l. l.type) line ∙ e_type in
      let same_needs : needs_of ps P ≡ needs = cc in
      let same_input : input_of (first (piped ps)) P ≡ input = cc in
      let same : u ≡ t = cc in
      subst (λ x. IsSafe (λ v. fits v x) (applied_to calls place moment args (closure ps lets e captured setting))) same
      (literal_runs ps lets e captured args setting env P u h met
      (subst (λ r. (l : Label) → Suits (look l args) (with_input (first (piped ps)) (input_of (first (piped ps)) P) r l) (optional_row ps P l)) (sym same_needs)
      (subst (λ i. (l : Label) → Suits (look l args) (with_input (first (piped ps)) i needs l) (optional_row ps P l)) (sym same_input)
      (subst (λ k. AllSuit k needs input args) (sym line) suit))))

-- ---- pipes

-- the input stands under the label of the pipe
pub pushed_at : (L : Line) (needs : GroundRow) (u : Ground) (args : Slots) (x : Label) (input : Val) (l : Label) → L.pipe_label ≡ Some x → fits input u
    → Suits (look l args) (needs l) (L.optional l) → Suits (look l (push args x input)) (with_input L.pipe_label (g_is u) needs l) (L.optional l)
pushed_at L needs u args x input l pipe fit suit =
    subst (λ p. Suits (look l (push args x input)) (with_input p (g_is u) needs l) (L.optional l)) (sym pipe)
    (subst (λ o. Suits o (put x u needs l) (L.optional l)) (sym (look_push args x input l)) (suits_push (same_text l x) (needs l) (L.optional l) u (look l args) input suit fit))

module _ (calls : Calls) (place : Place) (moment : ℤ) (t : Ground) where
  pub piped_runs : (v input : Val) (args : Slots) (x : Label) → pipe_label v ≡ Some x → look x args ≡ None → IsSafe (λ y. fits y t) (applied_to calls place moment (push args x input) v)
      → IsSafe (λ y. fits y t) (piped_to calls place moment args input v)
  piped_runs v input args x pipe none h = rw pipe (rw none h)

module _ (calls : Calls) (safe : CallsAreSafe calls) (place : Place) (moment : ℤ) where
  some_pipe : (pipe : Option Label) (P : Label → Ground) (u : Ground) → input_of pipe P ≡ g_is u → (x : Label) × (pipe ≡ Some x)
  some_pipe None P u e = absurd cc
  some_pipe (Some x) P u e = (x, refl)

  pub literal_piped : (ps : Params) (lets : Props) (e : Tree) (captured args : Slots) (setting : Setting) (env : Env) (P : Label → Ground) (r u t : Ground) (L : Line) (needs : GroundRow) (input : Val)
      → line_of ps P r ≡ L → L.type ≡ g_fun needs (g_is u) t → HasParts ps lets e env P r → holds (closure ps lets e captured setting) env → fits input u
      → ((l : Label) → Suits (look l args) (needs l) (L.optional l))
      → IsSafe (λ v. fits v t) (piped_to calls place moment args input (closure ps lets e captured setting))
  literal_piped ps lets e captured args setting env P r u t L needs input line e_type h met fit suit =
      let type : type_of ps P r ≡ g_fun needs (g_is u) t = ap (λ l. l.type) line ∙ e_type in
      let same_needs : needs_of ps P ≡ needs = cc in
      let same_input : input_of (first (piped ps)) P ≡ g_is u = cc in
      let x = some_pipe (first (piped ps)) P u same_input in
      let alone = pipe_apart x.0 ps h.0.0 x.1 in
      let absent : needs x.0 ≡ g_absent = sym (ap (λ q. q x.0) same_needs) ∙ ap (λ c. field_if c (P x.0)) alone.0 in
      let left_out : L.optional x.0 ≡ g_absent = sym (ap (λ l. l.optional x.0) line) ∙ ap (λ c. field_if c (P x.0)) alone.1 in
      piped_runs calls place moment t (closure ps lets e captured setting) input args x.0 (pipe_is ps ∙ x.1)
      (absent_suits (look x.0 args) (subst (Suits (look x.0 args) g_absent) left_out (subst (λ f. Suits (look x.0 args) f (L.optional x.0)) absent (suit x.0))))
      (literal_called calls safe place moment ps lets e captured (push args x.0 input) setting env P r t L needs (g_is u) line e_type h met
      (λ l. pushed_at L needs u args x.0 input l (sym (ap (λ k. k.pipe_label) line) ∙ x.1) fit (suit l)))

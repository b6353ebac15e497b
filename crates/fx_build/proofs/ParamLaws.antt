-- The arguments of a call against what a line takes, and against the parameters of a literal.
use Rattle.std.proofs.Common.{◌≡◌, refl, sym, ap, subst, ◌∙◌, inl, inr, Bool, true, false, ◌&&◌, ◌||◌, ◌⊎◌, ◌≤◌, List, [], ◌∷◌, length, Some, None, arith}
use Rattle.std.specs.Prelude.{if◌then◌else◌, Option}
use Rattle.std.proofs.lemmas.Bool.{and_from, or_left, or_right}
use Rattle.std.specs.Cmp.Lexicographic.{same_text as equal_text}
use mathlib.Core.Bool.{true≢false, false≢true}
use Rattle.fx_base.specs.Text.{same_text}
use Rattle.fx_types.specs.Term.{Label}
use Rattle.fx_types.specs.Ground.{Ground, GroundField, GroundRow, g_absent, g_is, listed}
use Rattle.fx_types.proofs.Choices.{by_cases, chosen, passed}
use Rattle.fx_ast.specs.Tree.{Tree, Params, no_params, more_params, Default, required, by_pipe, by_value}
use Rattle.fx_meaning.specs.Meaning.{all_given, are_params, has_argument, is_param, pipe_of, takes}
use Rattle.fx_meaning.specs.Value.{Val, Slots, no_slots, more_slots, look, is_there, or_else}
use Rattle.fx_infer.specs.Arguments.{Takes, TakesAll, TakesByLabel}
use Rattle.fx_schemes.specs.Builtins.{differ}
use Rattle.fx_infer.specs.Parameters.{param_names, field_if, first, input_of, is_optional, is_required, piped}
use Rattle.fx_build.specs.Fit.{fits, with_input}
use Rattle.fx_build.proofs.ArgLaws.{GivenFits}
use Rattle.fx_plan.proofs.SlotLaws.{same_itself}

-- ---- against a line

-- what stands at a label, against what is required and what is allowed there
abbrev pub Suits : Option Val → GroundField → GroundField → Type 0
Suits (Some v) (g_is t) optional = fits v t
Suits None (g_is t) optional = ⊥
Suits (Some v) g_absent (g_is t) = fits v t
Suits (Some v) g_absent g_absent = ⊥
Suits None g_absent optional = Unit {0}

given_suits : (optional : GroundField) (o : Option Val) → GivenFits optional o → Suits o g_absent optional
given_suits g_absent None h = tt
given_suits g_absent (Some v) h = h
given_suits (g_is t) None h = tt
given_suits (g_is t) (Some v) h = h

none_suits : (optional : GroundField) (o : Option Val) → GivenFits g_absent o → Suits o g_absent optional
none_suits optional None h = tt
none_suits optional (Some v) h = absurd h

required_suits : (t : Ground) (optional : GroundField) (o : Option Val) → GivenFits (g_is t) o → Suits o (g_is t) optional
required_suits t optional None h = h
required_suits t optional (Some v) h = h

pub suits : (needs optional given : GroundField) (o : Option Val) → Takes needs optional given → GivenFits given o → Suits o needs optional
suits (g_is t) optional given o h fit = required_suits t optional o (subst (λ g. GivenFits g o) h fit)
suits g_absent optional given o (inl e) fit = none_suits optional o (subst (λ g. GivenFits g o) e fit)
suits g_absent optional given o (inr e) fit = given_suits optional o (subst (λ g. GivenFits g o) e fit)

pub takes_row : (x : Option Label) (input : GroundField) (needs optional given : GroundRow) → TakesByLabel x input needs optional given
    → TakesAll (with_input x input needs) optional given
takes_row None g_absent needs optional given h = h
takes_row (Some x) g_absent needs optional given h = h
takes_row None (g_is t) needs optional given h = absurd h
takes_row (Some x) (g_is t) needs optional given h = h

-- what comes by the pipe under its label
pub suits_push : (c : Bool) (needs optional : GroundField) (u : Ground) (o : Option Val) (v : Val) → Suits o needs optional → fits v u
    → Suits (or_else (if c then Some v else None) o) (if c then g_is u else needs) optional
suits_push true needs optional u o v h fit = fit
suits_push false needs optional u o v h fit = h

pub absent_suits : (o : Option Val) → Suits o g_absent g_absent → o ≡ None
absent_suits None h = refl
absent_suits (Some v) h = absurd h

-- ---- labels of slots

pub there_step : (c : Bool) (o : Option Val) (v : Val) → is_there o ≡ true → is_there (or_else o (if c then Some v else None)) ≡ true
there_step c None v h = absurd (false≢true h)
there_step c (Some w) v h = refl

pub there_itself : (c : Bool) (o : Option Val) (v : Val) → c ≡ true → is_there (or_else o (if c then Some v else None)) ≡ true
there_itself true None v h = refl
there_itself true (Some w) v h = refl
there_itself false o v h = absurd (false≢true h)

-- what holds of each label where something stands, and the labels of the slots one by one
module _ (test : Label → Bool) where
  abbrev pub passes : Slots → Bool
  passes no_slots = true
  passes (more_slots x v slots) = test x && passes slots

  pub all_pass : (slots : Slots) → ((l : Label) → is_there (look l slots) ≡ true → test l ≡ true) → passes slots ≡ true
  all_pass no_slots h = refl
  all_pass (more_slots x v slots) h =
      and_from (test x) (passes slots) (h x (there_itself (same_text x x) (look x slots) v (same_itself x)))
      (all_pass slots (λ l there. h l (there_step (same_text l x) (look l slots) v there)))

pub are_params_pass : (slots : Slots) (ps : Params) → passes (λ l. is_param l ps) slots ≡ true → are_params slots ps ≡ true
are_params_pass no_slots ps h = refl
are_params_pass (more_slots x v slots) ps h = and_from (is_param x ps) (are_params slots ps) (and_first (is_param x ps) _ h) (are_params_pass slots ps (and_second (is_param x ps) _ h))
  where
    and_first : (a b : Bool) → (a && b) ≡ true → a ≡ true
    and_first true b h = refl
    and_first false b h = h

    and_second : (a b : Bool) → (a && b) ≡ true → b ≡ true
    and_second true b h = h
    and_second false b h = absurd (false≢true h)

-- ---- parameters

abbrev pub IsParam : Label → Default → Params → Type 0
IsParam x d no_params = ⊥
IsParam x d (more_params y e ps) = ((x ≡ y) × (d ≡ e)) ⊎ IsParam x d ps

itself : (x y : Label) → x ≡ y → same_text x y ≡ true
itself x y e = subst (λ z. same_text x z ≡ true) e (same_itself x)

required_later : (x y : Label) (e : Default) (ps : Params) → is_required x ps ≡ true → is_required x (more_params y e ps) ≡ true
required_later x y required ps h = or_right (same_text x y) (is_required x ps) h
required_later x y by_pipe ps h = h
required_later x y (by_value e) ps h = h

required_in : (x : Label) (ps : Params) → IsParam x required ps → is_required x ps ≡ true
required_in x no_params h = absurd h
required_in x (more_params y required ps) (inl h) = or_left (same_text x y) (is_required x ps) (itself x y h.0)
required_in x (more_params y by_pipe ps) (inl h) = absurd cc
required_in x (more_params y (by_value e) ps) (inl h) = absurd cc
required_in x (more_params y d ps) (inr h) = required_later x y d ps (required_in x ps h)

optional_later : (x y : Label) (e : Default) (ps : Params) → is_optional x ps ≡ true → is_optional x (more_params y e ps) ≡ true
optional_later x y required ps h = h
optional_later x y by_pipe ps h = h
optional_later x y (by_value e) ps h = or_right (same_text x y) (is_optional x ps) h

optional_in : (x : Label) (e : Tree) (ps : Params) → IsParam x (by_value e) ps → is_optional x ps ≡ true
optional_in x e no_params h = absurd h
optional_in x e (more_params y required ps) (inl h) = absurd cc
optional_in x e (more_params y by_pipe ps) (inl h) = absurd cc
optional_in x e (more_params y (by_value d) ps) (inl h) = or_left (same_text x y) (is_optional x ps) (itself x y h.0)
optional_in x e (more_params y d ps) (inr h) = optional_later x y d ps (optional_in x e ps h)

-- a pipe's parameter is the first and only one

abbrev IsOnly : Label → List Label → Type 0
IsOnly x [] = ⊥
IsOnly x (y ∷ ys) = (x ≡ y) ⊎ IsOnly x ys

piped_in : (x : Label) (ps : Params) → IsParam x by_pipe ps → IsOnly x (piped ps)
piped_in x no_params h = absurd h
piped_in x (more_params y required ps) (inl h) = absurd cc
piped_in x (more_params y by_pipe ps) (inl h) = inl h.0
piped_in x (more_params y (by_value e) ps) (inl h) = absurd cc
piped_in x (more_params y required ps) (inr h) = piped_in x ps h
piped_in x (more_params y by_pipe ps) (inr h) = inr (piped_in x ps h)
piped_in x (more_params y (by_value e) ps) (inr h) = piped_in x ps h

only_first : (x : Label) (ys : List Label) → IsOnly x ys → length ys ≤ 1 → first ys ≡ Some x
only_first x [] h few = absurd h
only_first x (y ∷ ys) (inl e) few = ap Some (sym e)
only_first x (y ∷ []) (inr h) few = absurd h
only_first x (y ∷ z ∷ ys) (inr h) few = absurd (omega arith)

pub pipe_is : (ps : Params) → pipe_of ps ≡ first (piped ps)
pipe_is no_params = refl
pipe_is (more_params x required ps) = pipe_is ps
pipe_is (more_params x by_pipe ps) = refl
pipe_is (more_params x (by_value e) ps) = pipe_is ps

-- the pipe's parameter is no other one

pub parts_of : (c d : Bool) → (if c then false else d) ≡ true → (c ≡ false) × (d ≡ true)
parts_of true d h = absurd (false≢true h)
parts_of false d h = (refl, h)

neither_of : (c d : Bool) → (if c then true else d) ≡ false → (c ≡ false) × (d ≡ false)
neither_of true d h = absurd (true≢false h)
neither_of false d h = (refl, h)

one_more : (d : Default) (x y : Label) (ps : Params) → same_text x y ≡ false → (is_required x ps ≡ false) × (is_optional x ps ≡ false)
    → (is_required x (more_params y d ps) ≡ false) × (is_optional x (more_params y d ps) ≡ false)
one_more required x y ps other rest = (ap (λ c. c || is_required x ps) other ∙ rest.0, rest.1)
one_more by_pipe x y ps other rest = rest
one_more (by_value e) x y ps other rest = (rest.0, ap (λ c. c || is_optional x ps) other ∙ rest.1)

not_among : (x : Label) (ps : Params) → listed x (param_names ps) ≡ false → (is_required x ps ≡ false) × (is_optional x ps ≡ false)
not_among x no_params h = (refl, refl)
not_among x (more_params y d ps) h = let k = neither_of (same_text x y) (listed x (param_names ps)) h in one_more d x y ps k.0 (not_among x ps k.1)

listed_later : (x y : Label) (xs : List Label) → listed x xs ≡ true → listed x (y ∷ xs) ≡ true
listed_later x y xs h = later_one (same_text x y) h
  where
    later_one : (c : Bool) → listed x xs ≡ true → (if c then true else listed x xs) ≡ true
    later_one true h = refl
    later_one false h = h

piped_listed : (x : Label) (ps : Params) → first (piped ps) ≡ Some x → listed x (param_names ps) ≡ true
piped_listed x no_params h = absurd cc
piped_listed x (more_params y required ps) h = listed_later x y (param_names ps) (piped_listed x ps h)
piped_listed x (more_params y by_pipe ps) h = ap (λ c. if c then true else listed x (param_names ps)) (itself x y (let same : y ≡ x = cc in sym same))
piped_listed x (more_params y (by_value e) ps) h = listed_later x y (param_names ps) (piped_listed x ps h)

other_label : (x y : Label) (xs : List Label) → listed x xs ≡ true → listed y xs ≡ false → same_text x y ≡ false
other_label x y xs h k = by_cases (same_text x y) (λ e. absurd (true≢false (sym h ∙ ap (λ z. listed z xs) (equal_text x y (sym e)) ∙ k))) (λ e. e)

pub pipe_apart : (x : Label) (ps : Params) → differ (param_names ps) ≡ true → first (piped ps) ≡ Some x → (is_required x ps ≡ false) × (is_optional x ps ≡ false)
pipe_apart x no_params once h = absurd cc
pipe_apart x (more_params y required ps) once h =
    let k = parts_of (listed y (param_names ps)) (differ (param_names ps)) once in
    let rest = pipe_apart x ps k.1 h in
    (ap (λ c. c || is_required x ps) (other_label x y (param_names ps) (piped_listed x ps h) k.0) ∙ rest.0, rest.1)
pipe_apart x (more_params y by_pipe ps) once h =
    let same : y ≡ x = cc in
    not_among x ps (subst (λ z. listed z (param_names ps) ≡ false) same (parts_of (listed y (param_names ps)) (differ (param_names ps)) once).0)
pipe_apart x (more_params y (by_value e) ps) once h =
    let k = parts_of (listed y (param_names ps)) (differ (param_names ps)) once in
    let rest = pipe_apart x ps k.1 h in
    (rest.0, ap (λ c. c || is_optional x ps) (other_label x y (param_names ps) (piped_listed x ps h) k.0) ∙ rest.1)

-- what is no parameter is required nowhere, allowed nowhere, and isn't the pipe's

abbrev IsNoParam : Label → Params → Type 0
IsNoParam l ps = (is_required l ps ≡ false) × (is_optional l ps ≡ false) × (listed l (piped ps) ≡ false)

no_param_step : (c : Bool) (l x : Label) (d : Default) (ps : Params) → c ≡ same_text l x → (if c then true else is_param l ps) ≡ false → (is_param l ps ≡ false → IsNoParam l ps)
    → IsNoParam l (more_params x d ps)
no_param_step true l x d ps e h rest = absurd (true≢false h)
no_param_step false l x required ps e h rest = let k = rest h in (ap (λ c. c || is_required l ps) (sym e) ∙ k.0, k.1, k.2)
no_param_step false l x by_pipe ps e h rest = let k = rest h in (k.0, k.1, ap (λ c. if c then true else listed l (piped ps)) (sym e) ∙ k.2)
no_param_step false l x (by_value a) ps e h rest = let k = rest h in (k.0, ap (λ c. c || is_optional l ps) (sym e) ∙ k.1, k.2)

no_param : (l : Label) (ps : Params) → is_param l ps ≡ false → IsNoParam l ps
no_param l no_params h = (refl, refl, refl)
no_param l (more_params x d ps) h = no_param_step (same_text l x) l x d ps refl h (no_param l ps)

-- ---- what a literal's line requires

module _ (ps : Params) (P : Label → Ground) where
  abbrev pub needs_of : GroundRow
  needs_of l = field_if (is_required l ps) (P l)

  abbrev pub optional_of : GroundRow
  optional_of l = field_if (is_optional l ps) (P l)

  -- under labels, what may come by the pipe too
  abbrev pub all_needs : GroundRow
  all_needs = with_input (first (piped ps)) (input_of (first (piped ps)) P) needs_of

piped_row : (pipe : Option Label) (P : Label → Ground) (needs : GroundRow) (l : Label) → (needs l ≡ g_is (P l)) ⊎ (pipe ≡ Some l)
    → with_input pipe (input_of pipe P) needs l ≡ g_is (P l)
piped_row None P needs l (inl h) = h
piped_row None P needs l (inr h) = absurd cc
piped_row (Some x) P needs l (inl h) = chosen_one (same_text l x) refl
  where
    chosen_one : (c : Bool) → c ≡ same_text l x → (if c then g_is (P x) else needs l) ≡ g_is (P l)
    chosen_one true e = ap (λ z. g_is (P z)) (sym (equal_text l x e))
    chosen_one false e = h
piped_row (Some x) P needs l (inr h) =
    let same : x ≡ l = cc in
    chosen (same_text l x) (g_is (P x)) (needs l) (itself l x (sym same)) ∙ ap (λ z. g_is (P z)) same

absent_row : (pipe : Option Label) (P : Label → Ground) (needs : GroundRow) (l : Label) → needs l ≡ g_absent → (pipe ≡ Some l → ⊥)
    → with_input pipe (input_of pipe P) needs l ≡ g_absent
absent_row None P needs l h apart = h
absent_row (Some x) P needs l h apart = by_cases (same_text l x) (λ e. absurd (apart (ap Some (sym (equal_text l x (sym e)))))) (λ e. passed (same_text l x) (g_is (P x)) (needs l) e ∙ h)

field_is : (c : Bool) (t : Ground) → (field_if c t ≡ g_is t) ⊎ (field_if c t ≡ g_absent)
field_is true t = inl refl
field_is false t = inr refl

-- an argument, or a default in its place
abbrev pub IsServed : Default → Ground → Option Val → Type 0
IsServed d t (Some v) = fits v t
IsServed required t None = ⊥
IsServed by_pipe t None = ⊥
IsServed (by_value e) t None = Unit {0}

abbrev pub AreServed : Params → (Label → Ground) → Slots → Type 0
AreServed no_params P args = Unit {0}
AreServed (more_params x d ps) P args = IsServed d (P x) (look x args) × AreServed ps P args

must_serve : (d : Default) (t : Ground) (optional : GroundField) (o : Option Val) → Suits o (g_is t) optional → IsServed d t o
must_serve d t optional None h = absurd h
must_serve d t optional (Some v) h = h

may_serve : (e : Tree) (t : Ground) (needs : GroundField) (o : Option Val) → (needs ≡ g_is t) ⊎ (needs ≡ g_absent) → Suits o needs (g_is t) → IsServed (by_value e) t o
may_serve e t needs o (inl is) h = must_serve (by_value e) t (g_is t) o (subst (λ f. Suits o f (g_is t)) is h)
may_serve e t needs None (inr none) h = tt
may_serve e t needs (Some v) (inr none) h = subst (λ f. Suits (Some v) f (g_is t)) none h

module _ (ps : Params) (P : Label → Ground) (args : Slots) (few : length (piped ps) ≤ 1) (suit : (l : Label) → Suits (look l args) (all_needs ps P l) (optional_of ps P l)) where
  served_one : (x : Label) (d : Default) → IsParam x d ps → IsServed d (P x) (look x args)
  served_one x required h =
      must_serve required (P x) (optional_of ps P x) (look x args)
      (subst (λ f. Suits (look x args) f (optional_of ps P x)) (piped_row (first (piped ps)) P (needs_of ps P) x (inl (ap (λ c. field_if c (P x)) (required_in x ps h)))) (suit x))
  served_one x by_pipe h =
      must_serve by_pipe (P x) (optional_of ps P x) (look x args)
      (subst (λ f. Suits (look x args) f (optional_of ps P x)) (piped_row (first (piped ps)) P (needs_of ps P) x (inr (only_first x (piped ps) (piped_in x ps h) few))) (suit x))
  served_one x (by_value e) h =
      may_serve e (P x) (all_needs ps P x) (look x args) (required_or (field_is (is_required x ps) (P x)))
      (subst (Suits (look x args) (all_needs ps P x)) (ap (λ c. field_if c (P x)) (optional_in x e ps h)) (suit x))
    where
      by_pipe_or : (pipe : Option Label) → needs_of ps P x ≡ g_absent → (with_input pipe (input_of pipe P) (needs_of ps P) x ≡ g_is (P x)) ⊎ (with_input pipe (input_of pipe P) (needs_of ps P) x ≡ g_absent)
      by_pipe_or None none = inr none
      by_pipe_or (Some y) none =
          by_cases (same_text x y) (λ e. inl (piped_row (Some y) P (needs_of ps P) x (inr (ap Some (sym (equal_text x y (sym e)))))))
          (λ e. inr (passed (same_text x y) (g_is (P y)) (needs_of ps P x) e ∙ none))

      required_or : (needs_of ps P x ≡ g_is (P x)) ⊎ (needs_of ps P x ≡ g_absent) → (all_needs ps P x ≡ g_is (P x)) ⊎ (all_needs ps P x ≡ g_absent)
      required_or (inl is) = inl (piped_row (first (piped ps)) P (needs_of ps P) x (inl is))
      required_or (inr none) = by_pipe_or (first (piped ps)) none

  served_all : (qs : Params) → ((x : Label) (d : Default) → IsParam x d qs → IsParam x d ps) → AreServed qs P args
  served_all no_params inside = tt
  served_all (more_params x d qs) inside = (served_one x d (inside x d (inl (refl, refl))), served_all qs (λ y e h. inside y e (inr h)))

  pub served : AreServed ps P args
  served = served_all ps (λ x d h. h)

  unknown : (l : Label) (o : Option Val) → o ≡ look l args → is_there o ≡ true → is_param l ps ≡ false → ⊥
  unknown l None e there out = absurd (false≢true there)
  unknown l (Some v) e there out =
      let k = no_param l ps out in
      let absent : all_needs ps P l ≡ g_absent = absent_row (first (piped ps)) P (needs_of ps P) l (ap (λ c. field_if c (P l)) k.0) (not_first (piped ps) k.2) in
      subst (λ p. Suits p g_absent g_absent) (sym e)
      (subst (Suits (look l args) g_absent) (ap (λ c. field_if c (P l)) k.1) (subst (λ f. Suits (look l args) f (optional_of ps P l)) absent (suit l)))
    where
      not_first : (xs : List Label) → listed l xs ≡ false → first xs ≡ Some l → ⊥
      not_first [] h e = absurd cc
      not_first (y ∷ ys) h e =
          let same : y ≡ l = cc in
          let there : same_text l y ≡ true = itself l y (sym same) in
          true≢false (ap (λ c. if c then true else listed l ys) (sym there) ∙ h)

  known : passes (λ l. is_param l ps) args ≡ true
  known = all_pass (λ l. is_param l ps) args (λ l there. by_cases (is_param l ps) (λ e. e) (λ e. absurd (unknown l (look l args) refl there e)))

  argument_given : (x : Label) (d : Default) → IsServed d (P x) (look x args) → has_argument x d args ≡ true
  argument_given x (by_value e) h = refl
  argument_given x required h = given_there (look x args) h
    where
      given_there : (o : Option Val) → IsServed required (P x) o → is_there o ≡ true
      given_there None h = absurd h
      given_there (Some v) h = refl
  argument_given x by_pipe h = given_there (look x args) h
    where
      given_there : (o : Option Val) → IsServed by_pipe (P x) o → is_there o ≡ true
      given_there None h = absurd h
      given_there (Some v) h = refl

  all_served : (qs : Params) → AreServed qs P args → all_given qs args ≡ true
  all_served no_params h = refl
  all_served (more_params x d qs) h = and_from (has_argument x d args) (all_given qs args) (argument_given x d h.0) (all_served qs h.1)

  -- the call may have these arguments
  pub taken : takes ps args ≡ true
  taken = and_from (all_given ps args) (are_params args ps) (all_served ps served) (are_params_pass args ps known)

-- Calls of function literals: parameters with their defaults, assignments, and the result.
use Rattle.std.proofs.Common.{◌≡◌, refl, sym, ap, subst, ◌∙◌, Bool, true, false, ◌||◌, ◌∷◌, Some, None, IsTrue}
use Rattle.std.specs.Prelude.{if◌then◌else◌, cond, Option}
use Rattle.std.proofs.lemmas.Bool.{or_left, or_right}
use mathlib.Core.Bool.{false≢true}
use Rattle.fx_base.specs.Text.{same_text}
use Rattle.fx_value.specs.Ends.{End}
use Rattle.fx_ops.specs.Whole.{in_64_bits}
use Rattle.fx_types.specs.Term.{Label}
use Rattle.fx_types.specs.Ground.{Ground}
use Rattle.fx_ast.specs.Free.{Need, name_of, pattern_at, free, free_default, free_fun, free_lets, free_params, is_named, is_param, unless}
use Rattle.fx_ast.specs.Tree.{Tree, Props, no_props, more_props, Params, no_params, more_params, Default, required, by_pipe, by_value}
use Rattle.fx_meaning.specs.declared.setting.Setting.{Setting}
use Rattle.fx_meaning.specs.Ends.{◌>>=◌}
use Rattle.fx_meaning.specs.Meaning.{Calls, Tests, bound, entered, given, means, means_lets}
use Rattle.fx_meaning.specs.Value.{Val, Slots, look, or_else, push}
use Rattle.fx_infer.proofs.TypingLaws.{params_scope}
use Rattle.fx_infer.specs.Ask.{type_is}
use Rattle.fx_infer.specs.Environment.{Entry, param, assigned, imported, Env, HasType, label_of, params_env, scope}
use Rattle.fx_infer.specs.Parameters.{AreDeclared, with_params}
use Rattle.fx_infer.specs.Typing.{has, has_default, has_lets, has_params}
use Rattle.fx_build.specs.Bound.{Bound, typed, defined, packaged, find, Literal, literal, no_literal, literal_of}
use Rattle.fx_build.specs.Fit.{fits, holds, keeps, keeps_at, IsDefined, IsMet, IsUnbound}
use Rattle.fx_build.specs.Safe.{IsSafe}
use Rattle.fx_build.proofs.ParamLaws.{AreServed, IsServed}
use Rattle.fx_build.proofs.SafeLaws.{safe_every, safe_then}
use Rattle.fx_plan.proofs.SlotLaws.{look_push}
use Rattle.fx_build.proofs.SlotLaws.{AtSlot, keeps_in, keeps_out}
use Rattle.fx_build.proofs.Sound.{Made, closure_holds, literal_made}

-- ---- one name more

abbrev pub MetBy : Setting → Env → Slots → (Need → Bool) → Type 0
MetBy setting env slots needs = (n : Need) → needs n ≡ true → IsMet (keeps_at slots) setting env n

abbrev pub bound_of : Entry → Env → Bound
bound_of (param x t) env = typed t
bound_of (assigned x e) env = defined env e
bound_of (imported x path) env = packaged path

find_entry : (entry : Entry) (env : Env) (y : Label) → find y (entry ∷ env) ≡ (if same_text y (label_of entry) then bound_of entry env else find y env)
find_entry (param x t) env y = refl
find_entry (assigned x e) env y = refl
find_entry (imported x path) env y = refl

newest_at : (c : Bool) (v : Val) (d older : Bound) (o : Option Val) → keeps v d → (c ≡ false → AtSlot o older (IsUnbound older))
    → AtSlot (or_else (if c then Some v else None) o) (if c then d else older) (IsUnbound (if c then d else older))
newest_at true v d older o k rest = k
newest_at false v d older o k rest = rest refl

pub push_met : (setting : Setting) (env : Env) (slots : Slots) (entry : Entry) (v : Val) (needs : Need → Bool) → keeps v (bound_of entry env)
    → MetBy setting env slots (λ n. unless (is_named (label_of entry) n) (needs n)) → MetBy setting (entry ∷ env) (push slots (label_of entry) v) needs
push_met setting env slots entry v needs k met (pattern_at place) h = met (pattern_at place) h
push_met setting env slots entry v needs k met (name_of y) h =
    let x = label_of entry in
    let b = if same_text y x then bound_of entry env else find y env in
    subst (λ d. keeps_at (push slots x v) y d (IsUnbound d)) (sym (find_entry entry env y))
    (keeps_in (push slots x v) y b (IsUnbound b)
    (subst (λ o. AtSlot o b (IsUnbound b)) (sym (look_push slots x v y))
    (newest_at (same_text y x) v (bound_of entry env) (find y env) (look y slots) k
    (λ e. keeps_out slots y (find y env) (IsUnbound (find y env)) (met (name_of y) (ap (λ c. cond c false (needs (name_of y))) e ∙ h))))))

-- what is bound among more is bound
bound_apart : (a b c : Bool) → unless a (unless b c) ≡ true → unless (a || b) c ≡ true
bound_apart true b c h = absurd (false≢true h)
bound_apart false b c h = h

-- ---- calls, over expressions whose values fit

-- the parts of a literal have these types
abbrev pub HasParts : Params → Props → Tree → Env → (Label → Ground) → Ground → Type 0
HasParts ps lets e env P t = AreDeclared ps lets × has_params ps (scope env) P × has_lets lets (with_params ps P (scope env)) (λ T. has e T (type_is t))

module _ (test : Tests) (calls : Calls) (setting : Setting) (moment : IsTrue (in_64_bits setting.moment)) where
  abbrev pub TreesFit : Type 0
  TreesFit =
      (env : Env) (slots : Slots) (e : Tree) (t : Ground) → MetBy setting env slots (free e) → HasType env e t → IsSafe (λ v. fits v t) (means test calls setting e slots)

  module _ (trees : TreesFit) where
    -- a name for an expression

    defined_by : (env : Env) (slots : Slots) (e : Tree) (l : Literal) (end : End Val) (needs : Need → Bool) → Made test calls setting moment env slots l end needs → MetBy setting env slots needs
        → IsSafe (λ v. (t : Ground) → HasType env e t → fits v t) end → IsSafe (λ v. IsDefined (fits v) (holds v) v env e l) end
    defined_by env slots e (literal ps lets r) end needs made met fit =
        subst (IsSafe (λ v. IsDefined (fits v) (holds v) v env e (literal ps lets r))) (sym made.0)
        ((_, setting, refl), closure_holds test calls setting moment env slots ps lets r (λ n k. met n (made.1 n k)))
    defined_by env slots e no_literal end needs made met fit = fit

    pub defined_safe : (env : Env) (slots : Slots) (e : Tree) (t : Ground) → MetBy setting env slots (free e) → HasType env e t
        → IsSafe (λ v. keeps v (defined env e)) (means test calls setting e slots)
    defined_safe env slots e t met h =
        defined_by env slots e (literal_of e) (means test calls setting e slots) (free e) (literal_made test calls setting moment env slots e) met
        (safe_every (HasType env e) (λ u v. fits v u) (means test calls setting e slots) (λ u k. trees env slots e u met k) t h)

    -- parameters

    given_safe : (d : Default) (t : Ground) (o : Option Val) (base : Env) (captured : Slots) → IsServed d t o → has_default d (scope base) t → MetBy setting base captured (free_default d)
        → IsSafe (λ v. fits v t) (given test calls setting d captured o)
    given_safe required t None base captured served h met = absurd served
    given_safe required t (Some v) base captured served h met = served
    given_safe by_pipe t None base captured served h met = absurd served
    given_safe by_pipe t (Some v) base captured served h met = served
    given_safe (by_value e) t None base captured served h met = trees base captured e t met h
    given_safe (by_value e) t (Some v) base captured served h met = served

    bound_safe : (ps : Params) (P : Label → Ground) (base : Env) (captured args : Slots) (env : Env) (slots : Slots) (needs : Need → Bool) → AreServed ps P args → has_params ps (scope base) P
        → MetBy setting base captured (free_params ps) → MetBy setting env slots (λ n. unless (is_param ps n) (needs n))
        → IsSafe (λ out. MetBy setting (params_env ps P env) out needs) (bound test calls setting ps captured args slots)
    bound_safe no_params P base captured args env slots needs served h defaults met = met
    bound_safe (more_params x d ps) P base captured args env slots needs served h defaults met =
        safe_then (λ v. fits v (P x)) (λ out. MetBy setting (params_env ps P (param x (P x) ∷ env)) out needs) (given test calls setting d captured (look x args)) _
        (given_safe d (P x) (look x args) base captured served.0 h.1 (λ n k. defaults n (or_left (free_default d n) (free_params ps n) k)))
        (λ v fit. bound_safe ps P base captured args (param x (P x) ∷ env) (push slots x v) needs served.1 h.2
        (λ n k. defaults n (or_right (free_default d n) (free_params ps n) k))
        (push_met setting env slots (param x (P x)) v (λ n. unless (is_param ps n) (needs n)) fit (λ n k. met n (bound_apart (is_named x n) (is_param ps n) (needs n) k))))

    -- assignments

    abbrev IsReady : Tree → Ground → Slots → Type 0
    IsReady e t slots = (env : Env) × MetBy setting env slots (free e) × HasType env e t

    lets_safe : (lets : Props) (env : Env) (slots : Slots) (e : Tree) (t : Ground) → MetBy setting env slots (λ n. free_lets lets n (free e n))
        → has_lets lets (scope env) (λ T. has e T (type_is t)) → IsSafe (IsReady e t) (means_lets test calls setting lets slots)
    lets_safe no_props env slots e t met h = (env, met, h)
    lets_safe (more_props x a lets) env slots e t met h =
        safe_then (λ v. keeps v (defined env a)) (IsReady e t) (means test calls setting a slots) _
        (defined_safe env slots a h.0.0 (λ n k. met n (or_left (free a n) (unless (is_named x n) (free_lets lets n (free e n))) k)) h.0.1)
        (λ v k. lets_safe lets (assigned x a ∷ env) (push slots x v) e t
        (push_met setting env slots (assigned x a) v (λ n. free_lets lets n (free e n)) k (λ n m. met n (or_right (free a n) (unless (is_named x n) (free_lets lets n (free e n))) m)))
        h.1)

    -- a call of a literal whose captured values meet its environment
    pub entered_safe : (ps : Params) (lets : Props) (e : Tree) (captured args : Slots) (env : Env) (P : Label → Ground) (t : Ground) → HasParts ps lets e env P t
        → MetBy setting env captured (free_fun ps lets e) → AreServed ps P args → IsSafe (λ v. fits v t) (entered test calls setting ps lets e captured args)
    entered_safe ps lets e captured args env P t h met served =
        let inner = λ (n : Need). free_lets lets n (free e n) in
        safe_then (IsReady e t) (λ v. fits v t) (bound test calls setting ps captured args captured >>= means_lets test calls setting lets) _
        (safe_then (λ out. MetBy setting (params_env ps P env) out inner) (IsReady e t) (bound test calls setting ps captured args captured) _
        (bound_safe ps P env captured args env captured inner served h.1 (λ n k. met n (or_left (free_params ps n) (unless (is_param ps n) (inner n)) k))
        (λ n k. met n (or_right (free_params ps n) (unless (is_param ps n) (inner n)) k)))
        (λ out k. lets_safe lets (params_env ps P env) out e t k (subst (λ S. has_lets lets S (λ T. has e T (type_is t))) (params_scope ps P env) h.2)))
        (λ out k. trees k.0 out e t k.1 k.2)

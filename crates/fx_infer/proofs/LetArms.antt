-- Inference of the assignments of a block, one after another.
use Rattle.std.proofs.Common.{◌≡◌, ◌↔◌, refl, sym, ap, subst, ◌∙◌, ℕ, zero, suc, ◌+◌, ◌≤◌, ◌<◌, List, [], ◌∷◌, ◌++◌, map, take, length, get_or, arith}
use Rattle.std.proofs.lemmas.List.{map_more, take-map}
use Rattle.fx_ast.specs.Shape.{OfProp, tree_of, prop, props_of}
use Rattle.fx_ast.specs.Tree.{Tree}
use Rattle.fx_ast.specs.declared.expr.Expr.{Expr}
use Rattle.fx_ast.specs.declared.expr.Prop.{Prop}
use Rattle.fx_ast.proofs.ShapeLaws.{prop_is}
use Rattle.fx_types.specs.Ground.{Ground}
use Rattle.fx_types.specs.Instance.{Solution}
use Rattle.fx_types.proofs.Lists.{take_all}
use Rattle.fx_unify.specs.declared.bindings.Bindings.{Bindings}
use Rattle.fx_unify.specs.Solutions.{next_of}
use Rattle.fx_infer.specs.declared.scope.Name.{Name}
use Rattle.fx_infer.specs.Ask.{type_is, Scope}
use Rattle.fx_infer.specs.Environment.{Env, assigned, scope}
use Rattle.fx_infer.specs.Functions.{BlockIn}
use Rattle.fx_infer.specs.Infers.{Infers, Asks, HasNone}
use Rattle.fx_infer.specs.Names.{env_under, NamesBelow, TypeOf}
use Rattle.fx_infer.specs.Typing.{has, has_lets}
use Rattle.fx_infer.proofs.InfersLaws.{Reads, asked, both, none_second, seen_as}
use Rattle.fx_infer.proofs.ScopeLaws.{names_below}

-- the environment behind the assignments, each of which has a type

abbrev pub behind : List OfProp → Env → Env
behind [] env = env
behind (p ∷ ps) env = behind ps (assigned p.label p.value ∷ env)

abbrev pub AreLet : List OfProp → Env → Type 0
AreLet [] env = Unit {0}
AreLet (p ∷ ps) env = ((u : Ground) × has p.value (scope env) (type_is u)) × AreLet ps (assigned p.label p.value ∷ env)

lets_apart : (ps : List OfProp) (env : Env) (Result : Scope → Type 0) → has_lets (props_of ps) (scope env) Result ↔ (AreLet ps env × Result (scope (behind ps env)))
lets_apart [] env Result = (λ h. (tt, h), λ h. h.1)
lets_apart (p ∷ ps) env Result = (
  λ h. (let k : AreLet ps (assigned p.label p.value ∷ env) × Result (scope (behind ps (assigned p.label p.value ∷ env))) = (lets_apart ps (assigned p.label p.value ∷ env) Result).0 h.1 in ((h.0, k.0), k.1)),
  λ h. (h.0.0, (lets_apart ps (assigned p.label p.value ∷ env) Result).1 (h.0.1, h.1)),
)

let_more : (ps : List OfProp) (p : OfProp) (env : Env) → AreLet (ps ++ p ∷ []) env ↔ (AreLet ps env × ((u : Ground) × has p.value (scope (behind ps env)) (type_is u)))
let_more [] p env = (λ h. (tt, h.0), λ h. (h.1, tt))
let_more (d ∷ ps) p env = (
  λ h. (let k : AreLet ps (assigned d.label d.value ∷ env) × ((u : Ground) × has p.value (scope (behind ps (assigned d.label d.value ∷ env))) (type_is u)) = (let_more ps p (assigned d.label d.value ∷ env)).0 h.1 in ((h.0, k.0), k.1)),
  λ h. (h.0.0, (let_more ps p (assigned d.label d.value ∷ env)).1 (h.0.1, h.1)),
)

behind_more : (ps : List OfProp) (p : OfProp) (env : Env) → behind (ps ++ p ∷ []) env ≡ assigned p.label p.value ∷ behind ps env
behind_more [] p env = refl
behind_more (d ∷ ps) p env = behind_more ps p (assigned d.label d.value ∷ env)

let_part : (ps : List OfProp) (env : Env) (n : ℕ) → AreLet ps env → AreLet (take n ps) env
let_part ps env zero h = tt
let_part [] env (suc n) h = tt
let_part (d ∷ ps) env (suc n) h = (h.0, let_part ps (assigned d.label d.value ∷ env) n h.1)

-- assignments among names

abbrev pub LetsOf : List Name → List Prop → Solution → Type 0
LetsOf ns ps s = AreLet (map prop ps) (env_under s ns)

-- the names behind them
abbrev pub AreBehind : List Name → List Prop → List Name → Type 0
AreBehind ns ps ms = (s : Solution) → env_under s ms ≡ behind (map prop ps) (env_under s ns)

pub behind_below : (n m : ℕ) (ns ms : List Name) (ps : List Prop) → n ≤ m → NamesBelow n ns → AreBehind ns ps ms → NamesBelow m ms
behind_below n m ns ms ps le below is = names_below n m ms le (λ s q agree. is s ∙ ap (behind (map prop ps)) (below s q agree) ∙ sym (is q))

module _ (ns : List Name) (ps : List Prop) (old : Bindings) (names : NamesBelow (next_of old) ns) where
  pub lets_start : Asks (LetsOf ns (take 0 ps)) old old
  lets_start = asked (LetsOf ns (take 0 ps)) old old (let le : next_of old ≤ next_of old = omega arith in le) (λ s. (λ h. (h, tt), λ h. h.0))

  pub lets_all : (now : Bindings) (ms : List Name) (i : ℕ) → length ps ≤ i → Asks (LetsOf ns (take i ps)) old now → AreBehind ns (take i ps) ms → Asks (LetsOf ns ps) old now × AreBehind ns ps ms
  lets_all now ms i le h is = subst (λ qs. Asks (LetsOf ns qs) old now × AreBehind ns qs ms) (take_all ps i le) (h, is)

  module _ (now : Bindings) (ms : List Name) (i : ℕ) (p : Prop) (lt : i < length ps) (at : p ≡ get_or ps i p) (before : Asks (LetsOf ns (take i ps)) old now) (is : AreBehind ns (take i ps) ms) where
    last : map prop (take (i + 1) ps) ≡ map prop (take i ps) ++ record { label = p.label; value = tree_of p.value } ∷ []
    last = map_more prop ps i p lt ∙ ap (λ o. map prop (take i ps) ++ o ∷ []) (ap prop (sym at) ∙ prop_is p)

    -- the assignment has a type
    abbrev HasOne : Solution → Type 0
    HasOne s = (u : Ground) × TypeOf ms p.value s u

    next_let : (s : Solution) → LetsOf ns (take (i + 1) ps) s ↔ (LetsOf ns (take i ps) s × HasOne s)
    next_let s =
        subst (λ os. AreLet os (env_under s ns) ↔ (LetsOf ns (take i ps) s × HasOne s)) (sym last)
        (subst (λ env. AreLet (map prop (take i ps) ++ record { label = p.label; value = tree_of p.value } ∷ []) (env_under s ns) ↔ (LetsOf ns (take i ps) s × ((u : Ground) × has (tree_of p.value) (scope env) (type_is u)))) (sym (is s))
        (let_more (map prop (take i ps)) (record { label = p.label; value = tree_of p.value }) (env_under s ns)))

    one_reads : Reads {R = Ground} (next_of old) (TypeOf ms p.value)
    one_reads = λ s q agree u h. subst (λ env. has (tree_of p.value) (scope env) (type_is u)) (is s ∙ ap (behind (map prop (take i ps))) (names s q agree) ∙ sym (is q)) h

    pub lets_grow : (new : Bindings) (f : Solution → Ground) → Infers (TypeOf ms p.value) now new f → Asks (LetsOf ns (take (i + 1) ps)) old new
    lets_grow new f one =
        seen_as (λ s x. LetsOf ns (take i ps) s × TypeOf ms p.value s x.1) (λ s u. LetsOf ns (take (i + 1) ps) s) (λ s x. tt) old new (λ s. (tt, f s))
        (both (λ s u. LetsOf ns (take i ps) s) (λ r s u. TypeOf ms p.value s u) old now new (λ s. tt) f before one (λ r. one_reads))
        (λ s q agree x. refl) (λ s x h. (next_let s).1 (h.0, (x.1, h.1))) (λ s u h. (let k : LetsOf ns (take i ps) s × HasOne s = (next_let s).0 h in ((tt, k.1.0), (k.0, k.1.1), refl)))

    pub behind_grow : (ks : List Name) → ((s : Solution) → env_under s ks ≡ assigned p.label (tree_of p.value) ∷ env_under s ms) → AreBehind ns (take (i + 1) ps) ks
    behind_grow ks grown s =
        grown s ∙ ap (λ env. assigned p.label (tree_of p.value) ∷ env) (is s) ∙ sym (behind_more (map prop (take i ps)) (record { label = p.label; value = tree_of p.value }) (env_under s ns))
        ∙ ap (λ os. behind os (env_under s ns)) (sym last)

    pub no_let : (e : Tree) → HasNone (TypeOf ms p.value) now → HasNone (λ s t. BlockIn (props_of (map prop ps)) e (env_under s ns) t) old
    no_let e none = λ s h within t c.
        (let k : AreLet (map prop ps) (env_under s ns) × has e (scope (behind (map prop ps) (env_under s ns))) (type_is t) = (lets_apart (map prop ps) (env_under s ns) (λ T. has e T (type_is t))).0 c in
        let part : LetsOf ns (take (i + 1) ps) s = subst (λ os. AreLet os (env_under s ns)) (take-map prop (i + 1) ps) (let_part (map prop ps) (env_under s ns) (i + 1) k.0) in
        let d : LetsOf ns (take i ps) s × HasOne s = (next_let s).0 part in
        none_second (λ s u. LetsOf ns (take i ps) s) (λ r s u. TypeOf ms p.value s u) old now now (λ q. tt) (λ q. d.1.0) before none (λ r. one_reads) s h within (tt, d.1.0) (d.0, d.1.1))

  -- the result
  module _ (now : Bindings) (ms : List Name) (e : Expr) (before : Asks (LetsOf ns ps) old now) (is : AreBehind ns ps ms) where
    block_is : (s : Solution) (t : Ground) → BlockIn (props_of (map prop ps)) (tree_of e) (env_under s ns) t ↔ (LetsOf ns ps s × TypeOf ms e s t)
    block_is s t =
        subst (λ env. BlockIn (props_of (map prop ps)) (tree_of e) (env_under s ns) t ↔ (LetsOf ns ps s × has (tree_of e) (scope env) (type_is t))) (sym (is s)) (lets_apart (map prop ps) (env_under s ns) (λ T. has (tree_of e) T (type_is t)))

    result_reads : Reads {R = Ground} (next_of old) (TypeOf ms e)
    result_reads = λ s q agree u h. subst (λ env. has (tree_of e) (scope env) (type_is u)) (is s ∙ ap (behind (map prop ps)) (names s q agree) ∙ sym (is q)) h

    pub block_found : (new : Bindings) (f : Solution → Ground) → Infers (TypeOf ms e) now new f → Infers (λ s t. BlockIn (props_of (map prop ps)) (tree_of e) (env_under s ns) t) old new f
    block_found new f one =
        seen_as (λ s x. LetsOf ns ps s × TypeOf ms e s x.1) (λ s t. BlockIn (props_of (map prop ps)) (tree_of e) (env_under s ns) t) (λ s x. x.1) old new (λ s. (tt, f s))
        (both (λ s u. LetsOf ns ps s) (λ r s t. TypeOf ms e s t) old now new (λ s. tt) f before one (λ r. result_reads))
        (λ s q agree x. refl) (λ s x h. (block_is s x.1).1 h) (λ s t h. ((tt, t), (block_is s t).0 h, refl))

    pub no_result : HasNone (TypeOf ms e) now → HasNone (λ s t. BlockIn (props_of (map prop ps)) (tree_of e) (env_under s ns) t) old
    no_result none = λ s h within t c.
        none_second (λ s u. LetsOf ns ps s) (λ r s t. TypeOf ms e s t) old now now (λ q. tt) (λ q. t) before none (λ r. result_reads) s h within (tt, t) ((block_is s t).0 c)

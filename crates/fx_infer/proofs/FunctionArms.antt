-- Inference of function literals from that of their parameters and of their blocks.
use Rattle.std.proofs.Common.{◌≡◌, ◌↔◌, refl, sym, ap, subst, ◌∙◌, ℕ, ◌+◌, ◌≤◌, ◌<◌, Bool, true, false, List, [], ◌∷◌, ◌++◌, map, take, length, get_or, Option, None, Some, Result, Ok, Err, IfOk, arith}
use Rattle.std.proofs.lemmas.List.{map_more, take-map}
use Rattle.fx_ast.specs.Shape.{body, tree_of, param, params_of, prop, props_of, default_of}
use Rattle.fx_ast.specs.Tree.{Tree, Props, fun, required, by_pipe, by_value}
use Rattle.fx_ast.specs.declared.expr.Expr.{Expr}
use Rattle.fx_ast.specs.declared.expr.Body.{Body}
use Rattle.fx_ast.specs.declared.expr.Node.TheViews.{out-Body}
use Rattle.fx_ast.specs.declared.expr.Param.{Param}
use Rattle.fx_ast.specs.declared.expr.Prop.{Prop}
use Rattle.fx_ast.specs.declared.expr.ParamKind.{ParamKind}
use Rattle.fx_ast.proofs.ListLaws.{params_there}
use Rattle.fx_ast.proofs.ShapeLaws.{body_is, param_is}
use Rattle.fx_types.specs.Ground.{Ground, g_fun, g_absent}
use Rattle.fx_types.specs.Instance.{Solution, ground}
use Rattle.fx_types.specs.Size.{IsType}
use Rattle.fx_types.specs.Term.{Label, Term, type_variable}
use Rattle.fx_types.proofs.Lists.{take_all}
use Rattle.fx_schemes.specs.Builtins.{differ}
use Rattle.fx_unify.specs.declared.bindings.Bindings.{Bindings}
use Rattle.fx_unify.specs.Solutions.{next_of}
use Rattle.fx_types.specs.Shape.{term}
use Rattle.fx_infer.specs.declared.ask.Inferred.{Inferred}
use Rattle.fx_infer.specs.declared.functions.Block.{Block}
use Rattle.fx_infer.specs.declared.scope.Name.{Name}
use Rattle.fx_types.specs.Agree.{Agree}
use Rattle.fx_infer.specs.Ask.{type_is, Scope}
use Rattle.fx_infer.specs.Environment.{scope}
use Rattle.fx_infer.specs.Finds.{Finds}
use Rattle.fx_infer.specs.Functions.{Inside, are_declared, grown, Grows, start, inside, ParamOf, DefaultOf, BlockIn}
use Rattle.fx_infer.specs.Infers.{Infers, Asks, HasNone, IsBelow}
use Rattle.fx_infer.specs.Names.{env_under, NamesBelow, TypeOf, ShapeOf}
use Rattle.fx_infer.specs.Parameters.{AreDeclared}
use Rattle.fx_infer.specs.Typing.{has, has_lets, has_params, has_default}
use Rattle.fx_infer.proofs.DeclaredLaws.{declared, not_declared}
use Rattle.fx_infer.proofs.FunctionLaws.{after, names_in, params_grow, grows_params, grows_more, grows_part}
use Rattle.fx_infer.proofs.InfersLaws.{Reads, asked, both, none_second, seen_as}
use Rattle.fx_infer.proofs.LetArms.{LetsOf, AreBehind, block_found, lets_all, no_let, no_result}
use Rattle.fx_infer.proofs.MoreArms.{typed_asked}
use Rattle.fx_infer.proofs.TypingLaws.{params_scope}

-- one parameter more

module _ (ns : List Name) (p : Param) (k : Block) (old : Bindings) (names : NamesBelow (next_of old) ns) (below : (s q : Solution) → Agree (next_of old) s q → inside s k ≡ inside q k) where
  param_step : (s : Solution) (b : Inside) → ParamOf ns p k s b ↔ ((u : Ground) × (IsType u × DefaultOf ns p.default s u) × (grown p.label (default_of p.default) u (inside s k) ≡ b))
  param_step s b =
      subst (λ o. Grows (scope (env_under s ns)) (o ∷ []) (inside s k) b ↔ ((u : Ground) × (IsType u × DefaultOf ns p.default s u) × (grown p.label (default_of p.default) u (inside s k) ≡ b))) (sym (param_is p))
      (λ h. (h.0, (h.1, h.2), h.3), λ h. (h.0, h.1.0, h.1.1, h.2))

  pub param_found : (mid new : Bindings) (n : ℕ) (m : Block) → Infers (λ s t. IsType t) old mid (λ s. s.type_of n) → Asks (λ s. DefaultOf ns p.default s (s.type_of n)) mid new
      → ((s : Solution) → inside s m ≡ grown p.label (default_of p.default) (s.type_of n) (inside s k)) → Infers (ParamOf ns p k) old new (λ s. inside s m)
  param_found mid new n m one two is =
      subst (Infers (ParamOf ns p k) old new) (λ i s. sym (is s) i)
      (seen_as (λ s x. IsType x.0 × DefaultOf ns p.default s x.0) (ParamOf ns p k) (λ s x. grown p.label (default_of p.default) x.0 (inside s k)) old new (λ s. (s.type_of n, tt))
      (both (λ s t. IsType t) (λ t s u. DefaultOf ns p.default s t) old mid new (λ s. s.type_of n) (λ s. tt) one two (λ t s q agree u h. subst (λ env. has_default (default_of p.default) (scope env) t) (names s q agree) h))
      (λ s q agree x. ap (grown p.label (default_of p.default) x.0) (below s q agree))
      (λ s x h. (param_step s (grown p.label (default_of p.default) x.0 (inside s k))).1 (x.0, h, refl))
      (λ s b h. (let c : (u : Ground) × (IsType u × DefaultOf ns p.default s u) × (grown p.label (default_of p.default) u (inside s k) ≡ b) = (param_step s b).0 h in ((c.0, tt), c.1, c.2))))

  pub no_default : (mid : Bindings) (n : ℕ) → Infers (λ s t. IsType t) old mid (λ s. s.type_of n) → HasNone {R = Unit {0}} (λ s u. DefaultOf ns p.default s (s.type_of n)) mid → HasNone (ParamOf ns p k) old
  no_default mid n one none = λ s h within b c.
      (let d : (u : Ground) × (IsType u × DefaultOf ns p.default s u) × (grown p.label (default_of p.default) u (inside s k) ≡ b) = (param_step s b).0 c in
      none_second (λ s t. IsType t) (λ t s u. DefaultOf ns p.default s t) old mid mid (λ q. q.type_of n) (λ q. tt) one none (λ t s q agree u h. subst (λ env. has_default (default_of p.default) (scope env) t) (names s q agree) h) s h within (d.0, tt) d.1)

-- parameters, one after another

abbrev pub ParamsOf : List Name → List Param → Solution → Inside → Type 0
ParamsOf ns ps s b = Grows (scope (env_under s ns)) (map param ps) (start s ns) b

module _ (ns : List Name) (ps : List Param) (old : Bindings) (names : NamesBelow (next_of old) ns) where
  start_below : (s q : Solution) → Agree (next_of old) s q → start s ns ≡ start q ns
  start_below s q agree = λ i. (names s q agree i, (λ l. g_absent), g_absent)

  pub params_reads : (qs : List Param) → Reads (next_of old) (ParamsOf ns qs)
  params_reads qs = λ s q agree b h. subst (λ env. Grows (scope env) (map param qs) (env, (λ l. g_absent), g_absent) b) (names s q agree) h

  pub params_start : (k : Block) → ((s : Solution) → inside s k ≡ start s ns) → Infers (ParamsOf ns (take 0 ps)) old old (λ s. inside s k)
  params_start k is = record {
    more = (let le : next_of old ≤ next_of old = omega arith in le);
    below = λ s q agree. is s ∙ start_below s q agree ∙ sym (is q);
    keeps = λ s h. h;
    sound = λ s h. sym (is s);
    complete = λ s h within b c. (s, (λ i lt. (refl, refl, refl)), h, within, is s ∙ c);
  }

  module _ (now : Bindings) (k : Block) (i : ℕ) (p : Param) (lt : i < length ps) (at : p ≡ get_or ps i p) (before : Infers (ParamsOf ns (take i ps)) old now (λ s. inside s k)) where
    next_param : (s : Solution) (c : Inside) → ParamsOf ns (take (i + 1) ps) s c ↔ ((b : Inside) × ParamsOf ns (take i ps) s b × Grows (scope (env_under s ns)) (param p ∷ []) b c)
    next_param s c =
        let last : map param (take (i + 1) ps) ≡ map param (take i ps) ++ param p ∷ [] = map_more param ps i p lt ∙ ap (λ o. map param (take i ps) ++ param o ∷ []) (sym at) in
        subst (λ os. Grows (scope (env_under s ns)) os (start s ns) c ↔ ((b : Inside) × ParamsOf ns (take i ps) s b × Grows (scope (env_under s ns)) (param p ∷ []) b c)) (sym last)
        (grows_more (scope (env_under s ns)) (map param (take i ps)) (param p) (start s ns) c)

    step_reads : (b : Inside) → Reads (next_of old) (λ s c. Grows (scope (env_under s ns)) (param p ∷ []) b c)
    step_reads b = λ s q agree c h. subst (λ env. Grows (scope env) (param p ∷ []) b c) (names s q agree) h

    pub params_grow_on : (new : Bindings) (m : Block) → Infers (ParamOf ns p k) now new (λ s. inside s m) → Infers (ParamsOf ns (take (i + 1) ps)) old new (λ s. inside s m)
    params_grow_on new m one =
        seen_as (λ s x. ParamsOf ns (take i ps) s x.0 × Grows (scope (env_under s ns)) (param p ∷ []) x.0 x.1) (ParamsOf ns (take (i + 1) ps)) (λ s x. x.1) old new (λ s. (inside s k, inside s m))
        (both (ParamsOf ns (take i ps)) (λ b s c. Grows (scope (env_under s ns)) (param p ∷ []) b c) old now new (λ s. inside s k) (λ s. inside s m) before one step_reads)
        (λ s q agree x. refl) (λ s x h. (next_param s x.1).1 (x.0, h.0, h.1)) (λ s c h. (let d : (b : Inside) × ParamsOf ns (take i ps) s b × Grows (scope (env_under s ns)) (param p ∷ []) b c = (next_param s c).0 h in ((d.0, c), (d.1, d.2), refl)))

    pub no_param : HasNone (ParamOf ns p k) now → HasNone (ParamsOf ns ps) old
    no_param none = λ s h within c d.
        (let part : (b : Inside) × Grows (scope (env_under s ns)) (take (i + 1) (map param ps)) (start s ns) b = grows_part (scope (env_under s ns)) (map param ps) (start s ns) c (i + 1) d in
        let e : (b : Inside) × ParamsOf ns (take i ps) s b × Grows (scope (env_under s ns)) (param p ∷ []) b part.0 =
        (next_param s part.0).0 (subst (λ os. Grows (scope (env_under s ns)) os (start s ns) part.0) (take-map param (i + 1) ps) part.1) in
        none_second (ParamsOf ns (take i ps)) (λ b s x. Grows (scope (env_under s ns)) (param p ∷ []) b x) old now now (λ q. inside q k) (λ q. part.0) before none step_reads s h within (e.0, part.0) (e.1, e.2))

  pub params_all : (now : Bindings) (f : Solution → Inside) (i : ℕ) → length ps ≤ i → Infers (ParamsOf ns (take i ps)) old now f → Infers (ParamsOf ns ps) old now f
  params_all now f i le h = subst (λ qs. Infers (ParamsOf ns qs) old now f) (take_all ps i le) h

-- a function

pub function_is : (ns : List Name) (ps : List Param) (lets : Props) (e : Tree) → AreDeclared (params_of (map param ps)) lets → (s : Solution) (t : Ground)
    → ShapeOf ns (fun (params_of (map param ps)) lets e) s t ↔ ((b : Inside) × (u : Ground) × ParamsOf ns ps s b × BlockIn lets e b.0 u × (IsType t × (t ≡ g_fun b.1 b.2 u)))
function_is ns ps lets e declared s t = (there, back)
  where
    S : Scope
    S = scope (env_under s ns)

    once : differ (names_in (map param ps)) ≡ true
    once = sym (ap (λ qs. differ (names_in qs)) (params_there (map param ps))) ∙ declared.0

    there : ShapeOf ns (fun (params_of (map param ps)) lets e) s t → (b : Inside) × (u : Ground) × ParamsOf ns ps s b × BlockIn lets e b.0 u × (IsType t × (t ≡ g_fun b.1 b.2 u))
    there h =
        let b : Inside = after (params_of (map param ps)) h.1.0 (start s ns) in (
          b,
          h.1.1,
          params_grow S (map param ps) h.1.0 (start s ns) b h.1.3.1 refl,
          subst (λ T. has_lets lets T (λ T. has e T (type_is h.1.1))) (params_scope (params_of (map param ps)) h.1.0 (env_under s ns)) h.1.3.2,
          (h.0, sym h.1.2),
        )

    back : (b : Inside) × (u : Ground) × ParamsOf ns ps s b × BlockIn lets e b.0 u × (IsType t × (t ≡ g_fun b.1 b.2 u)) → ShapeOf ns (fun (params_of (map param ps)) lets e) s t
    back h =
        let g : (P : Label → Ground) × has_params (params_of (map param ps)) S P × (h.0 ≡ after (params_of (map param ps)) P (start s ns)) = grows_params S (map param ps) (start s ns) h.0 once h.2 in
        let block : BlockIn lets e (after (params_of (map param ps)) g.0 (start s ns)).0 h.1 = subst (λ b. BlockIn lets e b.0 h.1) g.2 h.3 in (
          h.4.0,
          (
            g.0,
            h.1,
            sym (h.4.1 ∙ ap (λ b. g_fun b.1 b.2 h.1) g.2),
            (declared, g.1, subst (λ T. has_lets lets T (λ T. has e T (type_is h.1))) (sym (params_scope (params_of (map param ps)) g.0 (env_under s ns))) block),
          ),
        )

module _ (ns : List Name) (ps : List Param) (lets : Props) (e : Tree) (old : Bindings) where
  abbrev Function : Solution → Ground → Type 0
  Function = ShapeOf ns (fun (params_of (map param ps)) lets e)

  pub undeclared : (AreDeclared (params_of (map param ps)) lets → ⊥) → HasNone Function old
  undeclared never = λ s h within t c. never c.1.3.0

  module _ (declared : AreDeclared (params_of (map param ps)) lets) where
    pub no_params : HasNone (ParamsOf ns ps) old → HasNone Function old
    no_params none = λ s h within t c.
        (let k : (b : Inside) × (u : Ground) × ParamsOf ns ps s b × BlockIn lets e b.0 u × (IsType t × (t ≡ g_fun b.1 b.2 u)) = (function_is ns ps lets e declared s t).0 c in
        none s h within k.0 k.2)

    module _ (one : Bindings) (k : Block) (first : Infers (ParamsOf ns ps) old one (λ s. inside s k)) where
      pub no_block : HasNone (λ s t. BlockIn lets e (env_under s k.names) t) one → HasNone Function old
      no_block none = λ s h within t c.
          (let d : (b : Inside) × (u : Ground) × ParamsOf ns ps s b × BlockIn lets e b.0 u × (IsType t × (t ≡ g_fun b.1 b.2 u)) = (function_is ns ps lets e declared s t).0 c in
          none_second (ParamsOf ns ps) (λ b s u. BlockIn lets e b.0 u) old one one (λ q. inside q k) (λ q. t) first none (λ b s q agree u h. h) s h within (d.0, d.1) (d.2, d.3))

      pub function_found : (two new : Bindings) (g f : Solution → Ground) → Infers (λ s t. BlockIn lets e (env_under s k.names) t) one two g
          → Infers (λ s t. IsType t × (t ≡ g_fun (inside s k).1 (inside s k).2 (g s))) two new f → Infers Function old new f
      function_found two new g f second third =
          seen_as (λ s x. (ParamsOf ns ps s x.0.0 × BlockIn lets e x.0.0.0 x.0.1) × (IsType x.1 × (x.1 ≡ g_fun x.0.0.1 x.0.0.2 x.0.1))) Function (λ s x. x.1) old new (λ s. ((inside s k, g s), f s))
          (both (λ s x. ParamsOf ns ps s x.0 × BlockIn lets e x.0.0 x.1) (λ x s t. IsType t × (t ≡ g_fun x.0.1 x.0.2 x.1)) old two new (λ s. (inside s k, g s)) f
          (both (ParamsOf ns ps) (λ b s u. BlockIn lets e b.0 u) old one two (λ s. inside s k) g first second (λ b s q agree u h. h)) third (λ x s q agree t h. h))
          (λ s q agree x. refl) (λ s x h. (function_is ns ps lets e declared s x.1).1 (x.0.0, x.0.1, h.0.0, h.0.1, h.1))
          (λ s t c.
          (let d : (b : Inside) × (u : Ground) × ParamsOf ns ps s b × BlockIn lets e b.0 u × (IsType t × (t ≡ g_fun b.1 b.2 u)) = (function_is ns ps lets e declared s t).0 c in
          (((d.0, d.1), t), ((d.2, d.3), d.4), refl)))

-- defaults

pub no_default_needed : (ns : List Name) (d : ParamKind) (n : ℕ) (old : Bindings) → ((s : Solution) → DefaultOf ns d s (s.type_of n)) → Asks (λ s. DefaultOf ns d s (s.type_of n)) old old
no_default_needed ns d n old has = asked (λ s. DefaultOf ns d s (s.type_of n)) old old (let le : next_of old ≤ next_of old = omega arith in le) (λ s. (λ h. (h, has s), λ h. h.0))

pub required_default : (ns : List Name) (d : ParamKind) (n : ℕ) → default_of d ≡ required → (s : Solution) → DefaultOf ns d s (s.type_of n)
required_default ns d n is s = subst (λ x. has_default x (scope (env_under s ns)) (s.type_of n)) (sym is) tt

pub piped_default : (ns : List Name) (d : ParamKind) (n : ℕ) → default_of d ≡ by_pipe → (s : Solution) → DefaultOf ns d s (s.type_of n)
piped_default ns d n is s = subst (λ x. has_default x (scope (env_under s ns)) (s.type_of n)) (sym is) tt

module _ (ns : List Name) (d : ParamKind) (e : Expr) (n : ℕ) (is : default_of d ≡ by_value (tree_of e)) (old : Bindings) where
  default_is : (s : Solution) (t : Ground) → TypeOf ns e s t ≡ DefaultOf ns d s t
  default_is s t = λ i. has_default (sym is i) (scope (env_under s ns)) t

  pub default_found : (mid new : Bindings) (f : Solution → Ground) (w : Term) → ((s : Solution) → ground s w ≡ s.type_of n) → IsBelow (next_of old) (type_variable n)
      → Infers (TypeOf ns e) old mid f → Asks (λ s. f s ≡ ground s w) mid new → Asks (λ s. DefaultOf ns d s (s.type_of n)) old new
  default_found mid new f w stands below one two =
      subst (λ C. Asks C old new) (λ i s. default_is s (s.type_of n) i)
      (typed_asked (TypeOf ns e) old mid new f (type_variable n) below one (subst (λ C. Asks C mid new) (λ i s. f s ≡ stands s i) two))

  pub no_default_value : HasNone (TypeOf ns e) old → HasNone {R = Unit {0}} (λ s u. DefaultOf ns d s (s.type_of n)) old
  no_default_value none = λ s h within u c. none s h within (s.type_of n) (subst (λ P. P) (sym (default_is s (s.type_of n))) c)

-- blocks as code holds them

pub block_lets : (b : Body) (ls : List Prop) → ls ≡ (out-Body b).lets → (body b).lets ≡ props_of (map prop ls)
block_lets b ls is = ap (λ o. o.lets) (body_is b) ∙ ap (λ xs. props_of (map prop xs)) (sym is)

pub block_result : (b : Body) (e : Expr) → e ≡ (out-Body b).result → (body b).result ≡ tree_of e
block_result b e is = ap (λ o. o.result) (body_is b) ∙ ap tree_of (sym is)

module _ (ps : List Param) (b : Body) (ls : List Prop) (is : ls ≡ (out-Body b).lets) (r : Bool) (told : r ≡ are_declared ps ls) where
  pub block_declared : r ≡ true → AreDeclared (params_of (map param ps)) (body b).lets
  block_declared e = subst (AreDeclared (params_of (map param ps))) (sym (block_lets b ls is)) (declared ps ls r told e)

  pub block_undeclared : r ≡ false → AreDeclared (params_of (map param ps)) (body b).lets → ⊥
  block_undeclared e d = not_declared ps ls r told e (subst (AreDeclared (params_of (map param ps))) (block_lets b ls is) d)

-- the block of a function, as inference goes through it

module _ (b : Body) (ls : List Prop) (e : Expr) (lets_is : ls ≡ (out-Body b).lets) (result_is : e ≡ (out-Body b).result) (ns : List Name) (old : Bindings) (names : NamesBelow (next_of old) ns) where
  abbrev In : Solution → Ground → Type 0
  In s t = BlockIn (body b).lets (body b).result (env_under s ns) t

  as_listed : ◌≡◌ {A = Solution → Ground → Type 0} (λ s t. BlockIn (props_of (map prop ls)) (tree_of e) (env_under s ns) t) In
  as_listed = λ i s t. BlockIn (sym (block_lets b ls lets_is) i) (sym (block_result b e result_is) i) (env_under s ns) t

  pub block_stops : (now : Bindings) (ms : List Name) (i : ℕ) (p : Prop) → i < length ls → p ≡ get_or ls i p → Asks (LetsOf ns (take i ls)) old now × AreBehind ns (take i ls) ms → HasNone (TypeOf ms p.value) now → HasNone In old
  block_stops now ms i p lt at before none = subst (λ T. HasNone T old) as_listed (no_let ns ls old names now ms i p lt at before.0 before.1 (tree_of e) none)

  pub block_ends : {E : Type 0} (now : Bindings) (ms : List Name) (i : ℕ) → length ls ≤ i → Asks (LetsOf ns (take i ls)) old now × AreBehind ns (take i ls) ms
      → (r : Result (Option Inferred) E) → IfOk r (Finds (TypeOf ms e) now) → IfOk r (Finds In old)
  block_ends now ms i le before (Err fault) h = tt
  block_ends now ms i le before (Ok None) h =
      let all : Asks (LetsOf ns ls) old now × AreBehind ns ls ms = lets_all ns ls old names now ms i le before.0 before.1 in
      subst (λ T. HasNone T old) as_listed (no_result ns ls old names now ms e all.0 all.1 h)
  block_ends now ms i le before (Ok (Some x)) h =
      let all : Asks (LetsOf ns ls) old now × AreBehind ns ls ms = lets_all ns ls old names now ms i le before.0 before.1 in
      subst (λ T. Infers T old x.bindings (λ s. ground s (term x.ty))) as_listed (block_found ns ls old names now ms e all.0 all.1 x.bindings (λ s. ground s (term x.ty)) h)
